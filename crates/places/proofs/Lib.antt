pub mod Records
pub mod ShortLists
