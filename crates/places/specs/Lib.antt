pub mod Lists
pub mod Padding
pub mod ShortLists
pub mod Memory
pub mod LentLists
pub mod LentLogs
