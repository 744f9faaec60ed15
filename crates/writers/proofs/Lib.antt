pub mod Marks
pub mod Sends
