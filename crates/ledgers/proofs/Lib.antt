pub mod Same
pub mod Rows
