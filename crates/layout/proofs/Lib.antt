pub mod Same
pub mod Turns
