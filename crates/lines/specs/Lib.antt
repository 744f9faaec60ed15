pub mod Numbers
pub mod Steps
pub mod Reading
pub mod Writing
