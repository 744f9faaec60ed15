pub mod Numbers
pub mod Fences
pub mod Records
pub mod Files
pub mod Headers
pub mod Journal
pub mod SetUp
