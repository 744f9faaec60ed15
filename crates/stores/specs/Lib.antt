pub mod Meaning
pub mod Versions
pub mod Tables
pub mod Questions
