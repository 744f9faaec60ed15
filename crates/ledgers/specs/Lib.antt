pub mod Limits
pub mod Ids
pub mod Tables
pub mod Bodies
pub mod BookieLists
