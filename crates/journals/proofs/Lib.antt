pub mod Words
pub mod Bits
pub mod Rows
pub mod Parts
pub mod Images
pub mod Laid
pub mod Writes
pub mod Owned
