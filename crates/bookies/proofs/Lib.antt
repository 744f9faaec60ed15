pub mod Searching
pub mod Adds
pub mod SameBody
