pub mod Meaning
pub mod Beginnings
pub mod Calls
pub mod Fronts
pub mod Puts
