pub mod Refusals
pub mod Printing
pub mod Printed
pub mod Playing
pub mod Inputs
