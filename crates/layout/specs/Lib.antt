pub mod Sizes
pub mod WriteSets
pub mod Positions
pub mod Layouts
pub mod Rising
