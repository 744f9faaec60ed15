pub mod Cuts
pub mod Decimals
pub mod ReadBack
pub mod OnlyWritten
pub mod Law
