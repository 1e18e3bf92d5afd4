pub mod Coefficients
pub mod Fills
pub mod Stretches
