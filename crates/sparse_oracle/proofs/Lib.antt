pub mod Walk
pub mod Writes
