pub mod Faults
pub mod Settling
