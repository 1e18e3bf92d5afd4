pub mod Admission
pub mod Faults
pub mod Store
pub mod Standing
pub mod Tables
