pub mod Dense
pub mod Stands
