pub mod Formed
pub mod Steps
pub mod Fronts
pub mod Laws
