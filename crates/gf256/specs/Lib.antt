pub mod Gf256
pub mod Laws
pub mod Times
pub mod Linear
