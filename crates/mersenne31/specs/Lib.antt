pub mod Mersenne31
pub mod Laws
pub mod ModLemmas
pub mod Inverse
pub mod Trial
