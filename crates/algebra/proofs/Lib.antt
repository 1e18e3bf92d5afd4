pub mod Sums
pub mod Polynomials
pub mod Relation
pub mod Values
pub mod Roots
pub mod Gap
pub mod Theorems
