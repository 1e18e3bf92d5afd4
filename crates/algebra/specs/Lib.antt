pub mod Sums
pub mod Polynomials
pub mod Relation
pub mod Roots
pub mod Proofs
pub mod Challenges
pub mod Theorems
