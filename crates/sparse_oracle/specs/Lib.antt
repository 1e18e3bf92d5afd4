pub mod Sparse
pub mod Terms
pub mod Stands
pub mod Spelling
pub mod Spreads
