pub mod Admitted
pub mod Asked
pub mod Chains
pub mod StoreLemmas
