pub mod Faults
pub mod Ledger
pub mod States
pub mod Law
pub mod Transcripts
