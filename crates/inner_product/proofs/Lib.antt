pub mod Sameness
