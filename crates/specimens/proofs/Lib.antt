pub mod Division
pub mod Challenges
