pub mod Refusals
pub mod Cells
pub mod Lengths
pub mod Twist
pub mod Steps
