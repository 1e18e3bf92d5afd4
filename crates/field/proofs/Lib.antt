pub mod Numbers
pub mod Sweep
pub mod Spans
pub mod Unique
pub mod Ring
pub mod Solve
