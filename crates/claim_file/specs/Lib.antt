pub mod Lexical
pub mod Numbers
pub mod State
pub mod Faults
pub mod Grammar
pub mod Answer
pub mod Written
