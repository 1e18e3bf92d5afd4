pub mod Claims
pub mod Refusals
pub mod Findings
pub mod Replies
pub mod Layouts
pub mod Owned
