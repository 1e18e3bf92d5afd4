pub mod Errors
pub mod Parts
pub mod OwnedClaims
pub mod Replies
