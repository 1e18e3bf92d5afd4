pub mod Places
pub mod Tests
