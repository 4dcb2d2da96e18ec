pub mod Each
pub mod Forms
pub mod Keeping
pub mod Rules
pub mod Levels
pub mod Places
pub mod Resolution
pub mod Queries
