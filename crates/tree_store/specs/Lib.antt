pub mod Errors
pub mod Stores
pub mod Stored
