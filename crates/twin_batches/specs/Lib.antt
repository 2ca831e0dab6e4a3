pub mod Kind
pub mod About
pub mod StateOf
pub mod Leaving
pub mod Durability
pub mod Standing
