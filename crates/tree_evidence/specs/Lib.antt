pub mod Evidence
pub mod Searches
pub mod Whole
