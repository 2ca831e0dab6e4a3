pub mod Bounds
pub mod Errors
pub mod Log
pub mod Moments
pub mod Names
pub mod Pairs
pub mod Volume
