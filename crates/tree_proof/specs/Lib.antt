pub mod Cover
pub mod Check
pub mod SlowProof
pub mod Inputs
pub mod Pinned
