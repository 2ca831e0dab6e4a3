pub mod Failing
pub mod Writing
pub mod Streams
