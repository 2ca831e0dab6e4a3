pub mod Lasting
pub mod Standing
pub mod Faults
pub mod Twins
pub mod Words
pub mod Outcome
pub mod Report
pub mod Generated
