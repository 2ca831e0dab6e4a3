pub mod Lines
pub mod Said
pub mod Pending
pub mod Text
