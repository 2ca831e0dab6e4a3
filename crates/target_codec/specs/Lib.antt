pub mod Target
pub mod Request
pub mod Response
