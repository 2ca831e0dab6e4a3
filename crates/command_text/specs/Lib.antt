pub mod Names
pub mod Grammar
pub mod Bad
pub mod Text
