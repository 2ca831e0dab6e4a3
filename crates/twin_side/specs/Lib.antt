pub mod Proving
pub mod ReadRefusals
pub mod Unread
