pub mod DbView
pub mod Batches
pub mod Errors
pub mod Durable
pub mod Reading
pub mod Serving
pub mod Opening
