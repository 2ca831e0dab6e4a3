pub mod Witness
pub mod Witnesses
pub mod Searched
pub mod Selected
pub mod StoreView
