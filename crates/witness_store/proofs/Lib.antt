pub mod SearchLemmas
pub mod PlaceLemmas
pub mod SelectLemmas
pub mod KeepLemmas
pub mod KeptLemmas
pub mod StoreLemmas
pub mod PruneLemmas
