pub mod StoreLemmas
pub mod ErrorLemmas
pub mod StoredLemmas
