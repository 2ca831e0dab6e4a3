pub mod AppendLemmas
pub mod FrontierLemmas
