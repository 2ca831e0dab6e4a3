pub mod ItemLemmas
pub mod MatchLemmas
pub mod ReadsLemmas
pub mod StepLemmas
