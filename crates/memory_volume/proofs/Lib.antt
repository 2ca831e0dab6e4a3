pub mod CallLemmas
pub mod ChoiceLemmas
pub mod CrashLemmas
pub mod KeptLemmas
pub mod ReadLemmas
pub mod StateLemmas
pub mod TableLemmas
pub mod VersionLemmas
