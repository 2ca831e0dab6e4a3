pub mod FullReads
pub mod BatchReads
pub mod KeptReads
pub mod ReadAnswers
pub mod ProvingLemmas
pub mod CompactProving
pub mod SideImages
pub mod LostSeals
