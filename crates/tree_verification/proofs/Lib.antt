pub mod CoverLemmas
pub mod NeededLemmas
pub mod NodeLemmas
mod WalkLemmas
mod SeveralLemmas
pub mod KeyLemmas
mod ToldPlaced
mod FoundLemmas
mod ToldLemmas
mod FitLemmas
mod TreeLemmas
