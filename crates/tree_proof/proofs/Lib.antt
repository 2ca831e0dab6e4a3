pub mod InputLemmas
pub mod RebuildLemmas
mod WalkLemmas
pub mod Complete
mod CoverCount
mod Clashes
mod Soundness
mod OneRoot
pub mod CoverSteps
mod LeftLemmas
mod PinnedLemmas
pub mod Rises
mod PinsComplete
mod PinsSound
