pub mod OperationLemmas
pub mod ReachLemmas
pub mod GoodLemmas
mod HashedLemmas
pub mod SizeLemmas
pub mod FloorLemmas
pub mod LogLemmas
pub mod StepLemmas
pub mod OpeningLemmas
pub mod RealignLemmas
pub mod StoredLemmas
