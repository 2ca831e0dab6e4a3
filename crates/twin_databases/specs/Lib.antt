pub mod OpeningErrors
pub mod CompactKind
pub mod FullKind
pub mod Reopening
pub mod Standing
