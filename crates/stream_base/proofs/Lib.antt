pub mod Known
pub mod FailingLaws
