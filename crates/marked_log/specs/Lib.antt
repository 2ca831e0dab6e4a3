pub mod MarkedLog
