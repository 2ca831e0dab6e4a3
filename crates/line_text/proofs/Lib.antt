pub mod LineLemmas
pub mod NumberLemmas
pub mod HexWords
pub mod DecimalDigits
pub mod HexText
