pub mod CommandLines
pub mod NumberWords
pub mod ReplyLines
mod EachText
