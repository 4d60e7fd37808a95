pub mod WordsRead
mod ReplyPieces
pub mod Searching
pub mod Cutting
