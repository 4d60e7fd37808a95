pub mod Tokens
pub mod Rule
pub mod Shares
pub mod Tallies
pub mod Slots
