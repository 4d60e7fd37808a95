pub mod CommandLine
pub mod Parsed
