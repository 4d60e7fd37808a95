mod Members
mod Planned
