mod Steps
mod Options
mod Telling
mod Line
mod Matches
