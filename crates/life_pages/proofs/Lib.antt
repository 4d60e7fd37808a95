mod Walks
mod Bulks
