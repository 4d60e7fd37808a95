mod Clones
mod Merges
mod Parts
mod Places
mod Seeking
mod Sorts
mod Spread
mod Sums
