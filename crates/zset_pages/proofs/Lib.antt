mod Pages
mod Parts
mod Walks
