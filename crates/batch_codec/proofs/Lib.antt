mod Building
mod Reading
