mod Filtering
mod Finding
mod Paging
mod Showing
mod Spreading
