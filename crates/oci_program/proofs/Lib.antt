mod Opening
mod Indexing
