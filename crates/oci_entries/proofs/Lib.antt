pub mod BroughtEntries
mod PatternRows
