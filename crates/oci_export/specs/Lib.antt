pub mod Archive
pub mod Sinks
pub mod ReadBack
pub mod Export
pub mod Refusal
