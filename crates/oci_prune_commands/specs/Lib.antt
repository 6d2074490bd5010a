pub mod Named
pub mod Refusal
pub mod Untagged
pub mod PruneText
pub mod PrunedLayout
