pub mod Between
pub mod Goal
pub mod Mirror
pub mod Refusal
pub mod PlannedMirror
pub mod Settled
pub mod Unplanned
