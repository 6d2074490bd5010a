pub mod Live
pub mod Answers
pub mod Numbers
pub mod History
pub mod Rule
pub mod Kept
