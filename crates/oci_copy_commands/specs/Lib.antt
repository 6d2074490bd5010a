pub mod Printed
pub mod Run
pub mod Archived
pub mod Behind
