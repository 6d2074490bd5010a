mod Archived
mod Leaving
mod Printed
mod Runs
