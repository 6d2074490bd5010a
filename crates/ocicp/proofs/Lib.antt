mod Statuses
mod Done
