mod Instructions
mod Cycles
pub mod Linking
pub mod Scheduled
mod Links
mod Visited
mod Rows
mod Returns
mod CallVisited
mod CallBounded
pub mod Starts
pub mod CallStarts
