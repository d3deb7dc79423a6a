mod Rows
pub mod Picks
pub mod Turns
pub mod Pace
pub mod Settings
mod Positions
