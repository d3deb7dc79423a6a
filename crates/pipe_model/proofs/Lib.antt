mod Moved
mod Late
mod Front
mod Young
mod Ports
pub mod Keeping
mod Showing
mod Fetching
mod Told
mod Holding
mod Starting
pub mod Events
