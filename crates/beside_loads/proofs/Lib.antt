mod Traces
pub mod Visited
