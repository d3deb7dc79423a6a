pub mod Results
pub mod Entries
pub mod Sizes
pub mod Labels
pub mod Words
pub mod Passes
pub mod Runs
pub mod Law
