pub mod Masks
pub mod Search
pub mod Shift
