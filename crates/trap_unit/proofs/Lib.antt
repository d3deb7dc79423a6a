pub mod Aligned
pub mod Held
