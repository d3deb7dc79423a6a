pub mod Accepted
pub mod Magic
pub mod Turns
mod Shift
pub mod First
pub mod Masks
