pub mod Causes
pub mod Content
pub mod Listed
pub mod Memory
pub mod Real
pub mod Gathered
