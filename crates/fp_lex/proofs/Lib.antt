pub mod Runs
pub mod Along
pub mod Found
pub mod Laws
