pub mod Lags
pub mod Heat
pub mod Rest
