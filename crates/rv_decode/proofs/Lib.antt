pub mod ByOpcode
pub mod Ranges
pub mod RoundTrip
