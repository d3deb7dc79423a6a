pub mod TextTokens
pub mod Names
pub mod Text
pub mod RoundTrip
