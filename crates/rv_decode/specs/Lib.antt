pub mod Fields
pub mod Table
pub mod Range
pub mod CsrNumbers
pub mod Lag
pub mod Encoding
