pub mod Lexing
pub mod Words
pub mod Statements
pub mod Back
