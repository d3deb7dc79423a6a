pub mod Lengths
pub mod Words
pub mod Tables
pub mod InPlace
