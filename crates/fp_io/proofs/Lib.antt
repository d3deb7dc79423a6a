pub mod Prefixes
pub mod ListedCalls
pub mod NamedBytes
pub mod Pieces
