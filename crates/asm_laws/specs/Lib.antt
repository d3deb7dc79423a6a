pub mod Listing
pub mod Segments
pub mod Laws
