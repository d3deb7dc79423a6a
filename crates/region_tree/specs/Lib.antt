pub mod Edges
pub mod Graph
pub mod Walk
pub mod Nesting
pub mod Refusals
pub mod Tree
pub mod Search
pub use Rattle.fp_image.specs.Rules
