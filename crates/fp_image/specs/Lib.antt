pub mod Checks
pub mod Rules
pub mod Format
pub use Rattle.region_guard.specs.MemoryMap
pub use Rattle.region_guard.specs.Regions
