pub mod MemoryMap
pub mod Regions
pub mod RegionsWord
