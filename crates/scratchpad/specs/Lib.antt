pub mod Words
pub use Rattle.region_guard.specs.Regions
pub use Rattle.rv_exec.specs.Access
