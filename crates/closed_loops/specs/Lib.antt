pub mod Loop
pub mod Answered
pub mod LoopLaws
pub mod Sampled
pub use Rattle.isolation.specs.Isolation
