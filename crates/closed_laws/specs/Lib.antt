pub mod ClosedTraces
pub mod ClosedVisits
pub use Rattle.closed_loops.specs.Answered
pub use Rattle.closed_loops.specs.Loop
pub use Rattle.closed_loops.specs.Sampled
pub use Rattle.isolation.specs.TraceLaws
