pub mod BestLaws
pub mod Counters
pub mod Split
pub mod Embed
pub mod Heads
pub mod Passes
pub mod Limits
pub mod Outermost
pub mod Depth
pub mod Sections
pub mod Accepted
pub mod Entries
pub mod StepLaws
pub mod AdvanceLaws
pub mod PassLaws
pub mod TopLaws
mod PowerLaws
mod TurnLaws
mod FillLaws
pub mod MostLaws
mod RoundLaws
mod ThroughLaws
