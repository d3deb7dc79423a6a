pub mod Opened
mod Mapped
mod PortLemmas
mod FieldLines
pub mod FeedLemmas
pub mod Putting
pub mod DumpLemmas
pub mod RunLemmas
pub mod LoadLemmas
pub mod FedLemmas
pub mod WordLemmas
pub mod Retiring
pub mod SleepLemmas
pub mod ObservingLemmas
pub mod AdvanceLemmas
pub mod LineObserving
mod LineLemmas
pub mod OnResults
