pub mod Opened
pub mod Zero
pub mod WordSources
pub mod Targets
pub mod Left
pub mod Answered
pub mod Shown
pub mod Frequent
