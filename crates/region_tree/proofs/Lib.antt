pub mod EdgeLaws
pub mod GraphLaws
pub mod ReachLaws
pub mod LowestLaws
pub mod DraftLaws
