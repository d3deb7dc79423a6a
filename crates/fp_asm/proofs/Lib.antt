pub mod Opened
pub mod Rows
mod Worked
pub mod Between
pub mod LineByLine
pub mod CommaByComma
pub mod Filling
pub mod Checks
pub mod Offsets
pub mod LabelByLabel
pub mod WordByWord
pub mod TargetByTarget
pub mod NoStatement
pub mod PassByPass
pub mod RunByRun
pub mod Segments
pub mod Soundness
