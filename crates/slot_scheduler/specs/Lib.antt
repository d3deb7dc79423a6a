pub mod ModeWord
pub mod Picking
pub use Rattle.slot_table.specs.Table
