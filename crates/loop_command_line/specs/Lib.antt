pub mod Lines
pub mod Plants
pub mod ListCauses
pub mod Arguments
pub use Rattle.command_line.specs.Causes
pub use Rattle.command_line.specs.Forms
pub use Rattle.command_line.specs.Numbers
