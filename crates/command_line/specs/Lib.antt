pub mod Forms
pub mod Numbers
pub mod Commands
pub mod Code
pub mod Rules
pub mod Causes
pub mod Limits
pub use Rattle.clap.specs.Words
