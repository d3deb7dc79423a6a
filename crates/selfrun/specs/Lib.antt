pub mod Drawn
pub mod Text
pub mod Folds
pub mod Counting
pub mod Counted
pub use Rattle.fp_io.specs.Causes
pub use Rattle.fp_io.specs.Content
pub use Rattle.rv_decode.specs.Range
pub use Rattle.rv_exec.specs.Line
pub use Rattle.trace_print.specs.Digits
pub use Rattle.trace_print.specs.Text as TracePrintText
