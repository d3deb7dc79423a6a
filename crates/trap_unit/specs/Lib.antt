pub mod Rows
pub mod Access
pub use Rattle.core_model.specs.Csr
pub use Rattle.core_model.specs.declared.own.Trapping
