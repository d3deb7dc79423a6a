pub mod Words
pub mod Alu
pub mod Access
pub mod TrapCauses
pub mod Result
pub mod Line
