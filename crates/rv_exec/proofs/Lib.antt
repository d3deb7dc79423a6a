pub mod Bitwise
pub mod ByteLanes
pub mod Quotients
pub mod Remainder
pub mod Signs
