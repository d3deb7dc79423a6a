pub mod Opened
pub mod Digits
pub mod Lists
pub mod RowPut
pub mod TopTable
pub mod PlainThreads
pub mod PlaceLaws
pub mod InputByInput
pub mod TwoChecks
pub mod ThreadTable
pub mod LoopTable
mod ValuesKept
mod RowsKept
mod Accepted
