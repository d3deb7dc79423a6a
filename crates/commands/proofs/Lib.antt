mod Bounds
mod CallAnswers
pub mod Cuts
pub mod Asking
mod ListCut
