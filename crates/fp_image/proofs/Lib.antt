mod Checked
mod Header
pub mod Rising
pub mod Steps
pub mod ReadBack
