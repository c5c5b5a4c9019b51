pub mod Widths
pub mod Right
