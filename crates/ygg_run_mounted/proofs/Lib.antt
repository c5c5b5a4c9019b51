pub mod Carried
pub mod Seen
pub mod Texts
pub mod Kept
pub mod Mounted
pub mod Whole
pub mod Ran
pub mod Ends
