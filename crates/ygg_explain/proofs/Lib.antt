pub mod Adding
pub mod Lining
pub mod Telling
pub mod Seeing
pub mod Choosing
pub mod Explained
