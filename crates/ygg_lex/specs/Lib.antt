pub mod Rules
pub mod Scanning
