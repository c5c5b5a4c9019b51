pub mod LiteralSet
pub mod Codes
