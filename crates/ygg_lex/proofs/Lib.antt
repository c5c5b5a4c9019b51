pub mod Agree
pub mod Follows
pub mod Lexemes
pub mod Numbers
pub mod Runs
pub mod Steps
pub mod Symbols
pub mod Longer
