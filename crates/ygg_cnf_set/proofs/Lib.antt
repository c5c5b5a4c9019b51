pub mod ListLemmas
pub mod LiteralSetLemmas
