pub mod PlaceLemmas
pub mod TableLemmas
pub mod HeldLemmas
pub mod CountLemmas
pub mod ArenaLemmas
