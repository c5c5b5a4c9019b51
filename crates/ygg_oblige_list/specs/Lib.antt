pub use Rattle.ygg_meaning.specs as ygg_meaning
pub mod InCode
pub mod Listing
