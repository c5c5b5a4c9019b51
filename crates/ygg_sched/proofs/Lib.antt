pub use Rattle.ygg_meaning.proofs as of_ygg_meaning
pub use Rattle.ygg_report.proofs as of_ygg_report
pub use Rattle.ygg_type.proofs as of_ygg_type
pub mod Cutting
pub mod Hexadecimal
pub mod Decimals
pub mod Pieces
pub mod Joining
pub mod Finding
pub mod Onward
pub mod Standing
pub mod NumbersAgain
pub mod PiecesAgain
pub mod ValuesAgain
pub mod LinesAgain
pub mod RunsAgain
pub mod TextsAgain
pub mod Shaped
pub mod Fitted
