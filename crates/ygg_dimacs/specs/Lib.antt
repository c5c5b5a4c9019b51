pub use Rattle.ygg_report.specs as ygg_report
pub use Rattle.ygg_solver.specs as ygg_solver
pub use Rattle.ygg_blast.specs.ygg_bank
pub use Rattle.ygg_blast.specs.ygg_cnf
pub use Rattle.ygg_blast.specs.ygg_gates
pub use Rattle.ygg_blast.specs.ygg_rules
pub mod Flaws
pub mod Places
pub mod Sizes
pub mod Lines
pub mod Words
pub mod Left
pub mod Numbers
pub mod Headers
pub mod Marks
pub mod Reading
pub mod States
pub mod Printing
pub mod Laws
pub mod Solved
pub mod Counted
