pub use Rattle.ygg_meaning_laws.proofs.Choosing as ygg_meaning_laws_proofs_Choosing
pub use Rattle.ygg_meaning_laws.proofs.Mirror as ygg_meaning_laws_proofs_Mirror
pub use Rattle.ygg_meaning_laws.proofs.Order as ygg_meaning_laws_proofs_Order
pub use Rattle.ygg_meaning_laws.specs as ygg_meaning_laws
pub use Rattle.ygg_eval.specs as ygg_eval
pub use Rattle.ygg_meaning_laws.specs.ygg_meaning
pub use Rattle.ygg_sym_laws.specs.ygg_bank
pub use Rattle.ygg_sym_laws.proofs.Acting as ygg_sym_laws_proofs_Acting
pub use Rattle.ygg_sym_laws.proofs.Disk as ygg_sym_laws_proofs_Disk
pub use Rattle.ygg_sym_laws.proofs.Spec as ygg_sym_laws_proofs_Spec
pub use Rattle.ygg_sym_laws.specs as ygg_sym_laws
pub use Rattle.ygg_sym_laws.specs.ygg_sym_runs_proofs_Chosen
pub use Rattle.ygg_sym_laws.specs.ygg_sym_runs_proofs_SpecFalls
pub use Rattle.ygg_sym_laws.specs.ygg_sym_runs_proofs_SpecMeans
pub use Rattle.ygg_sym_laws.specs.ygg_sym_runs
pub mod Machines
pub mod Ready
pub mod Walks
pub mod Wholes
pub mod Belows
pub mod Keeping
pub mod Steps
pub mod Fronts
pub mod Bits
pub mod Chosen
pub mod ChoiceKeeping
