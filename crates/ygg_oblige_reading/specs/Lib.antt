pub use Rattle.ygg_oblige_schedule.specs.ygg_sched
pub use Rattle.ygg_oblige.specs.ygg_oblige_laws
pub use Rattle.ygg_rules.specs as ygg_rules
pub use Rattle.ygg_oblige_schedule.specs.ygg_type_rules
pub use Rattle.ygg_oblige.specs.Obligations
pub use Rattle.ygg_oblige.specs.declared.obligation.Obligation
pub mod Meant
pub mod Listing
pub mod Sites
pub mod Cases
