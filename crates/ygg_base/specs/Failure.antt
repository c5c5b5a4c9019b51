-- Why a text isn't read.
use Rattle.ygg_base.specs.declared.failure.Refusal.{Refusal}
use Rattle.ygg_base.specs.declared.failure.Refuse.{Refuse}
use Rattle.ygg_base.specs.declared.failure.Refuse.TheVariants.{At, Memory}

-- a fact of the refusal, where the cause isn't out of memory
abbrev pub IfRefused : Refuse → (Refusal → Type 0) → Type 0
IfRefused (At refusal) P = P refusal
IfRefused Memory P = Unit {0}
