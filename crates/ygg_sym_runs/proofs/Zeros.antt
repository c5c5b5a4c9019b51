-- The environment of zeros fits any nodes.
use Rattle.std.proofs.Common.{◌≡◌, ℕ, List, Result, Ok, Err, OnOk, sym, subst}
use Rattle.std.proofs.lemmas.Nat.{pow_pos}
use Rattle.ygg_sym_runs.specs.ygg_bank_proofs_Exist.{values_fit}
use Rattle.ygg_sym_runs.specs.ygg_bank.Nodes.{IsBank}
use Rattle.ygg_sym_runs.specs.ygg_bank.Values.{Inputs, Values, Fits, value_of}
use Rattle.ygg_sym_runs.specs.ygg_bank.declared.node.Node.{Node}
use Rattle.ygg_sym_runs.specs.Lower.{SingleFrom, KeepsSingle}

-- each input is 0
abbrev pub zeros : Inputs
zeros number = 0

-- the values of nodes where each input is 0
abbrev pub zero_values : List Node → Values
zero_values nodes = value_of zeros nodes

pub zeros_fit : (nodes : List Node) → IsBank nodes → Fits zeros (zero_values nodes) nodes
zeros_fit nodes b = values_fit zeros nodes b.ordered (λ place number w e. pow_pos w)

-- what a step leaves that went well
pub single_kept : {A E : Type 0} (old new more : List Node) (r : Result A E) → OnOk r (new ≡ more) →
    ((first : ℕ) → SingleFrom first old → SingleFrom first more) → OnOk r (KeepsSingle old new)
single_kept old new more (Ok x) e h = λ first k. subst (SingleFrom first) (sym e) (h first k)
single_kept old new more (Err x) e h = tt

pub single_both : (a b c : List Node) → KeepsSingle a b → KeepsSingle b c → KeepsSingle a c
single_both a b c g h first k = h first (g first k)

pub single_then : {A E : Type 0} (a b c : List Node) (r : Result A E) → KeepsSingle a b → OnOk r (KeepsSingle b c) → OnOk r (KeepsSingle a c)
single_then a b c (Ok x) g h = single_both a b c g h
single_then a b c (Err x) g h = tt
