-- A machine over terms with stops, as the machine on which a block runs.
use Rattle.std.specs.Prelude.{min, ℕ, List}
use Rattle.ygg_sym_runs.specs.ygg_rules.declared.rule.RuleKind.{RuleKind}
use Rattle.ygg_sym_runs.specs.ygg_bank_proofs_Widths.{wider}
use Rattle.ygg_sym_runs.specs.ygg_bank.Makes.{Make, and_make, pure}
use Rattle.ygg_value.specs.Words.{word}
use Rattle.ygg_sym_runs.specs.ygg_bank.Making.{made}
use Rattle.ygg_sym_runs.specs.ygg_bank.declared.node.Node.TheVariants.{Const}
use Rattle.ygg_sym_runs.specs.ygg_shape_words.Picking.{picked}
use Rattle.ygg_sym_runs.specs.ygg_bank.Nodes.{HasWidth}
use Rattle.ygg_sym_runs.specs.ygg_bank.declared.node.Id.{Id}
use Rattle.ygg_sym_runs.specs.Exprs.{SymFunctions}
use Rattle.ygg_sym_runs.specs.Names.{no_term}
use Rattle.ygg_sym_runs.specs.Meaning.{Low}
use Rattle.ygg_sym_runs.specs.Lower.{SymMeaning}
use Rattle.ygg_sym_runs.specs.Stops.{before_at}
use Rattle.ygg_sym_runs.specs.StopTerms.{SymFallen, SymHalted, halting_machine, sym_end}
use Rattle.ygg_sym_machine.specs.Stopping.{Power, stops_on}

-- functions that make no term: steps of machines ask none
abbrev pub no_functions : SymFunctions
no_functions name args = pure no_term

-- the term that says whether one is set, and another isn't
abbrev pub first_made : List RuleKind → Id → Id → Make Id
first_made kinds other one = and_make (made kinds (Const (word 1 0))) (λ never. picked kinds other never one)

-- a state with stops, of its parts
abbrev pub halted_of : {S : Type 0} → S → S → Id → SymHalted S S
halted_of to fallen stopped = record { to = to; fallen = fallen; stopped = stopped }

module _ {S : Type 0} (M : SymMeaning S) where
  -- a state with stops is worth what the machine's own state is; what is left stands among the nodes as states do
  abbrev pub halted_low : Low (SymHalted S S) M.Worth
  halted_low = record {
    value = λ v z. M.low.value v z.to;
    Has = λ nodes z. M.low.Has nodes z.to × M.low.Has nodes z.fallen × HasWidth nodes z.stopped 1;
    wider = λ old new z g h. (
      M.low.wider old new z.to g h.0,
      M.low.wider old new z.fallen g h.1,
      wider old new z.stopped 1 g h.2,
    );
  }

  -- the machine with stops: blocks run on it as they do on the machine itself
  abbrev pub halting_meaning : Power S → SymMeaning (SymHalted S S)
  halting_meaning K = record {
    Worth = M.Worth;
    low = halted_low;
    kind = M.kind;
    lower = M.lower;
    machine = λ kinds. halting_machine kinds no_functions (M.machine kinds) (stops_on M K kinds);
    space = M.space;
    direct = M.direct;
    Serves = M.Serves;
    first = min M.first K.first;
  }

  -- what is left at a stop after the last question, by the term that says whether it is set
  abbrev pub last_left_made : Power S → List RuleKind → Id → SymHalted S S → Make S
  last_left_made K kinds here z =
      and_make (first_made kinds z.stopped here) (λ h. and_make (K.lose kinds z.to) (λ l. K.join kinds h l z.fallen))

  -- the stop after the last question of a run, what is then left, and whether a stop was reached
  abbrev pub sym_fall : Power S → List RuleKind → ℕ → SymHalted S S → Make (SymFallen S)
  sym_fall K kinds last z =
      and_make (sym_end kinds no_functions (M.machine kinds) (stops_on M K kinds) last z) (λ fallen.
      and_make ((stops_on M K kinds).bit (before_at last)) (λ here. and_make ((stops_on M K kinds).either z.stopped here) (λ reached.
      pure (record { fallen = fallen; reached = reached }))))
