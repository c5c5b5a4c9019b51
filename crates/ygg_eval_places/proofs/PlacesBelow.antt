-- What the interpreter of blocks asks of a part, where the part may be run by place.
use Rattle.std.proofs.Common.{◌≡◌, ℕ, Bool, true, false, List, [], length, All, None, refl}
use Rattle.ygg_value.specs.declared.row.Value.{Value}
use Rattle.ygg_syntax.specs.declared.grammar.BlockKind.{BlockKind}
use Rattle.ygg_syntax.specs.declared.tree.Expr.{Expr}
use Rattle.ygg_syntax.specs.declared.tree.File.{File}
use Rattle.ygg_syntax.specs.declared.tree.Index.{Index}
use Rattle.ygg_syntax.specs.declared.tree.Name.{Name}
use Rattle.ygg_syntax.specs.declared.tree.Source.{Source}
use Rattle.ygg_syntax.specs.declared.tree.Source.TheVariants as source
use Rattle.ygg_meaning_laws.specs.ygg_type_rules.TypeErrors.{TypeErrors}
use Rattle.ygg_meaning_laws.specs.ygg_type_rules.Scopes.{Scope}
use Rattle.ygg_meaning_laws.specs.ygg_type_rules.Statements.{source_typing, call_typing, place_rule, assignment_errors}
use Rattle.ygg_meaning_laws.specs.ygg_meaning.Environments.{Env, look_up}
use Rattle.ygg_meaning_laws.specs.ygg_meaning.Machine.{based}
use Rattle.ygg_meaning_laws.specs.Kinds.{may_call, source_keeps}
use Rattle.ygg_eval.specs.ygg_eval_expr.Known.{CanEvaluate}
use Rattle.ygg_eval.specs.ygg_eval_expr.Writing.{CanWrite}
use Rattle.ygg_eval.specs.Lower.{Standing, Meaning, Behavior}
use Rattle.ygg_eval.specs.Ready as block
use Rattle.ygg_eval.specs.Ready.{known_in, IsGiven}
use Rattle.ygg_eval.proofs.Fitting.{ask_evaluates, call_evaluates}
use Rattle.ygg_eval.proofs.Assigning.{assign_evaluates, assign_writes}
use Rattle.ygg_eval_places.specs.Machines.{PlaceMeaning}
use Rattle.ygg_eval_places.specs.Ready.{CanDo, CanAsk, CanAssign, CanCall}

-- a machine of which nothing is known but its number
abbrev resting : ℕ → Meaning (Unit {0})
resting number = record {
  number = λ s. number;
  Fits = λ file s. Unit {0};
  can_stop = true;
  can_lose = true;
  faults = λ s. 0;
  Calls = λ file from name args ending to. Unit {0};
  Falls = λ file from name args outage to. Unit {0};
  Loses = λ file from outage to. Unit {0};
  behavior = record {
    Base = Unit {0};
    Note = Unit {0};
    machine = λ cause file number. record {
      Starts = λ s notes. Unit {0};
      Calls = λ s name args notes answer to. Unit {0};
      Falls = λ s name args notes f. Unit {0};
      Ticks = λ s name notes to. Unit {0};
      TickFalls = λ s name notes f. Unit {0};
      Loses = λ s notes f. Unit {0};
      Wakes = λ f notes s. Unit {0};
      WakeFalls = λ f notes f'. Unit {0};
    };
    state = λ file s. based tt;
    Leaves = λ how file from notes to. Unit {0};
  };
}

-- it stands anywhere
abbrev rest : Standing (Unit {0})
rest = record { machine = tt; power = record { picks = record { bits = []; next = 0; past = false }; fuse = None; passed = 0; events = None } }

module _ {S : Type 0} (M : PlaceMeaning S) (file : File) (number : ℕ) where
  abbrev theirs : (t : Scope → TypeErrors) (k : BlockKind → Bool) (env : Env) (s : M.Is) → CanDo M file number t k env s →
      block.CanDo (resting number) file number None t k env rest
  theirs t k env s can = record {
    kind = M.kind;
    scope = can.scope;
    fits = record {
      sound = can.fits.sound;
      defs = can.fits.defs;
      lower = can.fits.lower;
      agrees = can.fits.agrees;
      serves = λ may. record { numbered = refl; fits = tt; fuse = λ some. refl };
      stops = λ some. refl;
    };
    without_errors = can.without_errors;
    keeps = can.keeps;
  }

  pub value_evaluates : (from : Source) (e : Expr) (env : Env) (s : M.Is) → from ≡ source.Value e → CanAsk M file number from env s →
      CanEvaluate (known_in file env) e
  value_evaluates from e env s is can = ask_evaluates (resting number) file number None from e env rest is
      (theirs (λ scope. (source_typing from scope).type_errors) (λ kind. source_keeps kind from) env s can)

  pub args_evaluate : (f : Name) (es : List Expr) (env : Env) (s : M.Is) → CanCall M file number f es env s → All (CanEvaluate (known_in file env)) es
  args_evaluate f es env s can =
      call_evaluates (resting number) file number None f es env rest
      (record {
        place = can.place;
        used = can.used;
        can = theirs (λ scope. (call_typing can.place can.used f es scope).type_errors) may_call env s can.can;
      })

  pub places_evaluate : (x : Name) (is : List Index) (from : Source) (env : Env) (s : M.Is) → CanAssign M file number x is from env s →
      All (λ (i : Index). CanEvaluate (known_in file env) i.at) is
  places_evaluate x is from env s can =
      assign_evaluates (resting number) file number None x is from env rest
      (theirs (λ scope. assignment_errors (place_rule x is scope) (source_typing from scope)) (λ kind. source_keeps kind from) env s can)

  pub value_writes : (x : Name) (is : List Index) (from : Source) (env : Env) (s : M.Is) (v : Value) → CanAssign M file number x is from env s →
      IsGiven file number from env v → CanWrite (look_up x.text env) (length is) v
  value_writes x is from env s v can given =
      assign_writes (resting number) file number None x is from env rest v
      (theirs (λ scope. assignment_errors (place_rule x is scope) (source_typing from scope)) (λ kind. source_keeps kind from) env s can) given
