-- Runs of a block over terms, which power may cut.
use Rattle.std.specs.Prelude.{◌≡◌, ◌+◌, ◌*◌, ℕ, Bool, true, false, List, Option, Some, None}
use Rattle.ygg_value.specs.Words.{word}
use Rattle.ygg_meaning.specs.Machine.{Picks}
use Rattle.ygg_rules.specs.declared.rule.RuleKind.{RuleKind}
use Rattle.ygg_bank.specs.Makes.{Make, Out, pure, and_make}
use Rattle.ygg_bank.specs.Making.{made}
use Rattle.ygg_bank.specs.Nodes.{HasWidth}
use Rattle.ygg_bank.specs.declared.node.Id.{Id}
use Rattle.ygg_bank.specs.declared.node.Node.{Node}
use Rattle.ygg_bank.specs.declared.node.Node.TheVariants.{Const}
use Rattle.ygg_shape_cells.specs.declared.terms.SymValue.{SymValue}
use Rattle.ygg_sym_runs.specs.Names.{sym_bind}
use Rattle.ygg_sym_runs.specs.Meaning.{AnswerShaped}
use Rattle.ygg_sym_runs.specs.SpecCuts.{block_made, choice_room}
use Rattle.ygg_sym_runs.specs.Specs.{given_pick, input_pick}
use Rattle.ygg_sym_laws.specs.Below.{cut_made, failure_room, lost_made, places_on, run_made, zeros_made}
use Rattle.ygg_sym_laws.specs.Means.{terms_of, values_in}
use Rattle.ygg_sym_bodies.specs.Sites.{IsShaped, Site}
use Rattle.ygg_sym_bodies.specs.declared.state.Inputs as numbers
use Rattle.ygg_sym_bodies.specs.declared.state.SymRun.{SymRun}
use Rattle.ygg_sym_bodies.specs.declared.state.SymState.{SymState}

-- how a run over terms ends: the variables, the state below, the answer, and whether a stop is reached
pub record Ending : Type 0 where
  pub vars : List SymValue
  pub low : List SymValue
  pub answer : Option SymValue
  pub reached : Id

-- the pick of each place: one of those that are given, which go on with 0, or an input
abbrev pub pick_made : List RuleKind → Option Picks → ℕ → ℕ → Make Id
pick_made kinds (Some given) first = given_pick kinds given
pick_made kinds None first = input_pick kinds first

module _ (kinds : List RuleKind) (s : Site) (from : SymState) where
  -- a whole run of a block that may call what is below; its picks are inputs from a number on
  abbrev pub called : ℕ → Id → Make Ending
  called first one =
      and_make (run_made kinds (terms_of kinds s.defs) s.below first s.block (sym_bind s.vars from.vars) (sym_bind s.args from.args) from.low)
      (λ e. pure (record { vars = values_in e.vars; low = e.to; answer = e.answer; reached = one }))

  -- a whole run of a block that runs on no machine, whose choices take these picks
  abbrev pub chosen : (ℕ → Make Id) → Id → Make Ending
  chosen pick one =
      and_make (block_made kinds (terms_of kinds s.defs) s.layer pick s.block from.vars (sym_bind s.args from.args))
      (λ d. pure (record { vars = d.to; low = from.low; answer = d.answer; reached = one }))

  -- the one or the other
  abbrev pub run_for : Bool → Option Picks → ℕ → Id → Make Ending
  run_for true given first one = called first one
  run_for false given first one = chosen (pick_made kinds given first) one

  -- a whole run, whose stop counts as reached
  abbrev pub whole_body : Option Picks → ℕ → Make Ending
  whole_body given first = and_make (made kinds (Const (word 1 1))) (run_for s.calls given first)

  -- a run of a block that may call what is below, and which power cuts; the stops and the picks of the failure are inputs from other numbers on
  abbrev pub called_cut : ℕ → ℕ → ℕ → List SymValue → Make Ending
  called_cut first stop last zeros =
      and_make (cut_made kinds (terms_of kinds s.defs) s.below first stop last s.block (sym_bind s.vars from.vars) (sym_bind s.args from.args) from.low)
      (λ c. pure (record { vars = zeros; low = c.fallen; answer = None; reached = c.reached }))

  -- a run of a block that runs on no machine, and which power cuts: it makes no call, so there is one stop, and what is below loses power there
  abbrev pub chosen_cut : ℕ → ℕ → List SymValue → Make Ending
  chosen_cut stop last zeros =
      and_make (input_pick kinds stop 0) (λ here. and_make (lost_made kinds (terms_of kinds s.defs) s.below last from.low)
      (λ fallen. pure (record { vars = zeros; low = fallen; answer = None; reached = here })))

  -- the one or the other
  abbrev pub cut_for : Bool → ℕ → ℕ → ℕ → List SymValue → Make Ending
  cut_for true first stop last zeros = called_cut first stop last zeros
  cut_for false first stop last zeros = chosen_cut stop last zeros

  -- a run that power cuts, after which the variables are zeros
  abbrev pub cut_body : ℕ → ℕ → ℕ → Make Ending
  cut_body first stop last = and_make (zeros_made kinds s.vars) (cut_for s.calls first stop last)

-- how many places a block has whose runs are whole, each with an input for its pick where none are given
abbrev pub places_of : Site → Bool → ℕ
places_of s true = places_on s.below s.block
places_of s false = choice_room s.block

-- how many inputs the picks of so many places have: none where they are given
abbrev pub inputs_of : Option Picks → ℕ → ℕ
inputs_of (Some given) places = 0
inputs_of None places = places

-- how many places calls have; of a block that makes none there is the stop at its end alone
abbrev pub calls_of : Site → Bool → ℕ
calls_of s true = places_on s.below s.block
calls_of s false = 0

-- the numbers of so many inputs, from a number on
abbrev pub numbered : ℕ → ℕ → numbers.Inputs
numbered first count = record { picks = first; stops = first + count; failure = first + count; next = first + count }

-- those of a whole run
abbrev pub whole_inputs : Site → Option Picks → ℕ → numbers.Inputs
whole_inputs s given first = numbered first (inputs_of given (places_of s s.calls))

-- the numbers, from a number on, of so many picks, of two stops for each of them and the last one, and of so many picks of the failure
abbrev pub cut_numbered : ℕ → ℕ → ℕ → numbers.Inputs
cut_numbered first places picks = record {
  picks = first;
  stops = first + places;
  failure = first + places + (2 * places + 1);
  next = first + places + (2 * places + 1) + picks;
}

-- those of a run that power cuts
abbrev pub cut_inputs : Site → ℕ → numbers.Inputs
cut_inputs s first = cut_numbered first (calls_of s s.calls) (failure_room s.below)

-- a run leaves what it is defined to leave, and the arguments
pub record IsMade (out : Out Ending) (from : SymState) (r : SymRun) (nodes : List Node) : Type 0 where
  pub nodes_are : nodes ≡ out.nodes
  pub vars : (r.after).vars ≡ out.value.vars
  pub args : (r.after).args ≡ from.args
  pub low : (r.after).low ≡ out.value.low
  pub answer : r.answer ≡ out.value.answer
  pub reached : r.reached ≡ out.value.reached

-- what a run leaves stands among the nodes, with the declared shapes
pub record Stands (s : Site) (nodes : List Node) (r : SymRun) : Type 0 where
  pub after : IsShaped s nodes r.after
  pub answer : AnswerShaped nodes r.answer
  pub reached : HasWidth nodes r.reached 1
