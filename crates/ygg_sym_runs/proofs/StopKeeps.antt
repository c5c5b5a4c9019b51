-- What holds of nodes stays at runs over terms that power cuts, where it does at each stop.
use Rattle.std.proofs.Common.{ℕ, ◌+◌, ◌*◌, ◌<◌, ◌≤◌, List, ◌++◌, arith}
use Rattle.ygg_value.specs.Words.{word}
use Rattle.ygg_value.specs.declared.operation.Op.TheVariants.{Or}
use Rattle.ygg_base.specs.declared.geometry.DiskKind.{DiskKind}
use Rattle.ygg_syntax.specs.declared.tree.Block.{Block}
use Rattle.ygg_sym_runs.specs.ygg_rules.declared.rule.RuleKind.{RuleKind}
use Rattle.ygg_sym_runs.specs.ygg_bank.Inputs.{InputsBelow}
use Rattle.ygg_sym_runs.specs.ygg_bank.Making.{made}
use Rattle.ygg_sym_runs.specs.ygg_bank.declared.node.Id.{Id}
use Rattle.ygg_sym_runs.specs.ygg_bank.declared.node.Node.{Node}
use Rattle.ygg_sym_runs.specs.ygg_bank.declared.node.Node.TheVariants.{Const, Input, Bin}
use Rattle.ygg_sym_runs.specs.ygg_shape_words_proofs_Keeps.{Stays, inputs_stay, picked_keeps}
use Rattle.ygg_sym_runs.specs.ygg_meaning_laws.Direct.{room_of}
use Rattle.ygg_sym_runs.specs.ygg_meaning_laws.RunPlaces.{disk_space}
use Rattle.ygg_sym_runs.specs.Names.{SymEnv}
use Rattle.ygg_sym_runs.specs.Exprs.{SymFunctions}
use Rattle.ygg_sym_runs.proofs.Keeps.{Keeps, FunctionsKeep}
use Rattle.ygg_sym_runs.specs.Runs.{SymQuestion, Choice, Call, SymMachine, sym_run}
use Rattle.ygg_sym_runs.proofs.Below.{asked_space, MachineKeeps, run_keeps}
use Rattle.ygg_sym_runs.specs.Stops.{before_at, within_at}
use Rattle.ygg_sym_runs.specs.StopTerms.{SymHalted, Stops, sym_first, sym_leaves, sym_left, sym_halted, merge_halted, halting_machine, sym_end, stop_whole}
use Rattle.ygg_sym_runs.specs.Cuts.{disk_stops}
use Rattle.ygg_sym_runs.proofs.DiskKeeps.{cuts_keep}
use Rattle.ygg_sym_runs.proofs.MadeInputs.{fresh_below}
use Rattle.ygg_sym_runs.proofs.JoinedLows.{joins_keep}

-- what holds of nodes stays at each of so many stops, and at what they leave
pub record StopsKeep {S F : Type 0} (P : List Node → Type 0) (most : ℕ) (K : Stops S F) : Type 0 where
  pub bit : (n : ℕ) → n < most → Keeps P (K.bit n)
  pub cut : (q : SymQuestion) (s : S) → Keeps P (K.cut q s)
  pub lose : (s : S) → Keeps P (K.lose s)
  pub merge : (t : Id) (a b : F) → Keeps P (K.merge t a b)
  pub either : (a b : Id) → Keeps P (K.either a b)
  pub pick : (t a b : Id) → Keeps P (K.pick t a b)

module _ {S F : Type 0} (kinds : List RuleKind) (P : List Node → Type 0) (stays : Stays kinds P) (terms : SymFunctions) (keep : FunctionsKeep P terms)
    (M : SymMachine S) (top : ℕ) (laws : MachineKeeps P top M) (K : Stops S F) (cuts : StopsKeep P (2 * top + 1) K)
    (one : (q : SymQuestion) → 1 ≤ asked_space M.space q) where
  first_keeps : (other one : Id) → Keeps P (sym_first kinds terms M K other one)
  first_keeps other one nodes p =
      let never = made kinds (Const (word 1 0)) nodes in cuts.pick other never.value one never.nodes (stays (Const (word 1 0)) nodes tt p)

  leaves_keeps : (here within : Id) (q : SymQuestion) (z : SymHalted S F) → Keeps P (sym_leaves kinds terms M K here within q z)
  leaves_keeps here within q z nodes p =
      let c = K.cut q z.to nodes in
      let x = K.merge within c.value z.fallen c.nodes in
      let l = K.lose z.to x.nodes in
      cuts.merge here l.value x.value l.nodes (cuts.lose z.to x.nodes (cuts.merge within c.value z.fallen c.nodes (cuts.cut q z.to nodes p)))

  left_keeps : (here within : Id) (q : SymQuestion) (z : SymHalted S F) → Keeps P (sym_left kinds terms M K here within q z)
  left_keeps here within q z nodes p =
      let h = sym_first kinds terms M K z.stopped here nodes in
      let some = K.either z.stopped here h.nodes in
      let w = sym_first kinds terms M K some.value within some.nodes in
      leaves_keeps h.value w.value q z w.nodes
      (first_keeps some.value within some.nodes (cuts.either z.stopped here h.nodes (first_keeps z.stopped here nodes p)))

  halted_keeps : (i : ℕ) (q : SymQuestion) (z : SymHalted S F) → i + asked_space M.space q ≤ top → Keeps P (sym_halted kinds terms M K i q z)
  halted_keeps i q z l nodes p =
      let h = K.bit (before_at i) nodes in
      let w = K.bit (within_at i) h.nodes in
      let f = sym_left kinds terms M K h.value w.value q z w.nodes in
      let s = K.either z.stopped h.value f.nodes in
      let t = K.either s.value w.value s.nodes in
      let k = one q in
      let before : before_at i < 2 * top + 1 = omega (arith, l, k) in
      let within : within_at i < 2 * top + 1 = omega (arith, l, k) in
      laws.handle i q z.to l t.nodes
      (cuts.either s.value w.value s.nodes (cuts.either z.stopped h.value f.nodes (left_keeps h.value w.value q z w.nodes
      (cuts.bit (within_at i) within h.nodes (cuts.bit (before_at i) before nodes p)))))

  merged_keep : (t : Id) (a b : SymHalted S F) → Keeps P (merge_halted kinds terms M K t a b)
  merged_keep t a b nodes p =
      let m = M.merge t a.to b.to nodes in
      let f = K.merge t a.fallen b.fallen m.nodes in
      cuts.pick t a.stopped b.stopped f.nodes (cuts.merge t a.fallen b.fallen m.nodes (laws.merge t a.to b.to nodes p))

  -- the machine with stops
  pub halting_keeps : MachineKeeps P top (halting_machine kinds terms M K)
  halting_keeps = record { merge = merged_keep; handle = halted_keeps }

  end_keeps : (last : ℕ) (z : SymHalted S F) → last ≤ top → Keeps P (sym_end kinds terms M K last z)
  end_keeps last z l nodes p =
      let h = K.bit (before_at last) nodes in
      let w = sym_first kinds terms M K z.stopped h.value h.nodes in
      let f = K.lose z.to w.nodes in
      let m : before_at last < 2 * top + 1 = omega (arith, l) in
      cuts.merge w.value f.value z.fallen f.nodes (cuts.lose z.to w.nodes (first_keeps z.stopped h.value h.nodes (cuts.bit (before_at last) m nodes p)))

  -- a run that power cuts, of a block that has no more places
  pub fallen_keeps : (last : ℕ) (b : Block) (vars args : SymEnv) (from : S) (other : F) → last ≤ top → room_of M.space b ≤ top →
      Keeps P (stop_whole kinds terms M K last b vars args from other)
  fallen_keeps last b vars args from other l m nodes p =
      let never = made kinds (Const (word 1 0)) nodes in
      let start : SymHalted S F = record { to = from; fallen = other; stopped = never.value } in
      let z = sym_run kinds terms (halting_machine kinds terms M K) b (vars ++ args) start never.nodes in
      let e = sym_end kinds terms M K last z.value.to z.nodes in
      let h = K.bit (before_at last) e.nodes in
      let n : before_at last < 2 * top + 1 = omega (arith, l) in
      cuts.either z.value.to.stopped h.value h.nodes
      (cuts.bit (before_at last) n e.nodes
      (end_keeps last z.value.to l z.nodes
      (run_keeps P top kinds stays terms keep (halting_machine kinds terms M K) halting_keeps b (vars ++ args) start m never.nodes
      (stays (Const (word 1 0)) nodes tt p))))

-- the stops on a disk
pub disk_stops_keep : (kinds : List RuleKind) (P : List Node → Type 0) → Stays kinds P → (kind : DiskKind) (first last most : ℕ) →
    ((n : ℕ) → n < most → Keeps P (made kinds (Input (first + n) 1))) → Keeps P (made kinds (Input last 1)) →
    StopsKeep P most (disk_stops kinds kind first last)
disk_stops_keep kinds P stays kind first last most stop fails = record {
  bit = λ n l nodes p. stop n l nodes p;
  cut = λ q s nodes p. cuts_keep kinds P stays last fails kind q s nodes p;
  lose = λ s nodes p. p;
  merge = λ t a b nodes p. joins_keep kinds P stays t a b nodes p;
  either = λ a b nodes p. stays (Bin Or a b) nodes tt p;
  pick = λ t a b nodes p. picked_keeps kinds P stays t a b nodes p;
}

-- each question on a disk has a place
pub disk_asked_one : (q : SymQuestion) → 1 ≤ asked_space disk_space q
disk_asked_one Choice = omega arith
disk_asked_one (Call f xs) = omega arith

-- the stops on a disk keep inputs below a number that theirs are below
pub disk_stops_below : (kinds : List RuleKind) (kind : DiskKind) (first last most next : ℕ) → first + most ≤ next → last + 1 ≤ next →
    StopsKeep (InputsBelow next) most (disk_stops kinds kind first last)
disk_stops_below kinds kind first last most next l m =
    disk_stops_keep kinds (InputsBelow next) (inputs_stay kinds next) kind first last most (λ n k. fresh_below kinds (first + n) next (omega (arith, l, k)))
    (fresh_below kinds last next (omega (arith, m)))
