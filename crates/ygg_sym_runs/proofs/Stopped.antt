-- What `stop_sym` is worth: what the first stop that is set leaves of the direct run on the machine itself.
use Rattle.std.proofs.Common.{◌≡◌, ℕ, Bool, true, false, if◌then◌else◌, List, [], ◌∷◌, map, Some, refl, sym, ap, ◌∙◌}
use Rattle.ygg_syntax.specs.declared.tree.Block.{Block}
use Rattle.ygg_sym_runs.specs.ygg_meaning.Environments.{Name, Env}
use Rattle.ygg_sym_runs.specs.ygg_meaning.Progress.{Eval, Question}
use Rattle.ygg_sym_runs.specs.ygg_meaning.Obligations.{Halt}
use Rattle.ygg_sym_runs.specs.ygg_bank_proofs_Meaning.{fits_fewer}
use Rattle.ygg_sym_runs.specs.ygg_bank.Values.{Inputs, Values}
use Rattle.ygg_sym_runs.specs.ygg_bank.declared.node.Node.{Node}
use Rattle.ygg_sym_runs.specs.ygg_meaning_laws.Direct.{Handled, Event, Reached, Chained, Alike, seen, direct_run}
use Rattle.ygg_sym_runs.specs.ygg_meaning_laws.RunPlaces.{base_at, asked_in}
use Rattle.ygg_sym_runs.specs.ygg_meaning_laws_proofs_Order.{block_follows}
use Rattle.ygg_sym_runs.specs.ygg_meaning_laws_proofs_Mirror.{block_mirrors}
use Rattle.ygg_syntax.specs.declared.grammar.BlockKind.{BlockKind}
use Rattle.ygg_sym_runs.specs.ygg_type_rules.Names.{Named}
use Rattle.ygg_sym_runs.specs.ygg_type_rules.declared.scope.Signature.{Signature}
use Rattle.ygg_sym_runs.specs.ygg_type_rules.TypeErrors.{none}
use Rattle.ygg_sym_runs.specs.ygg_type_rules.Scopes.{Scope}
use Rattle.ygg_sym_runs.specs.ygg_type_rules.Statements.{walked}
use Rattle.ygg_sym_runs.specs.ygg_type_rules.Statements as rules
use Rattle.ygg_sym_runs.specs.ygg_meaning.Meaning.{Functions}
use Rattle.ygg_sym_runs.specs.ygg_meaning_laws.Blocks.{eval_with}
use Rattle.ygg_sym_runs.specs.ygg_meaning_laws.Kinds.{keeps}
use Rattle.ygg_sym_runs.specs.ygg_rules.declared.rule.RuleKind.{RuleKind}
use Rattle.ygg_sym_runs.specs.Names.{SymEnv}
use Rattle.ygg_sym_runs.specs.Exprs.{SymFunctions}
use Rattle.ygg_sym_runs.specs.ExpressionMeaning.{EnvShaped, Gives, worths}
use Rattle.ygg_sym_runs.proofs.Grows.{FunctionsGrow}
use Rattle.ygg_sym_runs.proofs.Values.{FunctionsMean}
use Rattle.ygg_sym_runs.specs.Runs.{SymMachine, sym_run}
use Rattle.ygg_sym_runs.specs.Meaning.{Low, is_set, IsLow, MachineMeans}
use Rattle.ygg_sym_runs.proofs.Parts.{InScope}
use Rattle.ygg_sym_runs.proofs.Agreement.{block_gives}
use Rattle.ygg_sym_runs.specs.Stops.{before_at, within_at, Halted, first_stop, left_by, halted, halted_end}
use Rattle.ygg_sym_runs.specs.StopTerms.{SymHalted, Stops, halting_machine, sym_end, stop_sym}
use Rattle.ygg_sym_runs.proofs.StopMeaning.{halted_low, StopsMean}
use Rattle.ygg_sym_runs.proofs.Stopping.{halted_leaves, stops_sound}
use Rattle.ygg_sym_runs.proofs.Halted.{halted_means, end_grows, end_gives}

module _ {L B : Type 0} (handle : ℕ → Question → L → Handled L) (cut : Question → L → B) (lose : L → B) (bits : ℕ → Bool) where
  abbrev pub bare : Halted L B → L
  bare z = z.to

  pub alike : (es : List (Event (Halted L B))) (z to : Halted L B) → Chained (halted handle cut lose bits) z es to → Alike handle bare es
  alike [] z to c = tt
  alike (e ∷ es) z to c = (
    ap (λ (w : Halted L B). handle e.place e.question w.to) c.0 ∙ ap (λ (h : Handled (Halted L B)). record { answer = h.answer; to = h.to.to }) c.1,
    alike es e.after to c.2,
  )

  left_seen : (es : List (Event (Halted L B))) (end : Halted L B) (last : ℕ) (other : B) →
      left_by bits (λ q (z : Halted L B). cut q z.to) (λ (z : Halted L B). lose z.to) es end last other ≡ left_by bits cut lose
      (map (seen handle bare) es) end.to last other
  left_seen [] end last other = refl
  left_seen (e ∷ es) end last other =
      ap (λ x. if bits (before_at e.place) then lose e.before.to else (if bits (within_at e.place) then cut e.question e.before.to else x))
      (left_seen es end last other)

  -- a whole run on the machine with stops ends with what the first stop leaves of the run on the machine itself
  pub ends_halted : (eval : Eval) (space : Name → ℕ) (b : Block) (env : Env) (z : Halted L B) (last : ℕ) → z.stopped ≡ false →
      halted_end handle cut lose bits last (direct_run eval space (halted handle cut lose bits) b env z).to
      ≡ left_by bits cut lose (direct_run eval space handle b env z.to).events (direct_run eval space handle b env z.to).to last z.fallen
  ends_halted eval space b env z last unset =
      let r = direct_run eval space (halted handle cut lose bits) b env z in
      let f = block_follows eval space (halted handle cut lose bits) b.statements 0 env z in
      let m = block_mirrors eval space (halted handle cut lose bits) handle bare b.statements 0 env z (alike r.events z r.to f.chained) in
      let left = left_by bits (λ q (w : Halted L B). cut q w.to) (λ (w : Halted L B). lose w.to) r.events r.to last z.fallen in
      halted_leaves L B handle cut lose bits r.events z r.to last f.chained
      ∙ ap (λ k. if k then z.fallen else left) unset
      ∙ left_seen r.events r.to last z.fallen
      ∙ ap (λ (x : Reached L). left_by bits cut lose x.events x.to last z.fallen) (sym m)

module _ {S F L B : Type 0} (inputs : Inputs) (v : Values) (kinds : List RuleKind) (defs : Named Signature) (functions : Functions) (terms : SymFunctions)
    (grow : FunctionsGrow terms) (mean : FunctionsMean inputs v kinds defs functions terms grow) (low : Low S L) (base : Low F B) (kind : BlockKind)
    (lower : Named Signature) (M : SymMachine S) (machine : ℕ → Question → L → Handled L) (laws : MachineMeans inputs v low kind lower M machine)
    (K : Stops S F) (cut : Question → L → B) (lose : L → B) (bits : ℕ → Bool) (stops : StopsMean low base inputs v kind lower K cut lose bits) where
  -- what is left over terms is worth what the first stop that is set leaves of the direct run
  pub stop_gives : (last : ℕ) (b : Block) (scope : Scope) (env : SymEnv) (z : SymHalted S F) (nodes : List Node) →
      InScope inputs v kinds defs functions terms grow mean lower scope (worths v env) →
      none (rules.in_order (map walked b.statements) scope).type_errors ≡ true → keeps kind b ≡ true → EnvShaped nodes env →
      (halted_low low base).Has nodes z → is_set v z.stopped ≡ false →
      let run = direct_run (eval_with functions) M.space machine b (worths v env) (low.value v z.to) in
      Gives inputs v (stop_sym kinds terms M K last b env z) nodes (IsLow inputs v base (left_by bits cut lose run.events run.to last (base.value v z.fallen)))
  stop_gives last b scope env z nodes g n k s l unset h =
      let o = sym_run kinds terms (halting_machine kinds terms M K) b env z nodes in
      let e = sym_end kinds terms M K last o.value.to o.nodes in
      let grows = end_grows inputs v kinds terms low base kind lower M machine laws K cut lose bits stops last o.value.to o.nodes in
      let a = block_gives inputs v kinds defs functions terms grow mean (halted_low low base) kind lower (halting_machine kinds terms M K)
      (halted machine cut lose bits) (halted_means inputs v kinds terms low base kind lower M machine laws K cut lose bits stops)
      b.statements 0 scope env z nodes g n k s l (fits_fewer inputs v o.nodes e.nodes grows h) in
      let c = end_gives inputs v kinds terms low base kind lower M machine laws K cut lose bits stops last o.value.to o.nodes a.has h in
      record {
        has = c.has;
        is = c.is ∙ ap (λ (w : Halted L B). halted_end machine cut lose bits last w) a.is_low
            ∙ ends_halted machine cut lose bits (eval_with functions) M.space b (worths v env) ((halted_low low base).value v z) last unset;
      }

  -- and where that stop is one of a schedule, what the schedule's stop leaves
  pub stop_halts : (last : ℕ) (b : Block) (scope : Scope) (env : SymEnv) (z : SymHalted S F) (nodes : List Node) (stop : Halt) →
      InScope inputs v kinds defs functions terms grow mean lower scope (worths v env) →
      none (rules.in_order (map walked b.statements) scope).type_errors ≡ true → keeps kind b ≡ true → EnvShaped nodes env →
      (halted_low low base).Has nodes z → is_set v z.stopped ≡ false →
      let run = direct_run (eval_with functions) M.space machine b (worths v env) (low.value v z.to) in
      first_stop bits run.events last ≡ Some stop →
      Gives inputs v (stop_sym kinds terms M K last b env z) nodes
      (λ new x. base_at cut lose stop.within (asked_in run.events) stop.event run.to ≡ Some (base.value v x))
  stop_halts last b scope env z nodes stop g n k s l unset first h =
      let run = direct_run (eval_with functions) M.space machine b (worths v env) (low.value v z.to) in
      let a = stop_gives last b scope env z nodes g n k s l unset h in
      stops_sound L B cut lose bits run.events run.to last (base.value v z.fallen) stop first ∙ ap (λ x. Some x) (sym a.is)
