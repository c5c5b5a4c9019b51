-- What is left of a run over terms that power cuts, and whether it comes to its stop.
use Rattle.std.proofs.Common.{◌≡◌, ◌==◌, ◌||◌, ℕ, Bool, true, false, if◌then◌else◌, List, [], ◌∷◌, ◌++◌, map, Option, Some, None, refl, sym, ap, ◌∙◌, arith}
use Rattle.std.specs.Prelude.{is_some}
use Rattle.ygg_value.specs.Number.{Number, IsWord}
use Rattle.ygg_value.specs.Words.{word}
use Rattle.ygg_syntax.specs.declared.grammar.BlockKind.{BlockKind}
use Rattle.ygg_syntax.specs.declared.tree.Block.{Block}
use Rattle.ygg_sym_runs.specs.ygg_type_rules.Names.{Named}
use Rattle.ygg_sym_runs.specs.ygg_type_rules.declared.scope.Signature.{Signature}
use Rattle.ygg_sym_runs.specs.ygg_type_rules.TypeErrors.{none}
use Rattle.ygg_sym_runs.specs.ygg_type_rules.Scopes.{Scope}
use Rattle.ygg_sym_runs.specs.ygg_type_rules.Statements.{walked}
use Rattle.ygg_sym_runs.specs.ygg_type_rules.Statements as rules
use Rattle.ygg_sym_runs.specs.ygg_meaning.Environments.{Name, Env}
use Rattle.ygg_sym_runs.specs.ygg_meaning.Meaning.{Functions}
use Rattle.ygg_sym_runs.specs.ygg_meaning.Progress.{Eval, Question}
use Rattle.ygg_sym_runs.specs.ygg_meaning.Obligations.{Halt}
use Rattle.ygg_sym_runs.specs.ygg_meaning_laws.Blocks.{eval_with}
use Rattle.ygg_sym_runs.specs.ygg_meaning_laws.Kinds.{keeps}
use Rattle.ygg_sym_runs.specs.ygg_rules.declared.rule.RuleKind.{RuleKind}
use Rattle.ygg_sym_runs.specs.ygg_bank_proofs_Made.{made_grows}
use Rattle.ygg_sym_runs.specs.ygg_bank_proofs_Meaning.{fits_fewer}
use Rattle.ygg_sym_runs.specs.ygg_bank_proofs_Widths.{wider, extends_both}
use Rattle.ygg_sym_runs.specs.ygg_bank.Making.{made}
use Rattle.ygg_sym_runs.specs.ygg_bank.Nodes.{HasWidth}
use Rattle.ygg_sym_runs.specs.ygg_bank.Values.{Inputs, Values}
use Rattle.ygg_sym_runs.specs.ygg_bank.declared.node.Id.{Id}
use Rattle.ygg_sym_runs.specs.ygg_bank.declared.node.Node.{Node}
use Rattle.ygg_sym_runs.specs.ygg_bank.declared.node.Node.TheVariants.{Const}
use Rattle.ygg_sym_runs.specs.ygg_shape_words_proofs_Terms.{made_is}
use Rattle.ygg_sym_runs.specs.ygg_meaning_laws.Direct.{Handled, Event, Reached, Chained, seen, direct_run}
use Rattle.ygg_sym_runs.specs.ygg_meaning_laws.RunPlaces.{base_at, asked_in}
use Rattle.ygg_sym_runs.specs.ygg_meaning_laws_proofs_Order.{block_follows}
use Rattle.ygg_sym_runs.specs.ygg_meaning_laws_proofs_Mirror.{block_mirrors}
use Rattle.ygg_sym_runs.specs.Names.{SymEnv}
use Rattle.ygg_sym_runs.specs.Exprs.{SymFunctions}
use Rattle.ygg_sym_runs.specs.ExpressionMeaning.{EnvShaped, Grows, Gives, worths}
use Rattle.ygg_sym_runs.proofs.Shaped.{env_wider}
use Rattle.ygg_sym_runs.proofs.Grows.{FunctionsGrow}
use Rattle.ygg_sym_runs.proofs.Values.{FunctionsMean}
use Rattle.ygg_sym_runs.specs.Runs.{SymMachine, sym_run}
use Rattle.ygg_sym_runs.specs.Meaning.{Low, is_set, MachineMeans}
use Rattle.ygg_sym_runs.proofs.Parts.{InScope}
use Rattle.ygg_sym_runs.proofs.Agreement.{block_grows, block_gives}
use Rattle.ygg_sym_runs.specs.Stops.{before_at, within_at, halt, further, Halted, first_stop, halted, halted_end}
use Rattle.ygg_sym_runs.specs.StopTerms.{SymHalted, SymFallen, Stops, halting_machine, sym_end, stop_whole}
use Rattle.ygg_sym_runs.proofs.StopMeaning.{halted_low, StopsMean}
use Rattle.ygg_sym_runs.proofs.Stopping.{stops_sound}
use Rattle.ygg_sym_runs.proofs.Halted.{halted_means, end_grows, end_gives}
use Rattle.ygg_sym_runs.proofs.Stopped.{bare, alike, ends_halted}

-- whether a stop of these events is set
abbrev stops_in : {Z : Type 0} → (ℕ → Bool) → List (Event Z) → Bool
stops_in bits [] = false
stops_in bits (e ∷ es) = bits (before_at e.place) || bits (within_at e.place) || stops_in bits es

or_three : (s a b c d : Bool) → s ≡ (c || a || b) → (s || d) ≡ (c || (a || b || d))
or_three s a b c d e = ap (λ z. z || d) e ∙ cases c a b
  where
    cases : (c a b : Bool) → ((c || a || b) || d) ≡ (c || (a || b || d))
    cases true a b = refl
    cases false true b = refl
    cases false false true = refl
    cases false false false = refl

or_false : (s : Bool) → s ≡ (s || false)
or_false true = refl
or_false false = refl

further_there : (m : Option Halt) → is_some (further m) ≡ is_some m
further_there None = refl
further_there (Some h) = refl

reached_in : {Z : Type 0} (bits : ℕ → Bool) (es : List (Event Z)) (last : ℕ) → (stops_in bits es || bits (before_at last)) ≡ is_some (first_stop bits es last)
reached_in bits [] last = cases (bits (before_at last))
  where
    cases : (b : Bool) → b ≡ is_some {T = Halt} (if b then Some (halt false 0) else None)
    cases true = refl
    cases false = refl
reached_in bits (e ∷ es) last = cases (bits (before_at e.place)) (bits (within_at e.place)) (reached_in bits es last)
  where
    cases : (a b : Bool) → (stops_in bits es || bits (before_at last)) ≡ is_some (first_stop bits es last) →
        ((a || b || stops_in bits es) || bits (before_at last))
        ≡ is_some {T = Halt} (if a then Some (halt false 0) else (if b then Some (halt true 0) else further (first_stop bits es last)))
    cases true b i = refl
    cases false true i = refl
    cases false false i = i ∙ sym (further_there (first_stop bits es last))

module _ {L B : Type 0} (handle : ℕ → Question → L → Handled L) (cut : Question → L → B) (lose : L → B) (bits : ℕ → Bool) where
  halted_stopped : (es : List (Event (Halted L B))) (from to : Halted L B) → Chained (halted handle cut lose bits) from es to →
      to.stopped ≡ (from.stopped || stops_in bits es)
  halted_stopped [] from to c = ap (λ (z : Halted L B). z.stopped) (sym c) ∙ or_false from.stopped
  halted_stopped (e ∷ es) from to c =
      let first : e.after.stopped ≡ (from.stopped || bits (before_at e.place) || bits (within_at e.place)) =
      ap (λ (h : Handled (Halted L B)). h.to.stopped) (sym c.1) in
      halted_stopped es e.after to c.2
      ∙ or_three e.after.stopped (bits (before_at e.place)) (bits (within_at e.place)) from.stopped (stops_in bits es) first

  seen_stops : (es : List (Event (Halted L B))) → stops_in bits es ≡ stops_in bits (map (seen handle (bare handle cut lose bits)) es)
  seen_stops [] = refl
  seen_stops (e ∷ es) = ap (λ z. bits (before_at e.place) || bits (within_at e.place) || z) (seen_stops es)

  -- a run on the machine with stops has stopped just where a stop of the run on the machine itself is set
  pub stopped_is : (eval : Eval) (space : Name → ℕ) (b : Block) (env : Env) (z : Halted L B) (last : ℕ) → z.stopped ≡ false →
      ((direct_run eval space (halted handle cut lose bits) b env z).to.stopped || bits (before_at last))
      ≡ is_some (first_stop bits (direct_run eval space handle b env z.to).events last)
  stopped_is eval space b env z last unset =
      let r = direct_run eval space (halted handle cut lose bits) b env z in
      let f = block_follows eval space (halted handle cut lose bits) b.statements 0 env z in
      let m = block_mirrors eval space (halted handle cut lose bits) handle (bare handle cut lose bits) b.statements 0 env z
      (alike handle cut lose bits r.events z r.to f.chained) in
      let s = halted_stopped r.events z r.to f.chained ∙ ap (λ k. k || stops_in bits r.events) unset ∙ seen_stops r.events
      ∙ ap (λ (x : Reached L). stops_in bits x.events) (sym m) in
      ap (λ k. k || bits (before_at last)) s ∙ reached_in bits (direct_run eval space handle b env z.to).events last

module _ {S F L B : Type 0} (inputs : Inputs) (v : Values) (kinds : List RuleKind) (defs : Named Signature) (functions : Functions) (terms : SymFunctions)
    (grow : FunctionsGrow terms) (mean : FunctionsMean inputs v kinds defs functions terms grow) (low : Low S L) (base : Low F B) (kind : BlockKind)
    (lower : Named Signature) (M : SymMachine S) (machine : ℕ → Question → L → Handled L) (laws : MachineMeans inputs v low kind lower M machine)
    (K : Stops S F) (cut : Question → L → B) (lose : L → B) (bits : ℕ → Bool) (stops : StopsMean low base inputs v kind lower K cut lose bits) where
  -- what is left, and whether the stop was reached, of a direct run
  pub record FallenIs (last : ℕ) (run : Reached L) (nodes : List Node) (out : SymFallen F) : Type 0 where
    pub has : base.Has nodes out.fallen
    pub wide : HasWidth nodes out.reached 1
    pub reached : is_set v out.reached ≡ is_some (first_stop bits run.events last)
    pub is : (stop : Halt) → first_stop bits run.events last ≡ Some stop →
        base_at cut lose stop.within (asked_in run.events) stop.event run.to ≡ Some (base.value v out.fallen)

  abbrev pub start_of : S → F → Id → SymHalted S F
  start_of from other never = record { to = from; fallen = other; stopped = never }

  pub fallen_grows : (last : ℕ) (b : Block) (vars args : SymEnv) (from : S) (other : F) → Grows (stop_whole kinds terms M K last b vars args from other)
  fallen_grows last b vars args from other nodes =
      let k = made kinds (Const (word 1 0)) nodes in
      let z = sym_run kinds terms (halting_machine kinds terms M K) b (vars ++ args) (start_of from other k.value) k.nodes in
      let e = sym_end kinds terms M K last z.value.to z.nodes in
      let h = K.bit (before_at last) e.nodes in
      let r = K.either z.value.to.stopped h.value h.nodes in
      let means = halted_means inputs v kinds terms low base kind lower M machine laws K cut lose bits stops in
      extends_both nodes k.nodes r.nodes (made_grows kinds (Const (word 1 0)) nodes)
      (extends_both k.nodes z.nodes r.nodes
      (block_grows inputs v kinds defs functions terms grow mean (halted_low low base) kind lower (halting_machine kinds terms M K)
      (halted machine cut lose bits) means
      b.statements 0 (vars ++ args) (start_of from other k.value) k.nodes)
      (extends_both z.nodes e.nodes r.nodes (end_grows inputs v kinds terms low base kind lower M machine laws K cut lose bits stops last z.value.to z.nodes)
      (extends_both e.nodes h.nodes r.nodes (stops.bit_grows (before_at last) e.nodes) (stops.either_grows z.value.to.stopped h.value h.nodes))))

  pub fallen_gives : (last : ℕ) (b : Block) (scope : Scope) (vars args : SymEnv) (from : S) (other : F) (nodes : List Node) →
      InScope inputs v kinds defs functions terms grow mean lower scope (worths v (vars ++ args)) →
      none (rules.in_order (map walked b.statements) scope).type_errors ≡ true → keeps kind b ≡ true → EnvShaped nodes (vars ++ args) →
      low.Has nodes from → base.Has nodes other →
      Gives inputs v (stop_whole kinds terms M K last b vars args from other) nodes
      (FallenIs last (direct_run (eval_with functions) M.space machine b (worths v (vars ++ args)) (low.value v from)))
  fallen_gives last b scope vars args from other nodes g n ke s l p h =
      let env = vars ++ args in
      let k = made kinds (Const (word 1 0)) nodes in
      let start = start_of from other k.value in
      let z = sym_run kinds terms (halting_machine kinds terms M K) b env start k.nodes in
      let e = sym_end kinds terms M K last z.value.to z.nodes in
      let t = K.bit (before_at last) e.nodes in
      let r = K.either z.value.to.stopped t.value t.nodes in
      let gk = made_grows kinds (Const (word 1 0)) nodes in
      let means = halted_means inputs v kinds terms low base kind lower M machine laws K cut lose bits stops in
      let gz = block_grows inputs v kinds defs functions terms grow mean (halted_low low base) kind lower (halting_machine kinds terms M K)
      (halted machine cut lose bits) means b.statements 0 env start k.nodes in
      let ge = end_grows inputs v kinds terms low base kind lower M machine laws K cut lose bits stops last z.value.to z.nodes in
      let gt = stops.bit_grows (before_at last) e.nodes in
      let gr = stops.either_grows z.value.to.stopped t.value t.nodes in
      let ht = fits_fewer inputs v t.nodes r.nodes gr h in
      let he = fits_fewer inputs v e.nodes t.nodes gt ht in
      let hz = fits_fewer inputs v z.nodes e.nodes ge he in
      let hk = fits_fewer inputs v k.nodes z.nodes gz hz in
      let zero : IsWord (word 1 0) = record { least = omega arith; most = omega arith; fits = omega arith } in
      let never = made_is inputs v kinds (Const (word 1 0)) nodes zero hk in
      let unset : is_set v k.value ≡ false = ap (λ (k : Number). k.bits == 1) never.is in
      let has : (halted_low low base).Has k.nodes start = (low.wider nodes k.nodes from gk l, base.wider nodes k.nodes other gk p, never.wide) in
      let a = block_gives inputs v kinds defs functions terms grow mean (halted_low low base) kind lower (halting_machine kinds terms M K)
      (halted machine cut lose bits) means b.statements 0 scope env start k.nodes g n ke (env_wider nodes k.nodes env gk s) has hz in
      let c = end_gives inputs v kinds terms low base kind lower M machine laws K cut lose bits stops last z.value.to z.nodes a.has he in
      let eval = eval_with functions in
      let run = direct_run eval M.space machine b (worths v env) (low.value v from) in
      let start_worth : Halted L B = (halted_low low base).value v start in
      let halted_run = direct_run eval M.space (halted machine cut lose bits) b (worths v env) start_worth in
      let ends = ends_halted machine cut lose bits eval M.space b (worths v env) start_worth last unset in
      let left = c.is ∙ ap (λ (w : Halted L B). halted_end machine cut lose bits last w) a.is_low ∙ ends in
      let z_to_t = extends_both z.nodes e.nodes t.nodes ge gt in
      let z_has = a.has in
      let tb = stops.bit_is (before_at last) e.nodes ht in
      let rb = stops.either_is z.value.to.stopped t.value t.nodes (wider z.nodes t.nodes z.value.to.stopped 1 z_to_t z_has.2) tb.wide h in
      let stopped : is_set v z.value.to.stopped ≡ halted_run.to.stopped = ap (λ (w : Halted L B). w.stopped) a.is_low in
      record {
        has = base.wider e.nodes r.nodes e.value (extends_both e.nodes t.nodes r.nodes gt gr) c.has;
        wide = rb.wide;
        reached = rb.is ∙ ap (λ x. x || is_set v t.value) stopped ∙ ap (λ x. halted_run.to.stopped || x) tb.is
            ∙ stopped_is machine cut lose bits eval M.space b (worths v env) start_worth last unset;
        is = λ stop first. stops_sound L B cut lose bits run.events run.to last (base.value v other) stop first ∙ ap (λ x. Some x) (sym left);
      }
