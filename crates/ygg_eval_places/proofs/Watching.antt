-- The machine below notes what it takes, and where power fails.
use Rattle.std.proofs.Common.{
  ◌≡◌,
  ◌≤◌,
  ◌+◌,
  ℕ,
  zero,
  suc,
  Bool,
  true,
  false,
  if◌then◌else◌,
  List,
  ◌++◌,
  length,
  Option,
  Some,
  None,
  is_some,
  option_map,
  refl,
  sym,
  ap,
  ◌∙◌,
  arith,
}
use Rattle.ygg_value.specs.declared.row.Value.{Value}
use Rattle.ygg_syntax.specs.Files.{IsDerivable}
use Rattle.ygg_syntax.specs.declared.tree.Declared.{Declared}
use Rattle.ygg_syntax.specs.declared.tree.File.{File}
use Rattle.ygg_eval.specs.ygg_type_rules.TypeErrors.{none}
use Rattle.ygg_eval.specs.ygg_type_rules.Files.{type_errors_of}
use Rattle.ygg_eval.specs.ygg_type_proofs_Least.{is_empty}
use Rattle.ygg_eval.specs.ygg_meaning.Environments.{Env, bind}
use Rattle.ygg_eval.specs.ygg_meaning.Machine.{Picks, State, based}
use Rattle.ygg_eval.specs.ygg_meaning.Obligations.{Halt}
use Rattle.ygg_eval.specs.ygg_meaning.Progress.{Answer, Question}
use Rattle.ygg_eval.specs.ygg_meaning.Refines.{Below}
use Rattle.ygg_eval.specs.ygg_meaning.Shapes.{env_fits, values_fit}
use Rattle.ygg_eval.specs.ygg_meaning.Stack.{tables_of}
use Rattle.ygg_eval.proofs.of_ygg_meaning_laws.Derived.{derivable_derived}
use Rattle.ygg_eval.specs.Files.{IsStateBelow}
use Rattle.ygg_eval_places.specs.ygg_sym_runs.Stops.{before_at, within_at, halt}
use Rattle.ygg_eval_places.specs.ygg_sym_laws.Fronts.{handle_on, takes_on, cut_on, cut_takes_on, lose_on, lose_takes_on}
use Rattle.ygg_eval.specs.Layers.{below_at, variables_at}
use Rattle.ygg_eval.proofs.Blocks.{bind_fits, blocks_kept}
use Rattle.ygg_eval.proofs.OnDisk.{variables_zero}
use Rattle.ygg_eval.proofs.OnSpec.{layer_fits, there}
use Rattle.ygg_eval_places.specs.Belows.{
  Cut,
  Noted,
  Stands,
  cut_of,
  failing,
  fallen_at_end,
  falls_before,
  falls_by,
  falls_there,
  first_of,
  noted_of,
  notes_below,
}
use Rattle.ygg_eval_places.specs.Steps.{Answered}
use Rattle.ygg_eval_places.specs.declared.below.BelowState.{BelowState}
use Rattle.ygg_eval_places.specs.declared.below.Fallen.{Fallen}
use Rattle.ygg_eval_places.proofs.OnSpec.{at_spec}

-- a file of the program stands
pub stands : (file : File) → none (type_errors_of file) ≡ true → ∥ IsDerivable file ∥₁ → (number : ℕ) → number ≤ length file.layers → Stands file number
stands file fine derivable number few = record {
  kept = blocks_kept file (derivable_derived file derivable);
  typed = is_empty (type_errors_of file) fine;
  there = few;
}

-- values that fit are a state of the machine of their number
pub state_below : (file : File) (number : ℕ) (low : List Value) → number ≤ length file.layers → values_fit (variables_at file number) low ≡ true →
    IsStateBelow (below_at file number) (based (bind (variables_at file number) low))
state_below file zero low few fit = record {
  tables = bind (variables_at file 0) low;
  is = refl;
  sized = ap (λ (ds : List Declared). env_fits ds (bind (variables_at file 0) low)) (sym (variables_zero (tables_of file.disk) file.layers))
      ∙ bind_fits (variables_at file 0) low fit;
}
state_below file (suc place) low few fit =
    let (l, here) = there file.layers place few in
    at_spec file place l here (λ G ds. IsStateBelow G (based (bind ds low)))
    (record { vars = bind l.state low; is = refl; shaped = bind_fits l.state low (layer_fits file place l low here fit) })

cut_same : (stop : Halt) (a b : Env) (s : Bool) (ps qs : Picks) → a ≡ b → s ≡ true → ps ≡ qs →
    record { stop = stop; base = a; shaped = s; picks = ps } ≡ (let c : Cut = record { stop = stop; base = b; shaped = true; picks = qs } in c)
cut_same stop a b s ps qs e f g = cc

module _ (file : File) (number : ℕ) where
  -- what is noted of a failure
  pub fell_noted : (s : BelowState) (within : Bool) (low : List Value) (picks more : Picks) (base : Env) → bind (variables_at file number) low ≡ base →
      values_fit (variables_at file number) low ≡ true → picks ≡ s.picks ++ more →
      noted_of file number (record s { fallen = Some (record { stop = record { within = within; event = s.asked }; low = low; picks = picks }) })
      ≡ failing (Some (falls_there within base more (noted_of file number s))) (noted_of file number s)
  fell_noted s within low picks more base e f g =
      ap (λ (c : Cut). failing (Some c) (noted_of file number s))
      (cut_same (halt within s.asked) (bind (variables_at file number) low) base (values_fit (variables_at file number) low) picks (s.picks ++ more) e f g)

  module _ (G : Below) (bits stops last : ℕ → Bool) where
    abbrev noted : BelowState → Noted
    noted = noted_of file number

    -- power that has failed doesn't fail again
    pub fallen_stays : (s : BelowState) (other : Option Cut) → is_some s.fallen ≡ true →
        noted_of file number s
        ≡ failing (first_of G bits stops last (noted_of file number s).fallen other) (noted_of file number s)
    fallen_stays s other h = at s.fallen h
      where
        at : (f : Option Fallen) → is_some f ≡ true → noted (record s { fallen = f })
            ≡ failing (first_of G bits stops last (noted (record s { fallen = f })).fallen other) (noted (record s { fallen = f }))
        at None h = absurd (cc)
        at (Some f) h = refl

    none_noted : (f : Option Fallen) → is_some f ≡ false → option_map (cut_of file number) f ≡ None
    none_noted None h = refl
    none_noted (Some f) h = absurd (cc)

    -- where it has not failed yet
    first_is : (s : BelowState) (other : Option Cut) → is_some s.fallen ≡ false → first_of G bits stops last (noted s).fallen other ≡ other
    first_is s other h = ap (λ o. first_of G bits stops last o other) (none_noted s.fallen h)

    failing_none : (s : BelowState) → is_some s.fallen ≡ false → noted s ≡ failing None (noted s)
    failing_none s h = ap (λ o. failing o (noted s)) (none_noted s.fallen h)

    module _ (s : BelowState) (z : Noted) (fresh : is_some s.fallen ≡ false) (i : ℕ) where
      -- it fails at the end
      pub ends : stops (before_at i) ≡ true →
          z ≡ failing (Some (falls_there false (lose_on G last (noted_of file number s).at) (lose_takes_on G last (noted_of file number s).at)
          (noted_of file number s))) (noted_of file number s) →
          z ≡ failing (fallen_at_end G bits stops last i (noted_of file number s)) (noted_of file number s)
      ends h e =
          e ∙ sym (ap (λ o. failing o (noted s)) (first_is s (falls_before G bits stops last i (noted s) None) fresh
          ∙ ap (λ (b : Bool). if b then Some (falls_there false (lose_on G last (noted s).at) (lose_takes_on G last (noted s).at) (noted s)) else None) h))

      -- or doesn't
      pub ends_well : stops (before_at i) ≡ false → z ≡ noted_of file number s →
          z ≡ failing (fallen_at_end G bits stops last i (noted_of file number s)) (noted_of file number s)
      ends_well h e =
          e ∙ failing_none s fresh ∙ sym (ap (λ o. failing o (noted s)) (first_is s (falls_before G bits stops last i (noted s) None) fresh
          ∙ ap (λ (b : Bool). if b then Some (falls_there false (lose_on G last (noted s).at) (lose_takes_on G last (noted s).at) (noted s)) else None) h))

      module _ (q : Question) where
        -- a stop before a question, and one within it
        abbrev set_by : Bool → Bool → Option Cut
        set_by before within =
            if before then Some (falls_there false (lose_on G last (noted s).at) (lose_takes_on G last (noted s).at) (noted s))
            else (if within then Some (falls_there true (cut_on G last q (noted s).at) (cut_takes_on G last q (noted s).at) (noted s)) else None)

        -- it fails before the question
        pub fails_before : stops (before_at i) ≡ true →
            z ≡ failing (Some (falls_there false (lose_on G last (noted_of file number s).at) (lose_takes_on G last (noted_of file number s).at)
            (noted_of file number s))) (noted_of file number s) →
            z ≡ failing (first_of G bits stops last (noted_of file number s).fallen (falls_by G bits stops last i q (noted_of file number s)))
            (noted_of file number s)
        fails_before h e =
            e ∙ sym (ap (λ o. failing o (noted s)) (first_is s (falls_by G bits stops last i q (noted s)) fresh
            ∙ ap (λ (b : Bool). set_by b (stops (within_at i))) h))

        -- or within it
        pub fails_within : stops (before_at i) ≡ false → stops (within_at i) ≡ true →
            z ≡ failing (Some (falls_there true (cut_on G last q (noted_of file number s).at) (cut_takes_on G last q (noted_of file number s).at)
            (noted_of file number s))) (noted_of file number s) →
            z ≡ failing (first_of G bits stops last (noted_of file number s).fallen (falls_by G bits stops last i q (noted_of file number s)))
            (noted_of file number s)
        fails_within h g e =
            e ∙ sym (ap (λ o. failing o (noted s)) (first_is s (falls_by G bits stops last i q (noted s)) fresh
            ∙ ap (λ (b : Bool). set_by b (stops (within_at i))) h ∙ ap (λ (b : Bool). set_by false b) g))

        -- or not at all
        pub fails_not : stops (before_at i) ≡ false → stops (within_at i) ≡ false → z ≡ noted_of file number s →
            z ≡ failing (first_of G bits stops last (noted_of file number s).fallen (falls_by G bits stops last i q (noted_of file number s)))
            (noted_of file number s)
        fails_not h g e =
            e ∙ failing_none s fresh ∙ sym (ap (λ o. failing o (noted s)) (first_is s (falls_by G bits stops last i q (noted s)) fresh
            ∙ ap (λ (b : Bool). set_by b (stops (within_at i))) h ∙ ap (λ (b : Bool). set_by false b) g))

  noted_same : (a b : State Env) (s : Bool) (ps qs : Picks) (m n : ℕ) (o p : Option Cut) → a ≡ b → s ≡ true → ps ≡ qs → m ≡ n → o ≡ p →
      record { at = a; shaped = s; picks = ps; asked = m; fallen = o }
      ≡ (let z : Noted = record { at = b; shaped = true; picks = qs; asked = n; fallen = p } in z)
  noted_same a b s ps qs m n o p e f g h k = cc

  -- a question, once it is seen whether power fails
  pub record IsNoted (bits stops last : ℕ → Bool) (i : ℕ) (q : Question) (from after : BelowState) (given : Answer) : Type 0 where
    pub answer : given ≡ (notes_below (below_at file number) bits stops last i q (noted_of file number from)).answer
    pub to : noted_of file number after ≡ (notes_below (below_at file number) bits stops last i q (noted_of file number from)).to

  pub is_noted : (bits stops last : ℕ → Bool) (i : ℕ) (q : Question) (from seen done to : BelowState) (answer : Answer) →
      noted_of file number seen
      ≡ failing (first_of (below_at file number) bits stops last (noted_of file number from).fallen
      (falls_by (below_at file number) bits stops last i q (noted_of file number from))) (noted_of file number from) →
      Answered file number bits i q seen.low answer done.low seen.picks done.picks → done.asked ≡ seen.asked → done.fallen ≡ seen.fallen →
      to ≡ record done { asked = seen.asked + 1 } → IsNoted bits stops last i q from to answer
  is_noted bits stops last i q from seen done to answer watched answered asked fallen last_is =
      let G = below_at file number in
      let at : (noted_of file number seen).at ≡ (noted_of file number from).at = ap (λ (z : Noted). z.at) watched in
      let asked_from : seen.asked ≡ from.asked = ap (λ (z : Noted). z.asked) watched in
      let more : seen.asked + 1 ≡ suc from.asked = let e = asked_from in omega (arith, e) in
      record {
        answer = answered.answer ∙ ap (λ z. (handle_on G bits i q z).answer) at;
        to = ap (noted_of file number) last_is
            ∙ noted_same (based (bind (variables_at file number) done.low)) (handle_on G bits i q (noted_of file number from).at).to
            (values_fit (variables_at file number) done.low) done.picks (from.picks ++ takes_on G bits i q (noted_of file number from).at) (seen.asked + 1)
            (suc from.asked) (option_map (cut_of file number) done.fallen)
            (first_of G bits stops last (noted_of file number from).fallen (falls_by G bits stops last i q (noted_of file number from)))
            (answered.to ∙ ap (λ z. (handle_on G bits i q z).to) at)
            answered.fit
            (answered.taken ∙ ap (λ z. seen.picks ++ takes_on G bits i q z) at
            ∙ ap (λ ps. ps ++ takes_on G bits i q (noted_of file number from).at) (ap (λ (z : Noted). z.picks) watched))
            more
            (ap (option_map (cut_of file number)) fallen ∙ ap (λ (z : Noted). z.fallen) watched);
      }
