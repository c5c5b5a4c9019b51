-- What a digit says of a schedule: it is 0 exactly where the schedule violates the obligation.
use Rattle.std.proofs.Common.{◌≡◌, ◌⊎◌, ◌↔◌, ◌&&◌, ◌||◌, not, ℕ, Bool, true, false, List, [], inl, inr, refl, sym, ap, ◌∙◌}
use Rattle.std.specs.Prelude.{Option, Some, None, is_some}
use Rattle.ygg_oblige_laws.specs.ygg_meaning.Layer.{ClosedLayer}
use Rattle.ygg_oblige_laws.specs.ygg_meaning.Obligations.{Halt, Schedule, Obligation, Again, StopsAt}
use Rattle.ygg_oblige_laws.specs.ygg_meaning.Refines.{Below, machine_below}
use Rattle.ygg_oblige_laws.specs.ygg_meaning.Violates.{End, Meets, Violates, shapes_fit, spec_after}
use Rattle.ygg_oblige_laws.proofs.of_ygg_meaning_laws.OneEnd.{one_conclusion}
use Rattle.ygg_oblige_laws.specs.ygg_bank.Values.{Values}
use Rattle.ygg_oblige_laws.specs.ygg_bank.declared.node.Id.{Id}
use Rattle.ygg_oblige_laws.specs.ygg_bank.declared.node.Node.{Node}
use Rattle.ygg_oblige_laws.specs.ygg_sym_runs.Meaning.{is_set}
use Rattle.ygg_oblige_laws.specs.Steps.{PassesSo}
use Rattle.ygg_oblige_laws.proofs.Digits.{refuted, refutes}
use Rattle.ygg_oblige_laws.proofs.Schedules.{Fails, Sided, with_side, fails_unset, sided_fails, sided_unset}

-- a digit is 1 or 0
pub either : {A : Type 0} (b : Bool) → (b ≡ true → A) → (b ≡ false → A) → A
either true f g = f refl
either false f g = g refl

-- and not both
pub not_both : {A : Type 0} (b : Bool) → b ≡ true → b ≡ false → A
not_both b p q = let clash : true ≡ false = sym p ∙ q in absurd (cc)

-- where a run stops there is a stop
pub stops_there : (s : Option Halt) (within : Bool) (event : ℕ) → StopsAt s within event → is_some s ≡ true
stops_there None within event stops = absurd stops
stops_there (Some h) within event stops = refl

module _ (L : ClosedLayer) (G : Below) (o : Obligation) (x : Schedule) (digit : Bool) where
  -- no runs meet the obligation's hypotheses, and the digit is 1
  pub record Unmet : Type 0 where
    pub unmet : (end : End) → Meets L (machine_below G) o x end → ⊥
    pub is : digit ≡ true

  -- runs meet them, and the digit is 0 exactly where the conclusion fails whatever the specification picks
  pub record Met : Type 0 where
    pub end : End
    pub meets : Meets L (machine_below G) o x end
    pub fails : digit ≡ false → Fails L o x end
    pub failing : Fails L o x end → digit ≡ false

  abbrev pub Judged : Type 0
  Judged = Unmet ⊎ Met

  -- whichever runs have the schedule's picks, their conclusion is the same
  pub judged_exact : Judged → (digit ≡ false) ↔ Violates L (machine_below G) o x
  judged_exact (inl u) = (λ e. not_both digit u.is e, λ w. absurd (u.unmet w.end w.meets))
  judged_exact (inr m) = (
    λ e. record { end = m.end; meets = m.meets; fails = m.fails e },
    λ w. m.failing (λ picks len.
        one_conclusion G L o x m.end w.end m.meets.reached w.meets.reached (spec_after L o x picks) ∙ w.fails picks len),
  )

  -- the schedule's values have the declared shapes, and the digit judges it
  pub record NamedSo : Type 0 where
    pub shaped : shapes_fit L o x ≡ true
    pub judged : Judged

  module _ (hypothesis conclusion : Bool) (is : digit ≡ (not hypothesis || conclusion)) where
    -- where the hypothesis is 0
    pub unmet_so : hypothesis ≡ false → ((end : End) → Meets L (machine_below G) o x end → ⊥) → Judged
    unmet_so e unmet = inl (record { unmet = unmet; is = is ∙ ap (λ z. not z || conclusion) e })

    -- where it is 1
    pub met_so : (end : End) → Meets L (machine_below G) o x end → hypothesis ≡ true → (conclusion ≡ false → Fails L o x end) →
        (Fails L o x end → conclusion ≡ false) → Judged
    met_so end meets e fails failing = inr (record {
      end = end;
      meets = meets;
      fails = λ d. fails (refuted hypothesis conclusion (sym is ∙ d)).second;
      failing = λ f. is ∙ refutes hypothesis conclusion (record { first = e; second = failing f });
    })

  module _ (v : Values) (end : End) (meets : Meets L (machine_below G) o x end) (hypothesis : Bool) (holds : hypothesis ≡ true) (passing : List Node)
      (some : Id) where
    -- the conclusion is that some step of the specification passes
    pub met_plain : digit ≡ (not hypothesis || is_set v some) → PassesSo v L o x end passing some → Judged
    met_plain is p =
        met_so hypothesis (is_set v some) is end meets holds (λ e. p.none e) (λ f. fails_unset v L o x passing some end p f)

    -- the conclusion is that too, and what stands on the side
    pub met_sided : Sided L o → digit ≡ (not hypothesis || (end.side && is_set v some)) → PassesSo v L o x (with_side end true) passing some → Judged
    met_sided sided is p =
        met_so hypothesis (end.side && is_set v some) is end meets holds (λ e. sided_fails v L o x passing some sided end p e)
        (λ f. sided_unset v L o x passing some sided end p f)

-- the conclusion of a recovery after another is what stands on the side
pub met_again : (L : ClosedLayer) (G : Below) (x : Schedule) (digit : Bool) (end : End) → Meets L (machine_below G) Again x end → (hypothesis : Bool) →
    hypothesis ≡ true → digit ≡ (not hypothesis || end.side) → Judged L G Again x digit
met_again L G x digit end meets hypothesis holds is =
    met_so L G Again x digit hypothesis end.side is end meets holds (λ e picks len. e) (λ f. f [] refl)
