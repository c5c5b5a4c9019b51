-- Schedules that are made of what terms are worth, and ends with something on the side.
use Rattle.std.proofs.Common.{◌≡◌, ◌&&◌, Bool, true, false, List, [], ◌∷◌, length, replicate, refl, sym, ap, ◌∙◌}
use Rattle.std.proofs.Math.Seq.{take-append_seam}
use Rattle.ygg_value.specs.declared.row.Value.{Value}
use Rattle.ygg_syntax.specs.declared.tree.Declared.{Declared}
use Rattle.ygg_sym_laws.specs.ygg_meaning_laws_proofs_Tests.{left, right, bytes_equal}
use Rattle.ygg_sym_laws.specs.ygg_meaning.Environments.{Env, bind}
use Rattle.ygg_sym_laws.specs.ygg_meaning.Shapes.{shape_in, fits, values_fit, env_fits}
use Rattle.ygg_sym_laws.specs.ygg_meaning.Layer.{ClosedLayer}
use Rattle.ygg_sym_laws.specs.ygg_meaning.Machine.{Picks, State, based}
use Rattle.ygg_sym_laws.specs.ygg_meaning.Obligations.{Schedule, Obligation, IsRead, NoPicksPass}
use Rattle.ygg_sym_laws.specs.ygg_meaning.Refines.{Below, OnDisk, OnSpec, machine_below}
use Rattle.ygg_sym_laws.specs.ygg_meaning.Spec.{Outcome}
use Rattle.ygg_sym_laws.specs.ygg_meaning.Violates.{End, most, spec_after, passes}
use Rattle.std.specs.Prelude.{Option}
use Rattle.std.specs.Str.{bytes_eq}
use Rattle.ygg_sym_laws.specs.ygg_bank.Values.{Values}
use Rattle.ygg_sym_laws.specs.ygg_bank.declared.node.Id.{Id}
use Rattle.ygg_sym_laws.specs.ygg_bank.declared.node.Node.{Node}
use Rattle.ygg_sym_laws.specs.ygg_sym_runs.Meaning.{is_set}
use Rattle.ygg_oblige_laws.specs.Steps.{PassesSo}
use Rattle.ygg_oblige_laws.proofs.Digits.{both_hold}

-- a run that takes just these picks reads them
pub reads : (taken : Picks) → IsRead taken taken
reads taken = sym (take-append_seam taken (replicate (length taken) false))

-- declared names with values that fit them
pub bind_fits : (ds : List Declared) (vs : List Value) → values_fit ds vs ≡ true → env_fits ds (bind ds vs) ≡ true
bind_fits [] [] h = refl
bind_fits [] (v ∷ vs) h = absurd (cc)
bind_fits (d ∷ ds) [] h = absurd (cc)
bind_fits (d ∷ ds) (v ∷ vs) h =
    let here = left (fits (shape_in d.shape) v) (values_fit ds vs) h in
    let others = bind_fits ds vs (right (fits (shape_in d.shape) v) (values_fit ds vs) h) in
    both_hold (bytes_eq d.name.text d.name.text && fits (shape_in d.shape) v) (env_fits ds (bind ds vs))
    (both_hold (bytes_eq d.name.text d.name.text) (fits (shape_in d.shape) v) (bytes_equal d.name.text) here) others

-- waking what is below changes nothing
pub wakes_below : (G : Below) (f : Env) → (machine_below G).Wakes f [] (based f)
wakes_below (OnDisk d) f = (refl, refl)
wakes_below (OnSpec m) f = (refl, refl)

pub woken_below : (G : Below) (f : Env) (taken : Picks) (s : State Env) → (machine_below G).Wakes f taken s → s ≡ based f
woken_below (OnDisk d) f taken s h = h.1
woken_below (OnSpec m) f taken s h = h.1

-- the end with this on the side
abbrev pub with_side : End → Bool → End
with_side e side = record { answer = e.answer; to = e.to; side = side }

-- the obligation's conclusion holds where what is on the side holds and it holds with a side that does
abbrev pub Sided : ClosedLayer → Obligation → Type 0
Sided L o = (e : End) (out : Option Outcome) → passes L o e out ≡ (e.side && passes L o (with_side e true) out)

-- it doesn't look at the side
abbrev pub Unsided : ClosedLayer → Obligation → Type 0
Unsided L o = (e : End) (out : Option Outcome) → passes L o e out ≡ passes L o (with_side e true) out

-- no step passes with this end
abbrev pub Fails : ClosedLayer → Obligation → Schedule → End → Type 0
Fails L o x e = NoPicksPass (most L o) (λ picks. passes L o e (spec_after L o x picks))

module _ (v : Values) (L : ClosedLayer) (o : Obligation) (x : Schedule) (nodes : List Node) (a : Id) where
  -- where no step passes the term isn't 1
  pub fails_unset : (e : End) → PassesSo v L o x e nodes a → Fails L o x e → is_set v a ≡ false
  fails_unset e p f = cases (is_set v a) refl
    where
      cases : (b : Bool) → is_set v a ≡ b → is_set v a ≡ false
      cases false i = i
      cases true i = let s = p.some i in i ∙ sym s.2 ∙ f s.0 s.1

  pub sided_fails : Sided L o → (e : End) → PassesSo v L o x (with_side e true) nodes a → (e.side && is_set v a) ≡ false → Fails L o x e
  sided_fails sided e p h picks len =
      sided e (spec_after L o x picks) ∙ cases e.side h
    where
      cases : (s : Bool) → (s && is_set v a) ≡ false → (s && passes L o (with_side e true) (spec_after L o x picks)) ≡ false
      cases false i = refl
      cases true i = p.none i picks len

  pub sided_unset : Sided L o → (e : End) → PassesSo v L o x (with_side e true) nodes a → Fails L o x e → (e.side && is_set v a) ≡ false
  sided_unset sided e p f = cases e.side refl
    where
      cases : (s : Bool) → e.side ≡ s → (s && is_set v a) ≡ false
      cases false i = refl
      cases true i = fails_unset (with_side e true) p
          (λ picks len. sym (sided e (spec_after L o x picks) ∙ ap (λ z. z && passes L o (with_side e true) (spec_after L o x picks)) i) ∙ f picks len)

  pub unsided_unset : Unsided L o → (e : End) → PassesSo v L o x (with_side e true) nodes a → Fails L o x e → is_set v a ≡ false
  unsided_unset unsided e p f =
      fails_unset (with_side e true) p (λ picks len. sym (unsided e (spec_after L o x picks)) ∙ f picks len)
