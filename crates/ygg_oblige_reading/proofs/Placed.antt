-- The obligation at a place of a file's list, and the schedule that is read of it.
use Rattle.std.proofs.Common.{◌≡◌, ◌∙◌, ℕ, List, Option, Some, None, refl, sym, ap, subst}
use Rattle.std.specs.Option.{option_map}
use Rattle.std.specs.Prelude.{IsTrue, slice_get}
use Rattle.std.proofs.lemmas.Option.{slice_get-map}
use Rattle.ygg_syntax.specs.declared.tree.Declared.{Declared}
use Rattle.ygg_syntax.specs.declared.tree.Layer.{Layer}
use Rattle.ygg_oblige_list.specs.ygg_meaning.Obligations.{Obligation, Init, CallOf, CutOf, TickOf, CutTickOf, Idle, Again, name_of}
use Rattle.ygg_oblige_list.specs.ygg_meaning.Obligations as meaning
use Rattle.ygg_oblige_list.specs.ygg_meaning.Violates.{shapes_fit}
use Rattle.ygg_oblige_list.specs.ygg_meaning.Claims.{Claim, claims_of}
use Rattle.ygg_oblige_reading.specs.ygg_rules.declared.rule.RuleKind.{RuleKind}
use Rattle.ygg_oblige.specs.ygg_bank.Values.{Inputs}
use Rattle.ygg_oblige.specs.ygg_oblige_laws.LayerTerms.{OperationFits, ShapesKept}
use Rattle.ygg_oblige.specs.ygg_oblige_laws.Numbers.{arguments_of}
use Rattle.ygg_oblige.specs.ygg_oblige_laws.Numbers as terms
use Rattle.ygg_oblige_schedule.specs.Tables.{given_values}
use Rattle.ygg_oblige_reading.specs.Listing.{StandsIn}
use Rattle.ygg_oblige_reading.specs.Sites.{IsPlaced}
use Rattle.ygg_oblige_reading.proofs.NumbersAfter.{item_of}
use Rattle.ygg_oblige_reading.proofs.of_ygg_oblige_laws.ValuesGiven.{no_shapes}
use Rattle.ygg_oblige_schedule.specs.ygg_sched.Laws.{asked_at, asked_of}
use Rattle.ygg_oblige_schedule.specs.ygg_sched.Sites.{sites_of}
use Rattle.ygg_oblige_schedule.specs.ygg_sched.declared.schedule.Schedule.{Schedule}
use Rattle.ygg_oblige_schedule.proofs.of_ygg_sched.Standing.{sites_are_claims}
use Rattle.ygg_oblige_schedule.specs.Fitted.{FitsAt, IsFitted}
use Rattle.ygg_oblige_schedule.specs.Here.{below_of, file_of, inputs_of, layer_of, numbers_of, obligation_of, IsHere}
use Rattle.ygg_oblige_reading.specs.Meant.{IsNamed, Names, NamesShaped}
use Rattle.ygg_oblige_schedule.specs.Schedules.{given_here, named_here, IsRead, NamedShaped, StandsHere}
use Rattle.ygg_oblige_schedule.specs.declared.reader.EnvironmentReader.{EnvironmentReader}
use Rattle.ygg_oblige_schedule.proofs.Fitted.{Kept, fits_at}

-- an obligation to which a claim is the same, where there is a claim
found : {A B : Type 0} (f : A → B) (o : Option A) (y : B) → option_map f o ≡ Some y → (a : A) × (o ≡ Some a) × (f a ≡ y)
found f None y h = absurd (cc)
found f (Some a) y h = let same : f a ≡ y = cc in (a, refl, same)

module _ (kinds : List RuleKind) (r : EnvironmentReader) (place : ℕ) (inputs : Inputs) (p : IsPlaced kinds (file_of r) place r.site)
    (table : inputs_of r ≡ inputs)
    (shaped : NamesShaped kinds (file_of r) inputs place) where
  abbrev l : Layer
  l = r.site.layer.now

  abbrev claim : Claim
  claim = record { layer = layer_of r; below = below_of r; obligation = obligation_of r }

  pub here : IsHere r
  here = record {
    here = p.here;
    low_is = p.low_is;
    state_kept = p.typed.state_shapes;
    memory_kept = p.typed.memory_shapes;
    low_kept = subst ShapesKept (sym p.low_is) p.typed.low_shapes;
  }

  arguments_kept : (o : Obligation) → StandsIn l.operations l.ticks o r.site.number → ShapesKept (arguments_of o)
  arguments_kept Init s = no_shapes
  arguments_kept (CallOf o) s =
      (item_of (OperationFits (file_of r).defs (below_of r) (layer_of r)) l.operations r.site.number o p.typed.operations_typed s).shapes
  arguments_kept (CutOf o) s =
      (item_of (OperationFits (file_of r).defs (below_of r) (layer_of r)) l.operations r.site.number o p.typed.operations_typed s).shapes
  arguments_kept (TickOf t) s = no_shapes
  arguments_kept (CutTickOf t) s = no_shapes
  arguments_kept Idle s = no_shapes
  arguments_kept Again s = no_shapes

  pub stands : StandsHere r
  stands = record { stands = p.stands; kept = arguments_kept (obligation_of r) p.stands; numbers = p.numbers }

  names_here : Names kinds (file_of r) inputs place (named_here r)
  names_here = subst (λ (i : Inputs). Names kinds (file_of r) i place (named_here r)) table (p.names (inputs_of r))

  pub named_shaped : NamedShaped r
  named_shaped = shaped claim (named_here r) p.claim names_here

  pub named : (x : Schedule) → IsRead r (named_here r) x → IsNamed kinds (file_of r) inputs place x
  named x h = record {
    claim = claim;
    there = p.claim;
    name = h.name;
    names = subst (λ (y : meaning.Schedule). Names kinds (file_of r) inputs place y) (sym h.means) names_here;
    shaped = subst (λ (y : meaning.Schedule). IsTrue (shapes_fit (layer_of r) (obligation_of r) y)) (sym h.means) named_shaped;
  }

  pub fitted : (x : Schedule) → IsRead r (named_here r) x → IsFitted (file_of r) place x
  fitted x h =
      let f = file_of r in
      let o = obligation_of r in
      let asked : option_map asked_at (slice_get (sites_of f) place) ≡ Some (asked_of claim) =
      sym (slice_get-map asked_at (sites_of f) place) ∙ ap (λ (xs : List (Layer × List Declared × Obligation)). slice_get xs place) (sites_are_claims f)
      ∙ slice_get-map asked_of (claims_of f) place ∙ ap (option_map asked_of) p.claim in
      let z = found asked_at (slice_get (sites_of f) place) (asked_of claim) asked in
      let kept : Kept (layer_of r) =
      record { state = p.typed.state_shapes; memory = p.typed.memory_shapes; low = p.typed.low_shapes } in
      let fits =
      fits_at z.0.place (below_of r) (layer_of r) (inputs_of r) (terms.numbers_of (below_of r) (layer_of r) o (numbers_of r).args) (given_here r)
      (given_values (inputs_of r) (numbers_of r).args (arguments_of o)) kept x o named_shaped (arguments_kept o p.stands) h.means h.many in
      record {
        site = z.0;
        there = z.1;
        claim = claim;
        claim_there = p.claim;
        asked = z.2;
        name = h.name ∙ ap (λ (a : Layer × List Declared × Obligation). name_of a.0.name.text a.2) (sym z.2);
        fits = subst (λ (a : Layer × List Declared × Obligation). FitsAt (record { place = z.0.place; layer = a.0; low = a.1; obligation = a.2 }) x)
            (sym z.2) fits;
      }
