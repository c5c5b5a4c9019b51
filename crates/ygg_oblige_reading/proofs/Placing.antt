-- Obligations and schedules by their places in a file's lists.
use Rattle.std.proofs.Common.{◌≡◌, ◌+◌, ℕ, zero, suc, List, [], ◌∷◌, ◌++◌, length, take, Some, refl, sym, ap, ◌∙◌, subst, append_assoc, arith}
use Rattle.std.specs.Prelude.{slice_get}
use Rattle.std.specs.Option.{option_map}
use Rattle.std.proofs.lemmas.List.{length-append, length-map}
use Rattle.std.proofs.lemmas.Option.{slice_get-map, slice_get_within}
use Rattle.ygg_rules.specs.declared.rule.RuleKind.{RuleKind}
use Rattle.ygg_syntax.specs.declared.tree.Declared.{Declared}
use Rattle.ygg_syntax.specs.declared.tree.DiskText.{DiskText}
use Rattle.ygg_syntax.specs.declared.tree.File.{File}
use Rattle.ygg_syntax.specs.declared.tree.Layer.{Layer}
use Rattle.ygg_oblige_list.specs.ygg_meaning.Layer.{ClosedLayer}
use Rattle.ygg_oblige_list.specs.ygg_meaning.Meaning.{functions_of}
use Rattle.ygg_oblige_list.specs.ygg_meaning.Obligations.{Obligation, obligations_of}
use Rattle.ygg_oblige_list.specs.ygg_meaning.Refines.{Below}
use Rattle.ygg_oblige_list.specs.ygg_meaning.Claims.{Claim, claims_at, claims_of, claims_on}
use Rattle.ygg_oblige_list.specs.ygg_meaning.Stack.{Layers, below_of, layers_of}
use Rattle.ygg_oblige.specs.ygg_bank.Values.{Inputs}
use Rattle.ygg_oblige.specs.ygg_sym_runs.Exprs.{SymFunctions}
use Rattle.ygg_oblige.specs.ygg_sym_laws.Means.{terms_of}
use Rattle.ygg_oblige_schedule.specs.ygg_eval.Layers.{below_at, closed_at, variables_at}
use Rattle.ygg_oblige_schedule.specs.ygg_eval.Numbers.{IsAt}
use Rattle.ygg_oblige_schedule.proofs.of_ygg_eval.Numbers.{below_is_numbered, listed_is_numbered}
use Rattle.ygg_oblige.specs.ygg_oblige_laws.LayerTerms.{LayerTyped}
use Rattle.ygg_oblige.specs.ygg_oblige_laws.Numbers.{Numbers, numbers_of}
use Rattle.ygg_oblige.specs.ygg_oblige_laws.TermStates.{state_words}
use Rattle.ygg_oblige.specs.ygg_oblige_laws.Terms.{after_all, after_layers}
use Rattle.ygg_oblige.specs.ygg_oblige_laws.Schedules.{all_schedules, layer_schedules, schedule_of, schedules_of}
use Rattle.ygg_oblige_reading.proofs.Lists.{get_left, get_right}
use Rattle.ygg_oblige_reading.specs.Sites.{IsPlaced, IsSite, layer_here, obligation_here}
use Rattle.ygg_oblige_schedule.specs.declared.site.Site.{Site}

-- an item of what a layer adds to a list, behind what the layers below have added
module _ {X : Type 0} (F : Layers → List X) (own : ClosedLayer → Layers → List X)
    (step : (L : ClosedLayer) (lower : Layers) → F (L ∷ lower) ≡ F lower ++ own L lower)
  where
    added_at : (upper lower : Layers) (L : ClosedLayer) (k n : ℕ) (x : X) → slice_get (own L lower) k ≡ Some x → length (F lower) + k ≡ n →
        slice_get (F (upper ++ L ∷ lower)) n ≡ Some x
    added_at [] lower L k n x h e = ap (λ xs. slice_get xs n) (step L lower) ∙ get_right (F lower) (own L lower) n k e ∙ h
    added_at (K ∷ upper) lower L k n x h e =
        let rest = upper ++ L ∷ lower in
        let found = added_at upper lower L k n x h e in
        ap (λ xs. slice_get xs n) (step K rest) ∙ get_left (F rest) (own K rest) n (slice_get_within (F rest) n x found) ∙ found

counts : (p q below own others theirs count : ℕ) → p ≡ below + own → q ≡ others + theirs → own ≡ count → theirs ≡ count → below ≡ others → p ≡ q
counts p q below own others theirs count a b c d e = omega (arith, a, b, c, d, e)

module _ (kinds : List RuleKind) (terms : SymFunctions) (inputs : Inputs) where
  -- the schedule of an obligation among those of its layer
  schedule_listed : (G : Below) (L : ClosedLayer) (number : ℕ) (os : List Obligation) (k : ℕ) (o : Obligation) (start : ℕ) → slice_get os k ≡ Some o →
      slice_get (schedules_of G L inputs number os start) k ≡ Some (schedule_of G L inputs number o (after_all kinds terms L G (take k os) start))
  schedule_listed G L number [] k o start h = absurd (cc)
  schedule_listed G L number (x ∷ os) zero o start h = let s : x ≡ o = cc in ap (λ (y : Obligation). Some (schedule_of G L inputs number y start)) s
  schedule_listed G L number (x ∷ os) (suc k) o start h = schedule_listed G L number os k o (numbers_of G L x start).next h

  -- there are as many schedules as obligations
  schedules_count : (G : Below) (L : ClosedLayer) (number : ℕ) (os : List Obligation) (start : ℕ) → length (schedules_of G L inputs number os start) ≡ length os
  schedules_count G L number [] start = refl
  schedules_count G L number (o ∷ os) start = ap (λ n. suc n) (schedules_count G L number os (numbers_of G L o start).next)

  all_count : (disk : DiskText) (ls : Layers) → length (all_schedules kinds terms disk inputs ls) ≡ length (claims_on disk ls)
  all_count disk [] = refl
  all_count disk (L ∷ lower) =
      let G = below_of disk lower in
      let os = obligations_of L.layer in
      let below = all_schedules kinds terms disk inputs lower in
      let number = after_layers kinds terms disk lower in
      let a = length-append below (layer_schedules G L inputs number) in
      let b = length-append (claims_on disk lower) (claims_at L G) in
      let c = schedules_count G L number os (number + state_words L) in
      let d : length (claims_at L G) ≡ length os = length-map os (λ (o : Obligation). record { layer = L; below = G; obligation = o }) in
      counts _ _ _ _ _ _ _ a b c d (all_count disk lower)

module _ (kinds : List RuleKind) (f : File) (place : ℕ) (s : Site) (w : IsSite kinds f place s) where
  abbrev L : ClosedLayer
  L = layer_here f s

  abbrev G : Below
  G = below_of f.disk w.lower

  abbrev o : Obligation
  o = obligation_here s

  abbrev claim_with : Below → ClosedLayer → Claim
  claim_with H K = record { layer = K; below = H; obligation = o }

  claim_at : slice_get (claims_of f) place ≡ Some (claim_with G L)
  claim_at =
      ap (λ (ls : Layers). slice_get (claims_on f.disk ls) place) w.layers
      ∙ added_at (claims_on f.disk) (λ K lower. claims_at K (below_of f.disk lower)) (λ K lower. refl) w.upper w.lower L w.at place (claim_with G L)
      (slice_get-map (claim_of G) (obligations_of s.layer.now) w.at ∙ ap (option_map (claim_of G)) w.listed) w.place_is
    where
      claim_of : Below → Obligation → Claim
      claim_of H x = record { layer = L; below = H; obligation = x }

  abbrev start : ℕ
  start = after_all kinds (terms_of kinds f.defs) L G (take w.at (obligations_of s.layer.now)) (s.states + state_words L)

  starts : s.numbers.args ≡ start
  starts = ap (λ (n : Numbers). n.args) w.numbers

  schedule_at : (inputs : Inputs) →
      slice_get (all_schedules kinds (terms_of kinds f.defs) f.disk inputs (layers_of f)) place ≡ Some (schedule_of G L inputs s.states o s.numbers.args)
  schedule_at inputs =
      let terms = terms_of kinds f.defs in
      let all = all_schedules kinds terms f.disk inputs in
      let number = after_layers kinds terms f.disk w.lower in
      let os = obligations_of s.layer.now in
      let e : length (all w.lower) + w.at ≡ place = ap (λ n. n + w.at) (all_count kinds terms inputs f.disk w.lower) ∙ w.place_is in
      ap (λ (ls : Layers). slice_get (all ls) place) w.layers
      ∙ added_at all (λ K lower. layer_schedules (below_of f.disk lower) K inputs (after_layers kinds terms f.disk lower)) (λ K lower. refl) w.upper w.lower L
      w.at place (schedule_of G L inputs number o (after_all kinds terms L G (take w.at os) (number + state_words L)))
      (schedule_listed kinds terms inputs G L number os w.at o (number + state_words L) w.listed) e
      ∙ ap (λ n. Some (schedule_of G L inputs n o (after_all kinds terms L G (take w.at os) (n + state_words L)))) (sym w.states)
      ∙ ap (λ n. Some (schedule_of G L inputs s.states o n)) (sym starts)

  -- the same by the number of its layer
  pub placed : IsPlaced kinds f place s
  placed =
      let at : IsAt f (length w.lower) L = listed_is_numbered f w.upper w.lower L w.layers in
      let below : G ≡ below_at f (length w.lower) =
      below_is_numbered f (w.upper ++ L ∷ []) w.lower (w.layers ∙ sym (append_assoc w.upper (L ∷ []) w.lower)) in
      let layer : s.layer.now ≡ at.layer = ap (λ (K : ClosedLayer). K.layer) at.is in
      let low : s.low.now ≡ variables_at f (length w.lower) = ap (λ (K : ClosedLayer). K.low) at.is in
      let low_here : s.low.now ≡ variables_at f s.place = low ∙ ap (variables_at f) w.counts in
      let below_here : G ≡ below_at f s.place = below ∙ ap (below_at f) w.counts in
      let made : List Declared → ClosedLayer = λ z. record { functions = functions_of f.defs; layer = s.layer.now; low = z } in
      let closed_here : L ≡ closed_at f s.place s.layer.now = ap made low_here in
      record {
        here = ap (slice_get f.layers) (sym w.counts) ∙ at.there ∙ ap (λ (l : Layer). Some l) (sym layer);
        low_is = low_here;
        claim = claim_at ∙ ap (λ (H : Below). Some (claim_with H L)) below_here
            ∙ ap (λ (K : ClosedLayer). Some (claim_with (below_at f s.place) K)) closed_here;
        names = λ inputs. schedule_at inputs ∙ ap (λ (H : Below). Some (schedule_of H L inputs s.states o s.numbers.args)) below_here
            ∙ ap (λ (K : ClosedLayer). Some (schedule_of (below_at f s.place) K inputs s.states o s.numbers.args)) closed_here;
        numbers = w.numbers ∙ ap (numbers_of G L o) (sym starts) ∙ ap (λ (H : Below). numbers_of H L o s.numbers.args) below_here
            ∙ ap (λ (K : ClosedLayer). numbers_of (below_at f s.place) K o s.numbers.args) closed_here;
        stands = w.stands;
        typed = subst (LayerTyped f.defs (below_at f s.place)) closed_here (subst (λ (H : Below). LayerTyped f.defs H L) below_here w.typed);
      }
