-- No two layers of a typed file have one name.
use Rattle.std.proofs.Common.{◌≡◌, ℕ, ◌+◌, Bool, true, false, cond, List, [], ◌∷◌, ◌++◌, Option, Some, None, is_some, refl, sym, ap, ◌∙◌}
use Rattle.std.specs.Prelude.{not, ◌&&◌}
use Rattle.ygg_base.specs.declared.reason.Reason.TheVariants as reason
use Rattle.ygg_syntax.specs.declared.tree.Declared.{Declared}
use Rattle.ygg_syntax.specs.declared.tree.Layer.{Layer}
use Rattle.ygg_syntax.specs.declared.tree.File.{File}
use Rattle.ygg_meaning_laws.specs.ygg_syntax.Weights.{Weights, weights_of}
use Rattle.ygg_meaning_laws.specs.ygg_type_rules.Names.{Named, look_up, has, added}
use Rattle.ygg_meaning_laws.specs.ygg_type_rules.declared.scope.Signature.{Signature}
use Rattle.ygg_meaning_laws.specs.ygg_type_rules.TypeErrors.{none, unless}
use Rattle.ygg_meaning_laws.specs.ygg_type_rules.Definitions.{definitions_errors, with_definitions}
use Rattle.ygg_meaning_laws.specs.ygg_type_rules.Layers.{Known, Below, below_of, layer_scope, parts_errors}
use Rattle.ygg_meaning_laws.specs.ygg_type_rules.Files.{IsTyped, type_errors_of, disk_errors, disk_below, count_error, layer_errors, layers_errors}
use Rattle.ygg_script.specs.ygg_meaning.Environments.{Name}
use Rattle.ygg_script.specs.ygg_meaning.Meaning.{Functions, functions_of}
use Rattle.ygg_script.specs.ygg_meaning.Layer.{ClosedLayer}
use Rattle.ygg_script.specs.ygg_meaning.Stack.{Layers, tables_of, layers_on, layers_of}
use Rattle.ygg_meaning_laws.proofs.Names.{or_else, look_up_append}
use Rattle.ygg_meaning_laws.proofs.Tests.{left, right, passed, turned, bytes_equal}
use Rattle.ygg_meaning_laws.proofs.TypeErrors.{none_listed}
use Rattle.ygg_run_play.proofs.Layered.{Absent, Distinct}

-- all of their names are known
abbrev Held : Known → Layers → Type 0
Held names [] = Unit {0}
Held names (L ∷ lower) = (has L.layer.name.text names ≡ true) × Held names lower

still_some : (a b : Option (Unit {0})) → is_some a ≡ true → is_some (or_else a b) ≡ true
still_some (Some v) b h = refl
still_some None b h = absurd (cc)

some_at_last : (a : Option (Unit {0})) (v : Unit {0}) → is_some (or_else a (Some v)) ≡ true
some_at_last (Some u) v = refl
some_at_last None v = refl

has_more : (name other : List ℕ) (names : Known) → has name names ≡ true → has name (added other tt names) ≡ true
has_more name other names h = cases (has other names)
  where
    cases : (b : Bool) → has name (cond b names (names ++ (other, tt) ∷ [])) ≡ true
    cases true = h
    cases false = ap is_some (look_up_append name names ((other, tt) ∷ [])) ∙ still_some (look_up name names) (look_up name ((other, tt) ∷ [])) h

has_new : (name : List ℕ) (names : Known) → has name (added name tt names) ≡ true
has_new name names = cases (has name names) refl
  where
    cases : (b : Bool) → has name names ≡ b → has name (cond b names (names ++ (name, tt) ∷ [])) ≡ true
    cases true h = h
    cases false h =
        ap is_some (look_up_append name names ((name, tt) ∷ [])) ∙ ap (λ b. is_some (or_else (look_up name names) (cond b (Some tt) None))) (bytes_equal name)
        ∙ some_at_last (look_up name names) tt

held_more : (other : List ℕ) (names : Known) (lower : Layers) → Held names lower → Held (added other tt names) lower
held_more other names [] h = tt
held_more other names (L ∷ lower) h = (has_more L.layer.name.text other names h.0, held_more other names lower h.1)

-- a name that isn't known is none of theirs
absent_of : (name : Name) (names : Known) (lower : Layers) → has name names ≡ false → Held names lower → Absent name lower
absent_of name names [] new h = tt
absent_of name names (L ∷ lower) new h = (
  λ e. let k : true ≡ false = sym h.0 ∙ ap (λ v. has v names) e ∙ new in absurd (cc),
  absent_of name names lower new h.1,
)

module _ (functions : Functions) (defs : Named Signature) (weights : Weights) where
  all_distinct : (ls : List Layer) (before : ℕ) (names : Known) (low : List Declared) (below : Below) (lower : Layers) →
      none (layers_errors ls before names defs below weights) ≡ true → Held names lower → Distinct lower → Distinct (layers_on functions low ls lower)
  all_distinct [] before names low below lower e h d = d
  all_distinct (l ∷ ls) before names low below lower e h d =
      let L : ClosedLayer = record { functions = functions; layer = l; low = low } in
      let name = none (unless (not (has l.name.text names)) reason.Twice l.name.place) in
      let here = none (layer_errors l names defs below weights) in
      let others = none (layers_errors ls (before + 1) (added l.name.text tt names) defs (below_of l) weights) in
      let rest = right (none (count_error before l)) (here && others) e in
      let new = turned (has l.name.text names) (passed (not (has l.name.text names)) reason.Twice l.name.place
      (left name (none (parts_errors l weights (layer_scope defs below l))) (left here others rest))) in
      all_distinct ls (before + 1) (added l.name.text tt names) l.state (below_of l) (L ∷ lower) (right here others rest)
      (has_new l.name.text names, held_more l.name.text names lower h) (absent_of l.name.text names lower new h, d)

pub typed_distinct : (f : File) → IsTyped f → Distinct (layers_of f)
typed_distinct f t =
    let disk = none (disk_errors f.disk) in
    let defs = none (definitions_errors f.defs [] []) in
    let layers = none (layers_errors f.layers 0 [] (with_definitions f.defs []) (disk_below f.disk) (weights_of f.defs)) in
    let e : none (type_errors_of f) ≡ true = none_listed (type_errors_of f) t in
    all_distinct (functions_of f.defs) (with_definitions f.defs []) (weights_of f.defs) f.layers 0 [] (tables_of f.disk) (disk_below f.disk) []
    (right defs layers (right disk (defs && layers) e)) tt tt
