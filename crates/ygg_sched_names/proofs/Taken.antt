-- The names of layers, and those of the operations and of the background steps of each layer, of a file without a type error differ.
use Rattle.std.proofs.Common.{◌≡◌, ℕ, ◌+◌, Bool, true, false, cond, ◌&&◌, not, List, [], ◌∷◌, ◌++◌, map, Option, Some, None, is_some, refl, sym, ap, ◌∙◌}
use Rattle.std.specs.List.{AllByRecursion}
use Rattle.std.specs.Str.{bytes_eq}
use Rattle.ygg_base.specs.declared.reason.Reason.TheVariants as reason
use Rattle.ygg_syntax.specs.declared.tree.Block.{Block}
use Rattle.ygg_syntax.specs.declared.tree.Operation.{Operation}
use Rattle.ygg_syntax.specs.declared.tree.Tick.{Tick}
use Rattle.ygg_syntax.specs.declared.tree.Layer.{Layer}
use Rattle.ygg_syntax.specs.declared.tree.File.{File}
use Rattle.ygg_accept.specs.ygg_syntax.Weights.{Weights, weights_of}
use Rattle.ygg_accept.specs.ygg_type_rules.Names.{Named, look_up, has, added}
use Rattle.ygg_accept.specs.ygg_type_rules.declared.scope.Signature.{Signature}
use Rattle.ygg_accept.specs.ygg_type_rules.TypeErrors.{none, unless}
use Rattle.ygg_accept.specs.ygg_type_rules.Scopes.{Scope}
use Rattle.ygg_accept.specs.ygg_type_rules.Definitions.{definitions_errors, with_definitions}
use Rattle.ygg_accept.specs.ygg_type_rules.Layers.{
  Known,
  Below,
  below_of,
  layer_scope,
  declared_errors,
  blocks_errors,
  operation_signature,
  with_operation,
  operation_errors,
  operations_errors,
  tick_errors,
  ticks_errors,
  parts_errors,
}
use Rattle.ygg_accept.specs.ygg_type_rules.Files.{IsTyped, type_errors_of, disk_errors, disk_below, count_error, layer_errors, layers_errors}
use Rattle.ygg_replay.specs.ygg_meaning_laws_proofs_Names.{or_else, look_up_append}
use Rattle.ygg_replay.specs.ygg_meaning_laws_proofs_Tests.{left, right, passed, turned, bytes_equal}
use Rattle.ygg_replay.specs.ygg_meaning_laws_proofs_TypeErrors.{none_listed}
use Rattle.ygg_sched_names.proofs.Apart.{Differs, Apart}
use Rattle.ygg_sched_names.proofs.Keys.{OwnNames, operation_name, tick_name, layer_name}

-- what one of two gives
first_there : {V : Type 0} (o p : Option V) → is_some o ≡ true → is_some (or_else o p) ≡ true
first_there None p h = absurd (cc)
first_there (Some v) p h = refl

second_there : {V : Type 0} (o p : Option V) → is_some p ≡ true → is_some (or_else o p) ≡ true
second_there None p h = h
second_there (Some v) p h = refl

module _ {V : Type 0} (name other : List ℕ) (v : V) (names : Named V) where
  -- what is named stays named
  still_named : has name names ≡ true → has name (added other v names) ≡ true
  still_named h = by_test (has other names)
    where
      by_test : (b : Bool) → has name (cond b names (names ++ (other, v) ∷ [])) ≡ true
      by_test true = h
      by_test false =
          ap is_some (look_up_append name names ((other, v) ∷ [])) ∙ first_there (look_up name names) (look_up name ((other, v) ∷ [])) h

-- a name that is added is named
now_named : {V : Type 0} (name : List ℕ) (v : V) (names : Named V) → has name (added name v names) ≡ true
now_named {V} name v names = by_test (has name names) refl
  where
    own : is_some (cond (bytes_eq name name) (Some v) None) ≡ true
    own = ap (λ b. is_some (cond b (Some v) None)) (bytes_equal name)

    by_test : (b : Bool) → has name names ≡ b → has name (cond b names (names ++ (name, v) ∷ [])) ≡ true
    by_test true e = e
    by_test false e =
        ap is_some (look_up_append name names ((name, v) ∷ [])) ∙ second_there (look_up name names) (look_up name ((name, v) ∷ [])) own

module _ {X V : Type 0} (name : X → List ℕ) (value : X → V) where
  -- each name is new where it stands
  AllNew : List X → Named V → Type 0
  AllNew [] known = Unit {0}
  AllNew (x ∷ xs) known = (has (name x) known ≡ false) × AllNew xs (added (name x) (value x) known)

  -- so a name that was there before them is none of theirs
  new_differs : (xs : List X) (known : Named V) (n : List ℕ) → AllNew xs known → has n known ≡ true → Differs n (map name xs)
  unfolding AllNew
  new_differs [] known n a h = tt
  new_differs (x ∷ xs) known n a h = (
    λ same. both (has (name x) known) a.0 (ap (λ m. has m known) (sym same) ∙ h),
    new_differs xs (added (name x) (value x) known) n a.1 (still_named n (name x) (value x) known h),
  )
    where
      both : (b : Bool) → b ≡ false → b ≡ true → ⊥
      both b e f = let h : true ≡ false = sym f ∙ e in absurd (cc)

  -- and no two of theirs are one
  new_apart : (xs : List X) (known : Named V) → AllNew xs known → Apart (map name xs)
  unfolding AllNew
  new_apart [] known a = tt
  new_apart (x ∷ xs) known a = (
    new_differs xs (added (name x) (value x) known) (name x) a.1 (now_named (name x) (value x) known),
    new_apart xs (added (name x) (value x) known) a.1,
  )

  nothing_new : (known : Named V) → AllNew [] known
  unfolding AllNew
  nothing_new known = tt

  more_new : (x : X) (xs : List X) (known : Named V) → has (name x) known ≡ false → AllNew xs (added (name x) (value x) known) → AllNew (x ∷ xs) known
  unfolding AllNew
  more_new x xs known h a = (h, a)

operations_new : (os : List Operation) (crash : Block) (known : Named Signature) (weights : Weights) (scope : Scope) →
    none (operations_errors os crash known weights scope) ≡ true → AllNew operation_name operation_signature os known
operations_new [] crash known weights scope e = nothing_new operation_name operation_signature known
operations_new (o ∷ os) crash known weights scope e =
    let here = none (operation_errors o crash known weights scope) in
    let later = none (operations_errors os crash (with_operation o known) weights scope) in
    let name = left (none (unless (not (has o.name.text known)) reason.Twice o.name.place)) _ (left here later e) in
    more_new operation_name operation_signature o os known
    (turned (has o.name.text known) (passed (not (has o.name.text known)) reason.Twice o.name.place name))
    (operations_new os crash (with_operation o known) weights scope (right here later e))

ticks_new : (ts : List Tick) (known : Known) (weights : Weights) (scope : Scope) → none (ticks_errors ts known weights scope) ≡ true →
    AllNew tick_name (λ t. tt) ts known
ticks_new [] known weights scope e = nothing_new tick_name (λ t. tt) known
ticks_new (t ∷ ts) known weights scope e =
    let here = none (tick_errors t known weights scope) in
    let later = none (ticks_errors ts (added t.name.text tt known) weights scope) in
    let name = left (none (unless (not (has t.name.text known)) reason.Twice t.name.place)) _ (left here later e) in
    more_new tick_name (λ t. tt) t ts known (turned (has t.name.text known) (passed (not (has t.name.text known)) reason.Twice t.name.place name))
    (ticks_new ts (added t.name.text tt known) weights scope (right here later e))

own_names : (l : Layer) (weights : Weights) (scope : Scope) → none (parts_errors l weights scope) ≡ true → OwnNames l
own_names l weights scope e =
    let operations = none (operations_errors l.operations l.crash [] weights scope) in
    let ticks = none (ticks_errors l.ticks [] weights scope) in
    let rest = right (none (blocks_errors l weights scope)) _ (right (none (declared_errors l)) _ e) in
    record {
      operations = new_apart operation_name operation_signature l.operations []
          (operations_new l.operations l.crash [] weights scope (left operations _ rest));
      ticks = new_apart tick_name (λ t. tt) l.ticks [] (ticks_new l.ticks [] weights scope (left ticks _ (right operations _ rest)));
    }

-- layers without a type error: each name is new, and those of each layer's parts are its own
record LayersNew (ls : List Layer) (known : Known) : Type 0 where
  new : AllNew layer_name (λ l. tt) ls known
  own : AllByRecursion OwnNames ls

layers_new : (ls : List Layer) (before : ℕ) (names : Known) (defs : Named Signature) (below : Below) (weights : Weights) →
    none (layers_errors ls before names defs below weights) ≡ true → LayersNew ls names
layers_new [] before names defs below weights e = record { new = nothing_new layer_name (λ l. tt) names; own = tt }
layers_new (l ∷ ls) before names defs below weights e =
    let here = none (layer_errors l names defs below weights) in
    let later = none (layers_errors ls (before + 1) (added l.name.text tt names) defs (below_of l) weights) in
    let both = right (none (count_error before l)) (here && later) e in
    let name = none (unless (not (has l.name.text names)) reason.Twice l.name.place) in
    let parts = none (parts_errors l weights (layer_scope defs below l)) in
    let more = layers_new ls (before + 1) (added l.name.text tt names) defs (below_of l) weights (right here later both) in
    record {
      new = more_new layer_name (λ l. tt) l ls names
          (turned (has l.name.text names)
          (passed (not (has l.name.text names)) reason.Twice l.name.place (left name parts (left here later both))))
          more.new;
      own = (own_names l weights (layer_scope defs below l) (right name parts (left here later both)), more.own);
    }

-- the names of a typed file's layers
pub record FileNames (f : File) : Type 0 where
  pub layers : Apart (map layer_name f.layers)
  pub own : AllByRecursion OwnNames f.layers

pub file_names : (f : File) → IsTyped f → FileNames f
file_names f typed =
    let disk = none (disk_errors f.disk) in
    let defs = none (definitions_errors f.defs [] []) in
    let layers = none (layers_errors f.layers 0 [] (with_definitions f.defs []) (disk_below f.disk) (weights_of f.defs)) in
    let e = right defs layers (right disk (defs && layers) (none_listed (type_errors_of f) typed)) in
    let new = layers_new f.layers 0 [] (with_definitions f.defs []) (disk_below f.disk) (weights_of f.defs) e in
    record { layers = new_apart layer_name (λ l. tt) f.layers [] new.new; own = new.own }
