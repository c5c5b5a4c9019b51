-- What the names of obligations say: the layer's name, the word of the kind, and the name of the operation or background step.
use Rattle.std.proofs.Common.{◌≡◌, ℕ, ◌<◌, Bool, true, false, List, [], ◌∷◌, ◌++◌, map, Option, Some, None, refl, sym, ap, subst, ◌∙◌, append_assoc, arith}
use Rattle.std.specs.Prelude.{◌≢◌, ◌==◌, not, codes}
use Rattle.std.specs.List.{list_all, flat_map, AllByRecursion}
use Rattle.std.specs.Str.{bytes_eq}
use Rattle.std.proofs.lemmas.Bool.{and_parts}
use Rattle.std.proofs.lemmas.Bool.Decides.{nat_tests}
use Rattle.std.proofs.lemmas.List.{map-append}
use Rattle.std.proofs.lemmas.Slice.Eq.{bytes_eq-Decides}
use Rattle.ygg_base.specs.Lexing.{is_lower, is_name_byte}
use Rattle.ygg_syntax.specs.declared.tree.Operation.{Operation}
use Rattle.ygg_syntax.specs.declared.tree.Tick.{Tick}
use Rattle.ygg_syntax.specs.declared.tree.Layer.{Layer}
use Rattle.ygg_replay.specs.ygg_meaning.Obligations.{Obligation, Init, CallOf, CutOf, TickOf, CutTickOf, Idle, Again, obligations_of, name_of}
use Rattle.ygg_print.specs.TreeLaws.{IsName}
use Rattle.ygg_replay.specs.ygg_sched.Words.{cut_at}
use Rattle.ygg_sched_names.proofs.Apart.{Differs, Apart, differs_append, apart_append, apart_seen}

-- the word of the kind, and the name of the operation or background step, where there is one
abbrev pub Key : Type 0
Key = List ℕ × Option (List ℕ)

abbrev pub key_of : Obligation → Key
key_of Init = (codes "init", None)
key_of (CallOf o) = (codes "call", Some o.name.text)
key_of (CutOf o) = (codes "cut", Some o.name.text)
key_of (TickOf t) = (codes "tick", Some t.name.text)
key_of (CutTickOf t) = (codes "cuttick", Some t.name.text)
key_of Idle = (codes "idle", None)
key_of Again = (codes "again", None)

-- what stands behind the layer's name and a dot says the rest
abbrev key_in : Option (List ℕ) → Key
key_in None = ([], None)
key_in (Some rest) = cut_at 46 rest

-- what a name says
abbrev pub told : List ℕ → List ℕ × Key
told name = ((cut_at 46 name).0, key_in (cut_at 46 name).1)

-- a byte of a name is none below the digits
pub byte_is : (b mark : ℕ) → mark < 48 → is_name_byte b ≡ true → (b == mark) ≡ false
byte_is b mark below h = grind (arith, nat_tests)

-- so none stands in a name
bytes_are : (bytes : List ℕ) (mark : ℕ) → mark < 48 → list_all is_name_byte bytes ≡ true → list_all (λ b. not (b == mark)) bytes ≡ true
bytes_are [] mark below h = refl
bytes_are (b ∷ bytes) mark below h =
    let p = and_parts (is_name_byte b) (list_all is_name_byte bytes) h in
    rw (byte_is b mark below p.0) (bytes_are bytes mark below p.1)

first_is : (b : ℕ) → is_lower b ≡ true → is_name_byte b ≡ true
first_is b h = rw h refl

pub name_is : (name : List ℕ) (mark : ℕ) → mark < 48 → IsName name → list_all (λ b. not (b == mark)) name ≡ true
name_is [] mark below h = absurd h
name_is (b ∷ bytes) mark below h = rw (byte_is b mark below (first_is b h.0)) (bytes_are bytes mark below h.1.0)

-- a text is cut at its first dot
cut_there : (bytes rest : List ℕ) → list_all (λ b. not (b == 46)) bytes ≡ true → cut_at 46 (bytes ++ 46 ∷ rest) ≡ (bytes, Some rest)
cut_there [] rest h = refl
cut_there (b ∷ bytes) rest h = by_test (b == 46) refl (λ others. cut_there bytes rest others)
  where
    by_test : (test : Bool) → (b == 46) ≡ test → (list_all (λ b. not (b == 46)) bytes ≡ true → cut_at 46 (bytes ++ 46 ∷ rest) ≡ (bytes, Some rest)) →
        cut_at 46 (b ∷ bytes ++ 46 ∷ rest) ≡ (b ∷ bytes, Some rest)
    by_test true e again = let h : false ≡ true = rw e at h in absurd (cc)
    by_test false e again = let more : list_all (λ b. not (b == 46)) bytes ≡ true = rw e at h in rw (e, again more) refl

-- what is told of a layer's name and what follows
told_rest : (layer rest : List ℕ) → IsName layer → told (layer ++ 46 ∷ rest) ≡ (layer, cut_at 46 rest)
told_rest layer rest h =
    ap (λ (c : List ℕ × Option (List ℕ)). (c.0, key_in c.1)) (cut_there layer rest (name_is layer 46 (omega arith) h))

told_of : (layer : List ℕ) (o : Obligation) → IsName layer → told (name_of layer o) ≡ (layer, key_of o)
told_of layer Init h = told_rest layer (codes "init") h
told_of layer (CallOf o) h = told_rest layer (codes "call." ++ o.name.text) h
told_of layer (CutOf o) h = told_rest layer (codes "cut." ++ o.name.text) h
told_of layer (TickOf t) h = told_rest layer (codes "tick." ++ t.name.text) h
told_of layer (CutTickOf t) h = told_rest layer (codes "cuttick." ++ t.name.text) h
told_of layer Idle h = told_rest layer (codes "idle") h
told_of layer Again h = told_rest layer (codes "again") h

-- two keys for the name of each
pairs : {X : Type 0} → (u v : List ℕ) → (X → List ℕ) → List X → List Key
pairs u v name [] = []
pairs u v name (x ∷ xs) = (u, Some (name x)) ∷ (v, Some (name x)) ∷ pairs u v name xs

module _ {X : Type 0} (u v : List ℕ) (name : X → List ℕ) where
  -- a key of another word is none of them
  other_word : (w : List ℕ) (a : Option (List ℕ)) → w ≢ u → w ≢ v → (xs : List X) → Differs (w, a) (pairs u v name xs)
  unfolding pairs
  other_word w a not_u not_v [] = tt
  other_word w a not_u not_v (x ∷ xs) = (λ e. not_u (ap (λ (k : Key). k.0) e), (λ e. not_v (ap (λ (k : Key). k.0) e), other_word w a not_u not_v xs))

  -- one for another name is none of them
  other_name : (w n : List ℕ) (xs : List X) → Differs n (map name xs) → Differs (w, Some n) (pairs u v name xs)
  unfolding pairs
  other_name w n [] d = tt
  other_name w n (x ∷ xs) d = (λ e. d.0 (named u e), (λ e. d.0 (named v e), other_name w n xs d.1))
    where
      named : (z : List ℕ) → ◌≡◌ {A = Key} (w, Some n) (z, Some (name x)) → n ≡ name x
      named z e = let same : Some n ≡ Some (name x) = ap (λ (k : Key). k.1) e in cc

  pairs_apart : u ≢ v → (xs : List X) → Apart (map name xs) → Apart (pairs u v name xs)
  unfolding pairs
  pairs_apart differ [] a = tt
  pairs_apart differ (x ∷ xs) a = (
    (λ e. differ (ap (λ (k : Key). k.0) e), other_name u (name x) xs a.0),
    (other_name v (name x) xs a.0, pairs_apart differ xs a.1),
  )

  -- where keys differ from others by their words
  each_differs : (ks : List Key) → ((a : Option (List ℕ)) → Differs (u, a) ks) → ((a : Option (List ℕ)) → Differs (v, a) ks) → (xs : List X) →
      AllByRecursion (λ k. Differs k ks) (pairs u v name xs)
  unfolding pairs
  each_differs ks du dv [] = tt
  each_differs ks du dv (x ∷ xs) = (du (Some (name x)), (dv (Some (name x)), each_differs ks du dv xs))

-- the names of operations and of background steps
abbrev pub operation_name : Operation → List ℕ
operation_name o = o.name.text

abbrev pub tick_name : Tick → List ℕ
tick_name t = t.name.text

abbrev pub layer_name : Layer → List ℕ
layer_name l = l.name.text

abbrev calls : List Operation → List Key
calls = pairs (codes "call") (codes "cut") operation_name

abbrev ticks : List Tick → List Key
ticks = pairs (codes "tick") (codes "cuttick") tick_name

abbrev last : List Key
last = (codes "idle", None) ∷ (codes "again", None) ∷ []

calls_are : (os : List Operation) → map key_of (flat_map (λ (o : Operation). CallOf o ∷ CutOf o ∷ []) os) ≡ calls os
unfolding pairs
calls_are [] = refl
calls_are (o ∷ os) = ap (λ (ks : List Key). (codes "call", Some o.name.text) ∷ (codes "cut", Some o.name.text) ∷ ks) (calls_are os)

ticks_are : (ts : List Tick) → map key_of (flat_map (λ (t : Tick). TickOf t ∷ CutTickOf t ∷ []) ts) ≡ ticks ts
unfolding pairs
ticks_are [] = refl
ticks_are (t ∷ ts) = ap (λ (ks : List Key). (codes "tick", Some t.name.text) ∷ (codes "cuttick", Some t.name.text) ∷ ks) (ticks_are ts)

-- the keys of a layer's obligations
keys_are : (l : Layer) → map key_of (obligations_of l) ≡ (codes "init", None) ∷ (calls l.operations ++ (ticks l.ticks ++ last))
keys_are l =
    let os : List Obligation = flat_map (λ (o : Operation). CallOf o ∷ CutOf o ∷ []) l.operations in
    let ts : List Obligation = flat_map (λ (t : Tick). TickOf t ∷ CutTickOf t ∷ []) l.ticks in
    let both : List Obligation = Idle ∷ Again ∷ [] in
    ap (λ (ks : List Key). (codes "init", None) ∷ ks)
    (ap (map key_of) (append_assoc os ts both)
    ∙ map-append key_of os (ts ++ both)
    ∙ ap (λ (ks : List Key). ks ++ map key_of (ts ++ both)) (calls_are l.operations)
    ∙ ap (λ (ks : List Key). calls l.operations ++ ks)
    (map-append key_of ts both ∙ ap (λ (ks : List Key). ks ++ last) (ticks_are l.ticks)))

-- the operations of a layer have names of their own, and so have its background steps
pub record OwnNames (l : Layer) : Type 0 where
  pub operations : Apart (map operation_name l.operations)
  pub ticks : Apart (map tick_name l.ticks)

-- words whose test fails differ, and so do keys of such words
words_differ : (u v : List ℕ) → bytes_eq u v ≡ false → u ≢ v
words_differ u v fails e = let h : true ≡ false = sym ((bytes_eq-Decides u v).1 e) ∙ fails in absurd (cc)

keys_differ : (u v : List ℕ) (a b : Option (List ℕ)) → bytes_eq u v ≡ false → ◌≡◌ {A = Key} (u, a) (v, b) → ⊥
keys_differ u v a b fails e = words_differ u v fails (ap (λ (k : Key). k.0) e)

-- one of another word than the last two is none of them
none_last : (w : List ℕ) (a : Option (List ℕ)) → bytes_eq w (codes "idle") ≡ false → bytes_eq w (codes "again") ≡ false → Differs (w, a) last
none_last w a no_idle no_again = (keys_differ w (codes "idle") a None no_idle, (keys_differ w (codes "again") a None no_again, tt))

none_call : (w : List ℕ) (a : Option (List ℕ)) → bytes_eq w (codes "call") ≡ false → bytes_eq w (codes "cut") ≡ false → (os : List Operation) →
    Differs (w, a) (calls os)
none_call w a no_call no_cut =
    other_word (codes "call") (codes "cut") operation_name w a (words_differ w (codes "call") no_call) (words_differ w (codes "cut") no_cut)

none_tick : (w : List ℕ) (a : Option (List ℕ)) → bytes_eq w (codes "tick") ≡ false → bytes_eq w (codes "cuttick") ≡ false → (ts : List Tick) →
    Differs (w, a) (ticks ts)
none_tick w a no_tick no_cut =
    other_word (codes "tick") (codes "cuttick") tick_name w a (words_differ w (codes "tick") no_tick) (words_differ w (codes "cuttick") no_cut)

module _ (os : List Operation) (ts : List Tick) where
  of_call : (a : Option (List ℕ)) → Differs (codes "call", a) (ticks ts ++ last)
  of_call a = differs_append (codes "call", a) (ticks ts) last (none_tick (codes "call") a refl refl ts) (none_last (codes "call") a refl refl)

  of_cut : (a : Option (List ℕ)) → Differs (codes "cut", a) (ticks ts ++ last)
  of_cut a = differs_append (codes "cut", a) (ticks ts) last (none_tick (codes "cut") a refl refl ts) (none_last (codes "cut") a refl refl)

  of_init : Differs (codes "init", None) (calls os ++ (ticks ts ++ last))
  of_init = differs_append (codes "init", None) (calls os) (ticks ts ++ last) (none_call (codes "init") None refl refl os)
      (differs_append (codes "init", None) (ticks ts) last (none_tick (codes "init") None refl refl ts) (none_last (codes "init") None refl refl))

  last_apart : Apart last
  last_apart = ((keys_differ (codes "idle") (codes "again") None None refl, tt), (tt, tt))

  ticks_apart : Apart (map tick_name ts) → Apart (ticks ts ++ last)
  ticks_apart b =
      apart_append (ticks ts) last (pairs_apart (codes "tick") (codes "cuttick") tick_name (words_differ (codes "tick") (codes "cuttick") refl) ts b) last_apart
      (each_differs (codes "tick") (codes "cuttick") tick_name last (λ a. none_last (codes "tick") a refl refl) (λ a. none_last (codes "cuttick") a refl refl)
      ts)

  keys_apart : Apart (map operation_name os) → Apart (map tick_name ts) → Apart {X = Key} ((codes "init", None) ∷ (calls os ++ (ticks ts ++ last)))
  keys_apart a b = (
    of_init,
    apart_append (calls os) (ticks ts ++ last)
        (pairs_apart (codes "call") (codes "cut") operation_name (words_differ (codes "call") (codes "cut") refl) os a) (ticks_apart b)
        (each_differs (codes "call") (codes "cut") operation_name (ticks ts ++ last) of_call of_cut os),
  )

layer_apart : (l : Layer) → OwnNames l → Apart (map key_of (obligations_of l))
layer_apart l own = subst (λ (ks : List Key). Apart ks) (sym (keys_are l)) (keys_apart l.operations l.ticks own.operations own.ticks)

-- the names of all obligations of layers, from the lowest up
abbrev pub names_on : List Layer → List (List ℕ)
names_on [] = []
names_on (l ∷ ls) = map (name_of l.name.text) (obligations_of l) ++ names_on ls

-- what they say
abbrev under : List ℕ → List Key → List (List ℕ × Key)
under layer = map (λ k. (layer, k))

told_on : List Layer → List (List ℕ × Key)
told_on [] = []
told_on (l ∷ ls) = under l.name.text (map key_of (obligations_of l)) ++ told_on ls

told_each : (layer : List ℕ) → IsName layer → (os : List Obligation) → map told (map (name_of layer) os) ≡ under layer (map key_of os)
told_each layer h [] = refl
told_each layer h (o ∷ os) = rw (told_of layer o h, told_each layer h os) refl

told_all : (ls : List Layer) → AllByRecursion (λ (l : Layer). IsName l.name.text) ls → map told (names_on ls) ≡ told_on ls
unfolding told_on
told_all [] h = refl
told_all (l ∷ ls) h =
    map-append told (map (name_of l.name.text) (obligations_of l)) (names_on ls)
    ∙ ap (λ (ts : List (List ℕ × Key)). ts ++ map told (names_on ls)) (told_each l.name.text h.0 (obligations_of l))
    ∙ ap (λ (ts : List (List ℕ × Key)). under l.name.text (map key_of (obligations_of l)) ++ ts) (told_all ls h.1)

-- under the name of another layer all is different
under_other : (layer other : List ℕ) (k : Key) → layer ≢ other → (ks : List Key) → Differs (layer, k) (under other ks)
under_other layer other k differ [] = tt
under_other layer other k differ (x ∷ ks) = (λ e. differ (ap (λ (t : List ℕ × Key). t.0) e), under_other layer other k differ ks)

other_layer : (layer : List ℕ) (k : Key) (ls : List Layer) → Differs layer (map layer_name ls) → Differs (layer, k) (told_on ls)
unfolding told_on
other_layer layer k [] d = tt
other_layer layer k (l ∷ ls) d =
    differs_append (layer, k) (under l.name.text (map key_of (obligations_of l))) (told_on ls)
    (under_other layer l.name.text k d.0 (map key_of (obligations_of l))) (other_layer layer k ls d.1)

under_apart : (layer : List ℕ) (ks : List Key) → Apart ks → Apart (under layer ks)
under_apart layer [] a = tt
under_apart layer (k ∷ ks) a = (one k ks a.0, under_apart layer ks a.1)
  where
    one : (k : Key) (ks : List Key) → Differs k ks → Differs (layer, k) (under layer ks)
    one k [] d = tt
    one k (x ∷ xs) d = (λ e. d.0 (ap (λ (t : List ℕ × Key). t.1) e), one k xs d.1)

told_apart : (ls : List Layer) → Apart (map layer_name ls) → AllByRecursion OwnNames ls → Apart (told_on ls)
unfolding told_on
told_apart [] a own = tt
told_apart (l ∷ ls) a own =
    apart_append (under l.name.text (map key_of (obligations_of l))) (told_on ls)
    (under_apart l.name.text (map key_of (obligations_of l)) (layer_apart l own.0))
    (told_apart ls a.1 own.1) (each (map key_of (obligations_of l)))
  where
    each : (ks : List Key) → AllByRecursion (λ t. Differs t (told_on ls)) (under l.name.text ks)
    each [] = tt
    each (k ∷ ks) = (other_layer l.name.text k ls a.0, each ks)

-- no two obligations of layers have one name
pub names_apart : (ls : List Layer) → AllByRecursion (λ (l : Layer). IsName l.name.text) ls → Apart (map layer_name ls) → AllByRecursion OwnNames ls →
    Apart (names_on ls)
names_apart ls h a own = apart_seen told (names_on ls) (subst (λ (ts : List (List ℕ × Key)). Apart ts) (sym (told_all ls h)) (told_apart ls a own))
