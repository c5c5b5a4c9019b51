-- Names of the form of a name, and the names of obligations, may stand in a line.
use Rattle.std.proofs.Common.{◌≡◌, ℕ, Bool, true, false, List, [], ◌∷◌, ◌++◌, refl, ap, ◌∙◌, arith}
use Rattle.std.specs.Prelude.{◌==◌, ◌&&◌, ◌||◌, not, codes}
use Rattle.std.specs.List.{list_all, list_any}
use Rattle.std.proofs.lemmas.Bool.{and_from, and_parts}
use Rattle.std.proofs.lemmas.List.Elements.{All-head, All-tail}
use Rattle.std.proofs.lemmas.List.Folds.{list_all-append}
use Rattle.ygg_syntax.specs.declared.tree.Declared.{Declared}
use Rattle.ygg_replay.specs.ygg_meaning.Obligations.{Obligation, Init, CallOf, CutOf, TickOf, CutTickOf, Idle, Again, name_of}
use Rattle.ygg_print.specs.TreeLaws.{IsName}
use Rattle.ygg_replay.specs.ygg_sched.Fitting.{is_plain, all_plain}
use Rattle.ygg_replay.specs.ygg_sched.Words.{is_empty}
use Rattle.ygg_sched_names.specs.Names.{AreNamed}
use Rattle.ygg_sched_names.proofs.Keys.{name_is}

-- neither a space nor a line feed
abbrev is_seen : ℕ → Bool
is_seen b = not (b == 32) && not (b == 10)

no_space : (bytes : List ℕ) → list_all is_seen bytes ≡ true → list_any (λ b. b == 32) bytes ≡ false
no_space [] h = refl
no_space (b ∷ bytes) h =
    let p = and_parts (is_seen b) (list_all is_seen bytes) h in
    let q = and_parts (not (b == 32)) (not (b == 10)) p.0 in
    by_test (b == 32) q.0 (no_space bytes p.1)
  where
    by_test : (test : Bool) → not test ≡ true → list_any (λ b. b == 32) bytes ≡ false → (test || list_any (λ b. b == 32) bytes) ≡ false
    by_test true e more = absurd (cc)
    by_test false e more = more

no_feed : (bytes : List ℕ) → list_all is_seen bytes ≡ true → list_all (λ b. not (b == 10)) bytes ≡ true
no_feed [] h = refl
no_feed (b ∷ bytes) h =
    let p = and_parts (is_seen b) (list_all is_seen bytes) h in
    and_from (not (b == 10)) (list_all (λ b. not (b == 10)) bytes) (and_parts (not (b == 32)) (not (b == 10)) p.0).1 (no_feed bytes p.1)

both_seen : (bytes : List ℕ) → list_all (λ b. not (b == 32)) bytes ≡ true → list_all (λ b. not (b == 10)) bytes ≡ true → list_all is_seen bytes ≡ true
both_seen [] h g = refl
both_seen (b ∷ bytes) h g =
    let p = and_parts (not (b == 32)) (list_all (λ b. not (b == 32)) bytes) h in
    let q = and_parts (not (b == 10)) (list_all (λ b. not (b == 10)) bytes) g in
    and_from (is_seen b) (list_all is_seen bytes) (and_from (not (b == 32)) (not (b == 10)) p.0 q.0) (both_seen bytes p.1 q.1)

seen_plain : (bytes : List ℕ) → is_empty bytes ≡ false → list_all is_seen bytes ≡ true → is_plain bytes ≡ true
seen_plain bytes some h =
    and_from (not (is_empty bytes) && not (list_any (λ b. b == 32) bytes)) (list_all (λ b. not (b == 10)) bytes)
    (and_from (not (is_empty bytes)) (not (list_any (λ b. b == 32) bytes)) (ap not some) (ap not (no_space bytes h))) (no_feed bytes h)

name_seen : (name : List ℕ) → IsName name → list_all is_seen name ≡ true
name_seen name h = both_seen name (name_is name 32 (omega arith) h) (name_is name 10 (omega arith) h)

name_there : (name rest : List ℕ) → IsName name → is_empty (name ++ rest) ≡ false
name_there [] rest h = absurd h
name_there (b ∷ bytes) rest h = refl

-- a name may stand in a line
pub plain_name : (name : List ℕ) → IsName name → is_plain name ≡ true
plain_name [] h = absurd h
plain_name (b ∷ bytes) h = seen_plain (b ∷ bytes) refl (name_seen (b ∷ bytes) h)

-- and so may all of them
pub plain_names : (ds : List Declared) → AreNamed ds → all_plain ds ≡ true
plain_names [] h = refl
plain_names (d ∷ ds) h =
    and_from (is_plain d.name.text) (all_plain ds) (plain_name d.name.text (All-head (λ (d : Declared). IsName d.name.text) d ds h))
    (plain_names ds (All-tail (λ (d : Declared). IsName d.name.text) d ds h))

-- the operation or background step that an obligation has has the form of a name
abbrev pub PartNamed : Obligation → Type 0
PartNamed Init = Unit {0}
PartNamed (CallOf o) = IsName o.name.text
PartNamed (CutOf o) = IsName o.name.text
PartNamed (TickOf t) = IsName t.name.text
PartNamed (CutTickOf t) = IsName t.name.text
PartNamed Idle = Unit {0}
PartNamed Again = Unit {0}

-- a layer's name and what follows
followed : (layer rest : List ℕ) → IsName layer → list_all is_seen rest ≡ true → is_plain (layer ++ rest) ≡ true
followed layer rest h seen =
    seen_plain (layer ++ rest) (name_there layer rest h)
    (list_all-append is_seen layer rest ∙ and_from (list_all is_seen layer) (list_all is_seen rest) (name_seen layer h) seen)

pub plain_obligation : (layer : List ℕ) (o : Obligation) → IsName layer → PartNamed o → is_plain (name_of layer o) ≡ true
plain_obligation layer Init h g = followed layer (codes ".init") h refl
plain_obligation layer (CallOf o) h g = followed layer (codes ".call." ++ o.name.text) h (name_seen o.name.text g)
plain_obligation layer (CutOf o) h g = followed layer (codes ".cut." ++ o.name.text) h (name_seen o.name.text g)
plain_obligation layer (TickOf t) h g = followed layer (codes ".tick." ++ t.name.text) h (name_seen t.name.text g)
plain_obligation layer (CutTickOf t) h g = followed layer (codes ".cuttick." ++ t.name.text) h (name_seen t.name.text g)
plain_obligation layer Idle h g = followed layer (codes ".idle") h refl
plain_obligation layer Again h g = followed layer (codes ".again") h refl
