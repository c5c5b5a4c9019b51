-- What the rules of files read, one after another.
use Rattle.std.proofs.lemmas.Bool.Decides.{nat_tests}
use Rattle.std.proofs.Common.{
  ◌≡◌,
  ℕ,
  ◌≤◌,
  ◌==◌,
  Bool,
  true,
  false,
  if◌then◌else◌,
  List,
  [],
  ◌∷◌,
  ◌++◌,
  length,
  map,
  Option,
  Some,
  None,
  refl,
  sym,
  ap,
  ◌∙◌,
  arith,
}
use Rattle.ygg_base.specs.declared.token.Keyword.TheVariants as word
use Rattle.ygg_base.specs.declared.token.Symbol.TheVariants as sign
use Rattle.ygg_base.specs.declared.token.Mark.{Mark}
use Rattle.ygg_base.specs.declared.token.Mark.TheVariants as mark
use Rattle.ygg_base.specs.declared.token.Token.{Token}
use Rattle.ygg_syntax.specs.declared.grammar.BlockKind.TheVariants.{Plain, Spec, Impl}
use Rattle.ygg_syntax.specs.declared.tree.Place.{Place}
use Rattle.ygg_syntax.specs.declared.tree.Block.{Block}
use Rattle.ygg_base.specs.declared.geometry.DiskKind.TheVariants as disk
use Rattle.ygg_syntax.specs.declared.tree.Layer.{Layer}
use Rattle.ygg_syntax.specs.Reading.{Reading, token, same_mark, starts, passes, takes, in_turn}
use Rattle.ygg_syntax.specs.Expressions.{symbol, named}
use Rattle.ygg_syntax.specs.Blocks.{block, optional, block_phrase, is_unwritten}
use Rattle.ygg_syntax.specs.Files.{variable, claim, operation, tick, crash_block, layer}
use Rattle.ygg_syntax.specs.Pending.{
  Pending,
  exactly,
  disk_kind,
  rest_of_operation,
  rest_of_file,
  word_of,
  After,
  leaves,
  refuses,
  after,
  all_may_end,
  step,
  End,
  reads,
  stops,
  outcome,
}
use Rattle.ygg_syntax.specs.Pending as pending
use Rattle.ygg_read.specs.ExpressionSteps.{Reads, Stops}
use Rattle.ygg_read.proofs.ExpressionPhrases.{joined, reads_mark, reads_token}
use Rattle.ygg_read.proofs.Marks.{same_is}
use Rattle.ygg_read.proofs.Stopped.{next}
use Rattle.ygg_read.proofs.TakenWhole.{split, empty}
use Rattle.ygg_read.proofs.LayerClaims.{begins_kind}

-- a rule after its first token
pub opened : (m : Mark) (rs : List Reading) (at : Place) (rest : List Token) (qs : List Reading) →
    in_turn (in_turn (passes m ∷ rs) ∷ qs) (token m at ∷ rest) ≡ in_turn (rs ++ qs) rest
opened m rs at rest qs = joined (passes m ∷ rs) qs (token m at ∷ rest) ∙ reads_mark m at (token m at ∷ rest) rest refl (rs ++ qs)

pub begins_sync : (at : Place) (rest : List Token) (qs : List Pending) → outcome (disk_kind ∷ qs) (token (mark.Keyword word.Sync) at ∷ rest) ≡ outcome qs rest
begins_sync at rest qs = begins_kind disk.Sync at rest qs

pub begins_async : (at : Place) (rest : List Token) (qs : List Pending) → outcome (disk_kind ∷ qs) (token (mark.Keyword word.Async) at ∷ rest) ≡ outcome qs rest
begins_async at rest qs = begins_kind disk.Async at rest qs

no_kind : (m : Mark) → same_mark (mark.Keyword word.Sync) m ≡ false → same_mark (mark.Keyword word.Async) m ≡ false → after disk_kind m ≡ refuses
no_kind (mark.Keyword word.Sync) h k = absurd (cc)
no_kind (mark.Keyword word.Async) h k = absurd (cc)
no_kind (mark.Keyword w) h k = refl
no_kind (mark.Symbol s) h k = refl
no_kind (mark.Name text) h k = refl
no_kind (mark.Num n) h k = refl

-- no kind of disk comes
pub stopped_kind : (from : List Token) → starts (mark.Keyword word.Sync) from ≡ false → starts (mark.Keyword word.Async) from ≡ false →
    Stops (disk_kind ∷ []) from from
unfolding outcome
stopped_kind [] h k = λ qs. refl
stopped_kind (t ∷ ts) h k = λ qs. next disk_kind qs t ts refuses (no_kind t.mark h k)

no_blocks : (m : Mark) → same_mark (mark.Keyword word.Spec) m ≡ false → same_mark (mark.Symbol sign.Arrow) m ≡ false → after rest_of_operation m ≡ refuses
no_blocks (mark.Keyword word.Spec) h k = absurd (cc)
no_blocks (mark.Keyword w) h k = refl
no_blocks (mark.Symbol sign.Arrow) h k = absurd (cc)
no_blocks (mark.Symbol s) h k = refl
no_blocks (mark.Name text) h k = refl
no_blocks (mark.Num n) h k = refl

-- neither blocks nor an answer come
pub stopped_blocks : (from : List Token) → starts (mark.Keyword word.Spec) from ≡ false → starts (mark.Symbol sign.Arrow) from ≡ false →
    Stops (rest_of_operation ∷ []) from from
unfolding outcome
stopped_blocks [] h k = λ qs. refl
stopped_blocks (t ∷ ts) h k = λ qs. next rest_of_operation qs t ts refuses (no_blocks t.mark h k)

pub reads_crash : (at : Place) (b : Block) (rest : List Token) (qs : List Reading) →
    in_turn (crash_block at b ∷ qs) (token (mark.Keyword word.Crash) at ∷ rest) ≡ in_turn (block Spec b ∷ qs) rest
unfolding in_turn
reads_crash at b rest qs =
    let whole : in_turn (crash_block at b ∷ qs) (token (mark.Keyword word.Crash) at ∷ rest) ≡ in_turn
    (in_turn (takes (mark.Keyword word.Crash) at ∷ block Spec b ∷ []) ∷ qs) (token (mark.Keyword word.Crash) at ∷ rest) = refl in
    whole ∙ joined (takes (mark.Keyword word.Crash) at ∷ block Spec b ∷ []) qs (token (mark.Keyword word.Crash) at ∷ rest)
    ∙ reads_token (mark.Keyword word.Crash) at (token (mark.Keyword word.Crash) at ∷ rest) rest refl (block Spec b ∷ qs)

pub reads_no_crash_block : (b : Block) (from : List Token) → starts (mark.Keyword word.Crash) from ≡ false → is_unwritten (block_phrase b) ≡ true
    → (qs : List Reading) → in_turn (crash_block (record { line = 0; column = 0 }) b ∷ qs) from ≡ in_turn qs from
unfolding in_turn
reads_no_crash_block b from none unwritten qs = cases (starts (mark.Keyword word.Crash) from) (is_unwritten (block_phrase b)) none unwritten
  where
    cases : (s u : Bool) → s ≡ false → u ≡ true
        → elim (if s then in_turn (takes (mark.Keyword word.Crash) (record { line = 0; column = 0 }) ∷ block Spec b ∷ []) from else if u
        then Some from else None) as (λ o. Option (List Token)) [ None ↦ None | Some rest ↦ in_turn qs rest ] ≡ in_turn qs from
    cases false true h k = refl
    cases true u h k = absurd (cc)
    cases false false h k = absurd (cc)

pub reads_layer : (l : Layer) (rest : List Token) (qs : List Reading) → in_turn (layer l ∷ qs) (token (mark.Keyword word.Layer) l.place ∷ rest)
    ≡ in_turn (named l.name ∷ symbol sign.BraceOpen
    ∷ in_turn (map (variable word.State) l.state) ∷ optional word.Start Plain l.start
    ∷ in_turn (map (variable word.Memory) l.memory) ∷ optional word.Format Impl l.format
    ∷ in_turn (map operation l.operations) ∷ crash_block l.crash_place l.crash ∷ in_turn (map tick l.ticks) ∷ optional word.Recover Impl l.recover
    ∷ claim word.Relate l.relate ∷ in_turn (map (claim word.Always) l.always)
    ∷ in_turn (map (claim word.Settled) l.settled) ∷ in_turn (map (claim word.Maybe) l.maybe) ∷ symbol sign.BraceClose ∷ qs) rest
reads_layer l rest qs =
    let parts : List Reading = named l.name ∷ symbol sign.BraceOpen
    ∷ in_turn (map (variable word.State) l.state) ∷ optional word.Start Plain l.start
    ∷ in_turn (map (variable word.Memory) l.memory) ∷ optional word.Format Impl l.format
    ∷ in_turn (map operation l.operations) ∷ crash_block l.crash_place l.crash ∷ in_turn (map tick l.ticks) ∷ optional word.Recover Impl l.recover
    ∷ claim word.Relate l.relate ∷ in_turn (map (claim word.Always) l.always)
    ∷ in_turn (map (claim word.Settled) l.settled) ∷ in_turn (map (claim word.Maybe) l.maybe) ∷ symbol sign.BraceClose ∷ [] in
    joined (takes (mark.Keyword word.Layer) l.place ∷ parts) qs (token (mark.Keyword word.Layer) l.place ∷ rest)
    ∙ reads_token (mark.Keyword word.Layer) l.place (token (mark.Keyword word.Layer) l.place ∷ rest) rest refl (parts ++ qs)

-- a file is a keyword and what follows it
pub file_opens : (from : List Token) (qs : List Pending) → outcome (pending.file ∷ qs) from ≡ outcome (word_of word.Yggdrasil ∷ rest_of_file ++ qs) from
unfolding outcome
file_opens [] qs = refl
file_opens (t ∷ ts) qs = cases (same_mark (mark.Keyword word.Yggdrasil) t.mark) refl
  where
    cases : (b : Bool) → same_mark (mark.Keyword word.Yggdrasil) t.mark ≡ b →
        outcome (pending.file ∷ qs) (t ∷ ts) ≡ outcome (word_of word.Yggdrasil ∷ rest_of_file ++ qs) (t ∷ ts)
    cases true e = next pending.file qs t ts (leaves rest_of_file) (rw (after, e) refl)
        ∙ sym (next (word_of word.Yggdrasil) (rest_of_file ++ qs) t ts (leaves []) (rw (after, e) refl))
    cases false e = next pending.file qs t ts refuses (rw (after, e) refl)
        ∙ sym (next (word_of word.Yggdrasil) (rest_of_file ++ qs) t ts refuses (rw (after, e) refl))

-- the number that comes is 1
pub one_comes : (n : ℕ) (at : Place) (from rest : List Token) → from ≡ token (mark.Num n) at ∷ rest → starts (mark.Num 1) from ≡ true →
    from ≡ token (mark.Num 1) at ∷ rest
one_comes n at from rest is h =
    let e : same_mark (mark.Num 1) (mark.Num n) ≡ true = sym (ap (starts (mark.Num 1)) is) ∙ h in
    is ∙ ap (λ m. token m at ∷ rest) (sym (same_is (mark.Num 1) (mark.Num n) e))

-- a number comes where the number 1 does
pub some_number : (from : List Token) → starts (mark.Num 1) from ≡ true →
    ((n : ℕ) (at : Place) (rest : List Token) → from ≡ token (mark.Num n) at ∷ rest → ⊥) → ⊥
some_number [] h other = absurd (cc)
some_number (t ∷ ts) h other = other 1 (record { line = t.line; column = t.column }) ts
    (ap (λ m. token m (record { line = t.line; column = t.column }) ∷ ts) (sym (same_is (mark.Num 1) t.mark h)))

-- all tokens are read
pub reads_all : (r : Reading) (from now : List Token) → Reads (r ∷ []) from now → now ≡ [] → r from ≡ Some []
unfolding in_turn
reads_all r from now h is =
    let s = split r [] from now (h []) in
    s.first ∙ ap Some (empty s.mid now s.others ∙ is)

-- tokens are left where nothing more can come
pub left_over : (from : List Token) → (length from == 0) ≡ false → outcome [] from ≡ stops (length from)
unfolding outcome
left_over [] h = absurd (cc)
left_over (t ∷ ts) h = refl

-- no tokens are left
pub none_left : (from : List Token) → (length from == 0) ≡ true → from ≡ []
none_left [] h = refl
none_left (t ∷ ts) h = absurd (grind (arith, nat_tests))

-- no more tokens are left than there are
pub stops_within : (ps : List Pending) (ts : List Token) (n : ℕ) → outcome ps ts ≡ stops n → n ≤ length ts
unfolding outcome
stops_within ps [] n h = cases (all_may_end ps) h
  where
    cases : (b : Bool) → (if b then reads else stops 0) ≡ stops n → n ≤ 0
    cases true h = absurd (cc)
    cases false h = let e : 0 ≡ n = cc in omega (arith, e)
stops_within ps (t ∷ ts) n h = cases (step ps t.mark) h (λ qs k. stops_within qs ts n k)
  where
    cases : (o : Option (List Pending)) → elim o as (λ o. End) [ None ↦ stops (length (t ∷ ts)) | Some qs ↦ outcome qs ts ] ≡ stops n →
        ((qs : List Pending) → outcome qs ts ≡ stops n → n ≤ length ts) → n ≤ length (t ∷ ts)
    cases None h again = let e : length (t ∷ ts) ≡ n = cc in omega (arith, e)
    cases (Some qs) h again = let below = again qs h in omega (arith, below)
