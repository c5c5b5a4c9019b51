-- What derives from types and from names with their types is taken by pending ones.
use Rattle.std.proofs.Common.{◌≡◌, ℕ, List, [], ◌∷◌, ◌++◌, Option, Some, None, refl, sym, ap, ◌∙◌}
use Rattle.ygg_base.specs.declared.token.Keyword.TheVariants as word
use Rattle.ygg_base.specs.declared.token.Symbol.TheVariants as sign
use Rattle.ygg_base.specs.declared.token.Mark.TheVariants as mark
use Rattle.ygg_base.specs.declared.token.Token.{Token}
use Rattle.ygg_syntax.specs.declared.grammar.Sort.{Sort}
use Rattle.ygg_syntax.specs.declared.grammar.Sort.TheVariants as sorts
use Rattle.ygg_syntax.specs.declared.tree.Place.{Place}
use Rattle.ygg_syntax.specs.declared.tree.TypeText.{TypeText}
use Rattle.ygg_syntax.specs.declared.tree.TypeText.TheVariants as shape
use Rattle.ygg_syntax.specs.declared.tree.Declared.{Declared}
use Rattle.ygg_syntax.specs.Reading.{Reading, token, starts, in_turn}
use Rattle.ygg_syntax.specs.Expressions.{keyword, symbol, named, numbered}
use Rattle.ygg_syntax.specs.Files.{type_in, declared, more_declared, any_declared}
use Rattle.ygg_syntax.specs.Pending.{Pending, name, number, some_type, rest_of_declared, repeated, next_declared, sign_of, word_of, outcome}
use Rattle.ygg_read.proofs.ExpressionPhrases.{joined}
use Rattle.ygg_read.proofs.Marks.{passed, took}
use Rattle.ygg_read.proofs.Stopped.{goes_token, ended}
use Rattle.ygg_read.proofs.TakenWhole.{split, empty, Runs, done, next_mark, next_number, next_name}
use Rattle.ygg_read.proofs.ClaimParts.{begins_repeated}

pub begins_word : (sort : Sort) (at : Place) (rest : List Token) (qs : List Pending) →
    outcome (some_type sort ∷ qs) (token (mark.Keyword word.Word) at ∷ rest) ≡ outcome (number ∷ qs) rest
unfolding outcome
begins_word sorts.All at rest qs = refl
begins_word sorts.Small at rest qs = refl

pub begins_row : (sort : Sort) (at : Place) (rest : List Token) (qs : List Pending) →
    outcome (some_type sort ∷ qs) (token (mark.Keyword word.Row) at ∷ rest) ≡ outcome (number ∷ word_of word.Of ∷ number ∷ qs) rest
unfolding outcome
begins_row sorts.All at rest qs = refl
begins_row sorts.Small at rest qs = refl

pub begins_table : (at : Place) (rest : List Token) (qs : List Pending) →
    outcome (some_type sorts.All ∷ qs) (token (mark.Keyword word.Table) at ∷ rest) ≡ outcome
    (number ∷ word_of word.Of ∷ number ∷ word_of word.Of ∷ number ∷ qs) rest
unfolding outcome
begins_table at rest qs = refl

type_runs : (sort : Sort) (t : TypeText) (from rest : List Token) → type_in sort t from ≡ Some rest → (ps : List Pending) →
    outcome (some_type sort ∷ ps) from ≡ outcome ps rest
type_runs sort (shape.Word w) from rest h ps =
    let s = split (keyword word.Word) (numbered w ∷ []) from rest h in
    let k = passed (mark.Keyword word.Word) from s.mid s.first in
    ap (outcome (some_type sort ∷ ps)) k.is ∙ begins_word sort k.at s.mid ps ∙ (next_number w done).runs s.mid rest s.others ps
type_runs sort (shape.Row m w) from rest h ps =
    let s = split (keyword word.Row) (numbered m ∷ keyword word.Of ∷ numbered w ∷ []) from rest h in
    let k = passed (mark.Keyword word.Row) from s.mid s.first in
    ap (outcome (some_type sort ∷ ps)) k.is ∙ begins_row sort k.at s.mid ps
    ∙ (next_number m (next_mark (mark.Keyword word.Of) (next_number w done))).runs s.mid rest s.others ps
type_runs sorts.All (shape.Table n m w) from rest h ps =
    let s = split (keyword word.Table) (numbered n ∷ keyword word.Of ∷ numbered m ∷ keyword word.Of ∷ numbered w ∷ []) from rest h in
    let k = passed (mark.Keyword word.Table) from s.mid s.first in
    ap (outcome (some_type sorts.All ∷ ps)) k.is ∙ begins_table k.at s.mid ps
    ∙ (next_number n (next_mark (mark.Keyword word.Of) (next_number m (next_mark (mark.Keyword word.Of) (next_number w done))))).runs s.mid rest s.others ps
type_runs sorts.Small (shape.Table n m w) from rest h ps = absurd (cc)

-- a type, and others after it
pub next_type : (sort : Sort) (t : TypeText) {rs : List Reading} {qs : List Pending} → Runs rs qs → Runs (type_in sort t ∷ rs) (some_type sort ∷ qs)
next_type sort t {rs} {qs} r = record {
  runs = λ from rest h ps. let s = split (type_in sort t) rs from rest h in type_runs sort t from s.mid s.first (qs ++ ps) ∙ r.runs s.mid rest s.others ps;
}

-- a name and its type
pub declared_run : (sort : Sort) (d : Declared) → Runs (named d.name ∷ symbol sign.Colon ∷ type_in sort d.shape ∷ [])
    (name ∷ sign_of sign.Colon ∷ some_type sort ∷ [])
declared_run sort d = next_name d.name (next_mark (mark.Symbol sign.Colon) (next_type sort d.shape done))

-- further names and the bracket after them
more_run : (sort : Sort) (ds : List Declared) (from rest : List Token) → in_turn (more_declared sort ds ++ symbol sign.RoundClose ∷ []) from ≡ Some rest
    → (ps : List Pending) → outcome (repeated (next_declared sort) ∷ sign_of sign.RoundClose ∷ ps) from ≡ outcome ps rest
more_run sort [] from rest h ps =
    let s = split (symbol sign.RoundClose) [] from rest h in
    let k = passed (mark.Symbol sign.RoundClose) from s.mid s.first in
    ended (next_declared sort) from (ap (starts (mark.Symbol sign.Comma)) k.is) (sign_of sign.RoundClose ∷ ps)
    ∙ goes_token (mark.Symbol sign.RoundClose) k.at from s.mid k.is ps ∙ ap (outcome ps) (empty s.mid rest s.others)
more_run sort (d ∷ ds) from rest h ps =
    let s = split (symbol sign.Comma) (declared sort d ∷ more_declared sort ds ++ symbol sign.RoundClose ∷ []) from rest h in
    let k = passed (mark.Symbol sign.Comma) from s.mid s.first in
    let e = split (declared sort d) (more_declared sort ds ++ symbol sign.RoundClose ∷ []) s.mid rest s.others in
    ap (outcome (repeated (next_declared sort) ∷ sign_of sign.RoundClose ∷ ps)) k.is
    ∙ begins_repeated (next_declared sort) k.at s.mid (sign_of sign.RoundClose ∷ ps)
    ∙ (declared_run sort d).runs s.mid e.mid e.first (repeated (next_declared sort) ∷ sign_of sign.RoundClose ∷ ps) ∙ more_run sort ds e.mid rest e.others ps

pub begins_none : (sort : Sort) (at : Place) (rest : List Token) (qs : List Pending) →
    outcome (rest_of_declared sort ∷ qs) (token (mark.Symbol sign.RoundClose) at ∷ rest) ≡ outcome qs rest
unfolding outcome
begins_none sort at rest qs = refl

pub begins_declared : (sort : Sort) (text : List ℕ) (at : Place) (rest : List Token) (qs : List Pending) →
    outcome (rest_of_declared sort ∷ qs) (token (mark.Name text) at ∷ rest)
    ≡ outcome (sign_of sign.Colon ∷ some_type sort ∷ repeated (next_declared sort) ∷ sign_of sign.RoundClose ∷ qs) rest
unfolding outcome
begins_declared sort text at rest qs = refl

-- names with their types, or none, and the bracket after them
any_run : (sort : Sort) (ds : List Declared) (from rest : List Token) → in_turn (any_declared sort ds ∷ symbol sign.RoundClose ∷ []) from ≡ Some rest
    → (ps : List Pending) → outcome (rest_of_declared sort ∷ ps) from ≡ outcome ps rest
any_run sort [] from rest h ps =
    let s = split (any_declared sort []) (symbol sign.RoundClose ∷ []) from rest h in
    let t = split (symbol sign.RoundClose) [] s.mid rest s.others in
    let k = passed (mark.Symbol sign.RoundClose) s.mid t.mid t.first in
    ap (outcome (rest_of_declared sort ∷ ps)) (empty from s.mid s.first ∙ k.is) ∙ begins_none sort k.at t.mid ps ∙ ap (outcome ps) (empty t.mid rest t.others)
any_run sort (d ∷ ds) from rest h ps =
    let k = sym (joined (declared sort d ∷ more_declared sort ds) (symbol sign.RoundClose ∷ []) from) ∙ h in
    let s = split (declared sort d) (more_declared sort ds ++ symbol sign.RoundClose ∷ []) from rest k in
    let n = split (named d.name) (symbol sign.Colon ∷ type_in sort d.shape ∷ []) from s.mid s.first in
    ap (outcome (rest_of_declared sort ∷ ps)) (took (mark.Name d.name.text) d.name.place from n.mid n.first)
    ∙ begins_declared sort d.name.text d.name.place n.mid ps
    ∙ (next_mark (mark.Symbol sign.Colon) (next_type sort d.shape done)).runs n.mid s.mid n.others
    (repeated (next_declared sort) ∷ sign_of sign.RoundClose ∷ ps)
    ∙ more_run sort ds s.mid rest s.others ps

both : (sort : Sort) (ds : List Declared) (from mid rest : List Token) → any_declared sort ds from ≡ Some mid → symbol sign.RoundClose mid ≡ Some rest
    → in_turn (any_declared sort ds ∷ symbol sign.RoundClose ∷ []) from ≡ Some rest
unfolding in_turn
both sort ds from mid rest e f =
    ap (λ (o : Option (List Token)). elim o as (λ o. Option (List Token)) [ None ↦ None | Some s ↦ in_turn (symbol sign.RoundClose ∷ []) s ]) e
    ∙ ap (λ (o : Option (List Token)). elim o as (λ o. Option (List Token)) [ None ↦ None | Some s ↦ in_turn [] s ]) f

-- the same, and others after it
pub next_any_declared : (sort : Sort) (ds : List Declared) {rs : List Reading} {qs : List Pending} → Runs rs qs →
    Runs (any_declared sort ds ∷ symbol sign.RoundClose ∷ rs) (rest_of_declared sort ∷ qs)
next_any_declared sort ds {rs} {qs} r = record {
  runs = λ from rest h ps.
      let s = split (any_declared sort ds) (symbol sign.RoundClose ∷ rs) from rest h in
      let t = split (symbol sign.RoundClose) rs s.mid rest s.others in
      any_run sort ds from t.mid (both sort ds from s.mid t.mid s.first t.first) (qs ++ ps) ∙ r.runs t.mid rest t.others ps;
}
