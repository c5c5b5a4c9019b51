-- Parts that are read one after another.
use Rattle.std.proofs.Common.{◌≡◌, ◌<◌, ◌≤◌, false, List, [], ◌∷◌, ◌++◌, length, map, refl, sym, ap, ◌∙◌, arith, append_assoc, append-nil}
use Rattle.ygg_base.specs.declared.token.Keyword.{Keyword}
use Rattle.ygg_base.specs.declared.token.Keyword.TheVariants as word
use Rattle.ygg_base.specs.declared.token.Symbol.TheVariants as sign
use Rattle.ygg_base.specs.declared.token.Mark.TheVariants as mark
use Rattle.ygg_base.specs.declared.token.Token.{Token}
use Rattle.ygg_syntax.specs.declared.grammar.Sort.{Sort}
use Rattle.ygg_syntax.specs.declared.tree.Place.{Place}
use Rattle.ygg_syntax.specs.declared.tree.Declared.{Declared}
use Rattle.ygg_syntax.specs.declared.tree.Layer.{Layer}
use Rattle.ygg_syntax.specs.Reading.{Reading, token, starts, in_turn}
use Rattle.ygg_syntax.specs.Expressions.{symbol}
use Rattle.ygg_syntax.specs.Files.{declared, more_declared, any_declared, layer, layers}
use Rattle.ygg_syntax.specs.Pending.{
  Pending,
  Part,
  beginning,
  rest_of,
  repeated,
  next_declared,
  next_layer,
  name,
  some_type,
  sign_of,
  word_of,
  rest_of_layer,
  outcome,
  stops,
}
use Rattle.ygg_read.specs.ExpressionSteps.{Reads, Goes, Stops}
use Rattle.ygg_read.proofs.ExpressionPhrases.{joined}
use Rattle.ygg_read.proofs.Stopped.{goes_token, ended}
use Rattle.ygg_read.proofs.ClaimParts.{begins_repeated}

-- the parts so far, each of which begins with this keyword and goes on with these symbols
pub record ListRead {A : Type 0} (r : A → Reading) (k : Keyword) (others : List Pending) (from : List Token) (es : List A) (now : List Token) : Type 0 where
  pub reads : (bs : List A) (qs : List Reading) → in_turn (in_turn (map r (es ++ bs)) ∷ qs) from ≡ in_turn (in_turn (map r bs) ∷ qs) now
  pub goes : (p : Part) → beginning p ≡ mark.Keyword k → rest_of p ≡ others → (qs : List Pending) →
      outcome (repeated p ∷ qs) from ≡ outcome (repeated p ∷ qs) now
  pub shorter : length now ≤ length from

-- no part yet
pub none_read : {A : Type 0} (r : A → Reading) (k : Keyword) (others : List Pending) (from : List Token) (es : List A) → es ≡ [] →
    ListRead r k others from es from
none_read r k others from es is = record {
  reads = λ bs qs. ap (λ xs. in_turn (in_turn (map r (xs ++ bs)) ∷ qs) from) is;
  goes = λ p b o qs. refl;
  shorter = omega arith;
}

-- a part begins
part_comes : (p : Part) (k : Keyword) (others : List Pending) (from rest : List Token) (at : Place) → from ≡ token (mark.Keyword k) at ∷ rest →
    beginning p ≡ mark.Keyword k → rest_of p ≡ others
    → (qs : List Pending) → outcome (repeated p ∷ qs) from ≡ outcome (others ++ (repeated p ∷ qs)) rest
part_comes p k others from rest at is b o qs =
    ap (outcome (repeated p ∷ qs)) (is ∙ ap (λ m. token m at ∷ rest) (sym b)) ∙ begins_repeated p at rest qs
    ∙ ap (λ (ps : List Pending). outcome (ps ++ (repeated p ∷ qs)) rest) o

-- one part more
pub one_more : {A : Type 0} (r : A → Reading) (k : Keyword) (others : List Pending) (from s t now : List Token) (es bs : List A) (a : A) (at : Place)
    → ListRead r k others from es s → s ≡ token (mark.Keyword k) at ∷ t
    → Reads (r a ∷ []) (token (mark.Keyword k) at ∷ t) now → Goes others t now → length now < length t → bs ≡ es ++ a ∷ [] → ListRead r k others from bs now
one_more r k others from s t now es bs a at h is reads goes shorter more = record {
  reads = λ cs qs. ap (λ xs. in_turn (in_turn (map r xs) ∷ qs) from) (ap (λ xs. xs ++ cs) more ∙ append_assoc es (a ∷ []) cs) ∙ h.reads (a ∷ cs) qs
      ∙ joined (r a ∷ map r cs) qs s ∙ ap (in_turn (r a ∷ map r cs ++ qs)) is ∙ reads (map r cs ++ qs) ∙ sym (joined (map r cs) qs now);
  goes = λ p b o qs. h.goes p b o qs ∙ part_comes p k others s t at is b o qs ∙ goes (repeated p ∷ qs);
  shorter = omega (arith, h.shorter, ap length is);
}

-- no other follows
pub all_read : {A : Type 0} (r : A → Reading) (k : Keyword) (others : List Pending) (from now : List Token) (es : List A) → ListRead r k others from es now
    → (qs : List Reading) → in_turn (in_turn (map r es) ∷ qs) from ≡ in_turn qs now
all_read r k others from now es h qs = ap (λ xs. in_turn (in_turn (map r xs) ∷ qs) from) (sym (append-nil es)) ∙ h.reads [] qs ∙ joined [] qs now

pub all_gone : {A : Type 0} (r : A → Reading) (k : Keyword) (others : List Pending) (from now : List Token) (es : List A) →
    ListRead r k others from es now → starts (mark.Keyword k) now ≡ false
    → (p : Part) → beginning p ≡ mark.Keyword k → rest_of p ≡ others → (qs : List Pending) → outcome (repeated p ∷ qs) from ≡ outcome qs now
all_gone r k others from now es h none p b o qs = h.goes p b o qs ∙ ended p now (ap (λ m. starts m now) b ∙ none) qs

-- a part stops
pub one_stops : {A : Type 0} (r : A → Reading) (k : Keyword) (others : List Pending) (from s t now : List Token) (es : List A) (at : Place) →
    ListRead r k others from es s → s ≡ token (mark.Keyword k) at ∷ t
    → Stops others t now → (p : Part) → beginning p ≡ mark.Keyword k → rest_of p ≡ others → Stops (repeated p ∷ []) from now
one_stops r k others from s t now es at h is stopped p b o = λ qs. h.goes p b o qs ∙ part_comes p k others s t at is b o qs ∙ stopped (repeated p ∷ qs)

-- names with their types so far
pub record SomeDeclared (sort : Sort) (from : List Token) (ds : List Declared) (now : List Token) : Type 0 where
  pub reads : (es : List Declared) (qs : List Reading) → in_turn (any_declared sort (ds ++ es) ∷ qs) from ≡ in_turn (more_declared sort es ++ qs) now
  pub goes : (qs : List Pending) → outcome (name ∷ sign_of sign.Colon ∷ some_type sort ∷ repeated (next_declared sort) ∷ qs) from ≡ outcome
      (repeated (next_declared sort) ∷ qs) now
  pub shorter : length now < length from

-- the first name
pub first_declared : (sort : Sort) (from now : List Token) (ds : List Declared) (d : Declared) → Reads (declared sort d ∷ []) from now →
    Goes (name ∷ sign_of sign.Colon ∷ some_type sort ∷ []) from now
    → length now < length from → ds ≡ d ∷ [] → SomeDeclared sort from ds now
first_declared sort from now ds d reads goes shorter is = record {
  reads = λ es qs. ap (λ xs. in_turn (any_declared sort (xs ++ es) ∷ qs) from) is ∙ joined (declared sort d ∷ more_declared sort es) qs from
      ∙ reads (more_declared sort es ++ qs);
  goes = λ qs. goes (repeated (next_declared sort) ∷ qs);
  shorter = shorter;
}

-- one name more
pub more_declared_read : (sort : Sort) (from s t now : List Token) (ds es : List Declared) (d : Declared) (at : Place) → SomeDeclared sort from ds s →
    s ≡ token (mark.Symbol sign.Comma) at ∷ t
    → ((qs : List Reading) → in_turn (symbol sign.Comma ∷ qs) s ≡ in_turn qs t) → Reads (declared sort d ∷ []) t now →
    Goes (name ∷ sign_of sign.Colon ∷ some_type sort ∷ []) t now → length now < length t → es ≡ ds ++ d ∷ []
    → SomeDeclared sort from es now
more_declared_read sort from s t now ds es d at h e comma reads goes shorter is = record {
  reads = λ fs qs. ap (λ xs. in_turn (any_declared sort xs ∷ qs) from) (ap (λ xs. xs ++ fs) is ∙ append_assoc ds (d ∷ []) fs) ∙ h.reads (d ∷ fs) qs
      ∙ comma (declared sort d ∷ more_declared sort fs ++ qs) ∙ reads (more_declared sort fs ++ qs);
  goes = λ qs. h.goes qs ∙ ap (outcome (repeated (next_declared sort) ∷ qs)) e ∙ begins_repeated (next_declared sort) at t qs
      ∙ goes (repeated (next_declared sort) ∷ qs);
  shorter = omega (arith, h.shorter, ap length e);
}

-- no other name follows
pub declared_read : (sort : Sort) (from now : List Token) (ds : List Declared) → SomeDeclared sort from ds now → (qs : List Reading) →
    in_turn (any_declared sort ds ∷ qs) from ≡ in_turn qs now
declared_read sort from now ds h qs = ap (λ xs. in_turn (any_declared sort xs ∷ qs) from) (sym (append-nil ds)) ∙ h.reads [] qs

pub declared_gone : (sort : Sort) (from now : List Token) (ds : List Declared) → SomeDeclared sort from ds now → starts (mark.Symbol sign.Comma) now ≡ false
    → (qs : List Pending) → outcome (name ∷ sign_of sign.Colon ∷ some_type sort ∷ repeated (next_declared sort) ∷ qs) from ≡ outcome qs now
declared_gone sort from now ds h none qs = h.goes qs ∙ ended (next_declared sort) now none qs

-- a name stops
pub declared_stops : (sort : Sort) (from s t now : List Token) (ds : List Declared) (at : Place) → SomeDeclared sort from ds s →
    s ≡ token (mark.Symbol sign.Comma) at ∷ t
    → Stops (name ∷ sign_of sign.Colon ∷ some_type sort ∷ []) t now → (qs : List Pending) →
    outcome (name ∷ sign_of sign.Colon ∷ some_type sort ∷ repeated (next_declared sort) ∷ qs) from ≡ stops (length now)
declared_stops sort from s t now ds at h e stopped qs =
    h.goes qs ∙ ap (outcome (repeated (next_declared sort) ∷ qs)) e ∙ begins_repeated (next_declared sort) at t qs
    ∙ stopped (repeated (next_declared sort) ∷ qs)

-- a list to which something was added isn't empty
pub filled : (ls : List Layer) (l : Layer) (all : List Layer) → all ≡ ls ++ l ∷ [] → layers all ≡ in_turn (map layer all)
filled [] l all is = ap layers is ∙ sym (ap (λ xs. in_turn (map layer xs)) is)
filled (k ∷ ks) l all is = ap layers is ∙ sym (ap (λ xs. in_turn (map layer xs)) is)

-- the first layer comes as each does
pub layer_comes : (from rest : List Token) (at : Place) → from ≡ token (mark.Keyword word.Layer) at ∷ rest → (qs : List Pending)
    → outcome (word_of word.Layer ∷ rest_of_layer ++ (repeated next_layer ∷ qs)) from ≡ outcome (repeated next_layer ∷ qs) from
layer_comes from rest at is qs =
    goes_token (mark.Keyword word.Layer) at from rest is (rest_of_layer ++ (repeated next_layer ∷ qs))
    ∙ sym (part_comes next_layer word.Layer rest_of_layer from rest at is refl refl qs)

-- the layers so far, of which there is one at least
pub record LayersRead (from : List Token) (ls : List Layer) (now : List Token) : Type 0 where
  pub each : ListRead layer word.Layer rest_of_layer from ls now
  pub some : layers ls ≡ in_turn (map layer ls)
