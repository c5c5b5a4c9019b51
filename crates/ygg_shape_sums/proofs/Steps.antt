-- What the code answers is what the definitions say.
use Rattle.std.proofs.Common.{◌≡◌, ◌<◌, ◌≤◌, ◌==◌, ℕ, zero, suc, ◌+◌, ◌-◌, ◌%◌, ◌^◌, Bool, true, false, if◌then◌else◌}
use Rattle.std.proofs.Common.{List, [], ◌∷◌, ◌++◌, length, take, drop, get_or, slice_get, slice_set, append_assoc, length-drop, refl, sym, ap, ◌∙◌, arith}
use Rattle.std.proofs.Common.{Result, Ok, Err, OnOk, IfOk}
use Rattle.std.specs.List.{insert}
use Rattle.std.specs.Prelude.{nat_lt}
use Rattle.std.proofs.lemmas.List.{drop_more, drop_all, drop-append-le, drop-set-lt, take_more, take_more_set, take-append-drop, take_all}
use Rattle.ygg_shape_words.specs.ygg_rules.declared.rule.RuleKind.{RuleKind}
use Rattle.ygg_shape_words.specs.ygg_bank.Makes.{Make, Out, and_make}
use Rattle.ygg_shape_words.specs.ygg_bank.Making.{made}
use Rattle.ygg_shape_words.specs.ygg_bank.declared.node.Id.{Id}
use Rattle.ygg_shape_words.specs.ygg_bank.declared.node.Node.{Node}
use Rattle.ygg_shape_words.specs.ygg_bank.declared.node.Node.TheVariants.{Bin}
use Rattle.ygg_value.specs.declared.operation.Op.TheVariants.{Add, Mul}
use Rattle.ygg_shape_words.specs.Picking.{picked}
use Rattle.ygg_shape_sums.specs.Parts.{Sum, part, merged}
use Rattle.ygg_shape_sums.specs.Readings.{read}
use Rattle.ygg_shape_sums.specs.Gathers.{parts_of, counted, with_all, gathered, found_within}
use Rattle.ygg_shape_sums.specs.Reduces.{reduced_sum}
use Rattle.ygg_shape_sums.specs.Splits.{split_of}
use Rattle.ygg_shape_sums.specs.Products.{Product}
use Rattle.ygg_shape_sums.specs.Remains.{times_all, with_term, with_terms, vanishes_left}
use Rattle.ygg_shape_sums.specs.Sharing.{sharing_of, more_where, shared_as, shared_within, inside_as, shared_inside}
use Rattle.ygg_shape_sums.specs.Sides.{share, more, all_more}
use Rattle.ygg_shape_sums.specs.Equates.{Found, IsFound, found, split_as, vanishes_within}
use Rattle.ygg_shape_sums.specs.declared.parts.Summand.{Summand}
use Rattle.ygg_shape_sums.specs.declared.reading.Fact.{Fact}
use Rattle.ygg_shape_sums.specs.declared.sharing.Sharing.{Sharing}
use Rattle.ygg_shape_sums.specs.declared.sharing.Sharing.TheVariants as sharing
use Rattle.ygg_shape_sums.specs.declared.sharing.TheConstants.{SHARE_LIMIT}

-- the item at a place, and those after it
pub rest_is : {X : Type 0} (xs : List X) (i : ℕ) (x d : X) → i < length xs → x ≡ get_or xs i d → drop i xs ≡ x ∷ drop (i + 1) xs
rest_is xs i x d l e = drop_more xs i d l ∙ ap (λ z. z ∷ drop (i + 1) xs) (sym e)

-- what is left to be read, and what it makes
pub gathered_goes : (fuel left : ℕ) (nodes : List Node) (facts : List Fact) (todo longer : List Summand) (i : ℕ) (p d : Summand) (s t : Sum) → 0 < fuel →
    left ≡ fuel - 1 → i < length todo → p ≡ get_or todo i d → longer ≡ todo ++ parts_of p (read nodes facts (slice_get nodes p.term.0)) →
    t ≡ counted p (read nodes facts (slice_get nodes p.term.0)) s →
    gathered left nodes facts (drop (i + 1) longer) t ≡ gathered fuel nodes facts (drop i todo) s
unfolding gathered
gathered_goes zero left nodes facts todo longer i p d s t k e l g h j = absurd (omega arith)
gathered_goes (suc fuel) left nodes facts todo longer i p d s t k e l g h j =
    let r = read nodes facts (slice_get nodes p.term.0) in
    let f : left ≡ fuel = omega arith in
    ap (λ z. gathered z nodes facts (drop (i + 1) longer) t) f
    ∙ ap (λ z. gathered fuel nodes facts (drop (i + 1) longer) z) j
    ∙ ap (λ z. gathered fuel nodes facts (drop (i + 1) z) (counted p r s)) h
    ∙ ap (λ z. gathered fuel nodes facts z (counted p r s)) (drop-append-le (i + 1) todo (parts_of p r) (omega arith))
    ∙ ap (λ z. gathered (suc fuel) nodes facts z s) (sym (rest_is todo i p d l g))

pub gathered_done : (fuel : ℕ) (nodes : List Node) (facts : List Fact) (todo : List Summand) (i : ℕ) (s : Sum) → 0 < fuel → length todo ≤ i →
    gathered fuel nodes facts (drop i todo) s ≡ s
unfolding gathered
gathered_done zero nodes facts todo i s k l = absurd (omega arith)
gathered_done (suc fuel) nodes facts todo i s k l = ap (λ z. gathered (suc fuel) nodes facts z s) (drop_all i todo l)

pub gathered_spent : (fuel : ℕ) (nodes : List Node) (facts : List Fact) (ps : List Summand) (s : Sum) → fuel ≡ 0 →
    gathered fuel nodes facts ps s ≡ with_all ps s
unfolding gathered
gathered_spent zero nodes facts ps s e = refl
gathered_spent (suc fuel) nodes facts ps s e = absurd (omega arith)

module _ (is : Summand → Bool) (next : Summand → List Summand) where
  pub looked_goes : (fuel left : ℕ) (todo longer : List Summand) (i : ℕ) (p d : Summand) → 0 < fuel → left ≡ fuel - 1 → i < length todo →
      p ≡ get_or todo i d → is p ≡ false → longer ≡ todo ++ next p →
      found_within is next left (drop (i + 1) longer) ≡ found_within is next fuel (drop i todo)
  unfolding found_within
  looked_goes zero left todo longer i p d k e l g n h = absurd (omega arith)
  looked_goes (suc fuel) left todo longer i p d k e l g n h =
      let f : left ≡ fuel = omega arith in
      ap (λ z. found_within is next z (drop (i + 1) longer)) f
      ∙ ap (λ z. found_within is next fuel (drop (i + 1) z)) h
      ∙ ap (λ z. found_within is next fuel z) (drop-append-le (i + 1) todo (next p) (omega arith))
      ∙ ap (λ c. if c then true else found_within is next fuel (drop (i + 1) todo ++ next p)) (sym n)
      ∙ ap (λ z. found_within is next (suc fuel) z) (sym (rest_is todo i p d l g))

  pub looked_there : (fuel : ℕ) (todo : List Summand) (i : ℕ) (p d : Summand) → 0 < fuel → i < length todo → p ≡ get_or todo i d → is p ≡ true →
      true ≡ found_within is next fuel (drop i todo)
  unfolding found_within
  looked_there zero todo i p d k l g n = absurd (omega arith)
  looked_there (suc fuel) todo i p d k l g n =
      ap (λ c. if c then true else found_within is next fuel (drop (i + 1) todo ++ next p)) (sym n)
      ∙ ap (λ z. found_within is next (suc fuel) z) (sym (rest_is todo i p d l g))

  pub looked_done : (fuel : ℕ) (todo : List Summand) (i : ℕ) → length todo ≤ i → false ≡ found_within is next fuel (drop i todo)
  unfolding found_within
  looked_done zero todo i l = refl
  looked_done (suc fuel) todo i l = ap (λ z. found_within is next (suc fuel) z) (sym (drop_all i todo l))

  pub looked_spent : (fuel : ℕ) (ps : List Summand) → fuel ≡ 0 → false ≡ found_within is next fuel ps
  unfolding found_within
  looked_spent zero ps e = refl
  looked_spent (suc fuel) ps e = absurd (omega arith)

-- where there is an answer, what follows from what holds
pub then_ok : {A E : Type 0} (r : Result A E) (P Q : Type 0) → OnOk r P → (P → Q) → OnOk r Q
then_ok (Ok a) P Q h f = f h
then_ok (Err x) P Q h f = tt

pub if_ok : {A E : Type 0} (r : Result A E) (P : Type 0) (Q : A → Type 0) → OnOk r P → (P → (a : A) → Q a) → IfOk r Q
if_ok (Ok a) P Q h f = f h a
if_ok (Err x) P Q h f = tt

pub any_ok : {A E : Type 0} (r : Result A E) (P : A → Type 0) (Q : Type 0) → IfOk r P → ((a : A) → P a → Q) → OnOk r Q
any_ok (Ok a) P Q h f = f a h
any_ok (Err x) P Q h f = tt

pub each_ok : {A E : Type 0} (r : Result A E) (P Q : A → Type 0) → IfOk r P → ((a : A) → P a → Q a) → IfOk r Q
each_ok (Ok a) P Q h f = f a h
each_ok (Err x) P Q h f = tt

-- a step was made, and goes on
pub goes : {A B : Type 0} (m : Make A) (f : A → Make B) (nodes new : List Node) (a : A) → new ≡ (m nodes).nodes → a ≡ (m nodes).value →
    f a new ≡ and_make m f nodes
goes m f nodes new a e g = ap (λ z. f z new) g ∙ ap (f (m nodes).value) e

-- a step that makes the same finds the same
pub found_by : {E : Type 0} (one two : Make Found) (old new : List Node) (r : Result Id E) (left : ℕ) → one old ≡ two old →
    IfOk r (λ id. IsFound one old new id left) → IfOk r (λ id. IsFound two old new id left)
found_by one two old new (Ok id) left e f =
    record { nodes = f.nodes ∙ ap (λ (o : Out Found). o.nodes) e; value = f.value ∙ ap (λ (o : Out Found). o.value) e }
found_by one two old new (Err x) left e f = tt

module _ (kinds : List RuleKind) where
  abbrev pub out : {A : Type 0} → A → List Node → Out A
  out a nodes = record { value = a; nodes = nodes }

  pub within_zero : {E : Type 0} (w depth left : ℕ) (facts : List Fact) (s : Sum) (old new : List Node) (r : Result Id E) → depth ≡ 0 →
      OnOk r (new ≡ (vanishes_left kinds w facts s old).nodes) → IfOk r (λ id. id ≡ (vanishes_left kinds w facts s old).value) →
      IfOk r (λ id. IsFound (vanishes_within kinds w depth left facts s) old new id left)
  unfolding vanishes_within
  within_zero w zero left facts s old new (Ok id) d e g = record { nodes = e; value = ap (found left) g }
  within_zero w zero left facts s old new (Err x) d e g = tt
  within_zero w (suc depth) left facts s old new r d e g = absurd (omega arith)

  pub within_split : {E : Type 0} (w depth left l : ℕ) (facts : List Fact) (s g : Sum) (old new : List Node) (r : Result Id E) → 0 < depth →
      g ≡ reduced_sum old w facts s →
      IfOk r (λ id. IsFound (split_as kinds w (vanishes_within kinds w (depth - 1)) left facts g (split_of old w left facts g.parts)) old new id l) →
      IfOk r (λ id. IsFound (vanishes_within kinds w depth left facts s) old new id l)
  unfolding vanishes_within
  within_split w zero left l facts s g old new r d i f = absurd (omega arith)
  within_split w (suc depth) left l facts s g old new r d i f =
      let step : ℕ → Sum → Make Found = λ z t. split_as kinds w (vanishes_within kinds w z) left facts t (split_of old w left facts t.parts) in
      let same : suc depth - 1 ≡ depth = omega arith in
      found_by (step (suc depth - 1) g) (vanishes_within kinds w (suc depth) left facts s) old new r l
      (ap (λ z. step z g old) same ∙ ap (λ z. step depth z old) i) f

-- what the terms of a side have made so far, and what the rest will make
pub record AllMore (kinds : List RuleKind) (w : ℕ) (second : Bool) (ps : List Summand) (first : Id) (old : List Node) (i : ℕ) (so_far : Id) (now : List Node) :
    Type 0 where
  pub value : (all_more kinds w second (drop i ps) so_far now).value ≡ (all_more kinds w second ps first old).value
  pub nodes : (all_more kinds w second (drop i ps) so_far now).nodes ≡ (all_more kinds w second ps first old).nodes

pub all_more_goes : (kinds : List RuleKind) (w : ℕ) (second : Bool) (ps : List Summand) (first : Id) (old : List Node) (i : ℕ) (so_far : Id) (now : List Node)
    (p d : Summand) (n : ℕ) (a : Id) (next : List Node) → i < length ps → p ≡ get_or ps i d → n ≡ share w second p.times →
    next ≡ (more kinds w n p.term so_far now).nodes → a ≡ (more kinds w n p.term so_far now).value →
    AllMore kinds w second ps first old i so_far now → AllMore kinds w second ps first old (i + 1) a next
all_more_goes kinds w second ps first old i so_far now p d n a next l e s g h r =
    let rest = all_more kinds w second (drop (i + 1) ps) in
    let whole : rest a next ≡ all_more kinds w second (drop i ps) so_far now =
    goes (more kinds w n p.term so_far) rest now next a g h
    ∙ ap (λ z. and_make (more kinds w z p.term so_far) rest now) s
    ∙ ap (λ z. all_more kinds w second z so_far now) (sym (rest_is ps i p d l e)) in
    record { value = ap (λ (o : Out Id). o.value) whole ∙ r.value; nodes = ap (λ (o : Out Id). o.nodes) whole ∙ r.nodes }

pub all_more_done : (kinds : List RuleKind) (w : ℕ) (second : Bool) (ps : List Summand) (first : Id) (old : List Node) (i : ℕ) (so_far : Id) (now : List Node) →
    length ps ≤ i → AllMore kinds w second ps first old i so_far now → AllMore kinds w second ps first old (length ps) so_far now
all_more_done kinds w second ps first old i so_far now l r =
    let d : drop (length ps) ps ≡ drop i ps = drop_all (length ps) ps (omega arith) ∙ sym (drop_all i ps l) in
    record {
      value = ap (λ z. (all_more kinds w second z so_far now).value) d ∙ r.value;
      nodes = ap (λ z. (all_more kinds w second z so_far now).nodes) d ∙ r.nodes;
    }

pub set_is : {X : Type 0} (xs : List X) (i : ℕ) (y : X) → i < length xs → slice_set xs i y ≡ take i xs ++ y ∷ drop (i + 1) xs
set_is xs i y l =
    sym (take-append-drop (i + 1) (slice_set xs i y)) ∙ ap (λ z. z ++ drop (i + 1) (slice_set xs i y)) (take_more_set xs i y l)
    ∙ ap (λ z. (take i xs ++ y ∷ []) ++ z) (drop-set-lt (i + 1) xs i y (omega arith)) ∙ append_assoc (take i xs) (y ∷ []) (drop (i + 1) xs)

-- the items before a place, and the one there
pub taken : {X : Type 0} (xs : List X) (i : ℕ) (x d : X) → i < length xs → x ≡ get_or xs i d → take (i + 1) xs ≡ take i xs ++ x ∷ []
taken xs i x d l e = take_more xs i d l ∙ ap (λ z. take i xs ++ z ∷ []) (sym e)

-- what is merged at a place, where the parts before it are other terms of lower places
module _ (p q d : Summand) (ps : List Summand) (i : ℕ) (l : i < length ps) (e : q ≡ get_or ps i d) (h : merged p ps ≡ take i ps ++ merged p (drop i ps)) where
  merged_here : merged p ps ≡ take i ps ++ (if q.term.0 == p.term.0 then part ((q.times + p.times) % 2 ^ 64) q.term ∷ drop (i + 1) ps
      else if nat_lt p.term.0 q.term.0 then p ∷ q ∷ drop (i + 1) ps else q ∷ merged p (drop (i + 1) ps))
  merged_here = h ∙ ap (λ z. take i ps ++ merged p z) (rest_is ps i q d l e)

  by_tests : (b c : Bool) → (q.term.0 == p.term.0) ≡ b → nat_lt p.term.0 q.term.0 ≡ c →
      merged p ps ≡ take i ps ++ (if b then part ((q.times + p.times) % 2 ^ 64) q.term ∷ drop (i + 1) ps
      else if c then p ∷ q ∷ drop (i + 1) ps else q ∷ merged p (drop (i + 1) ps))
  by_tests b c f g =
      merged_here
      ∙ ap (λ (z : Bool). take i ps ++ (if z then part ((q.times + p.times) % 2 ^ 64) q.term ∷ drop (i + 1) ps
      else if nat_lt p.term.0 q.term.0 then p ∷ q ∷ drop (i + 1) ps else q ∷ merged p (drop (i + 1) ps))) f
      ∙ ap (λ (z : Bool). take i ps ++ (if b then part ((q.times + p.times) % 2 ^ 64) q.term ∷ drop (i + 1) ps
      else if z then p ∷ q ∷ drop (i + 1) ps else q ∷ merged p (drop (i + 1) ps))) g

  pub merged_there : (q.term.0 == p.term.0) ≡ true → merged p ps ≡ slice_set ps i (part ((q.times + p.times) % 2 ^ 64) q.term)
  merged_there f = by_tests true (nat_lt p.term.0 q.term.0) f refl ∙ sym (set_is ps i (part ((q.times + p.times) % 2 ^ 64) q.term) l)

  pub merged_before : (q.term.0 == p.term.0) ≡ false → nat_lt p.term.0 q.term.0 ≡ true → merged p ps ≡ insert ps i p
  merged_before f g = by_tests false true f g ∙ ap (λ z. take i ps ++ p ∷ z) (sym (rest_is ps i q d l e))

  pub merged_after : (q.term.0 == p.term.0) ≡ false → nat_lt p.term.0 q.term.0 ≡ false → merged p ps ≡ take (i + 1) ps ++ merged p (drop (i + 1) ps)
  merged_after f g =
      by_tests false false f g ∙ sym (append_assoc (take i ps) (q ∷ []) (merged p (drop (i + 1) ps)))
      ∙ ap (λ z. z ++ merged p (drop (i + 1) ps)) (sym (taken ps i q d l e))

pub merged_end : (p : Summand) (ps : List Summand) (i : ℕ) → length ps ≤ i → merged p ps ≡ take i ps ++ merged p (drop i ps) → merged p ps ≡ ps ++ p ∷ []
merged_end p ps i l h = h ∙ ap (λ z. take i ps ++ merged p z) (drop_all i ps l) ∙ ap (λ z. z ++ p ∷ []) (take_all i ps l)

-- all items from a place on
pub rest_all : {X : Type 0} (xs : List X) (n : ℕ) → take (length xs - n) (drop n xs) ≡ drop n xs
rest_all xs n = take_all (length xs - n) (drop n xs) (let e : length (drop n xs) ≡ length xs - n = length-drop n xs in omega arith)

-- what a product of factors has made so far, and what the rest will make
pub record TimesAll (kinds : List RuleKind) (bs : List Id) (first : Id) (old : List Node) (i : ℕ) (so_far : Id) (now : List Node) : Type 0 where
  pub value : (times_all kinds so_far (drop i bs) now).value ≡ (times_all kinds first bs old).value
  pub nodes : (times_all kinds so_far (drop i bs) now).nodes ≡ (times_all kinds first bs old).nodes

pub times_all_goes : (kinds : List RuleKind) (bs : List Id) (first : Id) (old : List Node) (i : ℕ) (so_far : Id) (now : List Node) (b d : Id) (a : Id)
    (next : List Node) → i < length bs → b ≡ get_or bs i d → next ≡ (made kinds (Bin Mul so_far b) now).nodes →
    a ≡ (made kinds (Bin Mul so_far b) now).value → TimesAll kinds bs first old i so_far now → TimesAll kinds bs first old (i + 1) a next
times_all_goes kinds bs first old i so_far now b d a next l e g h r =
    let rest : Id → Make Id = λ m. times_all kinds m (drop (i + 1) bs) in
    let whole : rest a next ≡ times_all kinds so_far (drop i bs) now =
    goes (made kinds (Bin Mul so_far b)) rest now next a g h ∙ ap (λ z. times_all kinds so_far z now) (sym (rest_is bs i b d l e)) in
    record { value = ap (λ (o : Out Id). o.value) whole ∙ r.value; nodes = ap (λ (o : Out Id). o.nodes) whole ∙ r.nodes }

-- what the terms of products have made so far, and what the rest will make
pub record WithTerms (kinds : List RuleKind) (w : ℕ) (ps : List Product) (first : Sum) (old : List Node) (i : ℕ) (so_far : Sum) (now : List Node) : Type 0 where
  pub value : (with_terms kinds w (drop i ps) so_far now).value ≡ (with_terms kinds w ps first old).value
  pub nodes : (with_terms kinds w (drop i ps) so_far now).nodes ≡ (with_terms kinds w ps first old).nodes

pub with_terms_goes : (kinds : List RuleKind) (w : ℕ) (ps : List Product) (first : Sum) (old : List Node) (i : ℕ) (so_far : Sum) (now : List Node)
    (p d : Product) (s : Sum) (next : List Node) → i < length ps → p ≡ get_or ps i d → next ≡ (with_term kinds w p so_far now).nodes →
    s ≡ (with_term kinds w p so_far now).value → WithTerms kinds w ps first old i so_far now → WithTerms kinds w ps first old (i + 1) s next
with_terms_goes kinds w ps first old i so_far now p d s next l e g h r =
    let rest = with_terms kinds w (drop (i + 1) ps) in
    let whole : rest s next ≡ with_terms kinds w (drop i ps) so_far now =
    goes (with_term kinds w p so_far) rest now next s g h ∙ ap (λ z. with_terms kinds w z so_far now) (sym (rest_is ps i p d l e)) in
    record { value = ap (λ (o : Out Sum). o.value) whole ∙ r.value; nodes = ap (λ (o : Out Sum). o.nodes) whole ∙ r.nodes }

-- no sums in place of picks are made any more, and one more
pub shared_zero : (kinds : List RuleKind) (w depth : ℕ) (a : Id) (nodes : List Node) → depth ≡ 0 →
    shared_within kinds w depth a nodes ≡ record { nodes = nodes; value = a }
unfolding shared_within
shared_zero kinds w zero a nodes e = refl
shared_zero kinds w (suc depth) a nodes e = absurd (omega arith)

pub shared_more : (kinds : List RuleKind) (w depth : ℕ) (a : Id) (nodes : List Node) (r : Sharing) → 0 < depth → r ≡ sharing_of nodes (slice_get nodes a.0) →
    shared_as kinds w (shared_within kinds w (depth - 1)) a r nodes ≡ shared_within kinds w depth a nodes
unfolding shared_within
shared_more kinds w zero a nodes r l e = absurd (omega arith)
shared_more kinds w (suc depth) a nodes r l e =
    let f : suc depth - 1 ≡ depth = omega arith in
    ap (λ z. shared_as kinds w (shared_within kinds w z) a r nodes) f ∙ ap (λ z. shared_as kinds w (shared_within kinds w depth) a z nodes) e

-- other picks aren't looked into any more, and once more
pub inside_zero : (kinds : List RuleKind) (w depth : ℕ) (a : Id) (nodes : List Node) → depth ≡ 0 →
    shared_within kinds w SHARE_LIMIT a nodes ≡ shared_inside kinds w depth a nodes
unfolding shared_inside
inside_zero kinds w zero a nodes e = refl
inside_zero kinds w (suc depth) a nodes e = absurd (omega arith)

pub inside_more : (kinds : List RuleKind) (w depth : ℕ) (a : Id) (nodes : List Node) (r : Sharing) → 0 < depth → r ≡ sharing_of nodes (slice_get nodes a.0) →
    inside_as kinds w (shared_inside kinds w (depth - 1)) a r nodes ≡ shared_inside kinds w depth a nodes
unfolding shared_inside
inside_more kinds w zero a nodes r l e = absurd (omega arith)
inside_more kinds w (suc depth) a nodes r l e =
    let f : suc depth - 1 ≡ depth = omega arith in
    ap (λ z. inside_as kinds w (shared_inside kinds w z) a r nodes) f ∙ ap (λ z. inside_as kinds w (shared_inside kinds w depth) a z nodes) e

-- a step with sums in place of picks: what was made of the operand of a sum, of what more is added to, and of both words of a pick
module _ (kinds : List RuleKind) (w depth : ℕ) (a : Id) (old first : List Node) (l : 0 < depth) where
  pub beside_goes : (s p one : Id) → sharing.Beside s p ≡ sharing_of old (slice_get old a.0) → first ≡ (shared_within kinds w (depth - 1) p old).nodes →
      one ≡ (shared_within kinds w (depth - 1) p old).value → made kinds (Bin Add s one) first ≡ shared_within kinds w depth a old
  beside_goes s p one e n f =
      goes (shared_within kinds w (depth - 1) p) (λ q. made kinds (Bin Add s q)) old first one n f
      ∙ shared_more kinds w depth a old (sharing.Beside s p) l e

  pub more_goes : (t : Id) (d : Bool) (s m one : Id) → sharing.More t d s m ≡ sharing_of old (slice_get old a.0) →
      first ≡ (shared_within kinds w (depth - 1) s old).nodes → one ≡ (shared_within kinds w (depth - 1) s old).value →
      more_where kinds w t d m one first ≡ shared_within kinds w depth a old
  more_goes t d s m one e n f =
      goes (shared_within kinds w (depth - 1) s) (more_where kinds w t d m) old first one n f
      ∙ shared_more kinds w depth a old (sharing.More t d s m) l e

  pub halves_go : (t x y one two : Id) (second : List Node) → sharing.Either t x y ≡ sharing_of old (slice_get old a.0) →
      first ≡ (shared_inside kinds w (depth - 1) x old).nodes → one ≡ (shared_inside kinds w (depth - 1) x old).value →
      second ≡ (shared_inside kinds w (depth - 1) y first).nodes → two ≡ (shared_inside kinds w (depth - 1) y first).value →
      picked kinds t one two second ≡ shared_inside kinds w depth a old
  halves_go t x y one two second e n f m g =
      let next = shared_inside kinds w (depth - 1) in
      goes (next y) (λ q. picked kinds t one q) first second two m g
      ∙ goes (next x) (λ p. and_make (next y) (λ q. picked kinds t p q)) old first one n f
      ∙ inside_more kinds w depth a old (sharing.Either t x y) l e
