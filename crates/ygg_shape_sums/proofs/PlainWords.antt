-- What holds of words in which there are neither sums nor products: they are compared by `same`.
use Rattle.std.proofs.Common.{◌≡◌, ◌==◌, ◌*◌, ◌%◌, ◌^◌, ℕ, zero, suc, Bool, true, false, if◌then◌else◌, Option, Some, None}
use Rattle.std.proofs.Common.{List, [], ◌∷◌, ◌++◌, All, slice_get, refl, sym, ap, ◌∙◌, subst}
use Rattle.std.proofs.lemmas.List.Elements.{All-append, All-head, All-nil, All-pop, All-push, All-tail}
use Rattle.ygg_value.specs.declared.operation.Op.{Op}
use Rattle.ygg_value.specs.declared.operation.Op.TheVariants.{Add, Sub, Mul}
use Rattle.ygg_shape_words.specs.ygg_rules.declared.rule.RuleKind.{RuleKind}
use Rattle.ygg_shape_words.specs.ygg_bank.Making.{made}
use Rattle.ygg_shape_words.specs.ygg_bank_proofs_Widths.{has_width, stands}
use Rattle.ygg_shape_words.specs.ygg_bank.Nodes.{width_at, widths_of, InOrder, Stands}
use Rattle.ygg_shape_words.specs.ygg_bank.declared.node.Id.{Id}
use Rattle.ygg_shape_words.specs.ygg_bank.declared.node.Node.{Node}
use Rattle.ygg_shape_words.specs.ygg_bank.declared.node.Node.TheVariants.{Input, Const, Bin, Not, Resize, Pick}
use Rattle.ygg_shape_words.proofs.Children.{not_stands, pick_children}
use Rattle.ygg_shape_words.specs.Same.{same_words}
use Rattle.ygg_value.specs.Words.{word}
use Rattle.ygg_shape_sums.proofs.Terms.{one, two, sides, gathered_all}
use Rattle.ygg_shape_sums.specs.Cancels.{inside, is_product, is_product_at, has_product, cancels, cancels_within}
use Rattle.ygg_shape_sums.specs.Equates.{difference, are_sums, subtracted, compared_words, equated_words}
use Rattle.ygg_shape_sums.specs.Gathers.{parts_of, gathered_sum, below, below_at, found_within, is_sum, is_sum_at, has_sum}
use Rattle.ygg_shape_sums.specs.Parts.{part, empty}
use Rattle.ygg_shape_sums.specs.Plain.{is_whole, is_whole_bin, IsPlain, ArePlain, Leads}
use Rattle.ygg_shape_sums.specs.Plain.IsPlain.{whole, complement, either}
use Rattle.ygg_shape_sums.specs.Readings.{read}
use Rattle.ygg_shape_sums.specs.Reduces.{any_product, loses_products, is_there, multiplied}
use Rattle.ygg_shape_sums.specs.declared.cancelling.TheConstants.{CANCEL_LIMIT}
use Rattle.ygg_shape_sums.specs.declared.gathering.TheConstants.{READ_LIMIT}
use Rattle.ygg_shape_sums.specs.declared.parts.Summand.{Summand}
use Rattle.ygg_shape_sums.specs.declared.reading.TheConstants.{LESS_ONE}

-- nothing is found among parts of which none is it, and below which there are only such
none_found : (is : Summand → Bool) (next : Summand → List Summand) (P : Summand → Type 0) → ((p : Summand) → P p → is p ≡ false) →
    ((p : Summand) → P p → All P (next p)) → (fuel : ℕ) (ps : List Summand) → All P ps → found_within is next fuel ps ≡ false
unfolding found_within
none_found is next P isnt on zero ps h = refl
none_found is next P isnt on (suc fuel) [] h = refl
none_found is next P isnt on (suc fuel) (p ∷ ps) h =
    let own = All-head P p ps h in
    ap (λ c. if c then true else found_within is next fuel (ps ++ next p)) (isnt p own)
    ∙ none_found is next P isnt on fuel (ps ++ next p) (All-append P ps (next p) (All-tail P p ps h) (on p own))

module _ (nodes : List Node) where
  -- a part that is plain
  abbrev Own : Summand → Type 0
  Own p = IsPlain nodes p.term

  -- what is known of a node that is plain, and of the words below it
  record Known (p : Summand) (n : Option Node) : Type 0 where
    no_sum : is_sum (read nodes [] n) ≡ false
    no_product : is_product (read nodes [] n) n ≡ false
    parts : All Own (parts_of p (read nodes [] n))
    words : All Own (below p n)

  bin_known : (p : Summand) (op : Op) (x y : Id) → is_whole_bin op ≡ true → Known p (Some (Bin op x y))
  bin_known p Add x y e = absurd (cc)
  bin_known p Sub x y e = absurd (cc)
  bin_known p Mul x y e = absurd (cc)
  bin_known p op x y e = record { no_sum = refl; no_product = refl; parts = All-nil Own; words = All-nil Own }

  whole_known : (p : Summand) (n : Option Node) → is_whole n ≡ true → Known p n
  whole_known p (Some (Input i w)) e = record { no_sum = refl; no_product = refl; parts = All-nil Own; words = All-nil Own }
  whole_known p (Some (Const k)) e = record { no_sum = refl; no_product = refl; parts = All-nil Own; words = All-nil Own }
  whole_known p (Some (Bin op x y)) e = bin_known p op x y e
  whole_known p (Some (Resize x w)) e = record { no_sum = refl; no_product = refl; parts = All-nil Own; words = All-nil Own }
  whole_known p (Some (Not x)) e = absurd (cc)
  whole_known p (Some (Pick t x y)) e = absurd (cc)
  whole_known p None e = absurd (cc)

  known_at : (p : Summand) (a : Id) → IsPlain nodes a → Known p (slice_get nodes a.0)
  known_at p a (whole b e) = whole_known p (slice_get nodes b.0) e
  known_at p a (complement b x e h) =
      subst (Known p) (sym e)
      (record { no_sum = refl; no_product = refl; parts = one (IsPlain nodes) (part ((p.times * LESS_ONE) % 2 ^ 64) x) h; words = All-nil Own })
  known_at p a (either b t x y e h i) =
      subst (Known p) (sym e) (record { no_sum = refl; no_product = refl; parts = All-nil Own; words = sides (IsPlain nodes) p x y (p.times == 0) h i })

  known : (p : Summand) → Own p → Known p (slice_get nodes p.term.0)
  known p h = known_at p p.term h

  pub no_sums : (fuel : ℕ) (ps : List Summand) → All Own ps → has_sum fuel nodes ps ≡ false
  no_sums fuel ps h =
      none_found (is_sum_at nodes) (below_at nodes) Own (λ p k. let n = known p k in n.no_sum) (λ p k. let n = known p k in n.words) fuel ps h

  pub no_products : (fuel : ℕ) (ps : List Summand) → All Own ps → has_product fuel nodes ps ≡ false
  no_products fuel ps h =
      none_found (is_product_at nodes) (inside nodes) Own (λ p k. let n = known p k in n.no_product)
      (λ p k. let n = known p k in All-append Own (parts_of p (read nodes [] (slice_get nodes p.term.0))) (below p (slice_get nodes p.term.0)) n.parts n.words)
      fuel ps h

  none_a_product : (ps : List Summand) → All Own ps → any_product nodes ps ≡ false
  none_a_product [] h = refl
  none_a_product (p ∷ ps) h =
      let n = known p (All-head Own p ps h) in
      ap (λ c. if c then true else any_product nodes ps) n.no_product ∙ none_a_product ps (All-tail Own p ps h)

  module _ (a b : Id) (h : ArePlain nodes a b) where
    abbrev both : List Summand
    both = part 1 a ∷ part LESS_ONE b ∷ []

    plain_parts : All Own both
    plain_parts = two (IsPlain nodes) (part 1 a) (part LESS_ONE b) h.0 h.1

    if_same : (c : Bool) (y : Bool) → y ≡ false → (if c then false else y) ≡ false
    if_same true y e = refl
    if_same false y e = e

    pub never_cancels : cancels nodes a b ≡ false
    never_cancels =
        let w = width_at (widths_of nodes) a in
        if_same (a.0 == b.0) (if has_product READ_LIMIT nodes both then cancels_within CANCEL_LIMIT nodes w a b [] else false)
        (ap (λ c. if c then cancels_within CANCEL_LIMIT nodes w a b [] else false) (no_products READ_LIMIT both plain_parts))

    pub never_sums : are_sums nodes a b ≡ false
    never_sums =
        let w = width_at (widths_of nodes) a in
        let g = gathered_sum nodes [] (difference a b) in
        let lost : loses_products nodes w g ≡ false =
        ap (λ c. if c then is_there (multiplied nodes w [] g) else false)
        (none_a_product g.parts
        (gathered_all (IsPlain nodes) nodes [] (λ p k. let n = known p k in n.parts) READ_LIMIT both (empty 0) plain_parts (All-nil Own))) in
        if_same (a.0 == b.0) (if has_sum READ_LIMIT nodes both then true else loses_products nodes w g)
        (ap (λ c. if c then true else loses_products nodes w g) (no_sums READ_LIMIT both plain_parts) ∙ lost)

    -- plain words are compared as `same` compares words
    pub plain_is_same : (kinds : List RuleKind) → equated_words kinds a b nodes ≡ same_words kinds a b nodes
    plain_is_same kinds =
        ap (λ c. if c then made kinds (Const (word 1 1)) nodes else compared_words kinds a b nodes) never_cancels
        ∙ ap (λ c. if c then subtracted kinds a b nodes else same_words kinds a b nodes) never_sums

-- what is put after the words that are still to be looked at
module _ (nodes : List Node) (a : Id) (old new : List Id) where
  pub whole_leads : is_whole (slice_get nodes a.0) ≡ true → Leads nodes a old old
  whole_leads e h = (h, whole a e)

  pub complement_leads : (x : Id) → slice_get nodes a.0 ≡ Some (Not x) → new ≡ old ++ x ∷ [] → Leads nodes a old new
  complement_leads x e g h = let p = All-pop (IsPlain nodes) new old (Some x) g h in (p.0, complement a x e p.1)

  pub either_leads : (t x y : Id) (middle : List Id) → slice_get nodes a.0 ≡ Some (Pick t x y) → middle ≡ old ++ y ∷ [] → new ≡ middle ++ x ∷ [] →
      Leads nodes a old new
  either_leads t x y middle e f g h =
      let p = All-pop (IsPlain nodes) new middle (Some x) g h in
      let q = All-pop (IsPlain nodes) middle old (Some y) f p.0 in
      (q.0, either a t x y e p.1 q.1)

  pub complement_stands : (x : Id) → InOrder [] nodes → slice_get nodes a.0 ≡ Some (Not x) → new ≡ old ++ x ∷ [] → All (Stands nodes) old →
      All (Stands nodes) new
  complement_stands x o e g h = subst (All (Stands nodes)) (sym g) (All-push (Stands nodes) old x h (not_stands nodes a.0 x o e))

  pub either_stands : (t x y : Id) (middle : List Id) → InOrder [] nodes → Stands nodes a → slice_get nodes a.0 ≡ Some (Pick t x y) → middle ≡ old ++ y ∷ [] →
      new ≡ middle ++ x ∷ [] → All (Stands nodes) old → All (Stands nodes) new
  either_stands t x y middle o s e f g h =
      let w = width_at (widths_of nodes) a in
      let c = pick_children nodes a t x y w o e (has_width nodes a s) in
      let m = subst (All (Stands nodes)) (sym f) (All-push (Stands nodes) old y h (stands nodes y w c.second)) in
      subst (All (Stands nodes)) (sym g) (All-push (Stands nodes) middle x m (stands nodes x w c.first))

-- both words, and nothing else, are still to be looked at
module _ (nodes : List Node) (a b : Id) (start first second : List Id) (none : start ≡ []) (f : first ≡ start ++ a ∷ []) (g : second ≡ first ++ b ∷ []) where
  pub both_stand : Stands nodes a → Stands nodes b → All (Stands nodes) second
  both_stand h i =
      let s = subst (All (Stands nodes)) (sym none) (All-nil (Stands nodes)) in
      let m = subst (All (Stands nodes)) (sym f) (All-push (Stands nodes) start a s h) in
      subst (All (Stands nodes)) (sym g) (All-push (Stands nodes) first b m i)

  pub both_plain : All (IsPlain nodes) second → ArePlain nodes a b
  both_plain h =
      let p = All-pop (IsPlain nodes) second first (Some b) g h in
      let q = All-pop (IsPlain nodes) first start (Some a) f p.0 in
      (q.1, p.1)

-- one word less is to be looked at
module _ (P : Id → Type 0) (a : Id) (old rest : List Id) (e : old ≡ rest ++ a ∷ []) where
  pub rest_all : All P old → All P rest
  rest_all h = let p = All-pop P old rest (Some a) e h in p.0

  pub last_is : All P old → P a
  last_is h = let p = All-pop P old rest (Some a) e h in p.1

  pub all_again : All P rest × P a → All P old
  all_again h = subst (All P) (sym e) (All-push P rest a h.0 h.1)
