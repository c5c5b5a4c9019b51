-- What a sum is worth where products that are left are terms, and its words.
use Rattle.std.proofs.Common.{◌≡◌, ◌==◌, ◌+◌, ◌*◌, ◌%◌, ◌^◌, ℕ, Bool, true, false, if◌then◌else◌, Option}
use Rattle.std.proofs.Common.{Some, None, List, [], ◌∷◌, All, refl, ap, ◌∙◌, arith}
use Rattle.std.proofs.Math.Nat.{mul_assoc}
use Rattle.std.proofs.lemmas.List.Elements.{All-head, All-tail, All-nil, All-weaker}
use Rattle.ygg_value.specs.Words.{word, bit_of}
use Rattle.ygg_value.specs.declared.operation.Op.TheVariants.{Mul}
use Rattle.ygg_shape_words.specs.ygg_rules.Views.{IsWidth}
use Rattle.ygg_shape_words.specs.ygg_rules.declared.rule.RuleKind.{RuleKind}
use Rattle.ygg_shape_words.specs.ygg_bank_proofs_Made.{made_grows}
use Rattle.ygg_shape_words.specs.ygg_bank_proofs_Meaning.{fits_fewer}
use Rattle.ygg_shape_words.specs.ygg_bank_proofs_Widths.{wider}
use Rattle.ygg_shape_words.specs.ygg_bank.Makes.{Make, Out, pure}
use Rattle.ygg_shape_words.specs.ygg_bank.Making.{made}
use Rattle.ygg_shape_words.specs.ygg_bank.Nodes.{HasWidth, Extends}
use Rattle.ygg_shape_words.specs.ygg_bank.Values.{Inputs, Values, Fits}
use Rattle.ygg_shape_words.specs.ygg_bank.declared.node.Id.{Id}
use Rattle.ygg_shape_words.specs.ygg_bank.declared.node.Node.{Node}
use Rattle.ygg_shape_words.specs.ygg_bank.declared.node.Node.TheVariants.{Bin}
use Rattle.ygg_shape_sums.proofs.Factors.{AllWide}
use Rattle.ygg_shape_sums.proofs.Fit.{merged_fit, parts_wider}
use Rattle.ygg_shape_sums.proofs.Keeps.{times_all_grows, with_term_grows, with_terms_grows, remains_grows, vanishes_grows}
use Rattle.ygg_shape_sums.proofs.Modulo.{Like, like, like_both, like_add, like_times, like_many}
use Rattle.ygg_shape_sums.proofs.Polynomials.{made_of, read_worth, all_read}
use Rattle.ygg_shape_sums.proofs.Reduces.{few_is, one_is, products_are}
use Rattle.ygg_shape_sums.proofs.Sides.{Gives, mul_is, as_much, vanishes_is}
use Rattle.ygg_shape_sums.proofs.Splits.{parts_expanded_fit}
use Rattle.ygg_shape_sums.proofs.Worth.{bits, worth, FactsHold, with_part_is}
use Rattle.ygg_shape_sums.specs.Multiplies.{expanded}
use Rattle.ygg_shape_sums.specs.Parts.{Sum, PartsFit, part, empty, with_part}
use Rattle.ygg_shape_sums.specs.Products.{Product, ProductFits}
use Rattle.ygg_shape_sums.specs.Reduces.{any_product, products_of}
use Rattle.ygg_shape_sums.specs.Remains.{times_all, with_factors, with_term, with_terms, remains_of, remains, vanishes_left}
use Rattle.ygg_shape_sums.specs.Sides.{vanishes}
use Rattle.ygg_shape_sums.specs.declared.multiplying.TheConstants.{MULTIPLY_LIMIT}
use Rattle.ygg_shape_sums.specs.declared.parts.Summand.{Summand}
use Rattle.ygg_shape_sums.specs.declared.reading.Fact.{Fact}

pub factors_wider : (old new : List Node) (w : ℕ) (xs : List Id) → Extends old new → AllWide old w xs → AllWide new w xs
factors_wider old new w xs g h = All-weaker (λ (a : Id). HasWidth old a w) (λ (a : Id). HasWidth new a w) (λ a. wider old new a w g) xs h

pub product_wider : (old new : List Node) (w : ℕ) (p : Product) → Extends old new → ProductFits old w p → ProductFits new w p
product_wider old new w p g h = record { factors = factors_wider old new w p.factors g h.factors; rest = factors_wider old new w p.rest g h.rest }

pub products_wider : (old new : List Node) (w : ℕ) (ps : List Product) → Extends old new → All (ProductFits old w) ps → All (ProductFits new w) ps
products_wider old new w ps g h = All-weaker (ProductFits old w) (ProductFits new w) (λ p. product_wider old new w p g) ps h

pub chosen : (c : Bool) (m : Option (List Product)) (qs : List Product) → (if c then m else None) ≡ Some qs → m ≡ Some qs
chosen true m qs e = e
chosen false m qs e = absurd (cc)

module _ (inputs : Inputs) (v : Values) (w : ℕ) (wide : IsWidth w) (kinds : List RuleKind) where
  abbrev Given : List Node → ℕ → Id → Type 0
  Given = Gives inputs v w wide kinds

  times_all_is : (a : Id) (bs : List Id) (nodes : List Node) → HasWidth nodes a w → AllWide nodes w bs → Fits inputs v (times_all kinds a bs nodes).nodes →
      Given (times_all kinds a bs nodes).nodes (bits inputs v a * made_of inputs v bs) (times_all kinds a bs nodes).value
  times_all_is a [] nodes p q h = record { has = p; is = like (2 ^ w) (bits inputs v a) (bits inputs v a * 1) (once (bits inputs v a)) } where
    once : (x : ℕ) → x ≡ x * 1
    once x = omega arith
  times_all_is a (b ∷ bs) nodes p q h =
      let n = 2 ^ w in
      let Wide = λ (a : Id). HasWidth nodes a w in
      let m = made kinds (Bin Mul a b) nodes in
      let r = times_all kinds m.value bs m.nodes in
      let mg = made_grows kinds (Bin Mul a b) nodes in
      let mh = fits_fewer inputs v m.nodes r.nodes (times_all_grows kinds m.value bs m.nodes) h in
      let one = mul_is inputs v w wide kinds a b nodes p (All-head Wide b bs q) mh in
      let rest = times_all_is m.value bs m.nodes one.has (factors_wider nodes m.nodes w bs mg (All-tail Wide b bs q)) h in
      let x = bits inputs v a in
      let y = bits inputs v b in
      let z = made_of inputs v bs in
      as_much inputs v w wide kinds r.nodes (bits inputs v m.value * z) (x * (y * z)) r.value
      (like_both n (bits inputs v m.value * z) (x * y * z) (x * (y * z)) (like_many n z (bits inputs v m.value) (x * y) one.is)
      (like n (x * y * z) (x * (y * z)) (mul_assoc x y z))) rest

  -- a sum of words of the width that is worth this
  record SumGives (nodes : List Node) (x : ℕ) (s : Sum) : Type 0 where
    fit : PartsFit nodes w s.parts
    is : Like (2 ^ w) (worth inputs v s) x

  with_factors_is : (n : ℕ) (fs : List Id) (s : Sum) (nodes : List Node) → AllWide nodes w fs → PartsFit nodes w s.parts →
      Fits inputs v (with_factors kinds n fs s nodes).nodes →
      SumGives (with_factors kinds n fs s nodes).nodes (n * made_of inputs v fs + worth inputs v s) (with_factors kinds n fs s nodes).value
  with_factors_is n [] s nodes q f h = record { fit = f; is = few_is inputs v w wide.most n [] s }
  with_factors_is n (a ∷ fs) s nodes q f h =
      let m = 2 ^ w in
      let Wide = λ (a : Id). HasWidth nodes a w in
      let o = times_all kinds a fs nodes in
      let t = times_all_is a fs nodes (All-head Wide a fs q) (All-tail Wide a fs q) h in
      let x = bits inputs v a * made_of inputs v fs in
      let y = worth inputs v s in
      record {
        fit = merged_fit o.nodes w (part n o.value) s.parts t.has (parts_wider nodes o.nodes w s.parts (times_all_grows kinds a fs nodes) f);
        is =
            like_both m (worth inputs v (with_part (part n o.value) s)) (n * bits inputs v o.value + y) (n * x + y)
            (with_part_is inputs v w wide.most (part n o.value) s)
            (like_add m (n * bits inputs v o.value) (n * x) y y (like_times m n (bits inputs v o.value) x t.is) (like m y y refl));
      }

  with_term_is : (p : Product) (s : Sum) (nodes : List Node) (c : Bool) → (p.times % 2 ^ w == 0) ≡ c → AllWide nodes w p.factors →
      PartsFit nodes w s.parts →
      (let o : Make Sum = if c then pure s else with_factors kinds p.times p.factors s in
      Fits inputs v (o nodes).nodes → SumGives (o nodes).nodes (read_worth inputs v p + worth inputs v s) (o nodes).value)
  with_term_is p s nodes true e q f h = record { fit = f; is = one_is inputs v w wide.most p s true e }
  with_term_is p s nodes false e q f h = with_factors_is p.times p.factors s nodes q f h

  with_terms_is : (ps : List Product) (s : Sum) (nodes : List Node) → All (ProductFits nodes w) ps → PartsFit nodes w s.parts →
      Fits inputs v (with_terms kinds w ps s nodes).nodes →
      SumGives (with_terms kinds w ps s nodes).nodes (all_read inputs v ps + worth inputs v s) (with_terms kinds w ps s nodes).value
  with_terms_is [] s nodes q f h = record { fit = f; is = like (2 ^ w) (worth inputs v s) (0 + worth inputs v s) (none (worth inputs v s)) } where
    none : (x : ℕ) → x ≡ 0 + x
    none x = omega arith
  with_terms_is (p ∷ ps) s nodes q f h =
      let m = 2 ^ w in
      let o = with_term kinds w p s nodes in
      let r = with_terms kinds w ps o.value o.nodes in
      let g = with_term_grows kinds w p s nodes in
      let oh = fits_fewer inputs v o.nodes r.nodes (with_terms_grows kinds w ps o.value o.nodes) h in
      let own = All-head (ProductFits nodes w) p ps q in
      let one = with_term_is p s nodes (p.times % 2 ^ w == 0) refl own.factors f oh in
      let rest = with_terms_is ps o.value o.nodes (products_wider nodes o.nodes w ps g (All-tail (ProductFits nodes w) p ps q)) one.fit h in
      let x = read_worth inputs v p in
      let y = all_read inputs v ps in
      let z = worth inputs v s in
      record {
        fit = rest.fit;
        is =
            like_both m (worth inputs v r.value) (y + worth inputs v o.value) (x + y + z) rest.is
            (like_both m (y + worth inputs v o.value) (y + (x + z)) (x + y + z)
            (like_add m y y (worth inputs v o.value) (x + z) (like m y y refl) one.is) (like m (y + (x + z)) (x + y + z) (turned y x z)));
      } where
        turned : (p q r : ℕ) → p + (q + r) ≡ q + p + r
        turned p q r = omega arith

  -- what is left of a sum where the facts hold
  record LeftIs (facts : List Fact) (s : Sum) (o : Out Sum) : Type 0 where
    fit : PartsFit o.nodes w (o.value).parts
    is : FactsHold inputs v facts → Like (2 ^ w) (worth inputs v o.value) (worth inputs v s)

  remains_of_is : (facts : List Fact) (s : Sum) (m : Option (List Product)) (nodes : List Node) → PartsFit nodes w s.parts →
      ((qs : List Product) → m ≡ Some qs → All (ProductFits nodes w) qs) →
      ((qs : List Product) → m ≡ Some qs → FactsHold inputs v facts →
      Like (2 ^ w) (all_read inputs v qs + worth inputs v (empty s.number)) (worth inputs v s)) →
      Fits inputs v (remains_of kinds w s m nodes).nodes → LeftIs facts s (remains_of kinds w s m nodes)
  remains_of_is facts s None nodes f q l h = record { fit = f; is = λ k. like (2 ^ w) (worth inputs v s) (worth inputs v s) refl }
  remains_of_is facts s (Some qs) nodes f q l h =
      let o = with_terms kinds w qs (empty s.number) nodes in
      let t = with_terms_is qs (empty s.number) nodes (q qs refl) (All-nil (λ (p : Summand). HasWidth nodes p.term w)) h in
      record {
        fit = t.fit;
        is = λ k.
            like_both (2 ^ w) (worth inputs v o.value) (all_read inputs v qs + worth inputs v (empty s.number)) (worth inputs v s) t.is (l qs refl k);
      }

  remains_is : (facts : List Fact) (s : Sum) (nodes : List Node) → PartsFit nodes w s.parts → Fits inputs v (remains kinds w facts s nodes).nodes →
      LeftIs facts s (remains kinds w facts s nodes)
  remains_is facts s nodes f h =
      let own = fits_fewer inputs v nodes (remains kinds w facts s nodes).nodes (remains_grows kinds w facts s nodes) h in
      let m = expanded MULTIPLY_LIMIT nodes facts (products_of s.parts) [] in
      let c = any_product nodes s.parts in
      remains_of_is facts s (if c then m else None) nodes f (λ qs e. parts_expanded_fit nodes w facts s.parts qs own.ordered f (chosen c m qs e))
      (λ qs e k. products_are inputs v w wide.most nodes own facts s qs k f (chosen c m qs e)) h

  -- a digit that says, where the facts hold, whether a sum is 0
  pub record ZeroIs (facts : List Fact) (s : Sum) (o : Out Id) : Type 0 where
    pub has : HasWidth o.nodes o.value 1
    pub is : FactsHold inputs v facts → v (o.value).0 ≡ word 1 (bit_of (worth inputs v s % 2 ^ w == 0))

  pub vanishes_left_is : (facts : List Fact) (s : Sum) (nodes : List Node) → PartsFit nodes w s.parts →
      Fits inputs v (vanishes_left kinds w facts s nodes).nodes → ZeroIs facts s (vanishes_left kinds w facts s nodes)
  vanishes_left_is facts s nodes f h =
      let o = remains kinds w facts s nodes in
      let r = vanishes kinds w o.value o.nodes in
      let oh = fits_fewer inputs v o.nodes r.nodes (vanishes_grows kinds w o.value o.nodes) h in
      let t = remains_is facts s nodes f oh in
      let m = vanishes_is inputs v w wide kinds o.value o.nodes t.fit h in
      record { has = m.wide; is = λ k. let l = t.is k in m.is ∙ ap (λ z. word 1 (bit_of (z == 0))) l.is }
