-- A test made anew over values in which what it says of inputs stands in their stead: it is what it was.
use Rattle.std.proofs.Common.{◌≡◌, ◌&&◌, ◌==◌, Bool, true, false, List, [], ◌∷◌, refl, sym, ap, ◌∙◌}
use Rattle.std.proofs.lemmas.Bool.{eqb-true}
use Rattle.std.proofs.lemmas.Bool.Decides.{Decides-eqb}
use Rattle.std.proofs.lemmas.List.Elements.{All-weaker, All-nil, All-cons, All-head, All-tail}
use Rattle.ygg_value.specs.Number.{Number}
use Rattle.ygg_value.specs.Words.{word}
use Rattle.ygg_value.specs.declared.operation.Op.TheVariants.{And, Eq}
use Rattle.ygg_sym_laws.specs.ygg_rules.declared.rule.RuleKind.{RuleKind}
use Rattle.ygg_sym_laws.specs.ygg_bank_proofs_Made.{made_grows}
use Rattle.ygg_sym_laws.specs.ygg_bank_proofs_Meaning.{fits_fewer}
use Rattle.ygg_sym_laws.specs.ygg_bank_proofs_Widths.{wider, extends_both}
use Rattle.ygg_sym_laws.specs.ygg_bank.Makes.{Make}
use Rattle.ygg_sym_laws.specs.ygg_bank.Making.{made}
use Rattle.ygg_sym_laws.specs.ygg_bank.Nodes.{HasWidth, Extends}
use Rattle.ygg_sym_laws.specs.ygg_bank.Values.{Inputs, Values, Fits}
use Rattle.ygg_sym_laws.specs.ygg_bank.declared.node.Id.{Id}
use Rattle.ygg_sym_laws.specs.ygg_bank.declared.node.Node.{Node}
use Rattle.ygg_sym_laws.specs.ygg_bank.declared.node.Node.TheVariants.{Const, Bin}
use Rattle.ygg_sym_laws.specs.ygg_shape_words_proofs_Fit.{alike_wider, can_equal}
use Rattle.ygg_sym_laws.specs.ygg_shape_words_proofs_Keeps.{Stays}
use Rattle.ygg_sym_laws.specs.ygg_shape_words_proofs_Terms.{made_is}
use Rattle.ygg_sym_laws.specs.ygg_shape_words.Forms.{WordsAlike}
use Rattle.ygg_sym_laws.proofs.of_ygg_shape.Hypotheses.{all_true, facts_are, facts_keep}
use Rattle.ygg_sym_laws.proofs.of_ygg_shape.Replaced.{AreTrue}
use Rattle.ygg_sym_laws.specs.ygg_shape.Finding.{facts_in}
use Rattle.ygg_sym_laws.specs.ygg_shape.Replacing.{AreFit}
use Rattle.ygg_sym_laws.specs.ygg_shape.declared.replacing.Replacement.{Replacement}
use Rattle.ygg_sym_laws.specs.ygg_sym_runs.ExpressionMeaning.{Grows, Gives}
use Rattle.ygg_sym_laws.specs.ygg_sym_runs_proofs_Keeps.{Keeps}
use Rattle.ygg_sym_laws.specs.Meaning.{is_set}
use Rattle.ygg_oblige_laws.specs.TermStates.{Under, known_made, under_made}
use Rattle.ygg_oblige_laws.specs.Worth.{IsTruth}
use Rattle.ygg_oblige_laws.proofs.Truth.{adds, truth_of, one_gives, and_gives}
use Rattle.ygg_oblige_laws.proofs.Digits.{both_true, both_hold}

-- facts fit among more nodes
pub facts_wider : (old new : List Node) (rs : List Replacement) → Extends old new → AreFit old rs → AreFit new rs
facts_wider old new rs g f =
    All-weaker (λ (r : Replacement). WordsAlike old r.input r.term) (λ (r : Replacement). WordsAlike new r.input r.term)
    (λ r h. alike_wider old new r.input r.term g h) rs f

module _ (kinds : List RuleKind) (P : List Node → Type 0) (stays : Stays kinds P) where
  known_keep : (rs : List Replacement) → Keeps P (known_made kinds rs)
  known_keep [] nodes p = stays (Const (word 1 1)) nodes tt p
  known_keep (r ∷ rs) nodes p =
      let k = known_made kinds rs nodes in
      let e = made kinds (Bin Eq r.input r.term) k.nodes in
      stays (Bin And e.value k.value) e.nodes tt (stays (Bin Eq r.input r.term) k.nodes tt (known_keep rs nodes p))

  pub under_keep : (first : Make Id) (again : List Replacement → Make Id) → Keeps P first → ((rs : List Replacement) → Keeps P (again rs)) →
      Keeps P (under_made kinds first again)
  under_keep first again kf ka nodes p =
      let s = first nodes in
      let f = facts_in kinds s.value s.nodes in
      let k = known_made kinds f.value f.nodes in
      let a = again f.value k.nodes in
      stays (Bin And k.value a.value) a.nodes tt (ka f.value k.nodes (known_keep f.value f.nodes (facts_keep kinds P stays s.value s.nodes (kf nodes p))))

facts_grow : (kinds : List RuleKind) (h : Id) → Grows (facts_in kinds h)
facts_grow kinds h = let a = adds kinds (facts_in kinds h) (λ P s. facts_keep kinds P s h) in a.grows

known_grows : (kinds : List RuleKind) (rs : List Replacement) → Grows (known_made kinds rs)
known_grows kinds rs = let a = adds kinds (known_made kinds rs) (λ P s. known_keep kinds P s rs) in a.grows

-- what comes after the test that is made first
pub under_after : (kinds : List RuleKind) (first : Make Id) (again : List Replacement → Make Id) → ((rs : List Replacement) → Grows (again rs)) →
    (nodes : List Node) → Extends (first nodes).nodes (under_made kinds first again nodes).nodes
under_after kinds first again ga nodes =
    let s = first nodes in
    let f = facts_in kinds s.value s.nodes in
    let k = known_made kinds f.value f.nodes in
    let a = again f.value k.nodes in
    let t = made kinds (Bin And k.value a.value) a.nodes in
    extends_both s.nodes f.nodes t.nodes (facts_grow kinds s.value s.nodes)
    (extends_both f.nodes k.nodes t.nodes (known_grows kinds f.value f.nodes)
    (extends_both k.nodes a.nodes t.nodes (ga f.value k.nodes) (made_grows kinds (Bin And k.value a.value) a.nodes)))

module _ (inputs : Inputs) (v : Values) (kinds : List RuleKind) where
  -- what a hypothesis says
  record FactsAre (h : Id) (nodes : List Node) (rs : List Replacement) : Type 0 where
    fit : AreFit nodes rs
    true_under : is_set v h ≡ true → AreTrue v rs

  facts_give : (h : Id) (nodes : List Node) → HasWidth nodes h 1 → Gives inputs v (facts_in kinds h) nodes (FactsAre h)
  facts_give h nodes d f =
      let so = facts_are inputs v kinds h nodes d f in
      record {
        fit = so.fit;
        true_under = λ e. all_true v ((v h.0).bits ≡ 1) (facts_in kinds h nodes).value (eqb-true (v h.0).bits 1 e) so.are;
      }

  -- a digit that is 1 just where inputs are as the terms in their stead say
  record KnownSo (rs : List Replacement) (nodes : List Node) (a : Id) : Type 0 where
    wide : HasWidth nodes a 1
    are : is_set v a ≡ true → AreTrue v rs
    holds : AreTrue v rs → is_set v a ≡ true

  known_gives : (rs : List Replacement) (nodes : List Node) → AreFit nodes rs → Gives inputs v (known_made kinds rs) nodes (KnownSo rs)
  known_gives [] nodes f h =
      let o = one_gives inputs v kinds nodes h in
      record { wide = o.wide; are = λ e. All-nil (λ (r : Replacement). v r.input.0 ≡ v r.term.0); holds = λ t. o.is }
  known_gives (r ∷ rs) nodes f h =
      let P : Replacement → Type 0 = λ r. v r.input.0 ≡ v r.term.0 in
      let W : Replacement → Type 0 = λ r. WordsAlike nodes r.input r.term in
      let n = Bin Eq r.input r.term in
      let k = known_made kinds rs nodes in
      let e = made kinds n k.nodes in
      let o = made kinds (Bin And e.value k.value) e.nodes in
      let ge = made_grows kinds n k.nodes in
      let he = fits_fewer inputs v e.nodes o.nodes (made_grows kinds (Bin And e.value k.value) e.nodes) h in
      let hk = fits_fewer inputs v k.nodes e.nodes ge he in
      let w = alike_wider nodes k.nodes r.input r.term (known_grows kinds rs nodes) (All-head W r rs f) in
      let m = made_is inputs v kinds n k.nodes (can_equal k.nodes r.input r.term w.width w.one_has w.two_has) he in
      let c = (v r.input.0).bits == (v r.term.0).bits in
      let here : IsTruth v c e.nodes e.value = truth_of inputs v e.nodes c e.value (record { wide = m.wide; is = m.is }) in
      let rest = known_gives rs nodes (All-tail W r rs f) hk in
      let t = and_gives inputs v kinds e.value k.value c (is_set v k.value) e.nodes here
      (record { wide = wider k.nodes e.nodes k.value 1 ge rest.wide; is = refl }) h in
      record {
        wide = t.wide;
        are = λ s.
            let both = both_true c (is_set v k.value) (sym t.is ∙ s) in
            let widths = hk.widths r.input.0 w.width w.one_has ∙ sym (hk.widths r.term.0 w.width w.two_has) in
            let numbers = (Decides-eqb (v r.input.0).bits (v r.term.0).bits).0 both.0 in
            All-cons P r rs (ap (λ z. word z (v r.input.0).bits) widths ∙ ap (word (v r.term.0).width) numbers) (rest.are both.1);
        holds = λ all.
            t.is ∙ both_hold c (is_set v k.value) ((Decides-eqb (v r.input.0).bits (v r.term.0).bits).1 (ap (λ (z : Number). z.bits) (All-head P r rs all)))
            (rest.holds (All-tail P r rs all));
      }

  -- a test that is made anew, where its inputs are as it says
  pub record AgainSo (said : Id) (rs : List Replacement) (nodes : List Node) (a : Id) : Type 0 where
    pub wide : HasWidth nodes a 1
    pub same : AreTrue v rs → is_set v a ≡ is_set v said

  -- a test made anew is what it was, and what it says of inputs is so where it is 1
  pub record UnderSo (said : Id) (nodes : List Node) (u : Under) : Type 0 where
    pub wide : HasWidth nodes u.test 1
    pub same : is_set v u.test ≡ is_set v said
    pub fit : AreFit nodes u.facts
    pub true_under : is_set v u.test ≡ true → AreTrue v u.facts

  same_test : (known again said : Bool) → (known ≡ true → again ≡ said) → (said ≡ true → known ≡ true) → (known && again) ≡ said
  same_test true again said p q = p refl
  same_test false again true p q = q refl
  same_test false again false p q = refl

  pub under_gives : (first : Make Id) (again : List Replacement → Make Id) (nodes : List Node) → Grows first →
      ((rs : List Replacement) → Grows (again rs)) → Gives inputs v first nodes (λ new a. HasWidth new a 1) →
      ((rs : List Replacement) (new : List Node) → AreFit new rs → Extends (first nodes).nodes new → Fits inputs v (first nodes).nodes →
      Gives inputs v (again rs) new (AgainSo (first nodes).value rs)) →
      Gives inputs v (under_made kinds first again) nodes (UnderSo (first nodes).value)
  under_gives first again nodes gs ga p q h =
      let s = first nodes in
      let f = facts_in kinds s.value s.nodes in
      let k = known_made kinds f.value f.nodes in
      let a = again f.value k.nodes in
      let t = made kinds (Bin And k.value a.value) a.nodes in
      let gf = facts_grow kinds s.value s.nodes in
      let gk = known_grows kinds f.value f.nodes in
      let gn = ga f.value k.nodes in
      let gt = made_grows kinds (Bin And k.value a.value) a.nodes in
      let hn = fits_fewer inputs v a.nodes t.nodes gt h in
      let hk = fits_fewer inputs v k.nodes a.nodes gn hn in
      let hf = fits_fewer inputs v f.nodes k.nodes gk hk in
      let hs = fits_fewer inputs v s.nodes f.nodes gf hf in
      let facts = facts_give s.value s.nodes (p hs) hf in
      let known = known_gives f.value f.nodes facts.fit hk in
      let fit = facts_wider f.nodes k.nodes f.value gk facts.fit in
      let rest = q f.value k.nodes fit (extends_both s.nodes f.nodes k.nodes gf gk) hs hn in
      let both = and_gives inputs v kinds k.value a.value (is_set v k.value) (is_set v a.value) a.nodes
      (record { wide = wider k.nodes a.nodes k.value 1 gn known.wide; is = refl }) (record { wide = rest.wide; is = refl }) h in
      record {
        wide = both.wide;
        same = both.is ∙ same_test (is_set v k.value) (is_set v a.value) (is_set v s.value) (λ e. rest.same (known.are e))
            (λ e. known.holds (facts.true_under e));
        fit = facts_wider k.nodes t.nodes f.value (extends_both k.nodes a.nodes t.nodes gn gt) fit;
        true_under = λ e. known.are ((both_true (is_set v k.value) (is_set v a.value) (sym both.is ∙ e)).0);
      }
