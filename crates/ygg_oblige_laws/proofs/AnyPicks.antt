-- A test of all lists of so many picks is 1 where some list passes.
use Rattle.std.proofs.Common.{◌≡◌, ◌+◌, ◌||◌, ℕ, zero, suc, Bool, true, false, List, [], ◌∷◌, ◌++◌, length, refl, sym, ap, ◌∙◌, arith, append_assoc}
use Rattle.std.proofs.lemmas.List.{append-nil}
use Rattle.ygg_value.specs.declared.operation.Op.TheVariants.{Or}
use Rattle.ygg_sym_laws.specs.ygg_meaning.Machine.{Picks}
use Rattle.ygg_sym_laws.specs.ygg_meaning.Obligations.{NoPicksPass}
use Rattle.ygg_sym_laws.proofs.of_ygg_meaning.Search.{Passes}
use Rattle.ygg_sym_laws.specs.ygg_rules.declared.rule.RuleKind.{RuleKind}
use Rattle.ygg_sym_laws.specs.ygg_bank_proofs_Made.{made_grows}
use Rattle.ygg_sym_laws.specs.ygg_bank_proofs_Meaning.{fits_fewer}
use Rattle.ygg_sym_laws.specs.ygg_bank_proofs_Widths.{wider, extends_both}
use Rattle.ygg_sym_laws.specs.ygg_bank.Makes.{Make}
use Rattle.ygg_sym_laws.specs.ygg_bank.Making.{made}
use Rattle.ygg_sym_laws.specs.ygg_bank.Nodes.{HasWidth, Extends}
use Rattle.ygg_sym_laws.specs.ygg_bank.Values.{Inputs, Values}
use Rattle.ygg_sym_laws.specs.ygg_bank.declared.node.Id.{Id}
use Rattle.ygg_sym_laws.specs.ygg_bank.declared.node.Node.{Node}
use Rattle.ygg_sym_laws.specs.ygg_bank.declared.node.Node.TheVariants.{Bin}
use Rattle.ygg_sym_laws.specs.ygg_shape_words_proofs_Keeps.{Stays}
use Rattle.ygg_sym_laws.specs.ygg_meaning_laws_proofs_Placing.{long_append}
use Rattle.ygg_sym_laws.specs.ygg_sym_runs.ExpressionMeaning.{Grows, Gives}
use Rattle.ygg_sym_laws.specs.ygg_sym_runs_proofs_Keeps.{Keeps}
use Rattle.ygg_sym_laws.specs.Meaning.{is_set}
use Rattle.ygg_oblige_laws.specs.Outcomes.{any_picks}
use Rattle.ygg_oblige_laws.proofs.Truth.{or_gives}
use Rattle.ygg_oblige_laws.specs.Worth.{IsTruth}

-- a term that is 1 where some list of so many picks after these passes, and 0 where none does
pub record AnyIs (v : Values) (n : ℕ) (before : Picks) (want : Picks → Bool) (nodes : List Node) (a : Id) : Type 0 where
  pub wide : HasWidth nodes a 1
  pub some : is_set v a ≡ true → Passes n (λ picks. want (before ++ picks))
  pub none : is_set v a ≡ false → NoPicksPass n (λ picks. want (before ++ picks))

pub any_keeps : (kinds : List RuleKind) (P : List Node → Type 0) → Stays kinds P → (n : ℕ) (before : Picks) (test : Picks → Make Id) →
    ((picks : Picks) → Keeps P (test picks)) → Keeps P (any_picks kinds n before test)
any_keeps kinds P stays zero before test keep nodes p = keep before nodes p
any_keeps kinds P stays (suc n) before test keep nodes p =
    let a = any_picks kinds n (before ++ false ∷ []) test nodes in
    let b = any_picks kinds n (before ++ true ∷ []) test a.nodes in
    stays (Bin Or a.value b.value) b.nodes tt
    (any_keeps kinds P stays n (before ++ true ∷ []) test keep a.nodes (any_keeps kinds P stays n (before ++ false ∷ []) test keep nodes p))

pub any_grows : (kinds : List RuleKind) (n : ℕ) (before : Picks) (test : Picks → Make Id) → ((picks : Picks) → Grows (test picks)) →
    Grows (any_picks kinds n before test)
any_grows kinds zero before test grow nodes = grow before nodes
any_grows kinds (suc n) before test grow nodes =
    let a = any_picks kinds n (before ++ false ∷ []) test nodes in
    let b = any_picks kinds n (before ++ true ∷ []) test a.nodes in
    let o = made kinds (Bin Or a.value b.value) b.nodes in
    extends_both nodes a.nodes o.nodes (any_grows kinds n (before ++ false ∷ []) test grow nodes)
    (extends_both a.nodes b.nodes o.nodes (any_grows kinds n (before ++ true ∷ []) test grow a.nodes) (made_grows kinds (Bin Or a.value b.value) b.nodes))

-- one of two that are set
or_case : (a b : Bool) (A : Type 0) → (a || b) ≡ true → (a ≡ true → A) → (b ≡ true → A) → A
or_case true b A e f g = f refl
or_case false b A e f g = g e

neither : (a b : Bool) → (a || b) ≡ false → (a ≡ false) × (b ≡ false)
neither true b e = absurd (cc)
neither false b e = (refl, e)

-- a list that begins with this pick
longer : (n : ℕ) (before : Picks) (p : Bool) (want : Picks → Bool) → Passes n (λ picks. want ((before ++ p ∷ []) ++ picks)) →
    Passes (suc n) (λ picks. want (before ++ picks))
longer n before p want h = record {
  picks = p ∷ h.picks;
  count = omega (arith, h.count);
  yes = ap want (sym (append_assoc before (p ∷ []) h.picks)) ∙ h.yes;
}

none_longer : (n : ℕ) (before : Picks) (want : Picks → Bool) → NoPicksPass n (λ picks. want ((before ++ false ∷ []) ++ picks)) →
    NoPicksPass n (λ picks. want ((before ++ true ∷ []) ++ picks)) → NoPicksPass (suc n) (λ picks. want (before ++ picks))
none_longer n before want f g [] l = absurd (omega (arith, l))
none_longer n before want f g (true ∷ picks) l = ap want (sym (append_assoc before (true ∷ []) picks)) ∙ g picks (omega (arith, l))
none_longer n before want f g (false ∷ picks) l = ap want (sym (append_assoc before (false ∷ []) picks)) ∙ f picks (omega (arith, l))

none_here : (before : Picks) (want : Picks → Bool) → want before ≡ false → NoPicksPass 0 (λ picks. want (before ++ picks))
none_here before want e [] l = ap want (append-nil before) ∙ e
none_here before want e (p ∷ picks) l = absurd (omega (arith, l))

module _ (inputs : Inputs) (v : Values) (kinds : List RuleKind) (test : Picks → Make Id) (want : Picks → Bool) (H : List Node → Type 0)
    (stay : (old new : List Node) → Extends old new → H old → H new) (grow : (picks : Picks) → Grows (test picks)) (count : ℕ)
    (each : (picks : Picks) (nodes : List Node) → length picks ≡ count → H nodes → Gives inputs v (test picks) nodes (IsTruth v (want picks))) where
  pub any_gives : (n : ℕ) (before : Picks) → length before + n ≡ count → (nodes : List Node) → H nodes →
      Gives inputs v (any_picks kinds n before test) nodes (AnyIs v n before want)
  any_gives zero before l nodes k h =
      let t = each before nodes (omega (arith, l)) k h in
      record {
        wide = t.wide;
        some = λ e. record { picks = []; count = refl; yes = ap want (append-nil before) ∙ sym t.is ∙ e };
        none = λ e. none_here before want (sym t.is ∙ e);
      }
  any_gives (suc n) before l nodes k h =
      let one = before ++ false ∷ [] in
      let two = before ++ true ∷ [] in
      let a = any_picks kinds n one test nodes in
      let b = any_picks kinds n two test a.nodes in
      let o = made kinds (Bin Or a.value b.value) b.nodes in
      let ga = any_grows kinds n one test grow nodes in
      let gb = any_grows kinds n two test grow a.nodes in
      let hb = fits_fewer inputs v b.nodes o.nodes (made_grows kinds (Bin Or a.value b.value) b.nodes) h in
      let ha = fits_fewer inputs v a.nodes b.nodes gb hb in
      let lo = long_append before (false ∷ []) in
      let lt = long_append before (true ∷ []) in
      let x = any_gives n one (omega (arith, l, lo)) nodes k ha in
      let y = any_gives n two (omega (arith, l, lt)) a.nodes (stay nodes a.nodes ga k) hb in
      let r = or_gives inputs v kinds a.value b.value (is_set v a.value) (is_set v b.value) b.nodes
      (record { wide = wider a.nodes b.nodes a.value 1 gb x.wide; is = refl }) (record { wide = y.wide; is = refl }) h in
      record {
        wide = r.wide;
        some = λ e. or_case (is_set v a.value) (is_set v b.value) (Passes (suc n) (λ picks. want (before ++ picks))) (sym r.is ∙ e)
            (λ f. longer n before false want (x.some f)) (λ f. longer n before true want (y.some f));
        none = λ e.
            let q = neither (is_set v a.value) (is_set v b.value) (sym r.is ∙ e) in
            none_longer n before want (x.none q.0) (y.none q.1);
      }
