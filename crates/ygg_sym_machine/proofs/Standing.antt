-- What may be asked of a machine with stops, among more nodes, and of its parts.
use Rattle.std.proofs.Common.{◌≡◌, ◌≤◌, ℕ, List, Some, Result, Ok, Err, OnOk, IfOk, sym, ap, ◌∙◌, subst, arith}
use Rattle.std.specs.Prelude.{min}
use Rattle.ygg_value.specs.Words.{word}
use Rattle.ygg_value.specs.declared.operation.Op.TheVariants.{Or}
use Rattle.ygg_sym_runs.specs.ygg_rules.declared.rule.RuleKind.{RuleKind}
use Rattle.ygg_sym_runs.specs.ygg_bank_proofs_Meaning.{fits_fewer}
use Rattle.ygg_sym_runs.specs.ygg_bank_proofs_Widths.{stands, width_is}
use Rattle.ygg_sym_runs.specs.ygg_bank.Making.{made}
use Rattle.ygg_sym_runs.specs.ygg_bank.Nodes.{CanBin, CanPick, Extends, HasWidth, node_width, width_at, widths_of}
use Rattle.ygg_sym_runs.specs.ygg_bank.declared.node.Id.{Id}
use Rattle.ygg_sym_runs.specs.ygg_bank.declared.node.Node.{Node}
use Rattle.ygg_sym_runs.specs.ygg_bank.declared.node.Node.TheVariants.{Bin, Const, Input}
use Rattle.ygg_sym_runs.specs.ygg_shape_words_proofs_Keeps.{picked_keeps}
use Rattle.ygg_sym_runs.specs.ygg_shape_words.Picking.{picked}
use Rattle.ygg_sym_runs.proofs.Singles.{input_single, single_less, single_stays}
use Rattle.ygg_sym_runs.specs.Lower as lower
use Rattle.ygg_sym_runs.specs.Lower.{SymMeaning, CanAsk, KeepsSingle, SingleFrom}
use Rattle.ygg_sym_runs.specs.Runs.{SymQuestion}
use Rattle.ygg_sym_runs.specs.StopTerms.{SymHalted}
use Rattle.ygg_sym_machine.specs.Halting.{first_made, halting_meaning}
use Rattle.ygg_sym_machine.specs.HaltingKeeps.{question_wider}
use Rattle.ygg_sym_machine.specs.Stopping.{Power, CanCut, CanLose}

-- a state that stands among nodes stands among more of them
pub stands_later : {S : Type 0} (M : SymMeaning S) (old new : List Node) (s : S) → Extends old new → KeepsSingle old new → lower.Stands M old s →
    lower.Stands M new s
stands_later M old new s g k st = record { serves = st.serves; has = M.low.wider old new s g st.has; single = k M.first st.single }

-- a question that may be asked may be asked among more nodes
pub ask_later : {S : Type 0} (M : SymMeaning S) (old new : List Node) (q : SymQuestion) (s : S) → Extends old new → KeepsSingle old new →
    CanAsk M old q s → CanAsk M new q s
ask_later M old new q s g k a = record {
  stands = stands_later M old new s g k a.stands;
  shaped = question_wider old new q g a.shaped;
  fits = λ inputs v h. a.fits inputs v (fits_fewer inputs v old new g h);
}

-- no other input came at two steps
pub single_both : (a b c : List Node) → KeepsSingle a b → KeepsSingle b c → KeepsSingle a c
single_both a b c p q = λ first h. q first (p first h)

pub single_if : {A E : Type 0} (a b c : List Node) (r : Result A E) → KeepsSingle a b → OnOk r (KeepsSingle b c) → OnOk r (KeepsSingle a c)
single_if a b c (Ok x) p q = single_both a b c p q
single_if a b c (Err x) p q = tt

-- two tests of a single digit may be joined
pub can_either : (nodes : List Node) (a b : Id) → HasWidth nodes a 1 → HasWidth nodes b 1 → CanBin nodes Or a b
can_either nodes a b p q = record {
  one = stands nodes a 1 p;
  two = stands nodes b 1 q;
  widths = width_is nodes a 1 p ∙ sym (width_is nodes b 1 q);
}

pub either_wide : {E : Type 0} (old new : List Node) (a b : Id) (r : Result Id E) → HasWidth old a 1 →
    IfOk r (λ t. HasWidth new t (node_width (widths_of old) (Bin Or a b))) → IfOk r (λ t. HasWidth new t 1)
either_wide old new a b (Ok t) p w = w ∙ ap (λ z. Some z) (width_is old a 1 p)
either_wide old new a b (Err e) p w = tt

pub either_single : {E : Type 0} (kinds : List RuleKind) (old new : List Node) (a b : Id) (r : Result Id E) →
    OnOk r (new ≡ (made kinds (Bin Or a b) old).nodes) → OnOk r (KeepsSingle old new)
either_single kinds old new a b (Ok t) e = λ first h. subst (SingleFrom first) (sym e) (single_stays kinds first (Bin Or a b) old tt h)
either_single kinds old new a b (Err x) e = tt

-- an input of a single digit may be made
pub digit_single : {E : Type 0} (kinds : List RuleKind) (number : ℕ) (old new : List Node) (r : Result Id E) →
    OnOk r (new ≡ (made kinds (Input number 1) old).nodes) → OnOk r (KeepsSingle old new)
digit_single kinds number old new (Ok t) e = λ first h. subst (SingleFrom first) (sym e) (input_single kinds first number old h)
digit_single kinds number old new (Err x) e = tt

-- one of two tests may be picked
pub can_pick : (nodes : List Node) (t a b : Id) → HasWidth nodes t 1 → HasWidth nodes a 1 → HasWidth nodes b 1 → CanPick nodes t a b
can_pick nodes t a b w p q = record {
  test = stands nodes t 1 w;
  yes = stands nodes a 1 p;
  no = stands nodes b 1 q;
  digit = width_is nodes t 1 w;
  widths = width_is nodes a 1 p ∙ sym (width_is nodes b 1 q);
}

pub pick_single : (kinds : List RuleKind) (old new : List Node) (t a b : Id) → new ≡ (picked kinds t a b old).nodes → KeepsSingle old new
pick_single kinds old new t a b e = λ first h. subst (SingleFrom first) (sym e) (picked_keeps kinds (SingleFrom first) (single_stays kinds first) t a b old h)

-- one is set, and another isn't
pub first_from : (kinds : List RuleKind) (other one never : Id) (old mid : List Node) → never ≡ (made kinds (Const (word 1 0)) old).value →
    mid ≡ (made kinds (Const (word 1 0)) old).nodes → picked kinds other never one mid ≡ first_made kinds other one old
first_from kinds other one never old mid e f =
    let o = made kinds (Const (word 1 0)) old in ap (λ z. picked kinds other z one mid) e ∙ ap (picked kinds other o.value one) f

pub first_wide : {E : Type 0} (old new : List Node) (a : Id) (r : Result Id E) → HasWidth old a 1 →
    IfOk r (λ t. HasWidth new t (width_at (widths_of old) a)) → IfOk r (λ t. HasWidth new t 1)
first_wide old new a (Ok t) p w = w ∙ ap (λ z. Some z) (width_is old a 1 p)
first_wide old new a (Err e) p w = tt

pub first_single : {E : Type 0} (kinds : List RuleKind) (old mid new : List Node) (t a b : Id) (r : Result Id E) →
    mid ≡ (made kinds (Const (word 1 0)) old).nodes → OnOk r (new ≡ (picked kinds t a b mid).nodes) → OnOk r (KeepsSingle old new)
first_single kinds old mid new t a b (Ok x) e f =
    λ first h. pick_single kinds mid new t a b f first (subst (SingleFrom first) (sym e) (single_stays kinds first (Const (word 1 0)) old tt h))
first_single kinds old mid new t a b (Err x) e f = tt

-- power may fail where a state with stops stands
pub lose_there : {S : Type 0} (M : SymMeaning S) (K : Power S) (nodes : List Node) (z : SymHalted S S) → lower.Stands (halting_meaning M K) nodes z →
    CanLose M K nodes z.to
lose_there M K nodes z st =
    let h = st.has in
    let l : min M.first K.first ≤ K.first = omega arith in
    record { serves = st.serves; has = h.0; single = single_less (min M.first K.first) K.first nodes l st.single }

module _ {S : Type 0} (M : SymMeaning S) (K : Power S) (nodes : List Node) (q : SymQuestion) (z : SymHalted S S) where
  -- of the machine itself
  pub ask_inner : CanAsk (halting_meaning M K) nodes q z → CanAsk M nodes q z.to
  ask_inner a =
      let st = a.stands in
      let h = st.has in
      let l : min M.first K.first ≤ M.first = omega arith in
      record {
        stands = record { serves = st.serves; has = h.0; single = single_less (min M.first K.first) M.first nodes l st.single };
        shaped = a.shaped;
        fits = a.fits;
      }

  -- power may fail between questions
  pub can_lose : CanAsk (halting_meaning M K) nodes q z → CanLose M K nodes z.to
  can_lose a = lose_there M K nodes z a.stands

  -- and within the question
  pub can_cut : CanAsk (halting_meaning M K) nodes q z → CanCut M K nodes q z.to
  can_cut a = record { loses = can_lose a; shaped = a.shaped; fits = a.fits }

  -- what was left stands among the nodes
  pub fallen_has : CanAsk (halting_meaning M K) nodes q z → M.low.Has nodes z.fallen
  fallen_has a = let st = a.stands in let h = st.has in h.1

  -- and so does the term that says whether power has failed
  pub stopped_wide : CanAsk (halting_meaning M K) nodes q z → HasWidth nodes z.stopped 1
  stopped_wide a = let st = a.stands in let h = st.has in h.2
