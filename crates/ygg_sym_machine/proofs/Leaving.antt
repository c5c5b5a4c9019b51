-- The steps by which it is made what power leaves.
use Rattle.std.proofs.Common.{◌≡◌, List, Result, Ok, Err, OnOk, IfOk, sym, subst}
use Rattle.ygg_sym_runs.specs.ygg_rules.declared.rule.RuleKind.{RuleKind}
use Rattle.ygg_sym_runs.specs.ygg_bank_proofs_Meaning.{fits_fewer}
use Rattle.ygg_sym_runs.specs.ygg_bank_proofs_Widths.{wider}
use Rattle.ygg_sym_runs.specs.ygg_bank.Nodes.{Extends, HasWidth, IsBank}
use Rattle.ygg_sym_runs.specs.ygg_bank.Values.{value_of}
use Rattle.ygg_sym_runs.specs.ygg_bank.declared.node.Id.{Id}
use Rattle.ygg_sym_runs.specs.ygg_bank.declared.node.Node.{Node}
use Rattle.ygg_sym_runs.proofs.of_ygg_shape.Answered.{no_inputs, some_fit}
use Rattle.ygg_sym_runs.specs.Lower.{SymMeaning, IsLower, CanAsk, CanMerge, KeepsSingle}
use Rattle.ygg_sym_runs.specs.Runs.{SymQuestion}
use Rattle.ygg_sym_runs.specs.StopTerms.{SymHalted}
use Rattle.ygg_sym_machine.specs.Halting.{halting_meaning}
use Rattle.ygg_sym_machine.specs.Stopping.{Power, IsPower, CanCut, CanLose}
use Rattle.ygg_sym_machine.proofs.Standing.{ask_later, can_cut, can_lose, fallen_has}

module _ {S : Type 0} (M : SymMeaning S) (K : Power S) (low : IsLower M) (power : IsPower M K) (kinds : List RuleKind) where
  pub cut_has : (q : SymQuestion) (s : S) (old new : List Node) (left : S) → CanCut M K old q s → IsBank new → new ≡ (K.cut kinds q s old).nodes →
      left ≡ (K.cut kinds q s old).value → M.low.Has new left
  cut_has q s old new left can bank e f =
      let o = K.cut kinds q s old in
      let l = can.loses in
      let h = some_fit o.nodes (subst IsBank e bank) in
      let v = value_of no_inputs o.nodes in
      let fit = can.fits no_inputs v (fits_fewer no_inputs v old o.nodes (power.cut_grows kinds q s old) h) in
      let r = power.cut_stands l.serves kinds no_inputs v q s old fit can.shaped l.has h in
      subst (λ z. M.low.Has z left) (sym e) (subst (M.low.Has o.nodes) (sym f) r)

  pub lose_has : (s : S) (old new : List Node) (left : S) → CanLose M K old s → IsBank new → new ≡ (K.lose kinds s old).nodes →
      left ≡ (K.lose kinds s old).value → M.low.Has new left
  lose_has s old new left can bank e f =
      let o = K.lose kinds s old in
      let h = some_fit o.nodes (subst IsBank e bank) in
      let r = power.lose_stands can.serves kinds no_inputs (value_of no_inputs o.nodes) s old can.has h in
      subst (λ z. M.low.Has z left) (sym e) (subst (M.low.Has o.nodes) (sym f) r)

  pub joined_has : (t : Id) (a b : S) (old new : List Node) (one : S) → CanMerge M old t a b → IsBank new → new ≡ (K.join kinds t a b old).nodes →
      one ≡ (K.join kinds t a b old).value → M.low.Has new one
  joined_has t a b old new one can bank e f =
      let o = K.join kinds t a b old in
      let h = some_fit o.nodes (subst IsBank e bank) in
      let r = power.join_stands can.serves kinds no_inputs (value_of no_inputs o.nodes) t a b old can.test can.first_has can.second_has h in
      subst (λ z. M.low.Has z one) (sym e) (subst (M.low.Has o.nodes) (sym f) r)

  pub joined_if : {E : Type 0} (t : Id) (a b : S) (old new : List Node) (r : Result S E) → CanMerge M old t a b → IsBank new →
      OnOk r (new ≡ (K.join kinds t a b old).nodes) → IfOk r (λ one. one ≡ (K.join kinds t a b old).value) → IfOk r (M.low.Has new)
  joined_if t a b old new (Ok one) can bank e f = joined_has t a b old new one can bank e f
  joined_if t a b old new (Err x) can bank e f = tt

  module _ (q : SymQuestion) (z : SymHalted S S) (here within : Id) where
    -- after the first step
    pub record AfterCut (nodes : List Node) (cut : S) : Type 0 where
      pub ask : CanAsk (halting_meaning M K) nodes q z
      pub here_wide : HasWidth nodes here 1
      pub within_wide : HasWidth nodes within 1
      pub cut_stands : M.low.Has nodes cut

    pub after_cut : (old new : List Node) (cut : S) → CanAsk (halting_meaning M K) old q z → HasWidth old here 1 → HasWidth old within 1 → IsBank new →
        Extends old new → KeepsSingle old new → new ≡ (K.cut kinds q z.to old).nodes → cut ≡ (K.cut kinds q z.to old).value → AfterCut new cut
    after_cut old new cut a h w bank g k e f = record {
      ask = ask_later (halting_meaning M K) old new q z g k a;
      here_wide = wider old new here 1 g h;
      within_wide = wider old new within 1 g w;
      cut_stands = cut_has q z.to old new cut (can_cut M K old q z a) bank e f;
    }

    pub can_inner : (nodes : List Node) (cut : S) → AfterCut nodes cut → CanMerge M nodes within cut z.fallen
    can_inner nodes cut a =
        let ask = a.ask in
        let st = ask.stands in
        record { serves = st.serves; test = a.within_wide; first_has = a.cut_stands; second_has = fallen_has M K nodes q z ask }

    -- after the second
    pub record AfterInner (nodes : List Node) (inner : S) : Type 0 where
      pub ask : CanAsk (halting_meaning M K) nodes q z
      pub here_wide : HasWidth nodes here 1
      pub inner_stands : M.low.Has nodes inner

    pub after_inner : (old new : List Node) (cut inner : S) → AfterCut old cut → IsBank new → Extends old new → KeepsSingle old new →
        new ≡ (K.join kinds within cut z.fallen old).nodes → inner ≡ (K.join kinds within cut z.fallen old).value →
        AfterInner new inner
    after_inner old new cut inner a bank g k e f = record {
      ask = ask_later (halting_meaning M K) old new q z g k a.ask;
      here_wide = wider old new here 1 g a.here_wide;
      inner_stands = joined_has within cut z.fallen old new inner (can_inner old cut a) bank e f;
    }

    -- after the third
    pub record AfterLost (nodes : List Node) (inner lost : S) : Type 0 where
      pub ask : CanAsk (halting_meaning M K) nodes q z
      pub here_wide : HasWidth nodes here 1
      pub inner_stands : M.low.Has nodes inner
      pub lost_stands : M.low.Has nodes lost

    pub after_lost : (old new : List Node) (inner lost : S) → AfterInner old inner → IsBank new → Extends old new → KeepsSingle old new →
        new ≡ (K.lose kinds z.to old).nodes → lost ≡ (K.lose kinds z.to old).value → AfterLost new inner lost
    after_lost old new inner lost a bank g k e f = record {
      ask = ask_later (halting_meaning M K) old new q z g k a.ask;
      here_wide = wider old new here 1 g a.here_wide;
      inner_stands = M.low.wider old new inner g a.inner_stands;
      lost_stands = lose_has z.to old new lost (can_lose M K old q z a.ask) bank e f;
    }

    pub can_outer : (nodes : List Node) (inner lost : S) → AfterLost nodes inner lost → CanMerge M nodes here lost inner
    can_outer nodes inner lost a =
        let ask = a.ask in
        let st = ask.stands in record { serves = st.serves; test = a.here_wide; first_has = a.lost_stands; second_has = a.inner_stands }
