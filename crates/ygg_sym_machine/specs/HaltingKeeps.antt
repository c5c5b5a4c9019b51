-- A machine with stops does what the machine itself means.
use Rattle.std.proofs.Common.{◌≡◌, ◌+◌, ℕ, true, List, if◌then◌else◌, arith}
use Rattle.ygg_value.specs.Number.{IsWord}
use Rattle.ygg_value.specs.Words.{word}
use Rattle.ygg_value.specs.declared.operation.Op.TheVariants.{Or}
use Rattle.ygg_sym_runs.specs.ygg_rules.declared.rule.RuleKind.{RuleKind}
use Rattle.ygg_sym_runs.specs.ygg_bank_proofs_Made.{made_grows, added_there}
use Rattle.ygg_sym_runs.specs.ygg_bank_proofs_Meaning.{fits_fewer}
use Rattle.ygg_sym_runs.specs.ygg_bank_proofs_Widths.{wider, own_width, extends_both}
use Rattle.ygg_sym_runs.specs.ygg_bank.Making.{made, added}
use Rattle.ygg_sym_runs.specs.ygg_bank.Nodes.{HasWidth, Extends}
use Rattle.ygg_sym_runs.specs.ygg_bank.Values.{Inputs, Values}
use Rattle.ygg_sym_runs.specs.ygg_bank.declared.node.Id.{Id}
use Rattle.ygg_sym_runs.specs.ygg_bank.declared.node.Node.{Node}
use Rattle.ygg_sym_runs.specs.ygg_bank.declared.node.Node.TheVariants.{Const, Input, Bin}
use Rattle.ygg_sym_runs.specs.ygg_shape_words_proofs_Grows.{picked_grows}
use Rattle.ygg_sym_runs.specs.ygg_shape_words_proofs_Terms.{made_is}
use Rattle.ygg_sym_runs.specs.ygg_shape_words.Picking.{picked}
use Rattle.ygg_sym_runs.specs.ygg_meaning_laws.Questions.{question_fits}
use Rattle.ygg_sym_runs.specs.ExpressionMeaning.{Grows, Gives}
use Rattle.ygg_sym_runs.proofs.Shaped.{some_wider}
use Rattle.ygg_sym_runs.specs.Runs as runs
use Rattle.ygg_sym_runs.specs.Runs.{SymQuestion}
use Rattle.ygg_sym_runs.specs.Meaning.{question_worth, is_set, QuestionShaped, IsHandled, IsLow, MachineMeans}
use Rattle.ygg_sym_runs.specs.Lower.{SymMeaning, IsLower}
use Rattle.ygg_sym_runs.specs.Stops.{before_at, within_at}
use Rattle.ygg_sym_runs.specs.StopTerms.{SymHalted, Stops, sym_first, sym_leaves, sym_left, sym_halted, merge_halted}
use Rattle.ygg_sym_runs.proofs.StopParts.{either_is, one_is}
use Rattle.ygg_sym_machine.specs.Stopping.{Power, IsPower, stops_on}
use Rattle.ygg_sym_machine.specs.Halting.{no_functions, halted_low, halting_meaning}

-- the terms of a question stand among more nodes too
pub question_wider : (old new : List Node) (q : SymQuestion) → Extends old new → QuestionShaped old q → QuestionShaped new q
question_wider old new runs.Choice g m = m
question_wider old new (runs.Call f xs) g m = λ k d l. some_wider old new _ g (m k d l)

-- an input of a single digit
bit_wide : (inputs : Inputs) (v : Values) (kinds : List RuleKind) (number : ℕ) (nodes : List Node) →
    Gives inputs v (made kinds (Input number 1)) nodes (λ new t. HasWidth new t 1)
bit_wide inputs v kinds number nodes h =
    let o = added (Input number 1) nodes in
    own_width o.nodes o.value.0 (Input number 1) h.ordered (added_there (Input number 1) nodes)

module _ {S : Type 0} (M : SymMeaning S) (K : Power S) (power : IsPower M K) (serves : M.Serves) (kinds : List RuleKind) (inputs : Inputs) (v : Values)
    (laws : MachineMeans inputs v M.low M.kind M.lower (M.machine kinds) (M.direct inputs v)) where
  abbrev stops : Stops S S
  stops = stops_on M K kinds

  first_grows : (other one : Id) → Grows (sym_first kinds no_functions (M.machine kinds) stops other one)
  first_grows other one nodes =
      let k = made kinds (Const (word 1 0)) nodes in
      let o = picked kinds other k.value one k.nodes in
      extends_both nodes k.nodes o.nodes (made_grows kinds (Const (word 1 0)) nodes) (picked_grows kinds other k.value one k.nodes)

  first_wide : (other one : Id) (nodes : List Node) → HasWidth nodes other 1 → HasWidth nodes one 1 →
      Gives inputs v (sym_first kinds no_functions (M.machine kinds) stops other one) nodes (λ new t. HasWidth new t 1)
  first_wide other one nodes p q h =
      let k = made kinds (Const (word 1 0)) nodes in
      let o = picked kinds other k.value one k.nodes in
      let g = made_grows kinds (Const (word 1 0)) nodes in
      let zero : IsWord (word 1 0) = record { least = omega arith; most = omega arith; fits = omega arith } in
      let never = made_is inputs v kinds (Const (word 1 0)) nodes zero
      (fits_fewer inputs v k.nodes o.nodes (picked_grows kinds other k.value one k.nodes) h) in
      let r = one_is inputs v kinds other k.value one k.nodes (wider nodes k.nodes other 1 g p) never.wide (wider nodes k.nodes one 1 g q) h in
      r.wide

  leaves_grows : (here within : Id) (q : SymQuestion) (z : SymHalted S S) → Grows (sym_leaves kinds no_functions (M.machine kinds) stops here within q z)
  leaves_grows here within q z nodes =
      let c = K.cut kinds q z.to nodes in
      let x = K.join kinds within c.value z.fallen c.nodes in
      let l = K.lose kinds z.to x.nodes in
      let y = K.join kinds here l.value x.value l.nodes in
      extends_both nodes c.nodes y.nodes (power.cut_grows kinds q z.to nodes)
      (extends_both c.nodes x.nodes y.nodes (power.join_grows kinds within c.value z.fallen c.nodes)
      (extends_both x.nodes l.nodes y.nodes (power.lose_grows kinds z.to x.nodes) (power.join_grows kinds here l.value x.value l.nodes)))

  leaves_stands : (here within : Id) (q : SymQuestion) (z : SymHalted S S) (nodes : List Node) → HasWidth nodes here 1 → HasWidth nodes within 1 →
      question_fits M.kind M.lower (question_worth v q) ≡ true → QuestionShaped nodes q → (halted_low M).Has nodes z →
      Gives inputs v (sym_leaves kinds no_functions (M.machine kinds) stops here within q z) nodes M.low.Has
  leaves_stands here within q z nodes wh ww fit m p h =
      let c = K.cut kinds q z.to nodes in
      let x = K.join kinds within c.value z.fallen c.nodes in
      let l = K.lose kinds z.to x.nodes in
      let y = K.join kinds here l.value x.value l.nodes in
      let gc = power.cut_grows kinds q z.to nodes in
      let gx = power.join_grows kinds within c.value z.fallen c.nodes in
      let gl = power.lose_grows kinds z.to x.nodes in
      let gy = power.join_grows kinds here l.value x.value l.nodes in
      let h3 = fits_fewer inputs v l.nodes y.nodes gy h in
      let h2 = fits_fewer inputs v x.nodes l.nodes gl h3 in
      let h1 = fits_fewer inputs v c.nodes x.nodes gx h2 in
      let to_x = extends_both nodes c.nodes x.nodes gc gx in
      let to_l = extends_both nodes x.nodes l.nodes to_x gl in
      let pc = power.cut_stands serves kinds inputs v q z.to nodes fit m p.0 h1 in
      let px = power.join_stands serves kinds inputs v within c.value z.fallen c.nodes (wider nodes c.nodes within 1 gc ww) pc
      (M.low.wider nodes c.nodes z.fallen gc p.1) h2 in
      let pl = power.lose_stands serves kinds inputs v z.to x.nodes (M.low.wider nodes x.nodes z.to to_x p.0) h3 in
      power.join_stands serves kinds inputs v here l.value x.value l.nodes (wider nodes l.nodes here 1 to_l wh) pl
      (M.low.wider x.nodes l.nodes x.value gl px) h

  left_grows : (here within : Id) (q : SymQuestion) (z : SymHalted S S) → Grows (sym_left kinds no_functions (M.machine kinds) stops here within q z)
  left_grows here within q z nodes =
      let a = sym_first kinds no_functions (M.machine kinds) stops z.stopped here nodes in
      let b = made kinds (Bin Or z.stopped here) a.nodes in
      let d = sym_first kinds no_functions (M.machine kinds) stops b.value within b.nodes in
      let f = sym_leaves kinds no_functions (M.machine kinds) stops a.value d.value q z d.nodes in
      extends_both nodes a.nodes f.nodes (first_grows z.stopped here nodes)
      (extends_both a.nodes b.nodes f.nodes (made_grows kinds (Bin Or z.stopped here) a.nodes)
      (extends_both b.nodes d.nodes f.nodes (first_grows b.value within b.nodes) (leaves_grows a.value d.value q z d.nodes)))

  left_stands : (here within : Id) (q : SymQuestion) (z : SymHalted S S) (nodes : List Node) → HasWidth nodes here 1 → HasWidth nodes within 1 →
      question_fits M.kind M.lower (question_worth v q) ≡ true → QuestionShaped nodes q → (halted_low M).Has nodes z →
      Gives inputs v (sym_left kinds no_functions (M.machine kinds) stops here within q z) nodes M.low.Has
  left_stands here within q z nodes wh ww fit m p h =
      let a = sym_first kinds no_functions (M.machine kinds) stops z.stopped here nodes in
      let b = made kinds (Bin Or z.stopped here) a.nodes in
      let d = sym_first kinds no_functions (M.machine kinds) stops b.value within b.nodes in
      let f = sym_leaves kinds no_functions (M.machine kinds) stops a.value d.value q z d.nodes in
      let ga = first_grows z.stopped here nodes in
      let gb = made_grows kinds (Bin Or z.stopped here) a.nodes in
      let gd = first_grows b.value within b.nodes in
      let h3 = fits_fewer inputs v d.nodes f.nodes (leaves_grows a.value d.value q z d.nodes) h in
      let h2 = fits_fewer inputs v b.nodes d.nodes gd h3 in
      let h1 = fits_fewer inputs v a.nodes b.nodes gb h2 in
      let to_b = extends_both nodes a.nodes b.nodes ga gb in
      let to_d = extends_both nodes b.nodes d.nodes to_b gd in
      let a_to_d = extends_both a.nodes b.nodes d.nodes gb gd in
      let pa = first_wide z.stopped here nodes p.2 wh h1 in
      let pb = either_is inputs v kinds z.stopped here a.nodes (wider nodes a.nodes z.stopped 1 ga p.2) (wider nodes a.nodes here 1 ga wh) h2 in
      let pd = first_wide b.value within b.nodes pb.wide (wider nodes b.nodes within 1 to_b ww) h3 in
      leaves_stands a.value d.value q z d.nodes (wider a.nodes d.nodes a.value 1 a_to_d pa) pd fit (question_wider nodes d.nodes q to_d m)
      ((halted_low M).wider nodes d.nodes z to_d p) h

  handle_grows : (i : ℕ) (q : SymQuestion) (z : SymHalted S S) → Grows (sym_halted kinds no_functions (M.machine kinds) stops i q z)
  handle_grows i q z nodes =
      let a = made kinds (Input (K.stop + before_at i) 1) nodes in
      let b = made kinds (Input (K.stop + within_at i) 1) a.nodes in
      let f = sym_left kinds no_functions (M.machine kinds) stops a.value b.value q z b.nodes in
      let c = made kinds (Bin Or z.stopped a.value) f.nodes in
      let d = made kinds (Bin Or c.value b.value) c.nodes in
      let e = (M.machine kinds).handle i q z.to d.nodes in
      extends_both nodes a.nodes e.nodes (made_grows kinds (Input (K.stop + before_at i) 1) nodes)
      (extends_both a.nodes b.nodes e.nodes (made_grows kinds (Input (K.stop + within_at i) 1) a.nodes)
      (extends_both b.nodes f.nodes e.nodes (left_grows a.value b.value q z b.nodes)
      (extends_both f.nodes c.nodes e.nodes (made_grows kinds (Bin Or z.stopped a.value) f.nodes)
      (extends_both c.nodes d.nodes e.nodes (made_grows kinds (Bin Or c.value b.value) c.nodes) (laws.handle_grows i q z.to d.nodes)))))

  handle_gives : (i : ℕ) (q : SymQuestion) (z : SymHalted S S) (nodes : List Node) → question_fits M.kind M.lower (question_worth v q) ≡ true →
      QuestionShaped nodes q → (halted_low M).Has nodes z →
      Gives inputs v (sym_halted kinds no_functions (M.machine kinds) stops i q z) nodes
      (IsHandled inputs v (halted_low M) M.lower (question_worth v q) (M.direct inputs v i (question_worth v q) ((halted_low M).value v z)))
  handle_gives i q z nodes fit m p h =
      let a = made kinds (Input (K.stop + before_at i) 1) nodes in
      let b = made kinds (Input (K.stop + within_at i) 1) a.nodes in
      let f = sym_left kinds no_functions (M.machine kinds) stops a.value b.value q z b.nodes in
      let c = made kinds (Bin Or z.stopped a.value) f.nodes in
      let d = made kinds (Bin Or c.value b.value) c.nodes in
      let e = (M.machine kinds).handle i q z.to d.nodes in
      let ga = made_grows kinds (Input (K.stop + before_at i) 1) nodes in
      let gb = made_grows kinds (Input (K.stop + within_at i) 1) a.nodes in
      let gf = left_grows a.value b.value q z b.nodes in
      let gc = made_grows kinds (Bin Or z.stopped a.value) f.nodes in
      let gd = made_grows kinds (Bin Or c.value b.value) c.nodes in
      let ge = laws.handle_grows i q z.to d.nodes in
      let h5 = fits_fewer inputs v d.nodes e.nodes ge h in
      let h4 = fits_fewer inputs v c.nodes d.nodes gd h5 in
      let h3 = fits_fewer inputs v f.nodes c.nodes gc h4 in
      let h2 = fits_fewer inputs v b.nodes f.nodes gf h3 in
      let h1 = fits_fewer inputs v a.nodes b.nodes gb h2 in
      let to_b = extends_both nodes a.nodes b.nodes ga gb in
      let to_f = extends_both nodes b.nodes f.nodes to_b gf in
      let to_c = extends_both nodes f.nodes c.nodes to_f gc in
      let to_d = extends_both nodes c.nodes d.nodes to_c gd in
      let f_to_e = extends_both f.nodes c.nodes e.nodes gc (extends_both c.nodes d.nodes e.nodes gd ge) in
      let a_to_f = extends_both a.nodes b.nodes f.nodes gb gf in
      let b_to_c = extends_both b.nodes f.nodes c.nodes gf gc in
      let wa = bit_wide inputs v kinds (K.stop + before_at i) nodes h1 in
      let wb = bit_wide inputs v kinds (K.stop + within_at i) a.nodes h2 in
      let pf = left_stands a.value b.value q z b.nodes (wider a.nodes b.nodes a.value 1 gb wa) wb fit (question_wider nodes b.nodes q to_b m)
      ((halted_low M).wider nodes b.nodes z to_b p) h3 in
      let pc = either_is inputs v kinds z.stopped a.value f.nodes (wider nodes f.nodes z.stopped 1 to_f p.2) (wider a.nodes f.nodes a.value 1 a_to_f wa) h4 in
      let pd = either_is inputs v kinds c.value b.value c.nodes pc.wide (wider b.nodes c.nodes b.value 1 b_to_c wb) h5 in
      let pe = laws.handle i q z.to d.nodes fit (question_wider nodes d.nodes q to_d m) (M.low.wider nodes d.nodes z.to to_d p.0) h in
      record {
        shaped = pe.shaped;
        has = (pe.has, M.low.wider f.nodes e.nodes f.value f_to_e pf, wider d.nodes e.nodes d.value 1 ge pd.wide);
        answer = pe.answer;
        fits = pe.fits;
        is = pe.is;
      }

  halted_merge_grows : (t : Id) (a b : SymHalted S S) → Grows (merge_halted kinds no_functions (M.machine kinds) stops t a b)
  halted_merge_grows t a b nodes =
      let x = (M.machine kinds).merge t a.to b.to nodes in
      let y = K.join kinds t a.fallen b.fallen x.nodes in
      let z = picked kinds t a.stopped b.stopped y.nodes in
      extends_both nodes x.nodes z.nodes (laws.merge_grows t a.to b.to nodes)
      (extends_both x.nodes y.nodes z.nodes (power.join_grows kinds t a.fallen b.fallen x.nodes) (picked_grows kinds t a.stopped b.stopped y.nodes))

  halted_merge : (t : Id) (a b : SymHalted S S) (nodes : List Node) → HasWidth nodes t 1 → (halted_low M).Has nodes a → (halted_low M).Has nodes b →
      Gives inputs v (merge_halted kinds no_functions (M.machine kinds) stops t a b) nodes
      (IsLow inputs v (halted_low M) (if is_set v t then (halted_low M).value v a else (halted_low M).value v b))
  halted_merge t a b nodes d p q h =
      let x = (M.machine kinds).merge t a.to b.to nodes in
      let y = K.join kinds t a.fallen b.fallen x.nodes in
      let z = picked kinds t a.stopped b.stopped y.nodes in
      let gx = laws.merge_grows t a.to b.to nodes in
      let gy = power.join_grows kinds t a.fallen b.fallen x.nodes in
      let gz = picked_grows kinds t a.stopped b.stopped y.nodes in
      let to_y = extends_both nodes x.nodes y.nodes gx gy in
      let h2 = fits_fewer inputs v y.nodes z.nodes gz h in
      let h1 = fits_fewer inputs v x.nodes y.nodes gy h2 in
      let px = laws.merge t a.to b.to nodes d p.0 q.0 h1 in
      let py = power.join_stands serves kinds inputs v t a.fallen b.fallen x.nodes (wider nodes x.nodes t 1 gx d) (M.low.wider nodes x.nodes a.fallen gx p.1)
      (M.low.wider nodes x.nodes b.fallen gx q.1) h2 in
      let pz = one_is inputs v kinds t a.stopped b.stopped y.nodes (wider nodes y.nodes t 1 to_y d) (wider nodes y.nodes a.stopped 1 to_y p.2)
      (wider nodes y.nodes b.stopped 1 to_y q.2) h in
      record {
        has = (
          M.low.wider x.nodes z.nodes x.value (extends_both x.nodes y.nodes z.nodes gy gz) px.has,
          M.low.wider y.nodes z.nodes y.value gz py,
          pz.wide,
        );
        is = px.is;
      }

  halted_means : MachineMeans inputs v (halted_low M) M.kind M.lower ((halting_meaning M K).machine kinds) (M.direct inputs v)
  halted_means = record { merge_grows = halted_merge_grows; merge = halted_merge; handle_grows = handle_grows; handle = handle_gives }

pub halting_keeps : {S : Type 0} (M : SymMeaning S) (K : Power S) → IsLower M → IsPower M K → IsLower (halting_meaning M K)
halting_keeps M K low power = record {
  means = λ serves kinds inputs v. halted_means M K power serves kinds inputs v (low.means serves kinds inputs v);
  space = low.space;
}
