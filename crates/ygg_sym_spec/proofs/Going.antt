-- A block and then the `crash` block; and power that fails within an operation.
use Rattle.std.proofs.Common.{◌≡◌, ◌+◌, ℕ, List, Option, Some, None, Result, Ok, Err, IfOk, OnOk, refl, sym, ap, ◌∙◌, subst}
use Rattle.ygg_syntax.specs.declared.tree.Block.{Block}
use Rattle.ygg_syntax.specs.declared.tree.Declared.{Declared}
use Rattle.ygg_syntax.specs.declared.tree.Operation.{Operation}
use Rattle.ygg_sym_runs.specs.ygg_meaning.Environments.{Name}
use Rattle.ygg_sym_runs.specs.ygg_meaning.Layer.{operation_in, operation_of}
use Rattle.ygg_sym_runs.specs.ygg_rules.declared.rule.RuleKind.{RuleKind}
use Rattle.ygg_sym_runs.specs.ygg_bank.Makes.{Make, Out, pure, and_make}
use Rattle.ygg_sym_runs.specs.ygg_bank.declared.node.Id.{Id}
use Rattle.ygg_sym_runs.specs.ygg_bank.declared.node.Node.{Node}
use Rattle.ygg_sym_runs.specs.ygg_shape_cells.declared.terms.SymValue.{SymValue}
use Rattle.ygg_sym_runs.specs.Names.{sym_bind}
use Rattle.ygg_sym_runs.specs.Lower.{KeepsSingle}
use Rattle.ygg_sym_runs.specs.Disks.{Done, done}
use Rattle.ygg_sym_runs.specs.Lows.{merge_lows}
use Rattle.ygg_sym_runs.specs.SpecCuts.{picks_after, choice_room, crash_made, then_crash_made, fall_made, fall_asked}
use Rattle.ygg_sym_runs.proofs.MergedLows.{merged_single}
use Rattle.ygg_sym_spec.specs.Layers.{closed, terms_in, block_of, crash_of, then_crash_of, fall_of, cut_of}
use Rattle.ygg_sym_runs.specs.Specs.{input_pick, spec_asked}
use Rattle.ygg_sym_spec.specs.Machine.{call_of}
use Rattle.ygg_sym_spec.specs.Picking.{picking}
use Rattle.ygg_sym_spec.specs.declared.layer.SymLayer.{SymLayer}
use Rattle.ygg_sym_spec.specs.declared.picks.SymPicks.{SymPicks}
use Rattle.ygg_sym_spec.specs.declared.picks.SymPicks.TheVariants as picks
use mathlib.Core.Path.{fun_ext}

-- one step after another keeps single digits
pub both_single : {E A : Type 0} (old mid new : List Node) (r : Result A E) → KeepsSingle old mid → OnOk r (KeepsSingle mid new) → OnOk r (KeepsSingle old new)
both_single old mid new (Ok a) f g = λ first h. g first (f first h)
both_single old mid new (Err x) f g = tt

pub then_single : (old mid new : List Node) → KeepsSingle old mid → KeepsSingle mid new → KeepsSingle old new
then_single old mid new f g = λ first h. g first (f first h)

pub lows_single : {E A : Type 0} (kinds : List RuleKind) (t : Id) (xs ys : List SymValue) (old new : List Node) (r : Result A E) →
    OnOk r (new ≡ (merge_lows kinds t xs ys old).nodes) → OnOk r (KeepsSingle old new)
lows_single kinds t xs ys old new (Ok a) e = merged_single kinds t xs ys old new e
lows_single kinds t xs ys old new (Err x) e = tt

-- what is the same as the step that was made
pub nodes_along : {E A B : Type 0} (o more : Out B) (new : List Node) (r : Result A E) → o ≡ more → OnOk r (new ≡ o.nodes) → OnOk r (new ≡ more.nodes)
nodes_along o more new r e h = subst (λ (z : Out _). OnOk r (new ≡ z.nodes)) e h

pub form_along : {E A : Type 0} (o more : Out A) (r : Result A E) → o ≡ more → IfOk r (λ a. a ≡ o.value) → IfOk r (λ a. a ≡ more.value)
form_along {E} {A} o more r e h = subst (λ (z : Out A). IfOk r (λ a. a ≡ z.value)) e h

module _ (kinds : List RuleKind) (l : SymLayer) (p later : SymPicks) where
  later_picks : (n m : ℕ) → n ≡ m → ((kinds : List RuleKind) (k : ℕ) → picking kinds later k ≡ picking kinds p (n + k)) →
      picking kinds later ≡ picks_after m (picking kinds p)
  later_picks n m e h = fun_ext (λ k. h kinds k ∙ ap (λ i. picking kinds p (i + k)) e)

  pub then_goes : (n : ℕ) (b : Block) (vars : List SymValue) (args : List Declared) (values : List SymValue) (old mid : List Node) (a : Option SymValue)
      (vs : List SymValue) → n ≡ choice_room b → ((kinds : List RuleKind) (k : ℕ) → picking kinds later k ≡ picking kinds p (n + k)) →
      mid ≡ (block_of kinds l p b vars args values old).nodes → done a vs ≡ (block_of kinds l p b vars args values old).value →
      crash_of kinds l later vs mid ≡ then_crash_of kinds l p b vars args values old
  then_goes n b vars args values old mid a vs e h nodes form =
      let o = block_of kinds l p b vars args values old in
      let q = picks_after (choice_room b) (picking kinds p) in
      ap (λ z. crash_made kinds (terms_in kinds l) (closed l) z vs mid) (later_picks n (choice_room b) e h)
      ∙ ap (λ (d : Done). crash_made kinds (terms_in kinds l) (closed l) q d.to mid) form
      ∙ ap (λ z. crash_made kinds (terms_in kinds l) (closed l) q o.value.to z) nodes

  -- what comes after the pick of an operation that power cuts
  abbrev after_pick : (ℕ → Make Id) → Operation → List SymValue → List Declared → List SymValue → Id → Make (List SymValue)
  after_pick q o vars args values t =
      and_make (then_crash_made kinds (terms_in kinds l) (closed l) q o.spec vars (sym_bind args values)) (λ all.
      and_make (crash_made kinds (terms_in kinds l) (closed l) q vars) (λ nothing. merge_lows kinds t all nothing))

  pub whole_goes : (o : Operation) (vars : List SymValue) (args : List Declared) (values : List SymValue) (t : Id) (all nothing : List SymValue)
      (old one two three : List Node) → ((kinds : List RuleKind) (k : ℕ) → picking kinds later k ≡ picking kinds p (1 + k)) → args ≡ o.arguments →
      one ≡ (picking kinds p 0 old).nodes → t ≡ (picking kinds p 0 old).value →
      two ≡ (then_crash_of kinds l later o.spec vars args values one).nodes → all ≡ (then_crash_of kinds l later o.spec vars args values one).value →
      three ≡ (crash_of kinds l later vars two).nodes → nothing ≡ (crash_of kinds l later vars two).value →
      merge_lows kinds t all nothing three ≡ fall_made kinds (terms_in kinds l) (closed l) (picking kinds p) o None vars values old
  whole_goes o vars args values t all nothing old one two three h e n1 f1 n2 f2 n3 f3 =
      let c = crash_of kinds l later vars in
      let a = then_crash_of kinds l later o.spec vars args values one in
      let k = picking kinds p 0 old in
      ap (λ z. merge_lows kinds t all nothing z) n3
      ∙ ap (λ x. merge_lows kinds t all x (c two).nodes) f3
      ∙ ap (λ x. merge_lows kinds t x (c two).value (c two).nodes) f2
      ∙ ap (λ z. merge_lows kinds t a.value (c z).value (c z).nodes) n2
      ∙ ap (λ q. after_pick q o vars args values t one) (later_picks 1 1 refl h)
      ∙ ap (λ z. after_pick (picks_after 1 (picking kinds p)) o vars z values t one) e
      ∙ ap (λ z. after_pick (picks_after 1 (picking kinds p)) o vars o.arguments values z one) f1
      ∙ ap (λ z. after_pick (picks_after 1 (picking kinds p)) o vars o.arguments values k.value z) n1

module _ (kinds : List RuleKind) (l : SymLayer) (p : SymPicks) where
  pub cut_goes : (o : Operation) (b : Block) (vars : List SymValue) (args : List Declared) (values : List SymValue) (old : List Node) → o.on_crash ≡ Some b →
      args ≡ o.arguments → then_crash_of kinds l p b vars args values old ≡ cut_of kinds l p o values vars old
  cut_goes o b vars args values old e f =
      ap (λ z. then_crash_of kinds l p b vars z values old) f
      ∙ ap (λ x. fall_made kinds (terms_in kinds l) (closed l) (picking kinds p) o x vars values old) (sym e)

  pub found_so : (name : Name) (os : List Operation) (x : Option Operation) → os ≡ (l.layer.now).operations → x ≡ operation_in os name →
      x ≡ operation_of (closed l) name
  found_so name os x e f = f ∙ ap (λ z. operation_in z name) e

  pub fall_goes : (name : Name) (o : Operation) (vars values : List SymValue) (old : List Node) → Some o ≡ operation_of (closed l) name →
      cut_of kinds l p o values vars old ≡ fall_of kinds l p name values vars old
  fall_goes name o vars values old e =
      ap (λ x. fall_asked kinds (terms_in kinds l) (closed l) (picking kinds p) x vars values old) e

  pub none_goes : (name : Name) (vars values : List SymValue) (old : List Node) → None ≡ operation_of (closed l) name →
      pure vars old ≡ fall_of kinds l p name values vars old
  none_goes name vars values old e =
      ap (λ (x : Option Operation). fall_asked kinds (terms_in kinds l) (closed l) (picking kinds p) x vars values old) e

  -- an operation that has no block of its own for power that fails
  pub whole_cut : (o : Operation) (vars values : List SymValue) (old : List Node) → o.on_crash ≡ None →
      fall_made kinds (terms_in kinds l) (closed l) (picking kinds p) o None vars values old ≡ cut_of kinds l p o values vars old
  whole_cut o vars values old e = ap (λ (x : Option Block). fall_made kinds (terms_in kinds l) (closed l) (picking kinds p) o x vars values old) (sym e)

-- a call of an operation that was found
module _ (kinds : List RuleKind) (l : SymLayer) (first : ℕ) (name : Name) (o : Operation) (vars : List SymValue) (args : List Declared)
    (values : List SymValue) (old : List Node) (e : args ≡ o.arguments) (f : Some o ≡ operation_of (closed l) name) where
  call_goes : block_of kinds l (picks.Inputs first) o.spec vars args values old ≡ call_of kinds l first name values vars old
  call_goes =
      ap (λ z. block_of kinds l (picks.Inputs first) o.spec vars z values old) e
      ∙ ap (λ (x : Option Operation). spec_asked kinds (terms_in kinds l) (closed l) (input_pick kinds first) x values vars old) f

  pub call_nodes : (state : List SymValue) (new : List Node) → vars ≡ state →
      new ≡ (block_of kinds l (picks.Inputs first) o.spec vars args values old).nodes → new ≡ (call_of kinds l first name values state old).nodes
  call_nodes state new same h =
      h
      ∙ ap (λ (o : Out Done). o.nodes) call_goes
      ∙ ap (λ (z : List SymValue). (call_of kinds l first name values z old).nodes) same

-- what holds anyway holds after a call
pub always_ok : {E A : Type 0} {P : Type 0} (r : Result A E) → P → OnOk r P
always_ok (Ok a) h = h
always_ok (Err x) h = tt

pub same_as : {E A : Type 0} (P : A → Type 0) (x : A) (r : Result A E) → IfOk r (λ a. a ≡ x) → P x → IfOk r P
same_as P x (Ok a) e h = subst P (sym e) h
same_as P x (Err y) e h = tt
