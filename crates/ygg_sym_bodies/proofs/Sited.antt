-- Blocks of the parts: those that may call what is below, and those that run on no machine.
use Rattle.std.proofs.Common.{◌≡◌, ℕ, Bool, true, false, List, Option, Some, None, Result, Ok, Err, IfOk, refl, sym, ap, subst}
use Rattle.ygg_syntax.specs.declared.tree.Def.{Def}
use Rattle.ygg_syntax.specs.declared.tree.File.{File}
use Rattle.ygg_meaning.specs.Machine.{Picks}
use Rattle.ygg_meaning_laws.specs.Kinds.{may_call}
use Rattle.ygg_rules.specs.declared.rule.RuleKind.{RuleKind}
use Rattle.ygg_bank.specs.Inputs.{InputsBelow}
use Rattle.ygg_bank.specs.Making.{made}
use Rattle.ygg_bank.specs.Nodes.{Extends}
use Rattle.ygg_bank.specs.declared.node.Id.{Id}
use Rattle.ygg_bank.specs.declared.node.Node.{Node}
use Rattle.ygg_bank.specs.declared.node.Node.TheVariants.{Const}
use Rattle.ygg_value.specs.Words.{word}
use Rattle.ygg_shape_cells.specs.declared.terms.SymValue.{SymValue}
use Rattle.ygg_eval.specs.Bodies.{kind_of, variables_in}
use Rattle.ygg_eval.specs.declared.body.Body.{Body}
use Rattle.ygg_eval.specs.declared.body.Part.{Part}
use Rattle.ygg_eval.specs.declared.body.Part.TheVariants.{Start, Spec, OnCrash, Crash, Format, Impl, Tick, Recover}
use Rattle.ygg_sym_laws.specs.Below.{zeros_made}
use Rattle.ygg_sym_laws.specs.SymLaws.{OverTyped}
use Rattle.ygg_sym_spec.specs.Layers.{closed}
use Rattle.ygg_sym.specs.Running.{CanRunBlock}
use Rattle.ygg_sym.specs.Sites.{below_in}
use Rattle.ygg_sym.specs.declared.runs.SymBlock.{SymBlock}
use Rattle.ygg_sym_bodies.specs.Blocks.{CanChoose, SiteFits, TypedAs, called_site, chosen_site, site_in}
use Rattle.ygg_sym_bodies.specs.Numbers.{IsNextInput}
use Rattle.ygg_sym_bodies.specs.Runs.{
  IsMade,
  called,
  called_cut,
  chosen,
  chosen_cut,
  cut_body,
  cut_inputs,
  pick_made,
  whole_body,
  whole_inputs,
}
use Rattle.ygg_sym_bodies.specs.Sites.{AtBlock, IsShaped, MayHave, Site}
use Rattle.ygg_sym_bodies.specs.Worths.{CutsAsAny, CutsAsNamed, RunsAsAny, RunsAsNamed}
use Rattle.ygg_sym_bodies.specs.declared.state.Inputs as numbers
use Rattle.ygg_sym_bodies.specs.declared.state.SymRun.{SymRun}
use Rattle.ygg_sym_bodies.specs.declared.state.SymState.{SymState}
use Rattle.ygg_sym_bodies.proofs.Whole.{called_any, called_named, chosen_any, chosen_named, runs_any, runs_named, shaped_wider}
use Rattle.ygg_sym_bodies.proofs.Whole as whole
use Rattle.ygg_sym_bodies.proofs.Cuts.{cuts_any, cuts_named}
use Rattle.ygg_sym_bodies.proofs.Cuts as cuts
use Rattle.ygg_sym_bodies.proofs.Bounded as bounded

-- what follows from two facts about an answer
pub both_ok : {A E : Type 0} (r : Result A E) {P Q R : A → Type 0} → IfOk r P → IfOk r Q → ((x : A) → P x → Q x → R x) → IfOk r R
both_ok (Ok x) p q f = f x p q
both_ok (Err e) p q f = tt

pub three_ok : {A E : Type 0} (r : Result A E) {P Q R S : A → Type 0} → IfOk r P → IfOk r Q → IfOk r R → ((x : A) → P x → Q x → R x → S x) → IfOk r S
three_ok (Ok x) p q s f = f x p q s
three_ok (Err e) p q s f = tt

pub one_ok : {A E : Type 0} (r : Result A E) {P R : A → Type 0} → IfOk r P → ((x : A) → P x → R x) → IfOk r R
one_ok (Ok x) p f = f x p
one_ok (Err e) p f = tt

-- what holds of the block in code holds of that of the file
pub at_block : (f : File) (body : Body) (s : Site) (P : Site → Type 0) → AtBlock f body (λ z. s ≡ z) → P s → AtBlock f body P
at_block f body s P same p l b is = subst P (same l b is) p

module _ (at : SymBlock) where
  pub is_called : (part : Part) → may_call (kind_of part) ≡ true → called_site at ≡ site_in at part
  is_called Start e = absurd (cc)
  is_called Spec e = absurd (cc)
  is_called OnCrash e = absurd (cc)
  is_called Crash e = absurd (cc)
  is_called Format e = refl
  is_called Impl e = refl
  is_called Tick e = refl
  is_called Recover e = refl

  pub is_chosen : (part : Part) → may_call (kind_of part) ≡ false → chosen_site at ≡ site_in at part
  is_chosen Start e = refl
  is_chosen Spec e = refl
  is_chosen OnCrash e = refl
  is_chosen Crash e = refl
  is_chosen Format e = absurd (cc)
  is_chosen Impl e = absurd (cc)
  is_chosen Tick e = absurd (cc)
  is_chosen Recover e = absurd (cc)

-- a block that may call what is below is given no picks
pub no_picks : (part : Part) (given : Option Picks) → MayHave part given → may_call (kind_of part) ≡ true → given ≡ None
no_picks part None h e = refl
no_picks Start (Some picks) h e = absurd (cc)
no_picks Spec (Some picks) h e = absurd (cc)
no_picks OnCrash (Some picks) h e = absurd (cc)
no_picks Crash (Some picks) h e = absurd (cc)
no_picks Format (Some picks) h e = absurd (cc)
no_picks Impl (Some picks) h e = absurd (cc)
no_picks Tick (Some picks) h e = absurd (cc)
no_picks Recover (Some picks) h e = absurd (cc)

module _ (at : SymBlock) (part : Part) (fits : SiteFits at part) where
  over : OverTyped at.layer.defs.now (below_in at.below) (closed at.layer)
  over = record { definitions = (fits.below).sound; functions = refl; below = (fits.below).typed; low_is = (fits.below).low_is }

  typed_as : (c : Bool) → may_call (kind_of part) ≡ c → TypedAs at c
  typed_as c e = subst (TypedAs at) e fits.typed

  module _ (old new : List Node) (from : SymState) (grows : Extends old new) (shaped : IsShaped (site_in at part) old from) where
    wide : IsShaped (site_in at part) new from
    wide = shaped_wider (site_in at part) old new from grows shaped

    pub can_run : may_call (kind_of part) ≡ true → CanRunBlock at new from.vars from.args from.low
    can_run e =
        let w = subst (λ s. IsShaped s new from) (sym (is_called at part e)) wide in
        record { below = fits.below; typed = typed_as true e; memory_are = w.vars; args_are = w.args; low_are = w.low }

    pub chosen_shaped : may_call (kind_of part) ≡ false → IsShaped (chosen_site at) new from
    chosen_shaped e = subst (λ s. IsShaped s new from) (sym (is_chosen at part e)) wide

    pub can_choose : may_call (kind_of part) ≡ false → CanChoose at new from
    can_choose e = record { sound = (fits.below).sound; typed = typed_as false e; shaped = chosen_shaped e }

  module _ (kinds : List RuleKind) (from : SymState) (old new : List Node) (r : SymRun) where
    -- a whole run that is made on the nodes after the constant
    module _ (given : Option Picks) (first : ℕ) (nodes : List Node) (one : Id) (nodes_are : nodes ≡ (made kinds (Const (word 1 1)) old).nodes)
        (one_is : one ≡ (made kinds (Const (word 1 1)) old).value) where
      pub whole_called : may_call (kind_of part) ≡ true → r.inputs ≡ whole_inputs (called_site at) None first →
          IsMade (called kinds (called_site at) from first one nodes) from r new →
          IsMade (whole_body kinds (site_in at part) from given r.inputs.picks old) from r new
      whole_called e inputs m =
          let picks : r.inputs.picks ≡ first = ap (λ (i : numbers.Inputs). i.picks) inputs in
          subst (λ n. IsMade (whole_body kinds (site_in at part) from given n old) from r new) (sym picks)
          (subst (λ s. IsMade (whole_body kinds s from given first old) from r new) (is_called at part e)
          (subst (λ x. IsMade (called kinds (called_site at) from first x (made kinds (Const (word 1 1)) old).nodes) from r new) one_is
          (subst (λ ns. IsMade (called kinds (called_site at) from first one ns) from r new) nodes_are m)))

      pub whole_chosen : may_call (kind_of part) ≡ false → r.inputs ≡ whole_inputs (chosen_site at) given first →
          IsMade (chosen kinds (chosen_site at) from (pick_made kinds given first) one nodes) from r new →
          IsMade (whole_body kinds (site_in at part) from given r.inputs.picks old) from r new
      whole_chosen e inputs m =
          let picks : r.inputs.picks ≡ first = ap (λ (i : numbers.Inputs). i.picks) inputs in
          let pick = pick_made kinds given first in
          subst (λ n. IsMade (whole_body kinds (site_in at part) from given n old) from r new) (sym picks)
          (subst (λ s. IsMade (whole_body kinds s from given first old) from r new) (is_chosen at part e)
          (subst (λ x. IsMade (chosen kinds (chosen_site at) from pick x (made kinds (Const (word 1 1)) old).nodes) from r new) one_is
          (subst (λ ns. IsMade (chosen kinds (chosen_site at) from pick one ns) from r new) nodes_are m)))

    -- a run that power cuts, made on the nodes after the zeros
    module _ (first : ℕ) (nodes : List Node) (zeros : List SymValue) (nodes_are : nodes ≡ (zeros_made kinds (variables_in at.layer.layer.now part) old).nodes)
        (zeros_are : zeros ≡ (zeros_made kinds (variables_in at.layer.layer.now part) old).value) where
      abbrev zeroed : Site → Type 0
      zeroed s = (nodes ≡ (zeros_made kinds s.vars old).nodes) × (zeros ≡ (zeros_made kinds s.vars old).value)

      pub cut_called_made : may_call (kind_of part) ≡ true → r.inputs ≡ cut_inputs (called_site at) first →
          IsMade (called_cut kinds (called_site at) from first r.inputs.stops r.inputs.failure zeros nodes) from r new →
          IsMade (cut_body kinds (site_in at part) from r.inputs.picks r.inputs.stops r.inputs.failure old) from r new
      cut_called_made e inputs m =
          let picks : r.inputs.picks ≡ first = ap (λ (i : numbers.Inputs). i.picks) inputs in
          let s = called_site at in
          let z = subst zeroed (sym (is_called at part e)) (nodes_are, zeros_are) in
          let stops = r.inputs.stops in
          let last = r.inputs.failure in
          subst (λ n. IsMade (cut_body kinds (site_in at part) from n stops last old) from r new) (sym picks)
          (subst (λ x. IsMade (cut_body kinds x from first stops last old) from r new) (is_called at part e)
          (subst (λ xs. IsMade (called_cut kinds s from first stops last xs (zeros_made kinds s.vars old).nodes) from r new) z.1
          (subst (λ ns. IsMade (called_cut kinds s from first stops last zeros ns) from r new) z.0 m)))

      pub cut_chosen_made : may_call (kind_of part) ≡ false → r.inputs ≡ cut_inputs (chosen_site at) first →
          IsMade (chosen_cut kinds (chosen_site at) from r.inputs.stops r.inputs.failure zeros nodes) from r new →
          IsMade (cut_body kinds (site_in at part) from r.inputs.picks r.inputs.stops r.inputs.failure old) from r new
      cut_chosen_made e inputs m =
          let picks : r.inputs.picks ≡ first = ap (λ (i : numbers.Inputs). i.picks) inputs in
          let s = chosen_site at in
          let z = subst zeroed (sym (is_chosen at part e)) (nodes_are, zeros_are) in
          let stops = r.inputs.stops in
          let last = r.inputs.failure in
          subst (λ n. IsMade (cut_body kinds (site_in at part) from n stops last old) from r new) (sym picks)
          (subst (λ x. IsMade (cut_body kinds x from first stops last old) from r new) (is_chosen at part e)
          (subst (λ xs. IsMade (chosen_cut kinds s from stops last xs (zeros_made kinds s.vars old).nodes) from r new) z.1
          (subst (λ ns. IsMade (chosen_cut kinds s from stops last zeros ns) from r new) z.0 m)))

    -- what a whole run is worth
    module _ (given : Option Picks) (may : MayHave part given) (shaped : IsShaped (site_in at part) old from)
        (m : IsMade (whole_body kinds (site_in at part) from given r.inputs.picks old) from r new) where
      abbrev defs : List Def
      defs = at.layer.defs.now

      named_for : (c : Bool) → may_call (kind_of part) ≡ c → whole.AllNamed (site_in at part) from given r.inputs.picks kinds old
      named_for true e =
          let here = subst (λ s. IsShaped s old from) (sym (is_called at part e)) shaped in
          subst (λ s. whole.AllNamed s from given r.inputs.picks kinds old) (is_called at part e)
          (subst (λ g. whole.AllNamed (called_site at) from g r.inputs.picks kinds old) (sym (no_picks part given may e))
          (called_named kinds defs (below_in at.below) (closed at.layer) at.block.now at.names.now over (typed_as true e) from r.inputs.picks old here))
      named_for false e =
          let here = subst (λ s. IsShaped s old from) (sym (is_chosen at part e)) shaped in
          subst (λ s. whole.AllNamed s from given r.inputs.picks kinds old) (is_chosen at part e)
          (chosen_named kinds defs (below_in at.below) (closed at.layer) at.block.now at.names.now over (typed_as false e) from given r.inputs.picks old here)

      any_for : (c : Bool) → may_call (kind_of part) ≡ c → whole.AllAny (site_in at part) from given r.inputs.picks kinds old
      any_for true e =
          let here = subst (λ s. IsShaped s old from) (sym (is_called at part e)) shaped in
          subst (λ s. whole.AllAny s from given r.inputs.picks kinds old) (is_called at part e)
          (subst (λ g. whole.AllAny (called_site at) from g r.inputs.picks kinds old) (sym (no_picks part given may e))
          (called_any kinds defs (below_in at.below) (closed at.layer) at.block.now at.names.now over (typed_as true e) from r.inputs.picks old here))
      any_for false e =
          let here = subst (λ s. IsShaped s old from) (sym (is_chosen at part e)) shaped in
          subst (λ s. whole.AllAny s from given r.inputs.picks kinds old) (is_chosen at part e)
          (chosen_any kinds defs (below_in at.below) (closed at.layer) at.block.now at.names.now over (typed_as false e) from given r.inputs.picks old here)

      -- its inputs are below the number after its own
      bounded_for : (c : Bool) → may_call (kind_of part) ≡ c → InputsBelow r.inputs.picks old →
          InputsBelow (whole_inputs (site_in at part) given r.inputs.picks).next (whole_body kinds (site_in at part) from given r.inputs.picks old).nodes
      bounded_for true e p =
          subst (λ s. InputsBelow (whole_inputs s given r.inputs.picks).next (whole_body kinds s from given r.inputs.picks old).nodes) (is_called at part e)
          (subst (λ g. InputsBelow (whole_inputs (called_site at) g r.inputs.picks).next (whole_body kinds (called_site at) from g r.inputs.picks old).nodes)
          (sym (no_picks part given may e))
          (bounded.called_whole kinds defs (below_in at.below) (closed at.layer) at.block.now at.names.now over (typed_as true e) from r.inputs.picks old p))
      bounded_for false e p =
          subst (λ s. InputsBelow (whole_inputs s given r.inputs.picks).next (whole_body kinds s from given r.inputs.picks old).nodes) (is_chosen at part e)
          (bounded.chosen_whole kinds defs (below_in at.below) (closed at.layer) at.block.now at.names.now over (typed_as false e) from r.inputs.picks old p
          given)

      pub run_bounded : IsNextInput old r.inputs.picks → r.inputs ≡ whole_inputs (site_in at part) given r.inputs.picks → InputsBelow r.inputs.next new
      run_bounded fresh numbered =
          subst (λ n. InputsBelow n new) (sym (ap (λ (i : numbers.Inputs). i.next) numbered))
          (subst (λ ns. InputsBelow (whole_inputs (site_in at part) given r.inputs.picks).next ns) (sym m.nodes_are)
          (bounded_for (may_call (kind_of part)) refl fresh.above))

      pub run_named : RunsAsNamed (site_in at part) from given r new
      run_named = runs_named (site_in at part) from given kinds old new r m (named_for (may_call (kind_of part)) refl)

      pub run_any : RunsAsAny (site_in at part) from given r new
      run_any = runs_any (site_in at part) from given kinds old new r m (any_for (may_call (kind_of part)) refl)

    -- what a run is worth that power cuts
    module _ (shaped : IsShaped (site_in at part) old from)
        (m : IsMade (cut_body kinds (site_in at part) from r.inputs.picks r.inputs.stops r.inputs.failure old) from r new) where
      abbrev ds : List Def
      ds = at.layer.defs.now

      cut_named_for : (c : Bool) → may_call (kind_of part) ≡ c →
          cuts.AllNamed (site_in at part) from r.inputs.picks r.inputs.stops r.inputs.failure kinds old
      cut_named_for true e =
          let here = subst (λ s. IsShaped s old from) (sym (is_called at part e)) shaped in
          subst (λ s. cuts.AllNamed s from r.inputs.picks r.inputs.stops r.inputs.failure kinds old) (is_called at part e)
          (cuts.called_named kinds ds (below_in at.below) (closed at.layer) at.block.now at.names.now over (typed_as true e) from r.inputs.picks r.inputs.stops
          r.inputs.failure old here)
      cut_named_for false e =
          let here = subst (λ s. IsShaped s old from) (sym (is_chosen at part e)) shaped in
          subst (λ s. cuts.AllNamed s from r.inputs.picks r.inputs.stops r.inputs.failure kinds old) (is_chosen at part e)
          (cuts.chosen_named kinds ds (below_in at.below) (closed at.layer) at.block.now at.names.now over (typed_as false e) from r.inputs.picks
          r.inputs.stops r.inputs.failure old here)

      cut_any_for : (c : Bool) → may_call (kind_of part) ≡ c →
          cuts.AllAny (site_in at part) from r.inputs.picks r.inputs.stops r.inputs.failure kinds old
      cut_any_for true e =
          let here = subst (λ s. IsShaped s old from) (sym (is_called at part e)) shaped in
          subst (λ s. cuts.AllAny s from r.inputs.picks r.inputs.stops r.inputs.failure kinds old) (is_called at part e)
          (cuts.called_any kinds ds (below_in at.below) (closed at.layer) at.block.now at.names.now over (typed_as true e) from r.inputs.picks r.inputs.stops
          r.inputs.failure old here)
      cut_any_for false e =
          let here = subst (λ s. IsShaped s old from) (sym (is_chosen at part e)) shaped in
          subst (λ s. cuts.AllAny s from r.inputs.picks r.inputs.stops r.inputs.failure kinds old) (is_chosen at part e)
          (cuts.chosen_any kinds ds (below_in at.below) (closed at.layer) at.block.now at.names.now over (typed_as false e) from r.inputs.picks
          r.inputs.stops r.inputs.failure old here)

      -- its inputs are below the number after its own
      cut_bounded_for : (c : Bool) → may_call (kind_of part) ≡ c → InputsBelow r.inputs.picks old →
          (let n = cut_inputs (site_in at part) r.inputs.picks in
          InputsBelow n.next (cut_body kinds (site_in at part) from n.picks n.stops n.failure old).nodes)
      cut_bounded_for true e p =
          subst (λ s. (let n = cut_inputs s r.inputs.picks in InputsBelow n.next (cut_body kinds s from n.picks n.stops n.failure old).nodes))
          (is_called at part e)
          (bounded.called_cut kinds ds (below_in at.below) (closed at.layer) at.block.now at.names.now over (typed_as true e) from r.inputs.picks old p)
      cut_bounded_for false e p =
          subst (λ s. (let n = cut_inputs s r.inputs.picks in InputsBelow n.next (cut_body kinds s from n.picks n.stops n.failure old).nodes))
          (is_chosen at part e)
          (bounded.chosen_cut kinds ds (below_in at.below) (closed at.layer) at.block.now at.names.now over (typed_as false e) from r.inputs.picks old p)

      pub cut_bounded : IsNextInput old r.inputs.picks → r.inputs ≡ cut_inputs (site_in at part) r.inputs.picks → InputsBelow r.inputs.next new
      cut_bounded fresh numbered =
          let within = subst (λ (n : numbers.Inputs). InputsBelow n.next (cut_body kinds (site_in at part) from n.picks n.stops n.failure old).nodes)
          (sym numbered) (cut_bounded_for (may_call (kind_of part)) refl fresh.above) in
          subst (λ ns. InputsBelow r.inputs.next ns) (sym m.nodes_are) within

      pub cut_named : CutsAsNamed (site_in at part) from r new
      cut_named = cuts_named (site_in at part) from kinds old new r m (cut_named_for (may_call (kind_of part)) refl)

      pub cut_any : CutsAsAny (site_in at part) from r new
      cut_any = cuts_any (site_in at part) from kinds old new r m (cut_any_for (may_call (kind_of part)) refl)
