-- Power that fails within an operation of a layer's own specification, case by case.
use Rattle.std.proofs.Common.{◌≡◌, ◌≤◌, ◌-◌, true, false, Bool, List, [], ◌∷◌, Option, Some, None, length, take, drop, get_or, sym, ap, ◌∙◌, arith}
use Rattle.std.proofs.lemmas.List.{take_all}
use Rattle.ygg_syntax.specs.declared.tree.Block.{Block}
use Rattle.ygg_syntax.specs.declared.tree.Declared.{Declared}
use Rattle.ygg_syntax.specs.declared.tree.Operation.{Operation}
use Rattle.ygg_sym_spec.specs.ygg_meaning.Layer.{ClosedLayer}
use Rattle.ygg_sym_spec.specs.ygg_meaning.Machine.{Picks}
use Rattle.ygg_sym_spec.specs.ygg_rules.declared.rule.RuleKind.{RuleKind}
use Rattle.ygg_sym_spec.specs.ygg_shape_cells.declared.terms.SymValue.{SymValue}
use Rattle.ygg_sym_spec.specs.ygg_sym_runs.Exprs.{SymFunctions}
use Rattle.ygg_sym_spec.specs.ygg_sym_runs.Names.{sym_bind}
use Rattle.ygg_sym_spec.specs.ygg_sym_runs.Specs.{given_pick}
use Rattle.ygg_sym_spec.specs.ygg_sym_runs.SpecCuts.{crash_made, then_crash_made}
use Rattle.ygg_oblige_laws.specs.Outcomes.{fall_with_picks}

module _ (kinds : List RuleKind) (terms : SymFunctions) (L : ClosedLayer) (o : Operation) (vars args : List SymValue) where
  pub fall_some : (q : Option Block) (b : Block) (ds : List Declared) (xs : List SymValue) (picks : Picks) → q ≡ Some b → ds ≡ o.arguments → xs ≡ args →
      then_crash_made kinds terms L (given_pick kinds picks) b vars (sym_bind ds xs) ≡ fall_with_picks kinds terms L o q vars args picks
  fall_some q b ds xs picks e f h =
      ap (λ d. then_crash_made kinds terms L (given_pick kinds picks) b vars (sym_bind d xs)) f
      ∙ ap (λ z. then_crash_made kinds terms L (given_pick kinds picks) b vars (sym_bind o.arguments z)) h
      ∙ ap (λ w. fall_with_picks kinds terms L o w vars args picks) (sym e)

  pub fall_whole : (q : Option Block) (ds : List Declared) (xs : List SymValue) (happened : Bool) (rest picks : Picks) → q ≡ None → ds ≡ o.arguments →
      xs ≡ args → happened ≡ true → picks ≡ happened ∷ rest →
      then_crash_made kinds terms L (given_pick kinds rest) o.spec vars (sym_bind ds xs) ≡ fall_with_picks kinds terms L o q vars args picks
  fall_whole q ds xs happened rest picks e f h t p =
      ap (λ d. then_crash_made kinds terms L (given_pick kinds rest) o.spec vars (sym_bind d xs)) f
      ∙ ap (λ z. then_crash_made kinds terms L (given_pick kinds rest) o.spec vars (sym_bind o.arguments z)) h
      ∙ ap (λ w. fall_with_picks kinds terms L o w vars args (true ∷ rest)) (sym e)
      ∙ ap (λ b. fall_with_picks kinds terms L o q vars args (b ∷ rest)) (sym t) ∙ ap (fall_with_picks kinds terms L o q vars args) (sym p)

  pub fall_nothing : (q : Option Block) (happened : Bool) (rest picks : Picks) → q ≡ None → happened ≡ false → picks ≡ happened ∷ rest →
      crash_made kinds terms L (given_pick kinds rest) vars ≡ fall_with_picks kinds terms L o q vars args picks
  fall_nothing q happened rest picks e t p =
      ap (λ w. fall_with_picks kinds terms L o w vars args (false ∷ rest)) (sym e)
      ∙ ap (λ b. fall_with_picks kinds terms L o q vars args (b ∷ rest)) (sym t) ∙ ap (fall_with_picks kinds terms L o q vars args) (sym p)

-- the first of some picks, and those after it
pub picks_split : (picks : Picks) (d : Bool) → 1 ≤ length picks → picks ≡ get_or picks 0 d ∷ take (length picks - 1) (drop 1 picks)
picks_split [] d l = absurd (omega arith)
picks_split (b ∷ picks) d l = ap (λ z. b ∷ z) (sym (take_all (length (b ∷ picks) - 1) picks (omega arith)))
