-- A block of a specification over terms, with a pick for each place, is worth what the block ends in with the bits of these picks.
use Rattle.std.proofs.Common.{◌≡◌, ℕ, Bool, true, List, [], ◌∷◌, ◌++◌, map, take, length, All, refl, sym, ap, ◌∙◌, subst}
use Rattle.std.proofs.lemmas.List.{map-append, length-map}
use Rattle.std.proofs.lemmas.List.Elements.{All-nil, All-cons, All-append}
use Rattle.std.proofs.lemmas.Bool.{and_from as both_of}
use Rattle.ygg_value.specs.declared.row.Value.{Value}
use Rattle.ygg_value.specs.declared.shape.Shape.{Shape}
use Rattle.std.specs.Prelude.{Option}
use Rattle.ygg_syntax.specs.declared.grammar.BlockKind.TheVariants.{Spec}
use Rattle.ygg_syntax.specs.declared.tree.Declared.{Declared}
use Rattle.ygg_syntax.specs.declared.tree.Block.{Block}
use Rattle.ygg_sym_runs.specs.ygg_type_rules.Names.{Named}
use Rattle.ygg_sym_runs.specs.ygg_type_rules.declared.scope.Signature.{Signature}
use Rattle.ygg_sym_runs.specs.ygg_type_rules.TypeErrors.{none}
use Rattle.ygg_sym_runs.specs.ygg_type_rules.Scopes.{Scope}
use Rattle.ygg_sym_runs.specs.ygg_type_rules.Statements.{block_errors}
use Rattle.ygg_sym_runs.specs.ygg_meaning.Environments.{Name, bind}
use Rattle.ygg_sym_runs.specs.ygg_meaning.Shapes.{shape_in, fits, values_fit, env_fits}
use Rattle.ygg_sym_runs.specs.ygg_meaning.Progress.{answer_of}
use Rattle.ygg_sym_runs.specs.ygg_meaning.Layer.{ClosedLayer}
use Rattle.ygg_sym_runs.specs.ygg_meaning_laws.Agrees.{Agrees}
use Rattle.ygg_sym_runs.specs.ygg_meaning_laws.Kinds.{keeps}
use Rattle.ygg_sym_runs.specs.ygg_meaning_laws.Questions.{plain, Follows}
use Rattle.ygg_sym_runs.specs.ygg_meaning_laws.Blocks.{eval_with, is_returned}
use Rattle.ygg_sym_runs.specs.ygg_meaning_laws_proofs_Following.{follows_front, fits_after}
use Rattle.ygg_sym_runs.specs.ygg_rules.declared.rule.RuleKind.{RuleKind}
use Rattle.ygg_sym_runs.specs.ygg_bank_proofs_Meaning.{fits_fewer}
use Rattle.ygg_sym_runs.specs.ygg_bank.Makes.{Make}
use Rattle.ygg_sym_runs.specs.ygg_bank.Values.{Inputs, Values, Fits}
use Rattle.ygg_sym_runs.specs.ygg_bank.declared.node.Id.{Id}
use Rattle.ygg_sym_runs.specs.ygg_bank.declared.node.Node.{Node}
use Rattle.ygg_sym_runs.specs.ygg_shape_cells.Terms.{worth}
use Rattle.ygg_sym_runs.specs.ygg_shape_cells.declared.terms.SymValue.{SymValue}
use Rattle.ygg_sym_runs.specs.ygg_meaning_laws.Direct.{Reached, direct_run}
use Rattle.ygg_sym_runs.specs.ygg_meaning_laws.Places.{Result}
use Rattle.ygg_sym_runs.specs.Names.{SymEnv, sym_bind}
use Rattle.ygg_sym_runs.specs.Exprs.{SymFunctions}
use Rattle.ygg_sym_runs.specs.ExpressionMeaning.{SomeShape, Grows, Gives, worths}
use Rattle.ygg_sym_runs.proofs.Grows.{FunctionsGrow}
use Rattle.ygg_sym_runs.proofs.Values.{FunctionsMean}
use Rattle.ygg_sym_runs.specs.Meaning.{AnswerShaped, answer_worth}
use Rattle.ygg_sym_runs.proofs.Worths.{NameShaped, shape_fits}
use Rattle.ygg_sym_runs.proofs.Parts.{InScope}
use Rattle.ygg_sym_runs.specs.Lows.{LowShaped, low_worth}
use Rattle.ygg_sym_runs.specs.Disks.{Done}
use Rattle.ygg_sym_runs.specs.Wholes.{sym_whole}
use Rattle.ygg_sym_runs.specs.Specs.{Nothing, sym_chooser}
use Rattle.ygg_sym_runs.specs.SpecCuts.{block_made}
use Rattle.ygg_sym_runs.proofs.Lows.{low_fits}
use Rattle.ygg_sym_runs.proofs.Specs.{choose_at, low_nothing, PickMeans, chooser_means, bound_worth, bound_shaped, low_shaped, lows_back}
use Rattle.ygg_sym_runs.proofs.WholeRuns.{whole_grows, whole_gives}
use Rattle.ygg_sym_runs.proofs.Chosen.{block_end}

-- a block of a specification without a type error, over values of the declared arguments
pub record BlockOfSpec (defs : Named Signature) (m : ClosedLayer) (b : Block) (shape : Option Shape) (args : List Declared) : Type 0 where
  pub scope : Scope
  pub defs_is : scope.defs ≡ defs
  pub without_errors : none (block_errors b shape scope) ≡ true
  pub kept : keeps Spec b ≡ true
  pub agrees : (xs ys : List Value) → values_fit m.layer.state xs ≡ true → values_fit args ys ≡ true →
      Agrees m.functions scope (plain (bind m.layer.state xs ++ bind args ys))

module _ (inputs : Inputs) (v : Values) where
  -- what values of the declared shapes are worth has these shapes
  pub values_worth : (nodes : List Node) (ds : List Declared) (xs : List SymValue) → Fits inputs v nodes → LowShaped nodes ds xs →
      values_fit ds (map (worth v) xs) ≡ true
  values_worth nodes [] [] h p = refl
  values_worth nodes [] (x ∷ xs) h p = absurd p
  values_worth nodes (d ∷ ds) [] h p = absurd p
  values_worth nodes (d ∷ ds) (x ∷ xs) h p =
      both_of (fits (shape_in d.shape) (worth v x)) (values_fit ds (map (worth v) xs)) (shape_fits inputs v nodes (shape_in d.shape) x h p.0)
      (values_worth nodes ds xs h p.1)

  -- and stands among the nodes
  pub low_stands : (nodes : List Node) (ds : List Declared) (xs : List SymValue) → LowShaped nodes ds xs → All (SomeShape nodes) xs
  low_stands nodes [] [] p = All-nil (SomeShape nodes)
  low_stands nodes [] (x ∷ xs) p = absurd p
  low_stands nodes (d ∷ ds) [] p = absurd p
  low_stands nodes (d ∷ ds) (x ∷ xs) p =
      All-cons (SomeShape nodes) x xs (record { shape = shape_in d.shape; stands = p.0 }) (low_stands nodes ds xs p.1)

  -- what a block of a specification over terms is worth
  pub record BlockIs (m : ClosedLayer) (b : Block) (shape : Option Shape) (want : Result) (nodes : List Node) (d : Done) : Type 0 where
    pub shaped : AnswerShaped nodes d.answer
    pub answer : answer_worth v d.answer ≡ want.answer
    pub returned : is_returned b.answer shape want.answer ≡ true
    pub has : LowShaped nodes m.layer.state d.to
    pub is : low_worth v m.layer.state d.to ≡ want.vars

  module _ (kinds : List RuleKind) (defs : Named Signature) (m : ClosedLayer) (terms : SymFunctions) (grow : FunctionsGrow terms)
      (mean : FunctionsMean inputs v kinds defs m.functions terms grow) (pick : ℕ → Make Id) (bits : ℕ → Bool) (picks : PickMeans inputs v pick bits) where
    pub block_made_grows : (b : Block) (vars : List SymValue) (args : SymEnv) → Grows (block_made kinds terms m pick b vars args)
    block_made_grows b vars args nodes =
        whole_grows inputs v kinds defs m.functions terms grow mean low_nothing Spec [] (sym_chooser pick) (choose_at bits)
        (chooser_means inputs v pick bits picks []) b (sym_bind m.layer.state vars) args tt nodes

    pub block_made_gives : (b : Block) (shape : Option Shape) (args : List Declared) (typed : BlockOfSpec defs m b shape args) (vars xs : List SymValue)
        (nodes : List Node) → values_fit args (map (worth v) xs) ≡ true → All (SomeShape nodes) xs → LowShaped nodes m.layer.state vars →
        Gives inputs v (block_made kinds terms m pick b vars (sym_bind args xs)) nodes
        (BlockIs m b shape (block_end m bits b (low_worth v m.layer.state vars) (bind args (map (worth v) xs))))
    block_made_gives b shape args typed vars xs nodes fit stand p h =
        let state = m.layer.state in
        let sv = sym_bind state vars in
        let sa = sym_bind args xs in
        let given = bind args (map (worth v) xs) in
        let low = low_worth v state vars in
        let lower = typed.scope.lower in
        let means = chooser_means inputs v pick bits picks lower in
        let out = sym_whole kinds terms (sym_chooser pick) b sv sa tt nodes in
        let joined : worths v (sv ++ sa) ≡ low ++ given =
        map-append (λ (b : Name × SymValue). (b.0, worth v b.1)) sv sa ∙ ap (λ e. e ++ worths v sa) (bound_worth inputs v kinds state vars)
        ∙ ap (λ e. low ++ e) (bound_worth inputs v kinds args xs) in
        let grows = whole_grows inputs v kinds defs m.functions terms grow mean low_nothing Spec lower (sym_chooser pick) (choose_at bits) means
        b sv sa tt nodes in
        let fit_nodes = fits_fewer inputs v nodes out.nodes grows h in
        let agreed = typed.agrees (map (worth v) vars) (map (worth v) xs) (values_worth nodes state vars fit_nodes p) fit in
        let inside : InScope inputs v kinds defs m.functions terms grow mean lower typed.scope (worths v (sv ++ sa)) = record {
          lower_is = refl;
          defs_is = typed.defs_is;
          agrees = subst (λ e. Agrees m.functions typed.scope (plain e)) (sym joined) agreed;
        } in
        let w = whole_gives inputs v kinds defs m.functions terms grow mean low_nothing Spec lower (sym_chooser pick) (choose_at bits) means
        b shape typed.scope sv sa tt nodes inside typed.without_errors typed.kept
        (All-append (NameShaped nodes) sv sa (low_shaped inputs v kinds state vars nodes p) (bound_shaped inputs v kinds args xs nodes stand)) tt h in
        let run = direct_run (eval_with m.functions) (λ f. 1) (choose_at bits) b (worths v (sv ++ sa)) tt in
        let same = ap (λ e. direct_run (eval_with m.functions) (λ f. 1) (choose_at bits) b e tt) joined in
        let count : length sv ≡ length low =
        sym (length-map sv (λ (b : Name × SymValue). (b.0, worth v b.1))) ∙ ap length (bound_worth inputs v kinds state vars) in
        let follows = follows_front low given run.env (subst (λ e. Follows e run.env) joined w.follows) in
        let kept : env_fits state (take (length low) run.env) ≡ true =
        fits_after state low run.env follows (low_fits inputs v nodes state vars fit_nodes p) in
        let vars_are : worths v out.value.vars ≡ take (length low) run.env = w.vars ∙ ap (λ n. take n run.env) count in
        let back = lows_back inputs v kinds state out.value.vars out.nodes h w.vars_shaped
        (subst (λ e. env_fits state e ≡ true) (sym vars_are) kept) in
        let a = w.answer in
        let answer_is : answer_of (eval_with m.functions) b.answer run.env ≡ (block_end m bits b low given).answer =
        ap (λ (r : Reached Nothing). answer_of (eval_with m.functions) b.answer r.env) same in
        record {
          shaped = a.shaped;
          answer = a.is ∙ answer_is;
          returned = subst (λ y. is_returned b.answer shape y ≡ true) answer_is w.returned;
          has = back.has;
          is = back.is ∙ vars_are ∙ ap (λ (r : Reached Nothing). take (length low) r.env) same;
        }
