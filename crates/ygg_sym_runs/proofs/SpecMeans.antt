-- A specification over terms does what its blocks do, whose choices take the picks of their places.
use Rattle.std.proofs.Common.{◌≡◌, ◌+◌, ◌&&◌, ℕ, Bool, true, List, [], ◌∷◌, map, All, Option, Some, None, option_map, refl, sym, ap, ◌∙◌, subst}
use Rattle.std.proofs.lemmas.Bool.{and_from as both_of}
use Rattle.std.specs.Str.{bytes_eq}
use Rattle.ygg_value.specs.declared.row.Value.{Value}
use Rattle.ygg_syntax.specs.declared.grammar.BlockKind.TheVariants.{Impl}
use Rattle.ygg_syntax.specs.declared.tree.Declared.{Declared}
use Rattle.ygg_syntax.specs.declared.tree.Operation.{Operation}
use Rattle.ygg_sym_runs.specs.ygg_type_rules.Names.{Named, look_up}
use Rattle.ygg_sym_runs.specs.ygg_type_rules.declared.scope.Signature.{Signature}
use Rattle.ygg_sym_runs.specs.ygg_type_rules.Layers.{operation_signature}
use Rattle.ygg_sym_runs.specs.ygg_meaning.Environments.{Name, Env, bind}
use Rattle.ygg_sym_runs.specs.ygg_meaning.Shapes.{shape_in, fits, values_fit, env_fits}
use Rattle.ygg_sym_runs.specs.ygg_meaning.Progress.{Question, Answer}
use Rattle.ygg_sym_runs.specs.ygg_meaning.Progress as progress
use Rattle.ygg_sym_runs.specs.ygg_meaning.Machine.{State, based}
use Rattle.ygg_sym_runs.specs.ygg_meaning.Layer.{ClosedLayer, operation_of}
use Rattle.ygg_sym_runs.specs.ygg_meaning_laws.Fitting.{all_fit}
use Rattle.ygg_sym_runs.specs.ygg_meaning_laws_proofs_Tests.{left as first_of, right as second_of, bytes_equal}
use Rattle.ygg_sym_runs.specs.ygg_meaning_laws.Questions.{question_fits}
use Rattle.ygg_sym_runs.specs.ygg_rules.declared.rule.RuleKind.{RuleKind}
use Rattle.ygg_sym_runs.specs.ygg_bank_proofs_Widths.{extends_self}
use Rattle.ygg_sym_runs.specs.ygg_bank.Makes.{Make}
use Rattle.ygg_sym_runs.specs.ygg_bank.Values.{Inputs, Values}
use Rattle.ygg_sym_runs.specs.ygg_bank.declared.node.Id.{Id}
use Rattle.ygg_sym_runs.specs.ygg_bank.declared.node.Node.{Node}
use Rattle.ygg_sym_runs.specs.ygg_shape_cells.Terms.{worth}
use Rattle.ygg_sym_runs.specs.ygg_shape_cells.declared.terms.SymValue.{SymValue}
use Rattle.ygg_sym_runs.specs.ygg_meaning_laws.Direct.{Handled}
use Rattle.ygg_sym_runs.specs.ygg_meaning_laws.DirectLaws.{Sees}
use Rattle.ygg_sym_runs.specs.ygg_meaning_laws_proofs_DiskServes.{answer_does, fitting_call}
use Rattle.ygg_sym_runs.specs.Names.{sym_bind}
use Rattle.ygg_sym_runs.specs.Exprs.{SymFunctions}
use Rattle.ygg_sym_runs.specs.ExpressionMeaning.{SomeShape, Grows, Gives}
use Rattle.ygg_sym_runs.proofs.Grows.{FunctionsGrow}
use Rattle.ygg_sym_runs.proofs.Values.{FunctionsMean}
use Rattle.ygg_sym_runs.specs.Runs.{SymQuestion, Choice, Call}
use Rattle.ygg_sym_runs.specs.Meaning.{question_worth, QuestionShaped, IsHandled, MachineMeans}
use Rattle.ygg_sym_runs.specs.Lows.{LowShaped, low_worth}
use Rattle.ygg_sym_runs.specs.Specs.{SpecBlock, spec_asked, spec_handles, sym_spec}
use Rattle.ygg_sym_runs.proofs.Blocks.{BlockOfSpec, block_made_grows, block_made_gives}
use Rattle.ygg_sym_runs.proofs.Chosen.{block_end}
use Rattle.ygg_sym_runs.proofs.Lows.{low_of, merge_lows_grows, merge_lows_gives}
use Rattle.ygg_sym_runs.proofs.Specs.{PickMeans}

-- an operation, with a pick for each place of its `spec` block
abbrev pub spec_ended : ClosedLayer → (ℕ → Bool) → Option Operation → List Value → State Env → Handled (State Env)
spec_ended m bits None args z = record { answer = None; to = z }
spec_ended m bits (Some o) args z =
    let e = block_end m bits o.spec z.base (bind o.arguments args) in record { answer = e.answer; to = based e.vars }

-- a specification whose calls take the picks of their places
abbrev pub spec_at : ClosedLayer → (ℕ → Bool) → ℕ → Question → State Env → Handled (State Env)
spec_at m bits i progress.Choice z = record { answer = None; to = z }
spec_at m bits i (progress.Call name args) z = spec_ended m (λ k. bits (i + k)) (operation_of m name) args z

bound_fits : (ds : List Declared) (xs : List Value) → values_fit ds xs ≡ true → env_fits ds (bind ds xs) ≡ true
bound_fits [] [] e = refl
bound_fits [] (x ∷ xs) e = absurd (cc)
bound_fits (d ∷ ds) [] e = absurd (cc)
bound_fits (d ∷ ds) (x ∷ xs) e =
    both_of (bytes_eq d.name.text d.name.text && fits (shape_in d.shape) x) (env_fits ds (bind ds xs))
    (both_of (bytes_eq d.name.text d.name.text) (fits (shape_in d.shape) x) (bytes_equal d.name.text)
    (first_of (fits (shape_in d.shape) x) (values_fit ds xs) e))
    (bound_fits ds xs (second_of (fits (shape_in d.shape) x) (values_fit ds xs) e))

module _ (inputs : Inputs) (v : Values) (kinds : List RuleKind) where
  module _ (defs : Named Signature) (m : ClosedLayer) (terms : SymFunctions) (grow : FunctionsGrow terms)
      (mean : FunctionsMean inputs v kinds defs m.functions terms grow) (operations : Named Signature) (sees : Sees m operations)
      (blocks : (name : Name) (o : Operation) → operation_of m name ≡ Some o → SpecBlock defs m o) where
    operation_gives : (pick : ℕ → Make Id) (bits : ℕ → Bool) → PickMeans inputs v pick bits →
        (name : Name) (o : Operation) (xs vars : List SymValue) (nodes : List Node) → operation_of m name ≡ Some o →
        values_fit o.arguments (map (worth v) xs) ≡ true → All (SomeShape nodes) xs → LowShaped nodes m.layer.state vars →
        Gives inputs v (spec_asked kinds terms m pick (Some o) xs vars) nodes
        (IsHandled inputs v (low_of m.layer.state) operations (progress.Call name (map (worth v) xs))
        (spec_ended m bits (Some o) (map (worth v) xs) (based (low_worth v m.layer.state vars))))
    operation_gives pick bits picks name o xs vars nodes found fit shaped p h =
        let b = blocks name o found in
        let typed : BlockOfSpec defs m o.spec b.shape o.arguments = record {
          scope = b.scope;
          defs_is = b.defs_is;
          without_errors = b.without_errors;
          kept = b.kept;
          agrees = λ vs ys vars_fit given_fit. b.agrees (bind m.layer.state vs) ys (bound_fits m.layer.state vs vars_fit) given_fit;
        } in
        let e = block_made_gives inputs v kinds defs m terms grow mean pick bits picks o.spec b.shape o.arguments typed vars xs nodes fit shaped p h in
        let ended = block_end m bits o.spec (low_worth v m.layer.state vars) (bind o.arguments (map (worth v) xs)) in
        let known : look_up name operations ≡ Some (operation_signature o) = sees.seen name ∙ ap (option_map operation_signature) found in
        record {
          shaped = e.shaped;
          answer = e.answer;
          fits = answer_does operations name (map (worth v) xs) (operation_signature o) _ known (b.answered ended.answer e.returned);
          has = e.has;
          is = ap (λ (env : Env). based env) e.is;
        }

    operation_grows : (pick : ℕ → Make Id) (bits : ℕ → Bool) → PickMeans inputs v pick bits → (o : Option Operation) (xs vars : List SymValue) →
        Grows (spec_asked kinds terms m pick o xs vars)
    operation_grows pick bits picks None xs vars nodes = extends_self nodes
    operation_grows pick bits picks (Some o) xs vars nodes =
        block_made_grows inputs v kinds defs m terms grow mean pick bits picks o.spec vars (sym_bind o.arguments xs) nodes

    handles_grow : (pick : ℕ → Make Id) (bits : ℕ → Bool) → PickMeans inputs v pick bits → (q : SymQuestion) (vars : List SymValue) →
        Grows (spec_handles kinds terms m pick q vars)
    handles_grow pick bits picks Choice vars nodes = extends_self nodes
    handles_grow pick bits picks (Call name xs) vars nodes = operation_grows pick bits picks (operation_of m name) xs vars nodes

    signature_is : (a b : Signature) → Some a ≡ Some b → a ≡ b
    signature_is a b e = cc

    asked_gives : (pick : ℕ → Make Id) (bits : ℕ → Bool) → PickMeans inputs v pick bits → (name : Name) (xs vars : List SymValue) (nodes : List Node)
        (s : Signature) (o : Option Operation) → operation_of m name ≡ o → look_up name operations ≡ Some s → all_fit s.arguments (map (worth v) xs) ≡ true →
        All (SomeShape nodes) xs → LowShaped nodes m.layer.state vars →
        Gives inputs v (spec_asked kinds terms m pick o xs vars) nodes
        (IsHandled inputs v (low_of m.layer.state) operations (progress.Call name (map (worth v) xs))
        (spec_ended m bits o (map (worth v) xs) (based (low_worth v m.layer.state vars))))
    asked_gives pick bits picks name xs vars nodes s None there known fit shaped p h =
        let e = sym known ∙ sees.seen name ∙ ap (option_map operation_signature) there in absurd (cc)
    asked_gives pick bits picks name xs vars nodes s (Some o) there known fit shaped p h =
        let e = signature_is s (operation_signature o) (sym known ∙ sees.seen name ∙ ap (option_map operation_signature) there) in
        let fits_here = sees.fit name o (map (worth v) xs) there (subst (λ (k : Signature). all_fit k.arguments (map (worth v) xs) ≡ true) e fit) in
        operation_gives pick bits picks name o xs vars nodes there fits_here shaped p h

    pub spec_means : (pick : ℕ → Make Id) (bits : ℕ → Bool) → PickMeans inputs v pick bits →
        MachineMeans inputs v (low_of m.layer.state) Impl operations (sym_spec kinds terms m pick) (spec_at m bits)
    spec_means pick bits picks = record {
      merge_grows = λ t a b nodes. merge_lows_grows inputs v kinds t a b nodes;
      merge = λ t a b nodes w p q. merge_lows_gives inputs v kinds m.layer.state t a b nodes w p q;
      handle_grows = λ i q s nodes. handles_grow (λ k. pick (i + k)) (λ k. bits (i + k)) (from i) q s nodes;
      handle = λ i q s nodes may shaped p h. handled i q s nodes may shaped p h;
    }
      where
        from : (i : ℕ) → PickMeans inputs v (λ k. pick (i + k)) (λ k. bits (i + k))
        from i = record { grows = λ k. picks.grows (i + k); wide = λ k. picks.wide (i + k); is = λ k. picks.is (i + k) }

        handled : (i : ℕ) (q : SymQuestion) (s : List SymValue) (nodes : List Node) → question_fits Impl operations (question_worth v q) ≡ true →
            QuestionShaped nodes q → LowShaped nodes m.layer.state s →
            Gives inputs v (spec_handles kinds terms m (λ k. pick (i + k)) q s) nodes
            (IsHandled inputs v (low_of m.layer.state) operations (question_worth v q)
            (spec_at m bits i (question_worth v q) (based (low_worth v m.layer.state s))))
        handled i Choice s nodes may shaped p h = absurd (cc)
        handled i (Call name xs) s nodes may shaped p h =
            let f = fitting_call operations name (map (worth v) xs) may in
            asked_gives (λ k. pick (i + k)) (λ k. bits (i + k)) (from i) name xs s nodes f.operation (operation_of m name) refl f.found f.fit shaped p h
