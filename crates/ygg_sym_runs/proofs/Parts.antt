-- What the parts of a statement give, under one valuation of the nodes at the end.
use Rattle.std.proofs.Common.{◌≡◌, ℕ, Bool, true, false, if◌then◌else◌, List, [], ◌∷◌, map, All, Option, Some, None, refl, sym, ap, ◌∙◌, subst, arith}
use Rattle.std.specs.Str.{bytes_eq}
use Rattle.std.proofs.lemmas.List.Elements.{All-head, All-tail, All-cons, All-nil}
use Rattle.ygg_value.specs.Values.{word_in}
use Rattle.ygg_value.specs.Shapes.{shape_of}
use Rattle.ygg_value.specs.declared.row.Value.{Value}
use Rattle.ygg_value.specs.declared.shape.Shape.TheVariants as shape
use Rattle.ygg_meaning_laws.specs.ygg_type_rules.Shapes.{is_word}
use Rattle.ygg_syntax.specs.declared.grammar.BlockKind.{BlockKind}
use Rattle.ygg_syntax.specs.declared.tree.Expr.{Expr}
use Rattle.ygg_syntax.specs.declared.tree.Source.{Source}
use Rattle.ygg_syntax.specs.declared.tree.Source.TheVariants as source
use Rattle.ygg_meaning_laws.specs.ygg_type_rules.Names.{Named, look_up}
use Rattle.ygg_meaning_laws.specs.ygg_type_rules.declared.scope.Signature.{Signature}
use Rattle.ygg_meaning_laws.specs.ygg_type_rules.TypeErrors.{none}
use Rattle.ygg_meaning_laws.specs.ygg_type_rules.Scopes.{Scope}
use Rattle.ygg_meaning_laws.specs.ygg_type_rules.Expressions.{typing, typings, type_errors_in}
use Rattle.ygg_meaning_laws.specs.ygg_type_rules.Statements.{source_typing, call_typing}
use Rattle.ygg_meaning_laws.specs.ygg_meaning.Environments.{Name, Env, assign}
use Rattle.ygg_meaning_laws.specs.ygg_meaning.Meaning.{Functions}
use Rattle.ygg_meaning_laws.specs.ygg_meaning.Progress.{Question, Answer, value_in, values_of, indices_of}
use Rattle.ygg_meaning_laws.specs.ygg_meaning.Progress as progress
use Rattle.ygg_meaning_laws.specs.Fitting.{HasShape}
use Rattle.ygg_meaning_laws.specs.Agrees.{Agrees}
use Rattle.ygg_meaning_laws.proofs.Tests.{left as first_of, right as second_of}
use Rattle.ygg_meaning_laws.proofs.Fits.{fits_has}
use Rattle.ygg_meaning_laws.proofs.Sounds.{sound}
use Rattle.ygg_meaning_laws.specs.Kinds.{source_keeps}
use Rattle.ygg_meaning_laws.specs.Questions.{plain, answer_has, question_fits}
use Rattle.ygg_meaning_laws.specs.Blocks.{eval_with}
use Rattle.ygg_meaning_laws.proofs.TypeErrors.{called}
use Rattle.ygg_sym_runs.specs.ygg_rules.declared.rule.RuleKind.{RuleKind}
use Rattle.ygg_sym_runs.specs.ygg_bank_proofs_Meaning.{fits_fewer}
use Rattle.ygg_sym_runs.specs.ygg_bank_proofs_Widths.{extends_self, extends_both}
use Rattle.ygg_sym_runs.specs.ygg_bank.Makes.{Make, pure, and_make}
use Rattle.ygg_sym_runs.specs.ygg_bank.Values.{Inputs, Values, Fits}
use Rattle.ygg_sym_runs.specs.ygg_bank.declared.node.Node.{Node}
use Rattle.ygg_sym_runs.specs.ygg_shape_cells.Terms.{worth}
use Rattle.ygg_sym_runs.specs.ygg_shape_cells.declared.terms.SymValue.{SymValue}
use Rattle.ygg_meaning_laws.specs.Direct.{Handled, Got, source_got}
use Rattle.ygg_sym_runs.specs.Names.{SymEnv}
use Rattle.ygg_sym_runs.specs.Exprs.{SymFunctions, id_in, sym_value}
use Rattle.ygg_sym_runs.specs.ExpressionMeaning.{SomeShape, EnvShaped, Grows, Gives, worths, IsWorth}
use Rattle.ygg_sym_runs.proofs.Shaped.{is_term, some_wider, env_wider}
use Rattle.ygg_sym_runs.proofs.Grows.{FunctionsGrow, all_grow, value_grows}
use Rattle.ygg_sym_runs.proofs.ExpressionParts.{AllWorth}
use Rattle.ygg_sym_runs.proofs.Values.{FunctionsMean, value_means}
use Rattle.ygg_sym_runs.specs.Runs.{Choice, Call, SymGot, SymMachine, plain_scope, sym_answer, sym_change, sym_values, sym_asks, sym_source}
use Rattle.ygg_sym_runs.specs.Meaning.{Low, answer_worth, question_worth, AnswerShaped, IsHandled, MachineMeans}
use Rattle.ygg_meaning_laws.proofs.ProgressSounds.{call_fits}
use Rattle.ygg_sym_runs.proofs.Typed.{all_have, call_has}
use Rattle.ygg_sym_runs.specs.ygg_bank.Nodes.{Extends}
use Rattle.ygg_sym_runs.proofs.Below.{change_keeps}
use Rattle.ygg_sym_runs.proofs.Putting.{ArePlaces}
use Rattle.ygg_sym_runs.proofs.Worths.{NameShaped, EnvIs}

pub change_grows : (name : Name) (f : SymValue → Make SymValue) → ((x : SymValue) → Grows (f x)) → (env : SymEnv) → Grows (sym_change name f env)
change_grows name f g env nodes =
    change_keeps (Extends nodes) name f (λ x more p. extends_both nodes more (f x more).nodes p (g x more)) env nodes (extends_self nodes)

module _ (inputs : Inputs) (v : Values) where
  -- the first variable of a name is changed
  pub change_gives : (name : Name) (f : SymValue → Make SymValue) (new old : Value) (env : SymEnv) (nodes : List Node) → ((x : SymValue) → Grows (f x)) →
      look_up name (worths v env) ≡ Some old → ((x : SymValue) → IsWorth v old nodes x → Gives inputs v (f x) nodes (IsWorth v new)) → EnvShaped nodes env →
      Gives inputs v (sym_change name f env) nodes (EnvIs inputs v (assign (worths v env) name new))
  change_gives name f new old [] nodes g e m s h = absurd (cc)
  change_gives name f new old (x ∷ env) nodes g e m s h =
      cases (bytes_eq x.0 name) e (λ i. change_gives name f new old env nodes g i m (All-tail (NameShaped nodes) x env s)) h
    where
      cases : (c : Bool) → (if c then Some (worth v x.1) else look_up name (worths v env)) ≡ Some old →
          (look_up name (worths v env) ≡ Some old → Gives inputs v (sym_change name f env) nodes (EnvIs inputs v (assign (worths v env) name new))) →
          Gives inputs v (if c then and_make (f x.1) (λ y. pure ((x.0, y) ∷ env)) else and_make (sym_change name f env) (λ rest. pure (x ∷ rest))) nodes
          (EnvIs inputs v (if c then (x.0, new) ∷ worths v env else (x.0, worth v x.1) ∷ assign (worths v env) name new))
      cases true e later h =
          let o = f x.1 nodes in
          let i : worth v x.1 ≡ old = cc in
          let r = m x.1 (record { shaped = All-head (NameShaped nodes) x env s; is = i }) h in
          record {
            shaped = All-cons (NameShaped o.nodes) (x.0, o.value) env r.shaped
                (env_wider nodes o.nodes env (g x.1 nodes) (All-tail (NameShaped nodes) x env s));
            is = ap (λ w. (x.0, w) ∷ worths v env) r.is;
          }
      cases false e later h =
          let o = sym_change name f env nodes in
          let r = later e h in
          record {
            shaped = All-cons (NameShaped o.nodes) x o.value (some_wider nodes o.nodes x.1 (change_grows name f g env nodes)
                (All-head (NameShaped nodes) x env s)) r.shaped;
            is = ap (λ ws. (x.0, worth v x.1) ∷ ws) r.is;
          }

  -- indices that are words name places
  pub places_worth : (kinds : List RuleKind) (xs : List SymValue) (wants : List Value) (nodes : List Node) → Fits inputs v nodes →
      AllWorth inputs v kinds wants nodes xs → All (λ p. is_word (shape_of p) ≡ true) wants → ArePlaces inputs v kinds wants nodes (map id_in xs)
  places_worth kinds [] [] nodes h p w = tt
  places_worth kinds [] (y ∷ wants) nodes h p w = let e = p.is in absurd (cc)
  places_worth kinds (x ∷ xs) [] nodes h p w = let e = p.is in absurd (cc)
  places_worth kinds (x ∷ xs) (y ∷ wants) nodes h p w =
      let e = p.is in
      let here : worth v x ≡ y = cc in
      let others : map (worth v) xs ≡ wants = cc in
      let t = is_term inputs v y nodes x h (record { shaped = All-head (SomeShape nodes) x xs p.shaped; is = here })
      (All-head (λ p. is_word (shape_of p) ≡ true) y wants w) in (
        record { width = (word_in y).width; wide = t.wide; is = t.worth },
        places_worth kinds xs wants nodes h (record { shaped = All-tail (SomeShape nodes) x xs p.shaped; is = others })
            (All-tail (λ p. is_word (shape_of p) ≡ true) y wants w),
      )

  module _ (kinds : List RuleKind) (defs : Named Signature) (functions : Functions) (terms : SymFunctions) (grow : FunctionsGrow terms)
      (mean : FunctionsMean inputs v kinds defs functions terms grow) where
    -- a scope of the definitions that agrees with the names
    pub record InScope (lower : Named Signature) (scope : Scope) (env : Env) : Type 0 where
      pub lower_is : scope.lower ≡ lower
      pub defs_is : scope.defs ≡ defs
      pub agrees : Agrees functions scope (plain env)

    pub eval_gives : (lower : Named Signature) (e : Expr) (scope : Scope) (env : SymEnv) (nodes : List Node) → InScope lower scope (worths v env) →
        none (typing e scope).type_errors ≡ true → EnvShaped nodes env →
        Gives inputs v (sym_value kinds terms e (plain_scope env)) nodes (IsWorth v (eval_with functions e (worths v env)))
    eval_gives lower e scope env nodes g n s =
        let m = value_means inputs v kinds defs functions terms grow mean e in
        m.gives scope (plain_scope env) nodes g.defs_is g.agrees n (record { own = s; low = All-nil (NameShaped nodes) })

    module _ {S L : Type 0} (low : Low S L) (kind : BlockKind) (lower : Named Signature) (M : SymMachine S) (machine : ℕ → Question → L → Handled L)
        (laws : MachineMeans inputs v low kind lower M machine) where
      pub values_grow : (es : List Expr) (env : SymEnv) → Grows (sym_values kinds terms M es env)
      values_grow es env nodes = all_grow kinds terms grow es (plain_scope env) nodes

      pub values_give : (es : List Expr) (scope : Scope) (env : SymEnv) (nodes : List Node) → InScope lower scope (worths v env) →
          none (type_errors_in (typings es scope)) ≡ true → EnvShaped nodes env →
          Gives inputs v (sym_values kinds terms M es env) nodes (AllWorth inputs v kinds (values_of (eval_with functions) es (worths v env)))
      values_give [] scope env nodes g n s h = record { shaped = All-nil (SomeShape nodes); is = refl }
      values_give (e ∷ es) scope env nodes g n s h =
          let o = sym_value kinds terms e (plain_scope env) nodes in
          let r = sym_values kinds terms M es env o.nodes in
          let go = value_grows kinds terms grow e (plain_scope env) nodes in
          let gr = values_grow es env o.nodes in
          let here = none (typing e scope).type_errors in
          let others = none (type_errors_in (typings es scope)) in
          let p = eval_gives lower e scope env nodes g (first_of here others n) s (fits_fewer inputs v o.nodes r.nodes gr h) in
          let q = values_give es scope env o.nodes g (second_of here others n) (env_wider nodes o.nodes env go s) h in
          record {
            shaped = All-cons (SomeShape r.nodes) o.value r.value (some_wider o.nodes r.nodes o.value gr p.shaped) q.shaped;
            is = ap (λ w. w ∷ map (worth v) r.value) p.is ∙ ap (λ ws. eval_with functions e (worths v env) ∷ ws) q.is;
          }

      -- a value of the shape that typing gives it, and a state, that are worth these
      pub record GotIs (s : Source) (scope : Scope) (want : Got L) (nodes : List Node) (g : SymGot S) : Type 0 where
        pub value : IsWorth v want.value nodes g.value
        pub has_shape : HasShape (source_typing s scope).part.shape want.value
        pub has : low.Has nodes g.to
        pub is_low : low.value v g.to ≡ want.to

      answered : (a : Option SymValue) (want : Answer) (y : Value) (nodes : List Node) → AnswerShaped nodes a → answer_worth v a ≡ want → want ≡ Some y →
          IsWorth v y nodes (sym_answer a)
      answered None want y nodes s e i = absurd (cc)
      answered (Some x) want y nodes s e i = let f : worth v x ≡ y = cc in record { shaped = s; is = f }

      chosen : (a : Answer) → answer_has (Some (shape.Word 1)) a ≡ true → (y : Value) × (a ≡ Some y) × HasShape (Some (shape.Word 1)) y
      chosen None e = absurd (cc)
      chosen (Some y) e = (y, refl, fits_has (shape.Word 1) y (omega arith, omega arith) e)

      pub source_grows : (s : Source) (i : ℕ) (env : SymEnv) (from : S) → Grows (sym_source kinds terms M s i env from)
      source_grows (source.Value e) i env from nodes = value_grows kinds terms grow e (plain_scope env) nodes
      source_grows (source.Choose at) i env from nodes = laws.handle_grows i Choice from nodes
      source_grows (source.Call at f es) i env from nodes =
          let o = sym_values kinds terms M es env nodes in
          extends_both nodes o.nodes (sym_asks kinds terms M i (Call f.text o.value) from o.nodes).nodes (values_grow es env nodes)
          (laws.handle_grows i (Call f.text o.value) from o.nodes)

      pub source_gives : (s : Source) (i : ℕ) (scope : Scope) (env : SymEnv) (from : S) (nodes : List Node) → InScope lower scope (worths v env) →
          none (source_typing s scope).type_errors ≡ true → source_keeps kind s ≡ true → EnvShaped nodes env → low.Has nodes from →
          Gives inputs v (sym_source kinds terms M s i env from) nodes
          (GotIs s scope (source_got (eval_with functions) M.space machine s i (worths v env) (low.value v from)))
      source_gives (source.Value e) i scope env from nodes g n k s l h =
          let o = sym_value kinds terms e (plain_scope env) nodes in
          let p = eval_gives lower e scope env nodes g n s h in
          record {
            value = p;
            has_shape = (sound functions e).gives scope (plain (worths v env)) g.agrees n;
            has = low.wider nodes o.nodes from (value_grows kinds terms grow e (plain_scope env) nodes) l;
            is_low = refl;
          }
      source_gives (source.Choose at) i scope env from nodes g n k s l h =
          let o = M.handle i Choice from nodes in
          let p = laws.handle i Choice from nodes k tt l h in
          let want = machine i progress.Choice (low.value v from) in
          let c = chosen want.answer p.fits in
          let a = answered o.value.answer want.answer c.0 o.nodes p.shaped p.answer c.1 in
          let same : value_in want.answer ≡ c.0 = ap value_in c.1 in
          record {
            value = subst (λ y. IsWorth v y o.nodes (sym_answer o.value.answer)) (sym same) a;
            has_shape = subst (HasShape (Some (shape.Word 1))) (sym same) c.2;
            has = p.has;
            is_low = p.is;
          }
      source_gives (source.Call at f es) i scope env from nodes g n k s l h =
          let c = called at true f es scope n in
          let o = sym_values kinds terms M es env nodes in
          let r = M.handle i (Call f.text o.value) from o.nodes in
          let go = values_grow es env nodes in
          let gr = laws.handle_grows i (Call f.text o.value) from o.nodes in
          let xs = values_give es scope env nodes g c.parts s (fits_fewer inputs v o.nodes r.nodes gr h) in
          let args = values_of (eval_with functions) es (worths v env) in
          let same : question_worth v (Call f.text o.value) ≡ progress.Call f.text args = ap (progress.Call f.text) xs.is in
          let fit = call_fits functions lower (all_have functions lower) kind at true f es scope (worths v env)
          (record { lower_is = g.lower_is; agrees = g.agrees }) n k in
          let p = laws.handle i (Call f.text o.value) from o.nodes (subst (λ q. question_fits kind lower q ≡ true) (sym same) fit) xs.shaped
          (low.wider nodes o.nodes from go l) h in
          let q = subst (λ q. IsHandled inputs v low lower q (machine i q (low.value v from)) r.nodes r.value) same p in
          let want = machine i (progress.Call f.text args) (low.value v from) in
          let d = call_has functions lower at f es scope (worths v env) want.answer g.lower_is g.agrees n q.fits in
          let a = answered r.value.answer want.answer d.0 r.nodes q.shaped q.answer d.1 in
          let is : value_in want.answer ≡ d.0 = ap value_in d.1 in
          record {
            value = subst (λ y. IsWorth v y r.nodes (sym_answer r.value.answer)) (sym is) a;
            has_shape = subst (HasShape (call_typing at true f es scope).part.shape) (sym is) d.2;
            has = q.has;
            is_low = q.is;
          }
