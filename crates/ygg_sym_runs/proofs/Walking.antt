-- What lets a part of a block be run over terms, carried on to the next part.
use Rattle.std.proofs.Common.{◌≡◌, ℕ, Bool, true, List, [], ◌∷◌, map, length, All, reverse, None, refl, sym, ap, ◌∙◌, subst}
use Rattle.std.proofs.lemmas.List.{append-nil}
use Rattle.std.proofs.lemmas.List.Elements.{All-cons, All-nil}
use Rattle.ygg_syntax.specs.declared.grammar.BlockKind.{BlockKind}
use Rattle.ygg_syntax.specs.declared.tree.Block.{Block}
use Rattle.ygg_syntax.specs.declared.tree.Def.{Def}
use Rattle.ygg_syntax.specs.declared.tree.Expr.{Expr}
use Rattle.ygg_syntax.specs.declared.tree.Name as tree_name
use Rattle.ygg_syntax.specs.declared.tree.Place.{Place}
use Rattle.ygg_syntax.specs.declared.tree.Source.TheVariants as source
use Rattle.ygg_syntax.specs.declared.tree.Stmt.{Stmt}
use Rattle.ygg_meaning_laws.specs.ygg_type_rules.Names.{Named}
use Rattle.ygg_meaning_laws.specs.ygg_type_rules.declared.scope.Signature.{Signature}
use Rattle.ygg_meaning_laws.specs.ygg_type_rules.TypeErrors.{TypeErrors, none}
use Rattle.ygg_meaning_laws.specs.ygg_type_rules.Scopes.{Scope}
use Rattle.ygg_meaning_laws.specs.ygg_type_rules.Expressions.{typing, typings, type_errors_in}
use Rattle.ygg_meaning_laws.specs.ygg_type_rules.Statements.{source_typing, call_typing, place_rule, return_errors, walked, block_errors}
use Rattle.ygg_meaning_laws.specs.ygg_type_rules.Statements as rules
use Rattle.ygg_meaning_laws.specs.ygg_type_rules.Definitions.{definitions_errors, with_definitions}
use Rattle.ygg_meaning_laws.specs.ygg_meaning.Environments.{Name}
use Rattle.ygg_meaning_laws.specs.ygg_meaning.Meaning.{Functions, functions_of}
use Rattle.ygg_meaning_laws.specs.ygg_meaning.Progress.{values_of}
use Rattle.ygg_meaning_laws.specs.ygg_meaning.Progress as progress
use Rattle.ygg_meaning_laws.specs.Agrees.{Agrees}
use Rattle.ygg_meaning_laws.proofs.Tests.{left as first_of, right as second_of}
use Rattle.ygg_meaning_laws.specs.Blocks.{eval_with}
use Rattle.ygg_meaning_laws.specs.Kinds.{all_keep, stmt_keeps}
use Rattle.ygg_meaning_laws.specs.Questions.{plain, question_fits, Follows}
use Rattle.ygg_meaning_laws.specs.Direct.{forgets, in_order, direct_of}
use Rattle.ygg_meaning_laws.proofs.ProgressSounds.{call_fits}
use Rattle.ygg_meaning_laws.proofs.TypeErrors.{called}
use Rattle.ygg_sym_runs.specs.ygg_rules.declared.rule.RuleKind.{RuleKind}
use Rattle.ygg_sym_runs.specs.ygg_bank_proofs_Meaning.{fits_fewer}
use Rattle.ygg_sym_runs.specs.ygg_bank.Nodes.{IsBank, Extends}
use Rattle.ygg_sym_runs.specs.ygg_bank.Values.{Inputs, Values, Fits}
use Rattle.ygg_sym_runs.specs.ygg_bank.declared.node.Node.{Node}
use Rattle.ygg_sym_runs.specs.ygg_shape_cells.declared.terms.SymValue.{SymValue}
use Rattle.ygg_sym_runs.specs.Names.{SymEnv}
use Rattle.ygg_sym_runs.specs.Exprs.{SymFunctions}
use Rattle.ygg_sym_runs.specs.ExpressionMeaning.{worths}
use Rattle.ygg_sym_runs.specs.Seen.{CanTerm}
use Rattle.ygg_sym_runs.proofs.Definitions.{functions_mean}
use Rattle.ygg_sym_runs.proofs.Grows.{FunctionsGrow, functions_grow}
use Rattle.ygg_sym_runs.proofs.Shaped.{env_wider}
use Rattle.ygg_sym_runs.proofs.Values.{FunctionsMean}
use Rattle.ygg_sym_runs.specs.Lower.{SymMeaning, IsLower, KeepsSingle, Stands, CanAsk}
use Rattle.ygg_sym_runs.specs.Meaning.{MachineMeans, RunIs, question_worth}
use Rattle.ygg_sym_runs.specs.Ready.{known_with, terms_of, stmt_run, inside_run, InNames, CanDo, CanCall, CanGet, CanStep, CanRun, CanEnter}
use Rattle.ygg_sym_runs.specs.Runs.{SymMachine, Choice, Call, sym_values, sym_in_order}
use Rattle.ygg_sym_runs.proofs.Typed.{all_have}
use Rattle.ygg_sym_runs.proofs.Worths.{NameShaped}
use Rattle.ygg_sym_runs.proofs.Parts.{InScope, values_grow, values_give}
use Rattle.ygg_sym_runs.proofs.Agreement.{Exactly, all_agree, block_grows, block_gives, forgotten}
use Rattle.ygg_sym_runs.proofs.Zeros.{zeros, zero_values, zeros_fit}

module _ {S : Type 0} (M : SymMeaning S) (law : IsLower M) (kinds : List RuleKind) (defs : List Def) where
  abbrev pub ds : Named Signature
  ds = with_definitions defs []

  abbrev pub functions : Functions
  functions = functions_of defs

  abbrev pub terms : SymFunctions
  terms = terms_of kinds defs

  abbrev pub grow : FunctionsGrow terms
  grow = functions_grow kinds (reverse defs)

  abbrev pub N : SymMachine S
  N = M.machine kinds

  abbrev pub Sound : Type 0
  Sound = none (definitions_errors defs [] []) ≡ true

  abbrev pub mean : Sound → (inputs : Inputs) (v : Values) → FunctionsMean inputs v kinds ds functions terms grow
  mean sound inputs v = functions_mean inputs v kinds defs sound

  abbrev pub laws : M.Serves → (inputs : Inputs) (v : Values) → MachineMeans inputs v M.low M.kind M.lower N (M.direct inputs v)
  laws serves inputs v = law.means serves kinds inputs v

  abbrev pub Names : Scope → List Node → SymEnv → Type 0
  Names = InNames M defs

  pub in_scope : (scope : Scope) (nodes : List Node) (env : SymEnv) (n : Names scope nodes env) (inputs : Inputs) (v : Values) → Fits inputs v nodes →
      InScope inputs v kinds ds functions terms grow (mean n.sound inputs v) M.lower scope (worths v env)
  in_scope scope nodes env n inputs v h = record { lower_is = n.lower_is; defs_is = n.defs_is; agrees = n.agrees inputs v h }

  -- among more nodes
  pub names_later : (scope : Scope) (old new : List Node) (env : SymEnv) → Extends old new → Names scope old env → Names scope new env
  names_later scope old new env g n = record {
    sound = n.sound;
    defs_is = n.defs_is;
    lower_is = n.lower_is;
    shaped = env_wider old new env g n.shaped;
    agrees = λ inputs v h. n.agrees inputs v (fits_fewer inputs v old new g h);
  }

  pub stands_later : (old new : List Node) (s : S) → Extends old new → KeepsSingle old new → Stands M old s → Stands M new s
  stands_later old new s g k n = record { serves = n.serves; has = M.low.wider old new s g n.has; single = k M.first n.single }

  abbrev pub do_later : (t : Scope → TypeErrors) (p : BlockKind → Bool) (old new : List Node) (env : SymEnv) (s : S) → Extends old new → KeepsSingle old new →
      CanDo M defs t p old env s → CanDo M defs t p new env s
  do_later t p old new env s g k can = record {
    scope = can.scope;
    names = names_later can.scope old new env g can.names;
    stands = stands_later old new s g k can.stands;
    without_errors = can.without_errors;
    keeps = can.keeps;
  }

  -- expressions
  pub can_term : (scope : Scope) (nodes : List Node) (env : SymEnv) (e : Expr) → Names scope nodes env → none (typing e scope).type_errors ≡ true →
      CanTerm (known_with defs env) nodes e
  can_term scope nodes env e n f = record {
    scope = scope;
    defs = n.defs_is;
    sound = n.sound;
    without_errors = f;
    shaped = record { own = n.shaped; low = All-nil (NameShaped nodes) };
    agrees = n.agrees;
  }

  pub can_terms : (scope : Scope) (nodes : List Node) (env : SymEnv) (es : List Expr) → Names scope nodes env →
      none (type_errors_in (typings es scope)) ≡ true → All (CanTerm (known_with defs env) nodes) es
  can_terms scope nodes env [] n f = All-nil (CanTerm (known_with defs env) nodes)
  can_terms scope nodes env (e ∷ es) n f =
      let here = none (typing e scope).type_errors in
      let others = none (type_errors_in (typings es scope)) in
      All-cons (CanTerm (known_with defs env) nodes) e es (can_term scope nodes env e n (first_of here others f))
      (can_terms scope nodes env es n (second_of here others f))

  pub call_terms : (f : tree_name.Name) (es : List Expr) (nodes : List Node) (env : SymEnv) (s : S) → CanCall M defs f es nodes env s →
      All (CanTerm (known_with defs env) nodes) es
  call_terms f es nodes env s c =
      let can = c.can in
      can_terms can.scope nodes env es can.names (called c.place c.used f es can.scope can.without_errors).parts

  pub get_term : (e : Expr) (nodes : List Node) (env : SymEnv) (s : S) → CanGet M defs (source.Value e) nodes env s → CanTerm (known_with defs env) nodes e
  get_term e nodes env s can = can_term can.scope nodes env e can.names can.without_errors

  pub get_call : (at : Place) (f : tree_name.Name) (es : List Expr) (nodes : List Node) (env : SymEnv) (s : S) →
      CanGet M defs (source.Call at f es) nodes env s → CanCall M defs f es nodes env s
  get_call at f es nodes env s can = record {
    place = at;
    used = true;
    can = record { scope = can.scope; names = can.names; stands = can.stands; without_errors = can.without_errors; keeps = can.keeps };
  }

  -- questions
  pub ask_choice : (at : Place) (nodes : List Node) (env : SymEnv) (s : S) → CanGet M defs (source.Choose at) nodes env s → CanAsk M nodes Choice s
  ask_choice at nodes env s can = record { stands = can.stands; shaped = tt; fits = λ inputs v h. can.keeps }

  ask_made : (f : tree_name.Name) (es : List Expr) (nodes : List Node) (env : SymEnv) (s : S) (c : CanCall M defs f es nodes env s) →
      let o = sym_values kinds terms N es env nodes in
      IsBank o.nodes → KeepsSingle nodes o.nodes → CanAsk M o.nodes (Call f.text o.value) s
  ask_made f es nodes env s c bank keep =
      let can = c.can in
      let st = can.stands in
      let n = can.names in
      let o = sym_values kinds terms N es env nodes in
      let parts = (called c.place c.used f es can.scope can.without_errors).parts in
      let v0 = zero_values o.nodes in
      let h0 = zeros_fit o.nodes bank in
      let g = values_grow zeros v0 kinds ds functions terms grow (mean n.sound zeros v0) M.low M.kind M.lower N (M.direct zeros v0)
      (laws st.serves zeros v0) es env nodes in
      let xs0 = values_give zeros v0 kinds ds functions terms grow (mean n.sound zeros v0) M.low M.kind M.lower N (M.direct zeros v0)
      (laws st.serves zeros v0) es can.scope env nodes (in_scope can.scope nodes env n zeros v0 (fits_fewer zeros v0 nodes o.nodes g h0)) parts n.shaped h0 in
      record {
        stands = stands_later nodes o.nodes s g keep st;
        shaped = xs0.shaped;
        fits = λ inputs v h.
            let hn = fits_fewer inputs v nodes o.nodes g h in
            let xs = values_give inputs v kinds ds functions terms grow (mean n.sound inputs v) M.low M.kind M.lower N (M.direct inputs v)
            (laws st.serves inputs v) es can.scope env nodes (in_scope can.scope nodes env n inputs v hn) parts n.shaped h in
            let args = values_of (eval_with functions) es (worths v env) in
            let same : question_worth v (Call f.text o.value) ≡ progress.Call f.text args = ap (progress.Call f.text) xs.is in
            let fit = call_fits functions M.lower (all_have functions M.lower) M.kind c.place c.used f es can.scope (worths v env)
            (record { lower_is = n.lower_is; agrees = n.agrees inputs v hn }) can.without_errors can.keeps in
            subst (λ q. question_fits M.kind M.lower q ≡ true) (sym same) fit;
      }

  -- a call may be asked once its arguments are made
  pub ask_call : (f : tree_name.Name) (es : List Expr) (nodes mid : List Node) (env : SymEnv) (s : S) (name : Name) (xs : List SymValue) →
      CanCall M defs f es nodes env s → mid ≡ (sym_values kinds terms N es env nodes).nodes → xs ≡ (sym_values kinds terms N es env nodes).value →
      name ≡ f.text → IsBank mid → KeepsSingle nodes mid → CanAsk M mid (Call name xs) s
  ask_call f es nodes mid env s name xs c e i j bank keep =
      let o = sym_values kinds terms N es env nodes in
      subst (λ z. CanAsk M mid (Call z xs) s) (sym j)
      (subst (λ z. CanAsk M mid (Call f.text z) s) (sym i)
      (subst (λ ns. CanAsk M ns (Call f.text o.value) s) (sym e)
      (ask_made f es nodes env s c (subst IsBank e bank) (subst (KeepsSingle nodes) e keep))))

  -- statements

  -- what stands after a part: the names in a scope, and the state
  pub record After (scope : Scope) (nodes : List Node) (env : SymEnv) (s : S) : Type 0 where
    pub names : Names scope nodes env
    pub stands : Stands M nodes s

  step_made : (t : Stmt) (i : ℕ) (nodes : List Node) (env : SymEnv) (s : S) (can : CanStep M defs t nodes env s) →
      let o = (stmt_run M defs kinds t).run i env s nodes in
      IsBank o.nodes → KeepsSingle nodes o.nodes → After (walked t can.scope).scope o.nodes o.value.env o.value.to
  step_made t i nodes env s can bank keep =
      let n = can.names in
      let st = can.stands in
      let o = (stmt_run M defs kinds t).run i env s nodes in
      let v0 = zero_values o.nodes in
      let h0 = zeros_fit o.nodes bank in
      let a0 = all_agree zeros v0 kinds ds functions terms grow (mean n.sound zeros v0) M.low M.kind M.lower N (M.direct zeros v0)
      (laws st.serves zeros v0) t in
      let g = a0.grows i env s nodes in
      let r0 = a0.gives i can.scope env s nodes (in_scope can.scope nodes env n zeros v0 (fits_fewer zeros v0 nodes o.nodes g h0)) can.without_errors
      can.keeps n.shaped st.has h0 in
      record {
        names = record {
          sound = n.sound;
          defs_is = a0.defs_kept can.scope ∙ n.defs_is;
          lower_is = a0.lower_kept can.scope ∙ n.lower_is;
          shaped = r0.shaped;
          agrees = λ inputs v h.
              let a = all_agree inputs v kinds ds functions terms grow (mean n.sound inputs v) M.low M.kind M.lower N (M.direct inputs v)
              (laws st.serves inputs v) t in
              let r = a.gives i can.scope env s nodes (in_scope can.scope nodes env n inputs v (fits_fewer inputs v nodes o.nodes g h)) can.without_errors
              can.keeps n.shaped st.has h in
              subst (λ e. Agrees functions (walked t can.scope).scope (plain e)) (sym r.is) r.agrees;
        };
        stands = record { serves = st.serves; has = r0.has; single = keep M.first st.single };
      }

  pub after_at : (scope : Scope) (new made : List Node) (env env' : SymEnv) (s s' : S) → new ≡ made → env ≡ env' → s ≡ s' → After scope made env' s' →
      After scope new env s
  after_at scope new made env env' s s' e f g a =
      subst (λ ns. After scope ns env s) (sym e) (subst (λ z. After scope made z s) (sym f) (subst (λ z. After scope made env' z) (sym g) a))

  -- the first of some statements may be run, and the others after it
  pub first_runs : (t : Stmt) (ts : List Stmt) (nodes : List Node) (env : SymEnv) (s : S) → CanRun M defs (t ∷ ts) nodes env s → CanStep M defs t nodes env s
  first_runs t ts nodes env s can = record {
    scope = can.scope;
    names = can.names;
    stands = can.stands;
    without_errors = first_of (none (walked t can.scope).type_errors) (none (rules.in_order (map walked ts) (walked t can.scope).scope).type_errors)
        can.without_errors;
    keeps = first_of (stmt_keeps t M.kind) (all_keep (map stmt_keeps ts) M.kind) can.keeps;
  }

  pub rest_runs : (t : Stmt) (ts : List Stmt) (i : ℕ) (nodes new : List Node) (env env' : SymEnv) (s s' : S) → CanRun M defs (t ∷ ts) nodes env s →
      new ≡ ((stmt_run M defs kinds t).run i env s nodes).nodes → env' ≡ ((stmt_run M defs kinds t).run i env s nodes).value.env →
      s' ≡ ((stmt_run M defs kinds t).run i env s nodes).value.to → IsBank new → KeepsSingle nodes new → CanRun M defs ts new env' s'
  unfolding first_runs
  rest_runs t ts i nodes new env env' s s' can e f g bank keep =
      let o = (stmt_run M defs kinds t).run i env s nodes in
      let step = first_runs t ts nodes env s can in
      let w = walked t can.scope in
      let a = after_at w.scope new o.nodes env' o.value.env s' o.value.to e f g
      (step_made t i nodes env s step (subst IsBank e bank) (subst (KeepsSingle nodes) e keep)) in
      record {
        scope = w.scope;
        names = a.names;
        stands = a.stands;
        without_errors = second_of (none w.type_errors) (none (rules.in_order (map walked ts) w.scope).type_errors) can.without_errors;
        keeps = second_of (stmt_keeps t M.kind) (all_keep (map stmt_keeps ts) M.kind) can.keeps;
      }

  -- blocks inside others
  pub enter_runs : (b : Block) (nodes : List Node) (env : SymEnv) (s : S) → CanEnter M defs b nodes env s → CanRun M defs b.statements nodes env s
  enter_runs b nodes env s can = record {
    scope = can.scope;
    names = can.names;
    stands = can.stands;
    without_errors = first_of (none (rules.in_order (map walked b.statements) can.scope).type_errors)
        (none (return_errors b.answer None (rules.in_order (map walked b.statements) can.scope).scope)) can.without_errors;
    keeps = can.keeps;
  }

  -- what stands after a block inside another: as many names as before it, of the shapes that they had
  pub record Left (scope : Scope) (env : SymEnv) (nodes : List Node) (env' : SymEnv) (s : S) : Type 0 where
    pub names : Names scope nodes env'
    pub stands : Stands M nodes s
    pub count : length env' ≡ length env
    pub follows : (inputs : Inputs) (v : Values) → Fits inputs v nodes → Follows (worths v env) (worths v env')

  inside_exact : (b : Block) (i : ℕ) (nodes : List Node) (env : SymEnv) (s : S) (can : CanEnter M defs b nodes env s) (inputs : Inputs) (v : Values) →
      let o = (inside_run M defs kinds b).run i env s nodes in
      Fits inputs v o.nodes →
      Exactly inputs v kinds ds functions terms grow (mean can.names.sound inputs v) M.low M.kind M.lower N (M.direct inputs v)
      (laws can.stands.serves inputs v) env can.scope
      (forgets (worths v env) (in_order (map (direct_of (eval_with functions) N.space (M.direct inputs v)) b.statements) i (worths v env) (M.low.value v s)))
      o.nodes o.value
  inside_exact b i nodes env s can inputs v h =
      let n = can.names in
      let st = can.stands in
      let ss = b.statements in
      let z = sym_in_order (map (stmt_run M defs kinds) ss) i env s nodes in
      let w = rules.in_order (map walked ss) can.scope in
      let errors = first_of (none w.type_errors) (none (return_errors b.answer None w.scope)) can.without_errors in
      let m = mean n.sound inputs v in
      let l = laws st.serves inputs v in
      let p = in_order (map (direct_of (eval_with functions) N.space (M.direct inputs v)) ss) i (worths v env) (M.low.value v s) in
      let g = block_grows inputs v kinds ds functions terms grow m M.low M.kind M.lower N (M.direct inputs v) l ss i env s nodes in
      let hn = fits_fewer inputs v nodes z.nodes g h in
      let inside = in_scope can.scope nodes env n inputs v hn in
      let a = block_gives inputs v kinds ds functions terms grow m M.low M.kind M.lower N (M.direct inputs v) l ss i can.scope env s nodes inside errors
      can.keeps n.shaped st.has h in
      forgotten inputs v kinds ds functions terms grow m M.low M.kind M.lower N (M.direct inputs v) l can.scope w.scope env [] p z.nodes z.value
      inside.agrees
      (subst (λ e. RunIs inputs v M.low functions e w.scope p z.nodes z.value) (sym (append-nil (worths v env))) a)

  left_made : (b : Block) (i : ℕ) (nodes : List Node) (env : SymEnv) (s : S) (can : CanEnter M defs b nodes env s) →
      let o = (inside_run M defs kinds b).run i env s nodes in
      IsBank o.nodes → KeepsSingle nodes o.nodes → Left can.scope env o.nodes o.value.env o.value.to
  left_made b i nodes env s can bank keep =
      let n = can.names in
      let st = can.stands in
      let o = (inside_run M defs kinds b).run i env s nodes in
      let e0 = inside_exact b i nodes env s can zeros (zero_values o.nodes) (zeros_fit o.nodes bank) in
      let r0 = e0.run in
      record {
        names = record {
          sound = n.sound;
          defs_is = n.defs_is;
          lower_is = n.lower_is;
          shaped = r0.shaped;
          agrees = λ inputs v h.
              let e = inside_exact b i nodes env s can inputs v h in
              let r = e.run in
              subst (λ z. Agrees functions can.scope (plain z)) (sym r.is) r.agrees;
        };
        stands = record { serves = st.serves; has = r0.has; single = keep M.first st.single };
        count = e0.count;
        follows = λ inputs v h.
            let e = inside_exact b i nodes env s can inputs v h in
            let r = e.run in
            subst (Follows (worths v env)) (sym r.is) r.follows;
      }

  pub block_left : (b : Block) (i : ℕ) (nodes new : List Node) (env env' : SymEnv) (s s' : S) (can : CanEnter M defs b nodes env s) →
      new ≡ ((inside_run M defs kinds b).run i env s nodes).nodes → env' ≡ ((inside_run M defs kinds b).run i env s nodes).value.env →
      s' ≡ ((inside_run M defs kinds b).run i env s nodes).value.to → IsBank new → KeepsSingle nodes new → Left can.scope env new env' s'
  block_left b i nodes new env env' s s' can e f g bank keep =
      let o = (inside_run M defs kinds b).run i env s nodes in
      subst (λ ns. Left can.scope env ns env' s') (sym e)
      (subst (λ z. Left can.scope env o.nodes z s') (sym f)
      (subst (λ z. Left can.scope env o.nodes o.value.env z) (sym g)
      (left_made b i nodes env s can (subst IsBank e bank) (subst (KeepsSingle nodes) e keep))))

  -- statements keep what the scope has of definitions and of operations
  kept : Sound → M.Serves → (ts : List Stmt) (scope : Scope) →
      ((rules.in_order (map walked ts) scope).scope.lower ≡ scope.lower) × ((rules.in_order (map walked ts) scope).scope.defs ≡ scope.defs)
  kept sound serves [] scope = (refl, refl)
  kept sound serves (t ∷ ts) scope =
      let v = zero_values [] in
      let a = all_agree zeros v kinds ds functions terms grow (mean sound zeros v) M.low M.kind M.lower N (M.direct zeros v) (laws serves zeros v) t in
      let r = kept sound serves ts (walked t scope).scope in
      (r.0 ∙ a.lower_kept scope, r.1 ∙ a.defs_kept scope)

  run_made : (ts : List Stmt) (i : ℕ) (nodes : List Node) (env : SymEnv) (s : S) (can : CanRun M defs ts nodes env s) →
      let o = sym_in_order (map (stmt_run M defs kinds) ts) i env s nodes in
      IsBank o.nodes → KeepsSingle nodes o.nodes → After (rules.in_order (map walked ts) can.scope).scope o.nodes o.value.env o.value.to
  run_made ts i nodes env s can bank keep =
      let n = can.names in
      let st = can.stands in
      let o = sym_in_order (map (stmt_run M defs kinds) ts) i env s nodes in
      let w = rules.in_order (map walked ts) can.scope in
      let same = kept n.sound st.serves ts can.scope in
      let run = λ (inputs : Inputs) (v : Values) (h : Fits inputs v o.nodes).
      let m = mean n.sound inputs v in
      let l = laws st.serves inputs v in
      let g = block_grows inputs v kinds ds functions terms grow m M.low M.kind M.lower N (M.direct inputs v) l ts i env s nodes in
      block_gives inputs v kinds ds functions terms grow m M.low M.kind M.lower N (M.direct inputs v) l ts i can.scope env s nodes
      (in_scope can.scope nodes env n inputs v (fits_fewer inputs v nodes o.nodes g h)) can.without_errors can.keeps n.shaped st.has h in
      let r0 = run zeros (zero_values o.nodes) (zeros_fit o.nodes bank) in
      record {
        names = record {
          sound = n.sound;
          defs_is = same.1 ∙ n.defs_is;
          lower_is = same.0 ∙ n.lower_is;
          shaped = r0.shaped;
          agrees = λ inputs v h. let r = run inputs v h in subst (λ e. Agrees functions w.scope (plain e)) (sym r.is) r.agrees;
        };
        stands = record { serves = st.serves; has = r0.has; single = keep M.first st.single };
      }

  -- what stands after statements
  pub run_left : (ts : List Stmt) (i : ℕ) (nodes new : List Node) (env env' : SymEnv) (s s' : S) (can : CanRun M defs ts nodes env s) →
      new ≡ (sym_in_order (map (stmt_run M defs kinds) ts) i env s nodes).nodes →
      env' ≡ (sym_in_order (map (stmt_run M defs kinds) ts) i env s nodes).value.env →
      s' ≡ (sym_in_order (map (stmt_run M defs kinds) ts) i env s nodes).value.to → IsBank new → KeepsSingle nodes new →
      After (rules.in_order (map walked ts) can.scope).scope new env' s'
  run_left ts i nodes new env env' s s' can e f g bank keep =
      let o = sym_in_order (map (stmt_run M defs kinds) ts) i env s nodes in
      after_at (rules.in_order (map walked ts) can.scope).scope new o.nodes env' o.value.env s' o.value.to e f g
      (run_made ts i nodes env s can (subst IsBank e bank) (subst (KeepsSingle nodes) e keep))
