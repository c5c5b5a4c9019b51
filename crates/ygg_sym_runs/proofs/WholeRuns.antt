-- A whole run over terms is worth the whole direct run.
use Rattle.std.proofs.Common.{◌≡◌, ◌≤◌, ℕ, zero, suc, List, [], ◌∷◌, ◌++◌, map, take, length, Option, Some, None, refl, sym, ap, ◌∙◌, subst, arith, true}
use Rattle.std.proofs.lemmas.List.{take-map}
use Rattle.ygg_value.specs.declared.shape.Shape.{Shape}
use Rattle.ygg_syntax.specs.declared.grammar.BlockKind.{BlockKind}
use Rattle.ygg_syntax.specs.declared.tree.Expr.{Expr}
use Rattle.ygg_syntax.specs.declared.tree.Stmt.{Stmt}
use Rattle.ygg_syntax.specs.declared.tree.Block.{Block}
use Rattle.ygg_sym_runs.specs.ygg_type_rules.Names.{Named}
use Rattle.ygg_sym_runs.specs.ygg_type_rules.declared.scope.Signature.{Signature}
use Rattle.ygg_sym_runs.specs.ygg_type_rules.TypeErrors.{none}
use Rattle.ygg_sym_runs.specs.ygg_type_rules.Scopes.{Scope}
use Rattle.ygg_sym_runs.specs.ygg_type_rules.Expressions.{typing, wanted}
use Rattle.ygg_sym_runs.specs.ygg_type_rules.Statements.{walked, return_errors, block_errors}
use Rattle.ygg_sym_runs.specs.ygg_type_rules.Statements as rules
use Rattle.ygg_sym_runs.specs.ygg_meaning.Environments.{Name, Env}
use Rattle.ygg_sym_runs.specs.ygg_meaning.Meaning.{Functions}
use Rattle.ygg_sym_runs.specs.ygg_meaning.Progress.{Question, Answer, answer_of}
use Rattle.ygg_sym_runs.specs.ygg_meaning_laws_proofs_Tests.{left as first_of, right as second_of}
use Rattle.ygg_sym_runs.specs.ygg_meaning_laws.Agrees.{Agrees}
use Rattle.ygg_sym_runs.specs.ygg_meaning_laws.Questions.{plain, Follows}
use Rattle.ygg_sym_runs.specs.ygg_meaning_laws.Blocks.{eval_with, is_returned}
use Rattle.ygg_sym_runs.specs.ygg_meaning_laws_proofs_ProgressSounds.{returns_fit}
use Rattle.ygg_sym_runs.specs.ygg_meaning_laws_proofs_Sounds.{sound}
use Rattle.ygg_sym_runs.proofs.Ends.{env_take}
use Rattle.ygg_sym_runs.specs.ygg_meaning_laws.Kinds.{keeps}
use Rattle.ygg_sym_runs.specs.ygg_rules.declared.rule.RuleKind.{RuleKind}
use Rattle.ygg_sym_runs.specs.ygg_bank_proofs_Meaning.{fits_fewer}
use Rattle.ygg_sym_runs.specs.ygg_bank_proofs_Widths.{extends_self, extends_both}
use Rattle.ygg_sym_runs.specs.ygg_bank.Values.{Inputs, Values}
use Rattle.ygg_sym_runs.specs.ygg_bank.declared.node.Node.{Node}
use Rattle.ygg_sym_runs.specs.ygg_shape_cells.Terms.{worth}
use Rattle.ygg_sym_runs.specs.ygg_shape_cells.declared.terms.SymValue.{SymValue}
use Rattle.ygg_sym_runs.specs.ygg_meaning_laws.Direct.{Handled, Reached, direct_run}
use Rattle.ygg_sym_runs.specs.Names.{SymEnv}
use Rattle.ygg_sym_runs.specs.Exprs.{SymFunctions}
use Rattle.ygg_sym_runs.specs.ExpressionMeaning.{EnvShaped, Grows, Gives, worths}
use Rattle.ygg_sym_runs.proofs.Shaped.{env_wider}
use Rattle.ygg_sym_runs.proofs.Grows.{FunctionsGrow, value_grows}
use Rattle.ygg_sym_runs.proofs.Values.{FunctionsMean}
use Rattle.ygg_sym_runs.specs.Runs.{SymMachine, plain_scope, sym_run}
use Rattle.ygg_sym_runs.specs.Meaning.{Low, answer_worth, AnswerShaped, MachineMeans}
use Rattle.ygg_sym_runs.proofs.Parts.{InScope, eval_gives}
use Rattle.ygg_sym_runs.proofs.Agreement.{all_agree, block_grows, block_gives}
use Rattle.ygg_sym_runs.specs.Wholes.{SymFinish, sym_returned, sym_whole}

module _ (inputs : Inputs) (v : Values) (kinds : List RuleKind) (defs : Named Signature) (functions : Functions) (terms : SymFunctions)
    (grow : FunctionsGrow terms)
    (mean : FunctionsMean inputs v kinds defs functions terms grow) {S L : Type 0} (low : Low S L) (kind : BlockKind) (lower : Named Signature)
    (M : SymMachine S) (machine : ℕ → Question → L → Handled L) (laws : MachineMeans inputs v low kind lower M machine) where
  abbrev In : Scope → Env → Type 0
  In = InScope inputs v kinds defs functions terms grow mean lower

  pub returned_grows : (answer : Option Expr) (env : SymEnv) → Grows (sym_returned kinds terms M answer env)
  returned_grows None env nodes = extends_self nodes
  returned_grows (Some e) env nodes = value_grows kinds terms grow e (plain_scope env) nodes

  -- an answer that is worth this
  pub record AnswerIs (want : Answer) (nodes : List Node) (answer : Option SymValue) : Type 0 where
    pub shaped : AnswerShaped nodes answer
    pub is : answer_worth v answer ≡ want

  returned_gives : (answer : Option Expr) (shape : Option Shape) (scope : Scope) (env : SymEnv) (nodes : List Node) → In scope (worths v env) →
      none (return_errors answer shape scope) ≡ true → EnvShaped nodes env →
      Gives inputs v (sym_returned kinds terms M answer env) nodes (AnswerIs (answer_of (eval_with functions) answer (worths v env)))
  returned_gives None shape scope env nodes g e s h = record { shaped = tt; is = refl }
  returned_gives (Some x) shape scope env nodes g e s h =
      let t = typing x scope in
      let p = eval_gives inputs v kinds defs functions terms grow mean lower x scope env nodes g
      (first_of (none t.type_errors) (none (wanted t.part shape)) e) s h in
      record { shaped = p.shaped; is = ap (λ y. Some y) p.is }

  lower_kept : (ss : List Stmt) (scope : Scope) → (rules.in_order (map walked ss) scope).scope.lower ≡ scope.lower
  lower_kept [] scope = refl
  lower_kept (s ∷ ss) scope =
      let a = all_agree inputs v kinds defs functions terms grow mean low kind lower M machine laws s in
      lower_kept ss (walked s scope).scope ∙ a.lower_kept scope

  defs_kept : (ss : List Stmt) (scope : Scope) → (rules.in_order (map walked ss) scope).scope.defs ≡ scope.defs
  defs_kept [] scope = refl
  defs_kept (s ∷ ss) scope =
      let a = all_agree inputs v kinds defs functions terms grow mean low kind lower M machine laws s in
      defs_kept ss (walked s scope).scope ∙ a.defs_kept scope

  pub whole_grows : (b : Block) (vars args : SymEnv) (from : S) → Grows (sym_whole kinds terms M b vars args from)
  whole_grows b vars args from nodes =
      let z = sym_run kinds terms M b (vars ++ args) from nodes in
      extends_both nodes z.nodes (sym_returned kinds terms M b.answer z.value.env z.nodes).nodes
      (block_grows inputs v kinds defs functions terms grow mean low kind lower M machine laws b.statements 0 (vars ++ args) from nodes)
      (returned_grows b.answer z.value.env z.nodes)

  -- an end that is worth the end of a direct run, whose names come first and keep their shapes
  pub record WholeIs (b : Block) (shape : Option Shape) (before : Env) (count : ℕ) (want : Reached L) (nodes : List Node) (out : SymFinish S) : Type 0 where
    pub answer : AnswerIs (answer_of (eval_with functions) b.answer want.env) nodes out.answer
    pub returned : is_returned b.answer shape (answer_of (eval_with functions) b.answer want.env) ≡ true
    pub vars_shaped : EnvShaped nodes out.vars
    pub vars : worths v out.vars ≡ take count want.env
    pub follows : Follows before want.env
    pub has : low.Has nodes out.to
    pub to : low.value v out.to ≡ want.to

  pub whole_gives : (b : Block) (shape : Option Shape) (scope : Scope) (vars args : SymEnv) (from : S) (nodes : List Node) →
      In scope (worths v (vars ++ args)) →
      none (block_errors b shape scope) ≡ true → keeps kind b ≡ true → EnvShaped nodes (vars ++ args) → low.Has nodes from →
      Gives inputs v (sym_whole kinds terms M b vars args from) nodes
      (WholeIs b shape (worths v (vars ++ args)) (length vars)
      (direct_run (eval_with functions) M.space machine b (worths v (vars ++ args)) (low.value v from)))
  whole_gives b shape scope vars args from nodes g e k s l h =
      let env = vars ++ args in
      let w = rules.in_order (map walked b.statements) scope in
      let ew = first_of (none w.type_errors) (none (return_errors b.answer shape w.scope)) e in
      let er = second_of (none w.type_errors) (none (return_errors b.answer shape w.scope)) e in
      let z = sym_run kinds terms M b env from nodes in
      let y = sym_returned kinds terms M b.answer z.value.env z.nodes in
      let gy = returned_grows b.answer z.value.env z.nodes in
      let run = direct_run (eval_with functions) M.space machine b (worths v env) (low.value v from) in
      let a = block_gives inputs v kinds defs functions terms grow mean low kind lower M machine laws b.statements 0 scope env from nodes g ew k s l
      (fits_fewer inputs v z.nodes y.nodes gy h) in
      let inside : In w.scope (worths v z.value.env) = record {
        lower_is = lower_kept b.statements scope ∙ g.lower_is;
        defs_is = defs_kept b.statements scope ∙ g.defs_is;
        agrees = subst (λ e. Agrees functions w.scope (plain e)) (sym a.is) a.agrees;
      } in
      let r = returned_gives b.answer shape w.scope z.value.env z.nodes inside er a.shaped h in
      record {
        answer = record { shaped = r.shaped; is = r.is ∙ ap (answer_of (eval_with functions) b.answer) a.is };
        returned = returns_fit functions lower (λ x scope env g n. (sound functions x).gives scope env g n) b.answer shape w.scope run.env a.agrees er;
        vars_shaped = env_wider z.nodes y.nodes (take (length vars) z.value.env) gy (env_take inputs v z.nodes (length vars) z.value.env a.shaped);
        follows = a.follows;
        vars = sym (take-map (λ (b : Name × SymValue). (b.0, worth v b.1)) (length vars) z.value.env) ∙ ap (take (length vars)) a.is;
        has = low.wider z.nodes y.nodes z.value.to gy a.has;
        to = a.is_low;
      }

-- the first of the first
pub take_less : {X : Type 0} (m n : ℕ) (xs : List X) → m ≤ n → take m (take n xs) ≡ take m xs
take_less zero n xs l = refl
take_less (suc m) zero xs l = absurd (omega (arith, l))
take_less (suc m) (suc n) [] l = refl
take_less (suc m) (suc n) (x ∷ xs) l = ap (λ z. x ∷ z) (take_less m n xs (omega (arith, l)))
