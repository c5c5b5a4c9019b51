-- A run over terms of a block without a type error is worth the direct run.
use Rattle.std.proofs.Common.{◌≡◌, ℕ, zero, suc, ◌+◌, ◌*◌, ◌<◌, ◌≤◌, ◌^◌, ◌==◌, Bool, true, false, ◌&&◌, if◌then◌else◌}
use Rattle.std.proofs.Common.{not, List, [], ◌∷◌, ◌++◌, map, take, length, Some, None, refl, sym, ap, ◌∙◌, subst, arith}
use Rattle.std.proofs.lemmas.List.{append-nil, length-map, take-map}
use Rattle.ygg_value.specs.Number.{Number}
use Rattle.ygg_value.specs.Words.{word}
use Rattle.ygg_value.specs.Values.{word_in, with_part}
use Rattle.ygg_value.specs.Shapes.{IsValue, shape_of}
use Rattle.ygg_value.specs.declared.row.Value.{Value}
use Rattle.ygg_value.specs.declared.row.Value.TheVariants as value
use Rattle.ygg_value.specs.declared.shape.Shape.TheVariants as shape
use Rattle.ygg_syntax.specs.declared.grammar.BlockKind.{BlockKind}
use Rattle.ygg_syntax.specs.declared.tree.Name as tree_name
use Rattle.ygg_syntax.specs.declared.tree.Numeral.{Numeral}
use Rattle.ygg_syntax.specs.declared.tree.Expr.{Expr}
use Rattle.ygg_syntax.specs.declared.tree.Index.{Index}
use Rattle.ygg_syntax.specs.declared.tree.Source.{Source}
use Rattle.ygg_syntax.specs.declared.tree.Stmt.{Stmt, roll-Stmt, map-Stmt}
use Rattle.ygg_syntax.specs.declared.tree.Block.{Block, roll-Block, map-Block, fold-Block}
use Rattle.ygg_syntax.specs.declared.tree.Stmt.TheOpen.{Stmt-F, Block-F}
use Rattle.ygg_syntax.specs.declared.tree.Stmt.TheFolds.{ind-Stmt, fold-roll-Stmt, fold-roll-Block}
use Rattle.ygg_meaning_laws.specs.ygg_type_rules.Names.{Named, look_up}
use Rattle.ygg_base.specs.declared.reason.Reason.TheVariants as reason
use Rattle.ygg_meaning_laws.specs.ygg_type_rules.declared.scope.Signature.{Signature}
use Rattle.ygg_meaning_laws.specs.ygg_type_rules.TypeErrors.{TypeErrors, none}
use Rattle.ygg_meaning_laws.specs.ygg_type_rules.Shapes.{is_word, width_of, word_shape}
use Rattle.ygg_meaning_laws.specs.ygg_type_rules.Scopes.{Scope, name_in, is_taken}
use Rattle.ygg_meaning_laws.specs.ygg_type_rules.Expressions.{wanted, typing, number_errors, with_number, expected_errors}
use Rattle.ygg_meaning_laws.specs.ygg_type_rules.Statements.{
  Walked,
  source_typing,
  call_typing,
  target_rule,
  indexed,
  place_rule,
  return_errors,
  node_walked,
  node_inside,
  walked,
}
use Rattle.ygg_meaning_laws.specs.ygg_type_rules.Statements as rules
use Rattle.ygg_meaning_laws.specs.ygg_meaning.Environments.{Name, Env, assign}
use Rattle.ygg_meaning_laws.specs.ygg_meaning.Meaning.{Functions, is_one}
use Rattle.ygg_meaning_laws.specs.ygg_meaning.Shapes.{fits}
use Rattle.ygg_meaning_laws.specs.ygg_meaning.Progress.{Question, values_of, indices_of, assigned}
use Rattle.ygg_meaning_laws.specs.ygg_meaning.Progress as progress
use Rattle.ygg_meaning_laws.specs.Fitting.{HasShape}
use Rattle.ygg_meaning_laws.specs.Agrees.{Agrees}
use Rattle.ygg_meaning_laws.proofs.Tests.{left as first_of, right as second_of, passed, turned}
use Rattle.ygg_meaning_laws.proofs.Fits.{word_wide, value_fits}
use Rattle.ygg_meaning_laws.proofs.Names.{value_found}
use Rattle.ygg_meaning_laws.proofs.Rules.{NumberParts, number_parts, wanted_has}
use Rattle.ygg_meaning_laws.proofs.Steps.{agrees_with_local, agrees_with_number}
use Rattle.ygg_meaning_laws.specs.Kinds.{all_keep, node_keeps, node_all_keep, stmt_keeps}
use Rattle.ygg_meaning_laws.specs.Questions.{plain, question_fits, Follows}
use Rattle.ygg_meaning_laws.specs.Blocks.{eval_with}
use Rattle.ygg_meaning_laws.proofs.TypeErrors.{called}
use Rattle.ygg_meaning_laws.proofs.Following.{
  Keeps,
  follows_same,
  follows_more,
  follows_on,
  follows_front,
  follows_cut,
  follows_assigned,
  take_assigned,
  agrees_after,
}
use Rattle.ygg_meaning_laws.proofs.Asking.{local_lower}
use Rattle.ygg_meaning_laws.proofs.ProgressFits.{one_shape, part_fits}
use Rattle.ygg_sym_runs.specs.ygg_rules.declared.rule.RuleKind.{RuleKind}
use Rattle.ygg_sym_runs.specs.ygg_bank_proofs_Meaning.{fits_fewer}
use Rattle.ygg_sym_runs.specs.ygg_bank_proofs_Widths.{wider, extends_self, extends_both}
use Rattle.ygg_sym_runs.specs.ygg_bank.Makes.{Make}
use Rattle.ygg_sym_runs.specs.ygg_bank.Nodes.{HasWidth, Extends}
use Rattle.ygg_sym_runs.specs.ygg_bank.Values.{Inputs, Values}
use Rattle.ygg_sym_runs.specs.ygg_bank.declared.node.Id.{Id}
use Rattle.ygg_sym_runs.specs.ygg_bank.declared.node.Node.{Node}
use Rattle.ygg_sym_runs.specs.ygg_bank.declared.node.Node.TheVariants as node
use Rattle.ygg_sym_runs.specs.ygg_shape_cells.Terms.{worth}
use Rattle.ygg_sym_runs.specs.ygg_shape_cells.declared.terms.SymValue.{SymValue}
use Rattle.ygg_meaning_laws.specs.Direct.{Handled, Reached, Direct, total, then_run, stays}
use Rattle.ygg_meaning_laws.specs.Direct.{forgets, times, in_order, source_got, stmt_direct, block_direct, direct_of}
use Rattle.ygg_sym_runs.specs.Names.{SymEnv}
use Rattle.ygg_sym_runs.specs.Exprs.{SymFunctions, id_in, number_made, sym_value}
use Rattle.ygg_sym_runs.specs.ExpressionMeaning.{EnvShaped, Grows, Gives, worths}
use Rattle.ygg_sym_runs.proofs.Shaped.{is_term, env_wider}
use Rattle.ygg_sym_runs.proofs.Grows.{FunctionsGrow, word_grows, value_grows}
use Rattle.ygg_sym_runs.proofs.ExpressionParts.{number_gives}
use Rattle.ygg_sym_runs.proofs.Values.{FunctionsMean, same_defs}
use Rattle.ygg_sym_runs.specs.Putting.{put_made, led_to}
use Rattle.ygg_sym_runs.specs.Runs.{Call, SymState, SymRun, SymMachine, plain_scope, places_of, state, sym_times}
use Rattle.ygg_sym_runs.specs.Runs.{sym_in_order, sym_change, sym_values, sym_source, merge_env, sym_each, sym_stmt, sym_block, sym_of}
use Rattle.ygg_sym_runs.specs.Meaning.{Low, is_set, question_worth, MachineMeans, RunIs}
use Rattle.ygg_sym_runs.proofs.Worths.{env_fits_some, merge_env_grows, merge_env_gives}
use Rattle.ygg_sym_runs.proofs.Putting.{ArePlaces, put_grows, put_gives}
use Rattle.ygg_meaning_laws.proofs.ProgressSounds.{call_fits, target_of}
use Rattle.ygg_sym_runs.proofs.Typed.{Indices, all_have, indices_of_place}
use Rattle.ygg_sym_runs.proofs.Ends.{if_env, if_to, if_both, follows_length, take_length, env_take, one_more, one_worth}
use Rattle.ygg_sym_runs.proofs.Parts.{InScope, eval_gives, change_grows, change_gives, places_worth, values_grow, values_give, source_grows, source_gives}

abbrev pub Walk : Type 0
Walk = Scope → Walked

abbrev pub Inside : Type 0
Inside = Scope → TypeErrors

abbrev pub Keep : Type 0
Keep = BlockKind → Bool

module _ (inputs : Inputs) (v : Values) where
  module _ (kinds : List RuleKind) (defs : Named Signature) (functions : Functions) (terms : SymFunctions) (grow : FunctionsGrow terms)
      (mean : FunctionsMean inputs v kinds defs functions terms grow) {S L : Type 0} (low : Low S L) (kind : BlockKind) (lower : Named Signature)
      (M : SymMachine S) (machine : ℕ → Question → L → Handled L) (laws : MachineMeans inputs v low kind lower M machine) where
    abbrev eval : progress.Eval
    eval = eval_with functions

    abbrev In : Scope → Env → Type 0
    In = InScope inputs v kinds defs functions terms grow mean lower

    abbrev Is : Env → Scope → Reached L → List Node → SymState S → Type 0
    Is = RunIs inputs v low functions

    -- a run of a block inside another leaves just the names that it began with
    pub record Exactly (before : SymEnv) (scope : Scope) (want : Reached L) (nodes : List Node) (z : SymState S) : Type 0 where
      pub run : Is (worths v before) scope want nodes z
      pub count : length z.env ≡ length before

    pub record Agree (r : SymRun S) (d : Direct L) (t : Walk) (k : Keep) : Type 0 where
      pub room : r.room ≡ d.room
      pub lower_kept : (scope : Scope) → (t scope).scope.lower ≡ scope.lower
      pub defs_kept : (scope : Scope) → (t scope).scope.defs ≡ scope.defs
      pub grows : (i : ℕ) (env : SymEnv) (from : S) → Grows (r.run i env from)
      pub gives : (i : ℕ) (scope : Scope) (env : SymEnv) (from : S) (nodes : List Node) → In scope (worths v env) → none (t scope).type_errors ≡ true →
          k kind ≡ true → EnvShaped nodes env → low.Has nodes from →
          Gives inputs v (r.run i env from) nodes (Is (worths v env) (t scope).scope (d.run i (worths v env) (low.value v from)))

    pub record AgreeInside (r : SymRun S) (d : Direct L) (t : Inside) (k : Keep) : Type 0 where
      pub room : r.room ≡ d.room
      pub grows : (i : ℕ) (env : SymEnv) (from : S) → Grows (r.run i env from)
      pub gives : (i : ℕ) (scope : Scope) (env : SymEnv) (from : S) (nodes : List Node) → In scope (worths v env) → none (t scope) ≡ true → k kind ≡ true →
          EnvShaped nodes env → low.Has nodes from →
          Gives inputs v (r.run i env from) nodes (Exactly env scope (d.run i (worths v env) (low.value v from)))

    -- one part and then another
    is_then : (before : Env) (mid last : Scope) (p : Reached L) (next : Env → L → Reached L) (a z : SymState S) (nodes new : List Node) →
        Is before mid p nodes a → Is (worths v a.env) last (next (worths v a.env) (low.value v a.to)) new z → Is before last (then_run p next) new z
    is_then before mid last p next a z nodes new h g =
        let g1 = subst (λ e. Is e last (next e (low.value v a.to)) new z) h.is g in
        let g2 = subst (λ l. Is p.env last (next p.env l) new z) h.is_low g1 in
        record {
          shaped = g2.shaped;
          has = g2.has;
          is = g2.is;
          is_low = g2.is_low;
          follows = follows_on before p.env (next p.env p.to).env h.follows g2.follows;
          agrees = g2.agrees;
        }

    pub is_here : (scope : Scope) (env : SymEnv) (from : S) (nodes : List Node) → In scope (worths v env) → EnvShaped nodes env → low.Has nodes from →
        Is (worths v env) scope (stays (worths v env) (low.value v from)) nodes (state env from)
    is_here scope env from nodes g s l =
        record { shaped = s; has = l; is = refl; is_low = refl; follows = follows_same (worths v env); agrees = g.agrees }

    -- where a part leaves a scope that agrees
    pub in_after : (scope after : Scope) (before : Env) (p : Reached L) (nodes : List Node) (z : SymState S) → after.lower ≡ scope.lower →
        after.defs ≡ scope.defs →
        In scope before → Is before after p nodes z → In after (worths v z.env)
    in_after scope after before p nodes z e f g h = record {
      lower_is = e ∙ g.lower_is;
      defs_is = f ∙ g.defs_is;
      agrees = subst (λ w. Agrees functions after (plain w)) (sym h.is) h.agrees;
    }

    pub length_worths : (env : SymEnv) → length (worths v env) ≡ length env
    length_worths env = length-map env (λ (b : Name × SymValue). (b.0, worth v b.1))

    -- the names that are new are forgotten
    pub forgotten : (scope inner : Scope) (start : SymEnv) (more : Env) (p : Reached L) (nodes : List Node) (z : SymState S) →
        Agrees functions scope (plain (worths v start)) → Is (worths v start ++ more) inner p nodes z →
        Exactly start scope (forgets (worths v start) p) nodes (state (take (length start) z.env) z.to)
    forgotten scope inner start more p nodes z g h =
        let f = follows_front (worths v start) more p.env h.follows in
        let enough : length start ≤ length z.env =
        let u = follows_length (worths v start) p.env f in
        let w = ap length h.is in
        let a = length_worths start in
        let b = length_worths z.env in
        omega (arith, u, w, a, b) in
        record {
          run = record {
            shaped = env_take inputs v nodes (length start) z.env h.shaped;
            has = h.has;
            is = sym (take-map (λ (b : Name × SymValue). (b.0, worth v b.1)) (length start) z.env) ∙ ap (take (length start)) h.is
                ∙ ap (λ n. take n p.env) (sym (length_worths start));
            is_low = h.is_low;
            follows = follows_cut (worths v start) p.env f;
            agrees = agrees_after functions scope (worths v start) p.env f g;
          };
          count = take_length (length start) z.env enough;
        }

    -- statements

    let_case : (x : tree_name.Name) (s : Source) → Agree (sym_stmt kinds terms M (Stmt-F.Let x s)) (stmt_direct eval M.space machine (Stmt-F.Let x s))
        (node_walked (Stmt-F.Let x s)) (node_keeps (Stmt-F.Let x s))
    let_case x s = record {
      room = refl;
      lower_kept = λ scope. local_lower x.text (source_typing s scope).part.shape true scope;
      defs_kept = λ scope. same_defs x.text (source_typing s scope).part.shape true scope;
      grows = λ i env from nodes. source_grows inputs v kinds defs functions terms grow mean low kind lower M machine laws s i env from nodes;
      gives = λ i scope env from nodes g e k sh l h.
          let t = source_typing s scope in
          let free = turned (is_taken x.text scope) (passed (not (is_taken x.text scope)) reason.Twice x.place (first_of _ (none t.type_errors) e)) in
          let o = sym_source kinds terms M s i env from nodes in
          let p = source_gives inputs v kinds defs functions terms grow mean low kind lower M machine laws s i scope env from nodes g
          (second_of _ (none t.type_errors) e) k sh l h in
          let want = source_got eval M.space machine s i (worths v env) (low.value v from) in
          let val = p.value in
          record {
            shaped = one_more inputs v o.nodes env x.text o.value.value
                (env_wider nodes o.nodes env (source_grows inputs v kinds defs functions terms grow mean low kind lower M machine laws s i env from
                nodes) sh) val.shaped;
            has = p.has;
            is = one_worth inputs v x.text env o.value.value want.value val.is;
            is_low = p.is_low;
            follows = follows_more (worths v env) ((x.text, want.value) ∷ []);
            agrees = agrees_with_local functions scope (plain (worths v env)) x.text t.part.shape true want.value g.agrees free p.has_shape;
          };
    }

    numbers_are : (is : List Index) (env : Env) → map (λ (p : Value). (word_in p).bits) (values_of eval (places_of is) env) ≡ indices_of eval is env
    numbers_are [] env = refl
    numbers_are (i ∷ is) env = ap (λ ns. (word_in (eval i.at env)).bits ∷ ns) (numbers_are is env)

    as_many : (is : List Index) (env : Env) → length (values_of eval (places_of is) env) ≡ length is
    as_many [] env = refl
    as_many (i ∷ is) env = ap suc (as_many is env)

    pub places_wider : (old new : List Node) (ps : List Value) (places : List Id) → Extends old new → ArePlaces inputs v kinds ps old places →
        ArePlaces inputs v kinds ps new places
    places_wider old new [] [] g h = tt
    places_wider old new [] (a ∷ places) g h = absurd h
    places_wider old new (p ∷ ps) [] g h = absurd h
    places_wider old new (p ∷ ps) (a ∷ places) g h =
        let d = h.0 in (record { width = d.width; wide = wider old new a d.width g d.wide; is = d.is }, places_wider old new ps places g h.1)

    -- what is put where by an assignment without a type error
    pub record Assigned (x : tree_name.Name) (is : List Index) (s : Source) (scope : Scope) (env : Env) (w : Value) : Type 0 where
      pub old : Value
      pub found : look_up x.text env ≡ Some old
      pub led : shape_of w ≡ led_to (shape_of old) (length (values_of eval (places_of is) env))
      pub same : assign env x.text (with_part old (map (λ (p : Value). (word_in p).bits) (values_of eval (places_of is) env)) w) ≡ assigned eval env x.text is w
      pub follows : Follows env (assigned eval env x.text is w)
      pub agrees : Agrees functions scope (plain (assigned eval env x.text is w))

    pub record PlaceTyped (x : tree_name.Name) (is : List Index) (scope : Scope) (env : Env) : Type 0 where
      pub old : Value
      pub found : look_up x.text env ≡ Some old
      pub limits : IsValue old
      pub errors : none (indexed is scope (Some (shape_of old))).type_errors ≡ true
      pub indices : Indices functions lower is scope env (shape_of old)
      pub shown : (place_rule x is scope).shape ≡ Some (led_to (shape_of old) (length is))

    pub place_typed : (x : tree_name.Name) (is : List Index) (scope : Scope) (env : Env) → In scope env →
        none (place_rule x is scope).type_errors ≡ true → PlaceTyped x is scope env
    place_typed x is scope env g e =
        let rule = target_rule x (name_in x.text scope) in
        let t = target_of functions lower (all_have functions lower) x scope env (record { lower_is = g.lower_is; agrees = g.agrees })
        (first_of (none rule.type_errors) (none (indexed is scope rule.shape).type_errors) e) in
        let hs = t.has in
        let errors : none (indexed is scope (Some (shape_of t.value))).type_errors ≡ true =
        subst (λ o. none (indexed is scope o).type_errors ≡ true) hs.is
        (second_of (none rule.type_errors) (none (indexed is scope rule.shape).type_errors) e) in
        let ix = indices_of_place functions lower is scope env g.agrees (shape_of t.value) errors in
        record {
          old = t.value;
          found = t.found;
          limits = hs.limits;
          errors = errors;
          indices = ix;
          shown = ap (λ o. (indexed is scope o).shape) hs.is
              ∙ ix.led;
        }

    pub assigned_so : (x : tree_name.Name) (is : List Index) (s : Source) (scope : Scope) (env : Env) (w : Value) → In scope env →
        HasShape (source_typing s scope).part.shape w →
        none (wanted (source_typing s scope).part (place_rule x is scope).shape) ≡ true → (p : PlaceTyped x is scope env) → Assigned x is s scope env w
    assigned_so x is s scope env w g hs n p =
        let from = (source_typing s scope).part in
        let shape_old = shape_of p.old in
        let found = led_to shape_old (length is) in
        let led = wanted_has from w found hs (subst (λ o. none (wanted from o) ≡ true) p.shown n) in
        let ix = p.indices in
        let new = with_part p.old (indices_of eval is env) w in
        let fit : fits found w ≡ true = subst (λ k. fits k w ≡ true) led (value_fits w hs.limits) in
        let old_fits = value_fits p.old p.limits in
        let whole : fits shape_old new ≡ true = part_fits is scope eval env shape_old found p.old w p.errors ix.led old_fits fit in
        let keeps : Keeps p.old new = λ k e. subst (λ z. fits z new ≡ true) (one_shape shape_old k p.old old_fits e) whole in
        let follows = follows_assigned x.text p.old new env p.found keeps in
        let agrees = subst (λ z. Agrees functions scope (plain z)) (take_assigned x.text new env)
        (agrees_after functions scope env (assign env x.text new) follows g.agrees) in
        let is_there = ap (λ o. assign env x.text (with_part o (indices_of eval is env) w)) (sym (value_found x.text env p.old p.found)) in
        record {
          old = p.old;
          found = p.found;
          led = led ∙ ap (led_to shape_old) (sym (as_many is env));
          same = ap (λ ns. assign env x.text (with_part p.old ns w)) (numbers_are is env) ∙ is_there;
          follows = subst (Follows env) is_there follows;
          agrees = subst (λ z. Agrees functions scope (plain z)) is_there agrees;
        }

    assign_case : (x : tree_name.Name) (is : List Index) (s : Source) → Agree (sym_stmt kinds terms M (Stmt-F.Assign x is s))
        (stmt_direct eval M.space machine (Stmt-F.Assign x is s)) (node_walked (Stmt-F.Assign x is s)) (node_keeps (Stmt-F.Assign x is s))
    assign_case x is s = record {
      room = refl;
      lower_kept = λ scope. refl;
      defs_kept = λ scope. refl;
      grows = λ i env from nodes.
          let p = sym_values kinds terms M (places_of is) env nodes in
          let g = sym_source kinds terms M s i env from p.nodes in
          let c = sym_change x.text (λ old. put_made kinds old (map id_in p.value) g.value.value) env g.nodes in
          extends_both nodes p.nodes c.nodes (values_grow inputs v kinds defs functions terms grow mean low kind lower M machine laws (places_of is) env nodes)
          (extends_both p.nodes g.nodes c.nodes (source_grows inputs v kinds defs functions terms grow mean low kind lower M machine laws s i env from p.nodes)
          (change_grows x.text (λ old. put_made kinds old (map id_in p.value) g.value.value)
          (λ y. put_grows kinds y (map id_in p.value) g.value.value) env g.nodes));
      gives = λ i scope env from nodes g e k sh l h.
          let place = place_rule x is scope in
          let t = source_typing s scope in
          let ep = first_of (none place.type_errors) (none t.type_errors && none (wanted t.part place.shape)) e in
          let rest = second_of (none place.type_errors) (none t.type_errors && none (wanted t.part place.shape)) e in
          let es = first_of (none t.type_errors) (none (wanted t.part place.shape)) rest in
          let ew = second_of (none t.type_errors) (none (wanted t.part place.shape)) rest in
          let typed = place_typed x is scope (worths v env) g ep in
          let ix = typed.indices in
          let p = sym_values kinds terms M (places_of is) env nodes in
          let o = sym_source kinds terms M s i env from p.nodes in
          let put : SymValue → Make SymValue = λ old. put_made kinds old (map id_in p.value) o.value.value in
          let c = sym_change x.text put env o.nodes in
          let gp = values_grow inputs v kinds defs functions terms grow mean low kind lower M machine laws (places_of is) env nodes in
          let go = source_grows inputs v kinds defs functions terms grow mean low kind lower M machine laws s i env from p.nodes in
          let gc = change_grows x.text put (λ y. put_grows kinds y (map id_in p.value) o.value.value) env o.nodes in
          let ho = fits_fewer inputs v o.nodes c.nodes gc h in
          let hp = fits_fewer inputs v p.nodes o.nodes go ho in
          let wants = values_of eval (places_of is) (worths v env) in
          let a = values_give inputs v kinds defs functions terms grow mean low kind lower M machine laws
          (places_of is) scope env nodes g ix.without_errors sh hp in
          let b = source_gives inputs v kinds defs functions terms grow mean low kind lower M machine laws s i scope env from p.nodes g es k
          (env_wider nodes p.nodes env gp sh) (low.wider nodes p.nodes from gp l) ho in
          let want = source_got eval M.space machine s i (worths v env) (low.value v from) in
          let there = places_wider p.nodes o.nodes wants (map id_in p.value) go (places_worth inputs v kinds p.value wants p.nodes hp a ix.words) in
          let so = assigned_so x is s scope (worths v env) want.value g b.has_shape ew typed in
          let both = extends_both nodes p.nodes o.nodes gp go in
          let found : look_up x.text (worths v env) ≡ Some so.old = so.found in
          let d = change_gives inputs v x.text put (with_part so.old (map (λ (p : Value). (word_in p).bits) wants) want.value) so.old env o.nodes
          (λ y. put_grows kinds y (map id_in p.value) o.value.value) found
          (λ y iy. put_gives inputs v kinds y o.value.value so.old want.value wants (map id_in p.value) o.nodes iy b.value there so.led)
          (env_wider nodes o.nodes env both sh) h in
          record {
            shaped = d.shaped;
            has = low.wider o.nodes c.nodes o.value.to gc b.has;
            is = d.is ∙ so.same;
            is_low = b.is_low;
            follows = so.follows;
            agrees = so.agrees;
          };
    }

    call_case : (f : tree_name.Name) (es : List Expr) → Agree (sym_stmt kinds terms M (Stmt-F.Call f es)) (stmt_direct eval M.space machine (Stmt-F.Call f es))
        (node_walked (Stmt-F.Call f es)) (node_keeps (Stmt-F.Call f es))
    call_case f es = record {
      room = refl;
      lower_kept = λ scope. refl;
      defs_kept = λ scope. refl;
      grows = λ i env from nodes.
          let p = sym_values kinds terms M es env nodes in
          extends_both nodes p.nodes (M.handle i (Call f.text p.value) from p.nodes).nodes
          (values_grow inputs v kinds defs functions terms grow mean low kind lower M machine laws es env nodes)
          (laws.handle_grows i (Call f.text p.value) from p.nodes);
      gives = λ i scope env from nodes g e k sh l h.
          let c = called f.place false f es scope e in
          let p = sym_values kinds terms M es env nodes in
          let o = M.handle i (Call f.text p.value) from p.nodes in
          let gp = values_grow inputs v kinds defs functions terms grow mean low kind lower M machine laws es env nodes in
          let go = laws.handle_grows i (Call f.text p.value) from p.nodes in
          let xs = values_give inputs v kinds defs functions terms grow mean low kind lower M machine laws es scope env nodes g c.parts sh
          (fits_fewer inputs v p.nodes o.nodes go h) in
          let args = values_of eval es (worths v env) in
          let same : question_worth v (Call f.text p.value) ≡ progress.Call f.text args = ap (progress.Call f.text) xs.is in
          let fit = call_fits functions lower (all_have functions lower) kind f.place false f es scope (worths v env)
          (record { lower_is = g.lower_is; agrees = g.agrees }) e k in
          let q = laws.handle i (Call f.text p.value) from p.nodes (subst (λ q. question_fits kind lower q ≡ true) (sym same) fit) xs.shaped
          (low.wider nodes p.nodes from gp l) h in
          record {
            shaped = env_wider nodes o.nodes env (extends_both nodes p.nodes o.nodes gp go) sh;
            has = q.has;
            is = refl;
            is_low = q.is ∙ ap (λ q. (machine i q (low.value v from)).to) same;
            follows = follows_same (worths v env);
            agrees = g.agrees;
          };
    }

    if_case : (test : Expr) (r q : SymRun S) (d e : Direct L) (a b : Inside) (ka kb : Keep) → AgreeInside r d a ka → AgreeInside q e b kb →
        Agree (sym_stmt kinds terms M (Stmt-F.If test r q)) (stmt_direct eval M.space machine (Stmt-F.If test d e)) (node_walked (Stmt-F.If test a b))
        (node_keeps (Stmt-F.If test ka kb))
    if_case test r q d e a b ka kb kr kq = record {
      room = ap (λ n. n + q.room) kr.room ∙ ap (λ n. d.room + n) kq.room;
      lower_kept = λ scope. refl;
      defs_kept = λ scope. refl;
      grows = λ i env from nodes.
          let x = sym_value kinds terms test (plain_scope env) nodes in
          let t = id_in x.value in
          let y = r.run i env from x.nodes in
          let z = q.run (i + r.room) env from y.nodes in
          let m = merge_env kinds terms M t y.value.env z.value.env z.nodes in
          let n = M.merge t y.value.to z.value.to m.nodes in
          extends_both nodes x.nodes n.nodes (value_grows kinds terms grow test (plain_scope env) nodes)
          (extends_both x.nodes y.nodes n.nodes (kr.grows i env from x.nodes)
          (extends_both y.nodes z.nodes n.nodes (kq.grows (i + r.room) env from y.nodes)
          (extends_both z.nodes m.nodes n.nodes (merge_env_grows inputs v kinds terms M t y.value.env z.value.env z.nodes)
          (laws.merge_grows t y.value.to z.value.to m.nodes))));
      gives = λ i scope env from nodes g er k sh l h.
          let typ = typing test scope in
          let et = first_of (none (expected_errors test (Some (shape.Word 1)) scope)) (none (a scope) && none (b scope)) er in
          let rest = second_of (none (expected_errors test (Some (shape.Word 1)) scope)) (none (a scope) && none (b scope)) er in
          let ex = first_of (none typ.type_errors) (none (wanted typ.part (Some (shape.Word 1)))) et in
          let ea = first_of (none (a scope)) (none (b scope)) rest in
          let eb = second_of (none (a scope)) (none (b scope)) rest in
          let envw = worths v env in
          let val = eval test envw in
          let shape_is = wanted_has typ.part val (shape.Word 1) (all_have functions lower test scope (plain envw) g.agrees ex)
          (second_of (none typ.type_errors) (none (wanted typ.part (Some (shape.Word 1)))) et) in
          let x = sym_value kinds terms test (plain_scope env) nodes in
          let t = id_in x.value in
          let y = r.run i env from x.nodes in
          let z = q.run (i + r.room) env from y.nodes in
          let m = merge_env kinds terms M t y.value.env z.value.env z.nodes in
          let n = M.merge t y.value.to z.value.to m.nodes in
          let gx = value_grows kinds terms grow test (plain_scope env) nodes in
          let gy = kr.grows i env from x.nodes in
          let gz = kq.grows (i + r.room) env from y.nodes in
          let gm = merge_env_grows inputs v kinds terms M t y.value.env z.value.env z.nodes in
          let gn = laws.merge_grows t y.value.to z.value.to m.nodes in
          let hm = fits_fewer inputs v m.nodes n.nodes gn h in
          let hz = fits_fewer inputs v z.nodes m.nodes gm hm in
          let hy = fits_fewer inputs v y.nodes z.nodes gz hz in
          let hx = fits_fewer inputs v x.nodes y.nodes gy hy in
          let to_y = extends_both nodes x.nodes y.nodes gx gy in
          let to_z = extends_both nodes y.nodes z.nodes to_y gz in
          let x_to_z = extends_both x.nodes y.nodes z.nodes gy gz in
          let px = eval_gives inputs v kinds defs functions terms grow mean lower test scope env nodes g ex sh hx in
          let single = ap is_word shape_is in
          let pt = is_term inputs v val x.nodes x.value hx px single in
          let one : (word_in val).width ≡ 1 = sym (word_wide val single) ∙ ap width_of shape_is in
          let wide_x = subst (HasWidth x.nodes t) one pt.wide in
          let wide = wider x.nodes z.nodes t 1 x_to_z wide_x in
          let ey = kr.gives i scope env from x.nodes g ea (first_of (ka kind) (kb kind) k) (env_wider nodes x.nodes env gx sh)
          (low.wider nodes x.nodes from gx l) hy in
          let ez = kq.gives (i + r.room) scope env from y.nodes g eb (second_of (ka kind) (kb kind) k) (env_wider nodes y.nodes env to_y sh)
          (low.wider nodes y.nodes from to_y l) hz in
          let py = ey.run in
          let pz = ez.run in
          let some = env_fits_some inputs v z.nodes env hz (env_wider nodes z.nodes env to_z sh) in
          let fy : Follows envw (worths v y.value.env) = subst (Follows envw) (sym py.is) py.follows in
          let fz : Follows envw (worths v z.value.env) = subst (Follows envw) (sym pz.is) pz.follows in
          let pm = merge_env_gives inputs v kinds terms M t envw y.value.env z.value.env z.nodes wide some fy fz (ey.count ∙ sym (length_worths env))
          (ez.count ∙ sym (length_worths env)) (env_wider y.nodes z.nodes y.value.env gz py.shaped) pz.shaped hm in
          let pn = laws.merge t y.value.to z.value.to m.nodes (wider z.nodes m.nodes t 1 gm wide)
          (low.wider y.nodes m.nodes y.value.to (extends_both y.nodes z.nodes m.nodes gz gm) py.has) (low.wider z.nodes m.nodes z.value.to gm pz.has) h in
          let c = is_set v t in
          let p = d.run i envw (low.value v from) in
          let w = λ (n : ℕ). e.run (i + n) envw (low.value v from) in
          let same : c ≡ is_one val = ap (λ (k : Number). k.bits == 1) pt.worth in
          let followed = subst (λ n. Follows envw (w n).env) kr.room pz.follows in
          let agreed = subst (λ n. Agrees functions scope (plain (w n).env)) kr.room pz.agrees in
          record {
            shaped = env_wider m.nodes n.nodes m.value gn pm.shaped;
            has = pn.has;
            is = pm.is ∙ ap (λ e. if c then e else worths v z.value.env) py.is ∙ ap (λ e. if c then p.env else e) pz.is
                ∙ if_env c p (w r.room) ∙ ap (λ n. (if c then p else w n).env) kr.room ∙ ap (λ z. (if z then p else w d.room).env) same;
            is_low = pn.is ∙ ap (λ e. if c then e else low.value v z.value.to) py.is_low ∙ ap (λ e. if c then p.to else e) pz.is_low
                ∙ if_to c p (w r.room) ∙ ap (λ n. (if c then p else w n).to) kr.room ∙ ap (λ z. (if z then p else w d.room).to) same;
            follows = if_both (λ (r : Reached L). Follows envw r.env) (is_one val) p (w d.room) py.follows followed;
            agrees = if_both (λ (r : Reached L). Agrees functions scope (plain r.env)) (is_one val) p (w d.room) py.agrees agreed;
          };
    }

    times_grows : (count k room : ℕ) (body : ℕ → ℕ → SymEnv → S → Make (SymState S)) → ((k i : ℕ) (env : SymEnv) (from : S) → Grows (body k i env from)) →
        (i : ℕ) (env : SymEnv) (from : S) → Grows (sym_times count k room body i env from)
    times_grows zero k room body b i env from nodes = extends_self nodes
    times_grows (suc count) k room body b i env from nodes =
        let z = body k i env from nodes in
        let r = sym_times count (k + 1) room body (i + room) z.value.env z.value.to z.nodes in
        extends_both nodes z.nodes r.nodes (b k i env from nodes) (times_grows count (k + 1) room body b (i + room) z.value.env z.value.to z.nodes)

    times_gives : (n : ℕ) (scope : Scope) (count k room : ℕ) (body : ℕ → ℕ → SymEnv → S → Make (SymState S)) (direct : ℕ → ℕ → Env → L → Reached L) →
        ((k i : ℕ) (env : SymEnv) (from : S) → Grows (body k i env from)) →
        ((k i : ℕ) (env : SymEnv) (from : S) (nodes : List Node) → k < n → In scope (worths v env) → EnvShaped nodes env → low.Has nodes from →
        Gives inputs v (body k i env from) nodes (Is (worths v env) scope (direct k i (worths v env) (low.value v from)))) →
        (i : ℕ) (env : SymEnv) (from : S) (nodes : List Node) → k + count ≤ n → In scope (worths v env) → EnvShaped nodes env → low.Has nodes from →
        Gives inputs v (sym_times count k room body i env from) nodes (Is (worths v env) scope (times count k room direct i (worths v env) (low.value v from)))
    times_gives n scope zero k room body direct b g i env from nodes c f s l h = is_here scope env from nodes f s l
    times_gives n scope (suc count) k room body direct b g i env from nodes c f s l h =
        let z = body k i env from nodes in
        let rest = sym_times count (k + 1) room body (i + room) z.value.env z.value.to z.nodes in
        let gr = times_grows count (k + 1) room body b (i + room) z.value.env z.value.to z.nodes in
        let less : k < n = omega (arith, c) in
        let few : (k + 1) + count ≤ n = omega (arith, c) in
        let first = direct k i (worths v env) (low.value v from) in
        let a = g k i env from nodes less f s l (fits_fewer inputs v z.nodes rest.nodes gr h) in
        let again = in_after scope scope (worths v env) first z.nodes z.value refl refl f a in
        let r = times_gives n scope count (k + 1) room body direct b g (i + room) z.value.env z.value.to z.nodes few again a.shaped a.has h in
        is_then (worths v env) scope scope first (times count (k + 1) room direct (i + room)) z.value rest.value z.nodes rest.nodes a r

    for_case : (x : tree_name.Name) (w n : Numeral) (r : SymRun S) (d : Direct L) (t : Inside) (k : Keep) → AgreeInside r d t k →
        Agree (sym_stmt kinds terms M (Stmt-F.For x w n r)) (stmt_direct eval M.space machine (Stmt-F.For x w n d)) (node_walked (Stmt-F.For x w n t))
        (node_keeps (Stmt-F.For x w n k))
    for_case x w n r d t k a = record {
      room = ap (λ m. n.value * m) a.room;
      lower_kept = λ scope. refl;
      defs_kept = λ scope. refl;
      grows = λ i env from. times_grows n.value 0 r.room (sym_each kinds terms M x.text w.value r) each_grows i env from;
      gives = λ i scope env from nodes g e ke sh l h.
          let number = number_errors x (is_taken x.text scope) w n in
          let parts = number_parts x (is_taken x.text scope) w n (first_of (none number) (none (t (with_number x w scope))) e) in
          let inner = second_of (none number) (none (t (with_number x w scope))) e in
          let all : 0 + n.value ≤ n.value = omega arith in
          let o = sym_times n.value 0 r.room (sym_each kinds terms M x.text w.value r) i env from nodes in
          subst (λ m. Is (worths v env) scope (times n.value 0 m each i (worths v env) (low.value v from)) o.nodes o.value) a.room
          (times_gives n.value scope n.value 0 r.room (sym_each kinds terms M x.text w.value r) each each_grows
          (each_gives scope (is_taken x.text scope) parts refl inner ke) i env from nodes all g sh l h);
    }
      where
        each : ℕ → ℕ → Env → L → Reached L
        each k i env z = forgets env (d.run i (env ++ (x.text, value.Word (word w.value k)) ∷ []) z)

        each_grows : (k i : ℕ) (env : SymEnv) (from : S) → Grows (sym_each kinds terms M x.text w.value r k i env from)
        each_grows k i env from nodes =
            let y = number_made kinds w.value k nodes in
            let grown = env ++ (x.text, y.value) ∷ [] in
            extends_both nodes y.nodes (r.run i grown from y.nodes).nodes (word_grows kinds (node.Const (word w.value k)) nodes) (a.grows i grown from y.nodes)

        each_gives : (scope : Scope) (taken : Bool) → NumberParts taken w n → is_taken x.text scope ≡ taken → none (t (with_number x w scope)) ≡ true →
            k kind ≡ true → (k i : ℕ) (env : SymEnv) (from : S) (nodes : List Node) → k < n.value → In scope (worths v env) → EnvShaped nodes env →
            low.Has nodes from →
            Gives inputs v (sym_each kinds terms M x.text w.value r k i env from) nodes (Is (worths v env) scope (each k i (worths v env) (low.value v from)))
        each_gives scope taken parts same e ke k i env from nodes less g s l h =
            let y = number_made kinds w.value k nodes in
            let grown = env ++ (x.text, y.value) ∷ [] in
            let z = r.run i grown from y.nodes in
            let gy = word_grows kinds (node.Const (word w.value k)) nodes in
            let hy = fits_fewer inputs v y.nodes z.nodes (a.grows i grown from y.nodes) h in
            let wd = parts.width in
            let bound = parts.bound in
            let below : k < 2 ^ w.value = omega (arith, less, bound) in
            let m = number_gives inputs v kinds w.value k nodes (record { least = wd.0; most = wd.1; fits = below }) hy in
            let num : Name × Value = (x.text, value.Word (word w.value k)) in
            let worth_is = one_worth inputs v x.text env y.value (value.Word (word w.value k)) m.is in
            let agreed = agrees_with_number functions scope (plain (worths v env)) x w k g.agrees (same ∙ parts.free) parts.fits below in
            let inside : In (with_number x w scope) (worths v grown) = record {
              lower_is = local_lower x.text (word_shape w.value) false scope ∙ g.lower_is;
              defs_is = same_defs x.text (word_shape w.value) false scope ∙ g.defs_is;
              agrees = subst (λ e. Agrees functions (with_number x w scope) (plain e)) (sym worth_is) agreed;
            } in
            let b = a.gives i (with_number x w scope) grown from y.nodes inside e ke
            (one_more inputs v y.nodes env x.text y.value (env_wider nodes y.nodes env gy s) m.shaped) (low.wider nodes y.nodes from gy l) h in
            let c = subst (λ q. Is q (with_number x w scope) (d.run i q (low.value v from)) z.nodes z.value) worth_is b.run in
            let f = forgotten scope (with_number x w scope) env (num ∷ []) (d.run i (worths v env ++ num ∷ []) (low.value v from)) z.nodes z.value g.agrees c in
            f.run

    -- the whole tree

    abbrev R : Stmt → SymRun S
    R = sym_of kinds terms M

    abbrev R' : Block → SymRun S
    R' = fold-Block (SymRun S) (SymRun S) (sym_stmt kinds terms M) (sym_block kinds terms M)

    abbrev step : Stmt-F (Direct L) (Direct L) → Direct L
    step = stmt_direct eval M.space machine

    abbrev step' : Block-F (Direct L) (Direct L) → Direct L
    step' = block_direct eval M.space machine

    abbrev D : Stmt → Direct L
    D = direct_of eval M.space machine

    abbrev D' : Block → Direct L
    D' = fold-Block (Direct L) (Direct L) step step'

    abbrev W' : Block → Inside
    W' = fold-Block Walk Inside node_walked node_inside

    abbrev K' : Block → Keep
    K' = fold-Block Keep Keep node_keeps node_all_keep

    abbrev St : Type 0
    St = (s : Stmt) × Agree (R s) (D s) (walked s) (stmt_keeps s)

    abbrev Bl : Type 0
    Bl = (b : Block) × AgreeInside (R' b) (D' b) (W' b) (K' b)

    abbrev bare : Stmt-F St Bl → Stmt-F Stmt Block
    bare = map-Stmt St Bl Stmt Block (λ e. e.0) (λ e. e.0)

    abbrev bare' : Block-F St Bl → Block-F Stmt Block
    bare' = map-Block St Bl Stmt Block (λ e. e.0) (λ e. e.0)

    stmt_case : (y : Stmt-F St Bl) →
        Agree (sym_stmt kinds terms M (map-Stmt Stmt Block (SymRun S) (SymRun S) R R' (bare y)))
        (step (map-Stmt Stmt Block (Direct L) (Direct L) D D' (bare y)))
        (node_walked (map-Stmt Stmt Block Walk Inside walked W' (bare y))) (node_keeps (map-Stmt Stmt Block Keep Keep stmt_keeps K' (bare y)))
    stmt_case (Stmt-F.Let x s) = let_case x s
    stmt_case (Stmt-F.Assign x at s) = assign_case x at s
    stmt_case (Stmt-F.If test first second) =
        if_case test (R' first.0) (R' second.0) (D' first.0) (D' second.0) (W' first.0) (W' second.0) (K' first.0) (K' second.0) first.1 second.1
    stmt_case (Stmt-F.For x w n each) = for_case x w n (R' each.0) (D' each.0) (W' each.0) (K' each.0) each.1
    stmt_case (Stmt-F.Call f args) = call_case f args

    abbrev heads : List St → List Stmt
    heads = map (λ e. e.0)

    order_room : (ss : List St) → total (map (λ r. r.room) (map R (heads ss))) ≡ total (map (λ d. d.room) (map D (heads ss)))
    order_room [] = refl
    order_room (s ∷ ss) = ap (λ n. n + total (map (λ r. r.room) (map R (heads ss)))) s.1.room ∙ ap (λ n. (D s.0).room + n) (order_room ss)

    order_grows : (ss : List St) (i : ℕ) (env : SymEnv) (from : S) → Grows (sym_in_order (map R (heads ss)) i env from)
    order_grows [] i env from nodes = extends_self nodes
    order_grows (s ∷ ss) i env from nodes =
        let a = (R s.0).run i env from nodes in
        let r = sym_in_order (map R (heads ss)) (i + (R s.0).room) a.value.env a.value.to a.nodes in
        extends_both nodes a.nodes r.nodes (s.1.grows i env from nodes) (order_grows ss (i + (R s.0).room) a.value.env a.value.to a.nodes)

    order_gives : (ss : List St) (i : ℕ) (scope : Scope) (env : SymEnv) (from : S) (nodes : List Node) → In scope (worths v env) →
        none (rules.in_order (map walked (heads ss)) scope).type_errors ≡ true → all_keep (map stmt_keeps (heads ss)) kind ≡ true → EnvShaped nodes env →
        low.Has nodes from →
        Gives inputs v (sym_in_order (map R (heads ss)) i env from) nodes
        (Is (worths v env) (rules.in_order (map walked (heads ss)) scope).scope (in_order (map D (heads ss)) i (worths v env) (low.value v from)))
    order_gives [] i scope env from nodes g e k s l h = is_here scope env from nodes g s l
    order_gives (t ∷ ss) i scope env from nodes g e k s l h =
        let w = walked t.0 scope in
        let others = rules.in_order (map walked (heads ss)) w.scope in
        let o = (R t.0).run i env from nodes in
        let z = sym_in_order (map R (heads ss)) (i + (R t.0).room) o.value.env o.value.to o.nodes in
        let first = (D t.0).run i (worths v env) (low.value v from) in
        let a = t.1.gives i scope env from nodes g (first_of (none w.type_errors) (none others.type_errors) e)
        (first_of (stmt_keeps t.0 kind) (all_keep (map stmt_keeps (heads ss)) kind) k) s l
        (fits_fewer inputs v o.nodes z.nodes (order_grows ss (i + (R t.0).room) o.value.env o.value.to o.nodes) h) in
        let again = in_after scope w.scope (worths v env) first o.nodes o.value (t.1.lower_kept scope) (t.1.defs_kept scope) g a in
        let r = order_gives ss (i + (R t.0).room) w.scope o.value.env o.value.to o.nodes again (second_of (none w.type_errors) (none others.type_errors) e)
        (second_of (stmt_keeps t.0 kind) (all_keep (map stmt_keeps (heads ss)) kind) k) a.shaped a.has h in
        let rest = map D (heads ss) in
        subst (λ m. Is (worths v env) others.scope (then_run first (in_order rest (i + m))) z.nodes z.value) t.1.room
        (is_then (worths v env) w.scope others.scope first (in_order rest (i + (R t.0).room)) o.value z.value o.nodes z.nodes a r)

    block_case : (y : Block-F St Bl) →
        AgreeInside (sym_block kinds terms M (map-Block Stmt Block (SymRun S) (SymRun S) R R' (bare' y)))
        (step' (map-Block Stmt Block (Direct L) (Direct L) D D' (bare' y)))
        (node_inside (map-Block Stmt Block Walk Inside walked W' (bare' y))) (node_all_keep (map-Block Stmt Block Keep Keep stmt_keeps K' (bare' y)))
    block_case y = record {
      room = order_room y.statements;
      grows = λ i env from nodes. order_grows y.statements i env from nodes;
      gives = λ i scope env from nodes g e k s l h.
          let ss = heads y.statements in
          let w = rules.in_order (map walked ss) scope in
          let z = sym_in_order (map R ss) i env from nodes in
          let p = in_order (map D ss) i (worths v env) (low.value v from) in
          let a = order_gives y.statements i scope env from nodes g (first_of (none w.type_errors) (none (return_errors y.answer None w.scope)) e) k s l h in
          forgotten scope w.scope env [] p z.nodes z.value g.agrees
          (subst (λ b. Is b w.scope p z.nodes z.value) (sym (append-nil (worths v env))) a);
    }

    pub all_agree : (s : Stmt) → Agree (R s) (D s) (walked s) (stmt_keeps s)
    all_agree =
        ind-Stmt (λ s. Agree (R s) (D s) (walked s) (stmt_keeps s)) (λ b. AgreeInside (R' b) (D' b) (W' b) (K' b))
        (λ x y is.
        subst (λ r. Agree r (D (roll-Stmt x)) (walked (roll-Stmt x)) (stmt_keeps (roll-Stmt x)))
        (sym (fold-roll-Stmt (SymRun S) (SymRun S) (sym_stmt kinds terms M) (sym_block kinds terms M) x))
        (subst (λ d. Agree (sym_stmt kinds terms M (map-Stmt Stmt Block (SymRun S) (SymRun S) R R' x)) d (walked (roll-Stmt x)) (stmt_keeps (roll-Stmt x)))
        (sym (fold-roll-Stmt (Direct L) (Direct L) step step' x))
        (subst (λ t. Agree (sym_stmt kinds terms M (map-Stmt Stmt Block (SymRun S) (SymRun S) R R' x))
        (step (map-Stmt Stmt Block (Direct L) (Direct L) D D' x)) t
        (stmt_keeps (roll-Stmt x))) (sym (fold-roll-Stmt Walk Inside node_walked node_inside x))
        (subst (λ k. Agree (sym_stmt kinds terms M (map-Stmt Stmt Block (SymRun S) (SymRun S) R R' x)) (step (map-Stmt Stmt Block (Direct L) (Direct L) D D' x))
        (node_walked (map-Stmt Stmt Block Walk Inside walked W' x)) k) (sym (fold-roll-Stmt Keep Keep node_keeps node_all_keep x))
        (subst (λ z. Agree (sym_stmt kinds terms M (map-Stmt Stmt Block (SymRun S) (SymRun S) R R' z)) (step (map-Stmt Stmt Block (Direct L) (Direct L) D D' z))
        (node_walked (map-Stmt Stmt Block Walk Inside walked W' z)) (node_keeps (map-Stmt Stmt Block Keep Keep stmt_keeps K' z))) is (stmt_case y))))))
        (λ x y is.
        subst (λ r. AgreeInside r (D' (roll-Block x)) (W' (roll-Block x)) (K' (roll-Block x)))
        (sym (fold-roll-Block (SymRun S) (SymRun S) (sym_stmt kinds terms M) (sym_block kinds terms M) x))
        (subst (λ d. AgreeInside (sym_block kinds terms M (map-Block Stmt Block (SymRun S) (SymRun S) R R' x)) d (W' (roll-Block x)) (K' (roll-Block x)))
        (sym (fold-roll-Block (Direct L) (Direct L) step step' x))
        (subst (λ t. AgreeInside (sym_block kinds terms M (map-Block Stmt Block (SymRun S) (SymRun S) R R' x))
        (step' (map-Block Stmt Block (Direct L) (Direct L) D D' x)) t
        (K' (roll-Block x))) (sym (fold-roll-Block Walk Inside node_walked node_inside x))
        (subst (λ k. AgreeInside (sym_block kinds terms M (map-Block Stmt Block (SymRun S) (SymRun S) R R' x))
        (step' (map-Block Stmt Block (Direct L) (Direct L) D D' x))
        (node_inside (map-Block Stmt Block Walk Inside walked W' x)) k) (sym (fold-roll-Block Keep Keep node_keeps node_all_keep x))
        (subst (λ z. AgreeInside (sym_block kinds terms M (map-Block Stmt Block (SymRun S) (SymRun S) R R' z))
        (step' (map-Block Stmt Block (Direct L) (Direct L) D D' z))
        (node_inside (map-Block Stmt Block Walk Inside walked W' z)) (node_all_keep (map-Block Stmt Block Keep Keep stmt_keeps K' z))) is (block_case y))))))

    abbrev with_proofs : List Stmt → List St
    with_proofs = map (λ s. (s, all_agree s))

    bare_again : (ss : List Stmt) → heads (with_proofs ss) ≡ ss
    bare_again [] = refl
    bare_again (s ∷ ss) = ap (λ z. s ∷ z) (bare_again ss)

    pub block_grows : (ss : List Stmt) (i : ℕ) (env : SymEnv) (from : S) → Grows (sym_in_order (map R ss) i env from)
    block_grows ss i env from = subst (λ z. Grows (sym_in_order (map R z) i env from)) (bare_again ss) (order_grows (with_proofs ss) i env from)

    -- a run over terms of statements without a type error is worth the direct run
    pub block_gives : (ss : List Stmt) (i : ℕ) (scope : Scope) (env : SymEnv) (from : S) (nodes : List Node) → In scope (worths v env) →
        none (rules.in_order (map walked ss) scope).type_errors ≡ true → all_keep (map stmt_keeps ss) kind ≡ true → EnvShaped nodes env → low.Has nodes from →
        Gives inputs v (sym_in_order (map R ss) i env from) nodes
        (Is (worths v env) (rules.in_order (map walked ss) scope).scope (in_order (map D ss) i (worths v env) (low.value v from)))
    block_gives ss i scope env from nodes =
        subst (λ z. In scope (worths v env) → none (rules.in_order (map walked z) scope).type_errors ≡ true → all_keep (map stmt_keeps z) kind ≡ true →
        EnvShaped nodes env → low.Has nodes from →
        Gives inputs v (sym_in_order (map R z) i env from) nodes
        (Is (worths v env) (rules.in_order (map walked z) scope).scope (in_order (map D z) i (worths v env) (low.value v from)))) (bare_again ss)
        (order_gives (with_proofs ss) i scope env from nodes)
