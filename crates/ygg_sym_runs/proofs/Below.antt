-- What holds of nodes stays at a run, where it does at each question of its places.
use Rattle.std.proofs.Common.{◌≡◌, ◌≤◌, ◌+◌, ◌*◌, ℕ, zero, suc, List, [], ◌∷◌, ◌++◌, map, refl, sym, ap, ◌∙◌, subst, arith}
use Rattle.std.specs.Str.{bytes_eq}
use Rattle.ygg_value.specs.Words.{word}
use Rattle.ygg_syntax.specs.declared.tree.Expr.{Expr}
use Rattle.ygg_syntax.specs.declared.tree.Source.{Source}
use Rattle.ygg_syntax.specs.declared.tree.Source.TheVariants as source
use Rattle.ygg_syntax.specs.declared.tree.Stmt.{Stmt, roll-Stmt, map-Stmt}
use Rattle.ygg_syntax.specs.declared.tree.Block.{Block, roll-Block, map-Block, fold-Block}
use Rattle.ygg_syntax.specs.declared.tree.Stmt.TheOpen.{Stmt-F, Block-F}
use Rattle.ygg_syntax.specs.declared.tree.Stmt.TheFolds.{fold-Stmt, ind-Stmt, fold-roll-Stmt, fold-roll-Block}
use Rattle.ygg_meaning_laws.specs.ygg_meaning.Environments.{Name}
use Rattle.ygg_sym_runs.specs.ygg_rules.declared.rule.RuleKind.{RuleKind}
use Rattle.ygg_sym_runs.specs.ygg_bank.Inputs.{InputsBelow}
use Rattle.ygg_sym_runs.specs.ygg_bank.Makes.{Make, pure, and_make}
use Rattle.ygg_sym_runs.specs.ygg_bank.declared.node.Id.{Id}
use Rattle.ygg_sym_runs.specs.ygg_bank.declared.node.Node.{Node}
use Rattle.ygg_sym_runs.specs.ygg_bank.declared.node.Node.TheVariants as node
use Rattle.ygg_sym_runs.specs.ygg_shape_words_proofs_Keeps.{Stays}
use Rattle.ygg_sym_runs.specs.ygg_shape_cells.Making.{merged, selected}
use Rattle.ygg_sym_runs.specs.ygg_shape_cells.declared.terms.SymValue.{SymValue}
use Rattle.ygg_sym_runs.specs.ygg_shape_cells.declared.terms.SymValue.TheVariants.{Word, Row, Table}
use Rattle.ygg_sym_runs.specs.ygg_shape_cells_proofs_Keeps.{merged_keeps, selected_keeps, stored_keeps}
use Rattle.ygg_sym_runs.specs.ygg_shape.RowPlaces.{single, singles, word_stored}
use Rattle.ygg_meaning_laws.specs.Direct.{total, source_space, stmt_room, block_room, room_of}
use Rattle.ygg_sym_runs.specs.Names.{SymEnv}
use Rattle.ygg_sym_runs.specs.Exprs.{SymFunctions, id_in, number_made, sym_value}
use Rattle.ygg_sym_runs.proofs.Keeps.{Keeps, FunctionsKeep, if_keeps, value_keeps, all_keep}
use Rattle.ygg_sym_runs.specs.Putting.{row_in, put_made}
use Rattle.ygg_sym_runs.specs.Runs.{
  SymQuestion,
  Choice,
  Call,
  SymState,
  SymRun,
  SymMachine,
  plain_scope,
  places_of,
  sym_change,
  sym_values,
  sym_source,
  merge_env,
  sym_times,
  sym_in_order,
  sym_each,
  sym_stmt,
  sym_block,
  sym_of,
  sym_run,
}

-- inputs below a number are below a greater one
pub below_more : (a b : ℕ) (nodes : List Node) → a ≤ b → InputsBelow a nodes → InputsBelow b nodes
below_more a b nodes l h = λ place number w e. let k = h place number w e in omega (arith, l, k)

module _ (P : List Node → Type 0) where
  pub change_keeps : (name : Name) (f : SymValue → Make SymValue) → ((x : SymValue) → Keeps P (f x)) → (env : SymEnv) → Keeps P (sym_change name f env)
  change_keeps name f g [] nodes p = p
  change_keeps name f g (x ∷ env) nodes p =
      if_keeps P (bytes_eq x.0 name) (and_make (f x.1) (λ y. pure ((x.0, y) ∷ env))) (and_make (sym_change name f env) (λ rest. pure (x ∷ rest)))
      (λ nodes p. g x.1 nodes p) (λ nodes p. change_keeps name f g env nodes p) nodes p

  module _ (kinds : List RuleKind) (stays : Stays kinds P) where
    pub put_keeps : (old : SymValue) (places : List Id) (new : SymValue) → Keeps P (put_made kinds old places new)
    put_keeps old [] new nodes p = p
    put_keeps (Word a) (i ∷ is) new nodes p = p
    put_keeps (Row row) (i ∷ is) new nodes p = stored_keeps kinds P stays (singles row) i (single (id_in new)) nodes p
    put_keeps (Table t) (i ∷ []) new nodes p = stored_keeps kinds P stays t i (row_in new) nodes p
    put_keeps (Table t) (i ∷ j ∷ is) new nodes p =
        let r = selected kinds t i nodes in
        let q = word_stored kinds r.value j (id_in new) r.nodes in
        stored_keeps kinds P stays t i q.value q.nodes
        (stored_keeps kinds P stays (singles r.value) j (single (id_in new)) r.nodes (selected_keeps kinds P stays t i nodes p))

    pub merge_env_keeps : {S : Type 0} (terms : SymFunctions) (M : SymMachine S) (t : Id) (a b : SymEnv) → Keeps P (merge_env kinds terms M t a b)
    merge_env_keeps terms M t [] b nodes p = p
    merge_env_keeps terms M t (x ∷ a) [] nodes p = p
    merge_env_keeps terms M t (x ∷ a) (y ∷ b) nodes p =
        let o = merged kinds t x.1 y.1 nodes in merge_env_keeps terms M t a b o.nodes (merged_keeps kinds P stays t x.1 y.1 nodes p)

-- how many places a question has
abbrev pub asked_space : (Name → ℕ) → SymQuestion → ℕ
asked_space space Choice = 1
asked_space space (Call f xs) = space f

-- what is asked of a machine: what holds of nodes stays at each question whose places are among the first so many
pub record MachineKeeps {S : Type 0} (P : List Node → Type 0) (top : ℕ) (M : SymMachine S) : Type 0 where
  pub merge : (t : Id) (a b : S) → Keeps P (M.merge t a b)
  pub handle : (i : ℕ) (q : SymQuestion) (s : S) → i + asked_space M.space q ≤ top → Keeps P (M.handle i q s)

module _ {S : Type 0} (P : List Node → Type 0) (top : ℕ) where
  -- what holds stays at a part of a run from a place on
  abbrev pub RunKeeps : ℕ → (ℕ → SymEnv → S → Make (SymState S)) → Type 0
  RunKeeps room run = (i : ℕ) (env : SymEnv) (from : S) → i + room ≤ top → Keeps P (run i env from)

  times_keep : (count k room : ℕ) (body : ℕ → ℕ → SymEnv → S → Make (SymState S)) → ((k : ℕ) → RunKeeps room (body k)) →
      RunKeeps (count * room) (sym_times count k room body)
  times_keep zero k room body g i env from l nodes p = p
  times_keep (suc count) k room body g i env from l nodes p =
      let z = body k i env from nodes in
      let m : i + room ≤ top = omega (arith, l) in
      let n : i + room + count * room ≤ top = omega (arith, l) in
      times_keep count (k + 1) room body g (i + room) z.value.env z.value.to n z.nodes (g k i env from m nodes p)

  module _ (kinds : List RuleKind) (stays : Stays kinds P) (terms : SymFunctions) (keep : FunctionsKeep P terms) (M : SymMachine S)
      (laws : MachineKeeps P top M) where
    pub plain_keeps : (e : Expr) (env : SymEnv) → Keeps P (sym_value kinds terms e (plain_scope env))
    plain_keeps e env nodes p = value_keeps kinds P stays terms keep e (plain_scope env) nodes p

    values_keep : (es : List Expr) (env : SymEnv) → Keeps P (sym_values kinds terms M es env)
    values_keep es env nodes p = all_keep kinds P stays terms keep es (plain_scope env) nodes p

    source_keeps : (s : Source) (i : ℕ) (env : SymEnv) (from : S) → i + source_space M.space s ≤ top → Keeps P (sym_source kinds terms M s i env from)
    source_keeps (source.Value e) i env from l nodes p = plain_keeps e env nodes p
    source_keeps (source.Choose at) i env from l nodes p = laws.handle i Choice from l nodes p
    source_keeps (source.Call at f es) i env from l nodes p =
        let o = sym_values kinds terms M es env nodes in laws.handle i (Call f.text o.value) from l o.nodes (values_keep es env nodes p)

    abbrev R : Stmt → SymRun S
    R = sym_of kinds terms M

    abbrev R' : Block → SymRun S
    R' = fold-Block (SymRun S) (SymRun S) (sym_stmt kinds terms M) (sym_block kinds terms M)

    abbrev N : Stmt → ℕ
    N = fold-Stmt ℕ ℕ (stmt_room M.space) (block_room M.space)

    abbrev N' : Block → ℕ
    N' = fold-Block ℕ ℕ (stmt_room M.space) (block_room M.space)

    -- a part has so many places, and keeps what holds where these are among the first
    record Placed (r : SymRun S) (n : ℕ) : Type 0 where
      room : r.room ≡ n
      keeps : RunKeeps r.room r.run

    abbrev St : Type 0
    St = (s : Stmt) × Placed (R s) (N s)

    abbrev Bl : Type 0
    Bl = (b : Block) × Placed (R' b) (N' b)

    abbrev bare : Stmt-F St Bl → Stmt-F Stmt Block
    bare = map-Stmt St Bl Stmt Block (λ e. e.0) (λ e. e.0)

    abbrev bare' : Block-F St Bl → Block-F Stmt Block
    bare' = map-Block St Bl Stmt Block (λ e. e.0) (λ e. e.0)

    abbrev heads : List St → List Stmt
    heads = map (λ e. e.0)

    order_room : (ss : List St) → total (map (λ r. r.room) (map R (heads ss))) ≡ total (map N (heads ss))
    order_room [] = refl
    order_room (s ∷ ss) = ap (λ n. n + total (map (λ r. r.room) (map R (heads ss)))) s.1.room ∙ ap (λ n. N s.0 + n) (order_room ss)

    order_keeps : (ss : List St) → RunKeeps (total (map (λ r. r.room) (map R (heads ss)))) (sym_in_order (map R (heads ss)))
    order_keeps [] i env from l nodes p = p
    order_keeps (s ∷ ss) i env from l nodes p =
        let a = (R s.0).run i env from nodes in
        let rest = total (map (λ r. r.room) (map R (heads ss))) in
        let m : i + (R s.0).room ≤ top = omega (arith, l) in
        let n : i + (R s.0).room + rest ≤ top = omega (arith, l) in
        order_keeps ss (i + (R s.0).room) a.value.env a.value.to n a.nodes (s.1.keeps i env from m nodes p)

    if_keep : (test : Expr) (a b : Bl) → RunKeeps ((R' a.0).room + (R' b.0).room) (sym_stmt kinds terms M (Stmt-F.If test (R' a.0) (R' b.0))).run
    if_keep test a b i env from l nodes p =
        let x = sym_value kinds terms test (plain_scope env) nodes in
        let f = (R' a.0).run i env from x.nodes in
        let s = (R' b.0).run (i + (R' a.0).room) env from f.nodes in
        let e = merge_env kinds terms M (id_in x.value) f.value.env s.value.env s.nodes in
        let m : i + (R' a.0).room ≤ top = omega (arith, l) in
        let n : i + (R' a.0).room + (R' b.0).room ≤ top = omega (arith, l) in
        let one = a.1.keeps i env from m x.nodes (plain_keeps test env nodes p) in
        let two = b.1.keeps (i + (R' a.0).room) env from n f.nodes one in
        laws.merge (id_in x.value) f.value.to s.value.to e.nodes
        (merge_env_keeps P kinds stays terms M (id_in x.value) f.value.env s.value.env s.nodes two)

    stmt_case : (y : Stmt-F St Bl) →
        Placed (sym_stmt kinds terms M (map-Stmt Stmt Block (SymRun S) (SymRun S) R R' (bare y))) (stmt_room M.space (map-Stmt Stmt Block ℕ ℕ N N' (bare y)))
    stmt_case (Stmt-F.Let x s) = record { room = refl; keeps = λ i env from l nodes p. source_keeps s i env from l nodes p }
    stmt_case (Stmt-F.Assign x at s) = record {
      room = refl;
      keeps = λ i env from l nodes p.
          let a = sym_values kinds terms M (places_of at) env nodes in
          let g = sym_source kinds terms M s i env from a.nodes in
          change_keeps P x.text (λ old. put_made kinds old (map id_in a.value) g.value.value)
          (λ old. put_keeps P kinds stays old (map id_in a.value) g.value.value) env g.nodes
          (source_keeps s i env from l a.nodes (values_keep (places_of at) env nodes p));
    }
    stmt_case (Stmt-F.If test a b) = record {
      room = ap (λ n. n + (R' b.0).room) a.1.room ∙ ap (λ n. N' a.0 + n) b.1.room;
      keeps = if_keep test a b;
    }
    stmt_case (Stmt-F.For x w n each) = record {
      room = ap (λ m. n.value * m) each.1.room;
      keeps = times_keep n.value 0 (R' each.0).room (sym_each kinds terms M x.text w.value (R' each.0))
          (λ k i env from l nodes p.
          let y = number_made kinds w.value k nodes in
          each.1.keeps i (env ++ (x.text, y.value) ∷ []) from l y.nodes (stays (node.Const (word w.value k)) nodes tt p));
    }
    stmt_case (Stmt-F.Call f es) = record {
      room = refl;
      keeps = λ i env from l nodes p.
          let o = sym_values kinds terms M es env nodes in laws.handle i (Call f.text o.value) from l o.nodes (values_keep es env nodes p);
    }

    block_case : (y : Block-F St Bl) →
        Placed (sym_block kinds terms M (map-Block Stmt Block (SymRun S) (SymRun S) R R' (bare' y)))
        (block_room M.space (map-Block Stmt Block ℕ ℕ N N' (bare' y)))
    block_case y = record { room = order_room y.statements; keeps = λ i env from l nodes p. order_keeps y.statements i env from l nodes p }

    all_placed : (s : Stmt) → Placed (R s) (N s)
    all_placed =
        ind-Stmt (λ s. Placed (R s) (N s)) (λ b. Placed (R' b) (N' b))
        (λ x y is.
        subst (λ r. Placed r (N (roll-Stmt x))) (sym (fold-roll-Stmt (SymRun S) (SymRun S) (sym_stmt kinds terms M) (sym_block kinds terms M) x))
        (subst (λ n. Placed (sym_stmt kinds terms M (map-Stmt Stmt Block (SymRun S) (SymRun S) R R' x)) n)
        (sym (fold-roll-Stmt ℕ ℕ (stmt_room M.space) (block_room M.space) x))
        (subst (λ z. Placed (sym_stmt kinds terms M (map-Stmt Stmt Block (SymRun S) (SymRun S) R R' z)) (stmt_room M.space (map-Stmt Stmt Block ℕ ℕ N N' z))) is
        (stmt_case y))))
        (λ x y is.
        subst (λ r. Placed r (N' (roll-Block x))) (sym (fold-roll-Block (SymRun S) (SymRun S) (sym_stmt kinds terms M) (sym_block kinds terms M) x))
        (subst (λ n. Placed (sym_block kinds terms M (map-Block Stmt Block (SymRun S) (SymRun S) R R' x)) n)
        (sym (fold-roll-Block ℕ ℕ (stmt_room M.space) (block_room M.space) x))
        (subst (λ z. Placed (sym_block kinds terms M (map-Block Stmt Block (SymRun S) (SymRun S) R R' z))
        (block_room M.space (map-Block Stmt Block ℕ ℕ N N' z)))
        is (block_case y))))

    abbrev with_proofs : List Stmt → List St
    with_proofs = map (λ s. (s, all_placed s))

    bare_again : (ss : List Stmt) → heads (with_proofs ss) ≡ ss
    bare_again [] = refl
    bare_again (s ∷ ss) = ap (λ z. s ∷ z) (bare_again ss)

    -- what holds of nodes stays at a run of a block that has no more places
    pub run_keeps : (b : Block) (env : SymEnv) (from : S) → room_of M.space b ≤ top → Keeps P (sym_run kinds terms M b env from)
    run_keeps b env from l nodes p =
        let q = subst (λ ss. RunKeeps (total (map (λ r. r.room) (map R ss))) (sym_in_order (map R ss))) (bare_again b.statements)
        (order_keeps (with_proofs b.statements)) in
        let e = subst (λ ss. total (map (λ r. r.room) (map R ss)) ≡ total (map N ss)) (bare_again b.statements) (order_room (with_proofs b.statements)) in
        q 0 env from (omega (arith, e, l)) nodes p
