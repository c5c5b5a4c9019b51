-- Statements over terms end as they are defined to.
use Rattle.std.proofs.Common.{◌≡◌, ℕ, ◌+◌, List, [], ◌∷◌, ◌++◌, map, refl, ap, ◌∙◌, subst, arith}
use Rattle.ygg_syntax.specs.declared.tree.Expr.{Expr}
use Rattle.ygg_syntax.specs.declared.tree.Index.{Index}
use Rattle.ygg_syntax.specs.declared.tree.Name as tree
use Rattle.ygg_syntax.specs.declared.tree.Source.{Source}
use Rattle.ygg_syntax.specs.declared.tree.Stmt.TheOpen.{Stmt-F}
use Rattle.ygg_meaning_laws.specs.ygg_meaning.Environments.{Name}
use Rattle.ygg_sym_runs.specs.ygg_rules.declared.rule.RuleKind.{RuleKind}
use Rattle.ygg_sym_runs.specs.ygg_bank.Makes.{Out}
use Rattle.ygg_sym_runs.specs.ygg_bank.declared.node.Id.{Id}
use Rattle.ygg_sym_runs.specs.ygg_bank.declared.node.Node.{Node}
use Rattle.ygg_sym_runs.specs.ygg_shape_cells.declared.terms.SymValue.{SymValue}
use Rattle.ygg_meaning_laws.specs.Direct.{source_space}
use Rattle.ygg_sym_runs.specs.Names.{SymEnv}
use Rattle.ygg_sym_runs.specs.Exprs.{SymFunctions, id_in, sym_value}
use Rattle.ygg_sym_runs.specs.Lower.{KeepsSingle}
use Rattle.ygg_sym_runs.specs.Putting.{put_made}
use Rattle.ygg_sym_runs.specs.Ready.{Ended}
use Rattle.ygg_sym_runs.specs.Runs.{Call, SymRun, SymState, SymHandled, SymGot, SymMachine, plain_scope}
use Rattle.ygg_sym_runs.specs.Runs.{places_of, state, sym_change, sym_values, sym_source, merge_state, sym_stmt}
use Rattle.ygg_sym_runs.proofs.Zeros.{single_both}

module _ {S : Type 0} (kinds : List RuleKind) (terms : SymFunctions) (N : SymMachine S) where
  pub let_ends : (x : tree.Name) (from : Source) (i end : ℕ) (env env' : SymEnv) (s s' : S) (old new : List Node) (y : SymValue) →
      end ≡ i + source_space N.space from → new ≡ (sym_source kinds terms N from i env s old).nodes →
      y ≡ (sym_source kinds terms N from i env s old).value.value → s' ≡ (sym_source kinds terms N from i env s old).value.to →
      env' ≡ env ++ (x.text, y) ∷ [] → KeepsSingle old new → Ended (sym_stmt kinds terms N (Stmt-F.Let x from)) i env s old end env' s' new
  let_ends x from i end env env' s s' old new y p e f g q k = record {
    place = p;
    nodes = e;
    names = q ∙ ap (λ (z : SymValue). env ++ (x.text, z) ∷ []) f;
    state = g;
    single = k;
  }

  pub assign_ends : (x : tree.Name) (is : List Index) (from : Source) (i end : ℕ) (env env' : SymEnv) (s s' : S) (old mid next new : List Node)
      (ids : List Id) (y : SymValue) (name : Name) →
      end ≡ i + source_space N.space from → mid ≡ (sym_values kinds terms N (places_of is) env old).nodes →
      ids ≡ map id_in (sym_values kinds terms N (places_of is) env old).value → next ≡ (sym_source kinds terms N from i env s mid).nodes →
      y ≡ (sym_source kinds terms N from i env s mid).value.value → s' ≡ (sym_source kinds terms N from i env s mid).value.to → name ≡ x.text →
      new ≡ (sym_change name (λ old. put_made kinds old ids y) env next).nodes → env' ≡ (sym_change name (λ old. put_made kinds old ids y) env next).value →
      KeepsSingle old mid → KeepsSingle mid next → KeepsSingle next new →
      Ended (sym_stmt kinds terms N (Stmt-F.Assign x is from)) i env s old end env' s' new
  assign_ends x is from i end env env' s s' old mid next new ids y name p e f g h t q u w k l m =
      let v = sym_values kinds terms N (places_of is) env old in
      let o = sym_source kinds terms N from i env s v.nodes in
      let C : Name → List Id → SymValue → List Node → Out SymEnv = λ n ids y ns. sym_change n (λ old. put_made kinds old ids y) env ns in
      let G : List Node → Out (SymGot S) = λ ns. sym_source kinds terms N from i env s ns in
      let same : C name ids y next ≡ C x.text (map id_in v.value) o.value.value o.nodes =
      ap (λ (z : Name). C z ids y next) q ∙ ap (λ (z : List Id). C x.text z y next) f
      ∙ ap (λ (z : SymValue). C x.text (map id_in v.value) z next) (h ∙ ap (λ ns. (G ns).value.value) e)
      ∙ ap (λ ns. C x.text (map id_in v.value) o.value.value ns) (g ∙ ap (λ ns. (G ns).nodes) e) in
      record {
        place = p;
        nodes = u ∙ ap (λ (z : Out SymEnv). z.nodes) same;
        names = w ∙ ap (λ (z : Out SymEnv). z.value) same;
        state = t ∙ ap (λ ns. (G ns).value.to) e;
        single = single_both old next new (single_both old mid next k l) m;
      }

  pub call_ends : (f : tree.Name) (es : List Expr) (i end : ℕ) (env : SymEnv) (s s' : S) (old mid new : List Node) (xs : List SymValue) (name : Name) →
      end ≡ i + N.space f.text → mid ≡ (sym_values kinds terms N es env old).nodes → xs ≡ (sym_values kinds terms N es env old).value → name ≡ f.text →
      new ≡ (N.handle i (Call name xs) s mid).nodes → s' ≡ (N.handle i (Call name xs) s mid).value.to → KeepsSingle old mid → KeepsSingle mid new →
      Ended (sym_stmt kinds terms N (Stmt-F.Call f es)) i env s old end env s' new
  call_ends f es i end env s s' old mid new xs name p e g q u w k l =
      let v = sym_values kinds terms N es env old in
      let H : Name → List SymValue → List Node → Out (SymHandled S) = λ n xs ns. N.handle i (Call n xs) s ns in
      let same : H name xs mid ≡ H f.text v.value v.nodes =
      ap (λ (z : Name). H z xs mid) q ∙ ap (λ (z : List SymValue). H f.text z mid) g ∙ ap (λ ns. H f.text v.value ns) e in
      record {
        place = p;
        nodes = u ∙ ap (λ (z : Out (SymHandled S)). z.nodes) same;
        names = refl;
        state = w ∙ ap (λ (z : Out (SymHandled S)). z.value.to) same;
        single = single_both old mid new k l;
      }

  pub if_ends : (test : Expr) (r q : SymRun S) (i middle end : ℕ) (env env1 env2 env3 copied : SymEnv) (s s1 s2 s3 copy : S)
      (old mid n1 n2 n3 : List Node) (y : SymValue) (t : Id) →
      mid ≡ (sym_value kinds terms test (plain_scope env) old).nodes → y ≡ (sym_value kinds terms test (plain_scope env) old).value → t ≡ id_in y →
      Ended r i env s mid middle env1 s1 n1 → copied ≡ env → copy ≡ s → Ended q middle copied copy n1 end env2 s2 n2 →
      n3 ≡ (merge_state kinds terms N t (state env1 s1) (state env2 s2) n2).nodes →
      env3 ≡ (merge_state kinds terms N t (state env1 s1) (state env2 s2) n2).value.env →
      s3 ≡ (merge_state kinds terms N t (state env1 s1) (state env2 s2) n2).value.to → KeepsSingle old mid → KeepsSingle n2 n3 →
      Ended (sym_stmt kinds terms N (Stmt-F.If test r q)) i env s old end env3 s3 n3
  if_ends test r q i middle end env env1 env2 env3 copied s s1 s2 s3 copy old mid n1 n2 n3 y t e f g first ce cs second u w z k l =
      let x = sym_value kinds terms test (plain_scope env) old in
      let a = r.run i env s x.nodes in
      let b = q.run (i + r.room) env s a.nodes in
      let p = subst (λ ns. Ended r i env s ns middle env1 s1 n1) e first in
      let qb : q.run middle copied copy n1 ≡ b =
      ap (λ (m : ℕ). q.run m copied copy n1) p.place ∙ ap (λ (c : SymEnv). q.run (i + r.room) c copy n1) ce
      ∙ ap (λ (c : S). q.run (i + r.room) env c n1) cs ∙ ap (λ (ns : List Node). q.run (i + r.room) env s ns) p.nodes in
      let n2_is : n2 ≡ b.nodes = second.nodes ∙ ap (λ (o : Out (SymState S)). o.nodes) qb in
      let env2_is : env2 ≡ b.value.env = second.names ∙ ap (λ (o : Out (SymState S)). o.value.env) qb in
      let s2_is : s2 ≡ b.value.to = second.state ∙ ap (λ (o : Out (SymState S)). o.value.to) qb in
      let W : Id → SymEnv → S → SymEnv → S → List Node → Out (SymState S) =
      λ t e1 z1 e2 z2 ns. merge_state kinds terms N t (state e1 z1) (state e2 z2) ns in
      let same : W t env1 s1 env2 s2 n2 ≡ W (id_in x.value) a.value.env a.value.to b.value.env b.value.to b.nodes =
      ap (λ (c : Id). W c env1 s1 env2 s2 n2) (g ∙ ap id_in f) ∙ ap (λ (c : SymEnv). W (id_in x.value) c s1 env2 s2 n2) p.names
      ∙ ap (λ (c : S). W (id_in x.value) a.value.env c env2 s2 n2) p.state
      ∙ ap (λ (c : SymEnv). W (id_in x.value) a.value.env a.value.to c s2 n2) env2_is
      ∙ ap (λ (c : S). W (id_in x.value) a.value.env a.value.to b.value.env c n2) s2_is
      ∙ ap (λ (c : List Node). W (id_in x.value) a.value.env a.value.to b.value.env b.value.to c) n2_is in
      record {
        place = let m = p.place in let o = second.place in omega (arith, m, o);
        nodes = u ∙ ap (λ (o : Out (SymState S)). o.nodes) same;
        names = w ∙ ap (λ (o : Out (SymState S)). o.value.env) same;
        state = z ∙ ap (λ (o : Out (SymState S)). o.value.to) same;
        single = single_both old n2 n3 (single_both old n1 n2 (single_both old mid n1 k first.single) second.single) l;
      }
