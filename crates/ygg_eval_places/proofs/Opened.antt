-- What statements do by place, laid open by one layer.
use Rattle.std.proofs.Common.{◌≡◌, ◌+◌, ◌*◌, ℕ, Bool, true, false, if◌then◌else◌, List, map, refl, sym, ap, ◌∙◌, subst, arith}
use Rattle.ygg_syntax.specs.declared.tree.Block.{Block, fold-Block, fold_out-Block}
use Rattle.ygg_syntax.specs.declared.tree.Expr.{Expr}
use Rattle.ygg_syntax.specs.declared.tree.File.{File}
use Rattle.ygg_syntax.specs.declared.tree.Index.{Index}
use Rattle.ygg_syntax.specs.declared.tree.Name.{Name}
use Rattle.ygg_syntax.specs.declared.tree.Numeral.{Numeral}
use Rattle.ygg_syntax.specs.declared.tree.Source.{Source}
use Rattle.ygg_syntax.specs.declared.tree.Stmt.{Stmt}
use Rattle.ygg_syntax.specs.declared.tree.Stmt.TheFolds.{fold-roll-Stmt}
use Rattle.ygg_syntax.specs.declared.tree.Stmt.TheOpen.{Stmt-F}
use Rattle.ygg_syntax.specs.declared.tree.Stmt.TheVariants as tree
use Rattle.ygg_meaning_laws.specs.ygg_meaning.Environments.{Env}
use Rattle.ygg_meaning_laws.specs.ygg_meaning.Meaning.{is_one}
use Rattle.ygg_meaning_laws.specs.Direct.{Direct, Reached, room_of, stmt_direct, block_direct}
use Rattle.ygg_meaning_laws.proofs.Rooms.{room_is}
use Rattle.ygg_eval.specs.Ready.{eval_in}
use Rattle.ygg_eval_places.specs.Machines.{PlaceMeaning}
use Rattle.ygg_eval_places.specs.Walks.{Ended, stmt_part, inside_part, turns_part, parts_room}

module _ {S : Type 0} (M : PlaceMeaning S) (file : File) where
  abbrev Z : Type 0
  Z = Direct M.Is

  abbrev step : Stmt-F Z Z → Z
  step = stmt_direct (eval_in file) M.space M.handle

  abbrev D' : Block → Z
  D' = fold-Block Z Z step (block_direct (eval_in file) M.space M.handle)

  inside_is : (b : Block) → D' b ≡ inside_part M file b
  inside_is b = fold_out-Block Z Z step (block_direct (eval_in file) M.space M.handle) b

  -- a block has as many places as its parts
  pub inside_room : (b : Block) → parts_room M file b.statements ≡ room_of M.space b
  inside_room b = let h = room_is M.space (eval_in file) M.handle b in omega (arith, h)

  module _ (t : Stmt) (place end : ℕ) (env env' : Env) (s s' : M.Is) where
    ended_as : (d : Z) → stmt_part M file t ≡ d → Ended d place env s end env' s' → Ended (stmt_part M file t) place env s end env' s'
    ended_as d e h = subst (λ z. Ended z place env s end env' s') (sym e) h

    pub ended_let : (x : Name) (from : Source) → t ≡ tree.Let x from → Ended (step (Stmt-F.Let x from)) place env s end env' s' →
        Ended (stmt_part M file t) place env s end env' s'
    ended_let x from is = ended_as (step (Stmt-F.Let x from)) (ap (stmt_part M file) (is ∙ sym (tree.rolls-Let x from))
        ∙ fold-roll-Stmt Z Z step (block_direct (eval_in file) M.space M.handle) (Stmt-F.Let x from))

    pub ended_assign : (x : Name) (at : List Index) (from : Source) → t ≡ tree.Assign x at from →
        Ended (step (Stmt-F.Assign x at from)) place env s end env' s' → Ended (stmt_part M file t) place env s end env' s'
    ended_assign x at from is = ended_as (step (Stmt-F.Assign x at from)) (ap (stmt_part M file) (is ∙ sym (tree.rolls-Assign x at from))
        ∙ fold-roll-Stmt Z Z step (block_direct (eval_in file) M.space M.handle) (Stmt-F.Assign x at from))

    pub ended_call : (f : Name) (es : List Expr) → t ≡ tree.Call f es → Ended (step (Stmt-F.Call f es)) place env s end env' s' →
        Ended (stmt_part M file t) place env s end env' s'
    ended_call f es is = ended_as (step (Stmt-F.Call f es)) (ap (stmt_part M file) (is ∙ sym (tree.rolls-Call f es))
        ∙ fold-roll-Stmt Z Z step (block_direct (eval_in file) M.space M.handle) (Stmt-F.Call f es))

    pub ended_for : (x : Name) (w n : Numeral) (each : Block) → t ≡ tree.For x w n each →
        Ended (turns_part M file x w n each) place env s end env' s' → Ended (stmt_part M file t) place env s end env' s'
    ended_for x w n each is = ended_as (step (Stmt-F.For x w n (inside_part M file each))) (ap (stmt_part M file) (is ∙ sym (tree.rolls-For x w n each))
        ∙ fold-roll-Stmt Z Z step (block_direct (eval_in file) M.space M.handle) (Stmt-F.For x w n each)
        ∙ ap (λ p. step (Stmt-F.For x w n p)) (inside_is each))

    if_is : (test : Expr) (first second : Block) → t ≡ tree.If test first second →
        stmt_part M file t ≡ step (Stmt-F.If test (inside_part M file first) (inside_part M file second))
    if_is test first second is =
        ap (stmt_part M file) (is ∙ sym (tree.rolls-If test first second))
        ∙ fold-roll-Stmt Z Z step (block_direct (eval_in file) M.space M.handle) (Stmt-F.If test first second)
        ∙ ap (λ p. step (Stmt-F.If test p (D' second))) (inside_is first)
        ∙ ap (λ p. step (Stmt-F.If test (inside_part M file first) p)) (inside_is second)

    -- the first side was run, and the places of the second are passed over
    pub ended_then : (test : Expr) (first second : Block) (middle : ℕ) → t ≡ tree.If test first second → is_one (eval_in file test env) ≡ true →
        Ended (inside_part M file first) place env s middle env' s' → end ≡ middle + room_of M.space second →
        Ended (stmt_part M file t) place env s end env' s'
    ended_then test first second middle is one h e =
        let a = inside_part M file first in
        let b = inside_part M file second in
        let chosen : Bool → Reached M.Is = λ c. if c then a.run place env s else b.run (place + a.room) env s in
        let count = inside_room second in
        let p = h.place in
        ended_as (step (Stmt-F.If test a b)) (if_is test first second is) (record {
          place = omega (arith, e, p, count);
          names = h.names ∙ ap (λ c. (chosen c).env) (sym one);
          state = h.state ∙ ap (λ c. (chosen c).to) (sym one);
        })

    -- the second side was run, after the places of the first
    pub ended_else : (test : Expr) (first second : Block) (middle : ℕ) → t ≡ tree.If test first second → is_one (eval_in file test env) ≡ false →
        middle ≡ place + room_of M.space first → Ended (inside_part M file second) middle env s end env' s' →
        Ended (stmt_part M file t) place env s end env' s'
    ended_else test first second middle is one m h0 =
        let a = inside_part M file first in
        let b = inside_part M file second in
        let chosen : Bool → Reached M.Is = λ c. if c then a.run place env s else b.run (place + a.room) env s in
        let count = inside_room first in
        let at : middle ≡ place + a.room = omega (arith, m, count) in
        let h = subst (λ k. Ended b k env s end env' s') at h0 in
        let p = h.place in
        ended_as (step (Stmt-F.If test a b)) (if_is test first second is) (record {
          place = omega (arith, p);
          names = h.names ∙ ap (λ c. (chosen c).env) (sym one);
          state = h.state ∙ ap (λ c. (chosen c).to) (sym one);
        })
