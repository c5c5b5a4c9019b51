-- Choices of a specification, by place and from the front.
use Rattle.std.proofs.Common.{
  ◌≡◌,
  ◌≤◌,
  ℕ,
  ◌+◌,
  ◌-◌,
  ◌*◌,
  Bool,
  true,
  false,
  List,
  [],
  ◌∷◌,
  ◌++◌,
  map,
  take,
  length,
  replicate,
  sum,
  Some,
  refl,
  sym,
  ap,
  ◌∙◌,
  subst,
  arith,
}
use Rattle.std.specs.List.{fold}
use Rattle.std.proofs.lemmas.List.{append-nil}
use Rattle.ygg_value.specs.Values.{digit}
use Rattle.ygg_syntax.specs.declared.grammar.BlockKind.{BlockKind}
use Rattle.ygg_syntax.specs.declared.grammar.BlockKind.TheVariants.{Spec}
use Rattle.ygg_syntax.specs.declared.tree.Source.{Source}
use Rattle.ygg_syntax.specs.declared.tree.Source.TheVariants as source
use Rattle.ygg_syntax.specs.declared.tree.Stmt.{Stmt, roll-Stmt, map-Stmt}
use Rattle.ygg_syntax.specs.declared.tree.Block.{Block, roll-Block, map-Block, fold-Block}
use Rattle.ygg_syntax.specs.declared.tree.Stmt.TheOpen.{Stmt-F, Block-F}
use Rattle.ygg_syntax.specs.declared.tree.Stmt.TheFolds.{fold-Stmt, ind-Stmt, fold-roll-Stmt, fold-roll-Block}
use Rattle.ygg_syntax.specs.Choices.{source_steps, node_steps, block_steps, stmt_steps, choices_of}
use Rattle.ygg_meaning_laws.specs.Environments.{Name, Env}
use Rattle.ygg_meaning_laws.specs.Progress.{Question, Choice, Call, in_turn, run_of, answer_of}
use Rattle.ygg_meaning_laws.specs.Machine.{Picks}
use Rattle.ygg_meaning_laws.specs.Layer.{ClosedLayer, eval_of}
use Rattle.ygg_meaning_laws.specs.Spec.{Outcome, chosen, outcome_at, block_outcome}
use Rattle.ygg_meaning_laws.proofs.Tests.{left as first_of, right as second_of}
use Rattle.ygg_meaning_laws.specs.Kinds.{may_call, source_keeps, all_keep, node_keeps, node_all_keep, stmt_keeps, keeps}
use Rattle.ygg_meaning_laws.specs.Direct.{
  Handled,
  Event,
  Reached,
  told_by,
  Chained,
  Within,
  total,
  source_space,
  question_space,
  stmt_room,
  block_room,
  room_of,
  direct_run,
}
use Rattle.ygg_meaning_laws.specs.Acts.{next_of, later}
use Rattle.ygg_meaning_laws.specs.Places.{Drawn, Held, by_place, from_front, IsDraw, choosing, EndsSo, ChoicesByPlace}
use Rattle.ygg_meaning_laws.proofs.Order.{block_follows}
use Rattle.ygg_meaning_laws.proofs.Rooms.{room_is}
use Rattle.ygg_meaning_laws.proofs.Placing.{fronted, all_placed, long_append, zeros_long}

never : {A : Type 0} (b : Bool) → b ≡ true → b ≡ false → A
never true e f = absurd (cc)
never false e f = absurd (cc)

abbrev pub one : Name → ℕ
one f = 1

abbrev N : Stmt → ℕ
N = fold-Stmt ℕ ℕ (stmt_room one) (block_room one)

abbrev N' : Block → ℕ
N' = fold-Block ℕ ℕ (stmt_room one) (block_room one)

abbrev C : Stmt → ℕ
C = stmt_steps 1 0

abbrev C' : Block → ℕ
C' = fold-Block ℕ ℕ (node_steps 1 0) block_steps

abbrev K' : Block → BlockKind → Bool
K' = fold-Block (BlockKind → Bool) (BlockKind → Bool) node_keeps node_all_keep

-- what keeps to the kind of a specification has as many places as choices
pub record Alike (k : BlockKind → Bool) (n c : ℕ) : Type 0 where
  pub same : k Spec ≡ true → n ≡ c

abbrev St : Type 0
St = (s : Stmt) × Alike (stmt_keeps s) (N s) (C s)

abbrev Bl : Type 0
Bl = (b : Block) × Alike (K' b) (N' b) (C' b)

source_alike : (s : Source) → source_keeps Spec s ≡ true → source_space one s ≡ source_steps 1 0 s
source_alike (source.Value e) k = refl
source_alike (source.Choose at) k = refl
source_alike (source.Call at f es) k = never (may_call Spec) k refl

stmt_case : (y : Stmt-F St Bl) →
    Alike (node_keeps (map-Stmt Stmt Block (BlockKind → Bool) (BlockKind → Bool) stmt_keeps K' (map-Stmt St Bl Stmt Block (λ e. e.0) (λ e. e.0) y)))
    (stmt_room one (map-Stmt Stmt Block ℕ ℕ N N' (map-Stmt St Bl Stmt Block (λ e. e.0) (λ e. e.0) y)))
    (node_steps 1 0 (map-Stmt Stmt Block ℕ ℕ C C' (map-Stmt St Bl Stmt Block (λ e. e.0) (λ e. e.0) y)))
stmt_case (Stmt-F.Let x s) = record { same = λ k. source_alike s k }
stmt_case (Stmt-F.Assign x is s) = record { same = λ k. source_alike s k }
stmt_case (Stmt-F.If test first second) = record {
  same = λ k.
      ap (λ n. n + N' second.0) (first.1.same (first_of (K' first.0 Spec) (K' second.0 Spec) k))
      ∙ ap (λ n. C' first.0 + n) (second.1.same (second_of (K' first.0 Spec) (K' second.0 Spec) k));
}
stmt_case (Stmt-F.For x w n each) = record { same = λ k. ap (λ m. n.value * m) (each.1.same k) }
stmt_case (Stmt-F.Call f es) = record { same = λ k. never (may_call Spec) k refl }

sum_from : (a b c : ℕ) (ns : List ℕ) → c ≡ a + b → fold (λ x y. x + y) c ns ≡ a + fold (λ x y. x + y) b ns
sum_from a b c [] e = e
sum_from a b c (n ∷ ns) e = sum_from a (b + n) (c + n) ns (omega (arith, e))

sum_more : (n : ℕ) (ns : List ℕ) → sum (n ∷ ns) ≡ n + sum ns
sum_more n ns = sum_from n 0 (0 + n) ns (omega arith)

alike_all : (ss : List St) → Alike (all_keep (map stmt_keeps (map (λ e. e.0) ss))) (total (map N (map (λ e. e.0) ss))) (sum (map C (map (λ e. e.0) ss)))
alike_all [] = record { same = λ k. refl }
alike_all (s ∷ ss) = record {
  same = λ k.
      ap (λ n. n + total (map N (map (λ e. e.0) ss))) (s.1.same (first_of (stmt_keeps s.0 Spec) _ k))
      ∙ ap (λ n. C s.0 + n) ((alike_all ss).same (second_of (stmt_keeps s.0 Spec) _ k)) ∙ sym (sum_more (C s.0) (map C (map (λ e. e.0) ss)));
}

block_case : (y : Block-F St Bl) →
    Alike (node_all_keep (map-Block Stmt Block (BlockKind → Bool) (BlockKind → Bool) stmt_keeps K' (map-Block St Bl Stmt Block (λ e. e.0) (λ e. e.0) y)))
    (block_room one (map-Block Stmt Block ℕ ℕ N N' (map-Block St Bl Stmt Block (λ e. e.0) (λ e. e.0) y)))
    (block_steps (map-Block Stmt Block ℕ ℕ C C' (map-Block St Bl Stmt Block (λ e. e.0) (λ e. e.0) y)))
block_case y = record { same = λ k. (alike_all y.statements).same k }

all_kept : (s : Stmt) → Alike (stmt_keeps s) (N s) (C s)
all_kept =
    ind-Stmt (λ s. Alike (stmt_keeps s) (N s) (C s)) (λ b. Alike (K' b) (N' b) (C' b))
    (λ x y is.
    subst (λ k. Alike k (N (roll-Stmt x)) (C (roll-Stmt x))) (sym (fold-roll-Stmt (BlockKind → Bool) (BlockKind → Bool) node_keeps node_all_keep x))
    (subst (λ n. Alike (node_keeps (map-Stmt Stmt Block (BlockKind → Bool) (BlockKind → Bool) stmt_keeps K' x)) n (C (roll-Stmt x)))
    (sym (fold-roll-Stmt ℕ ℕ (stmt_room one) (block_room one) x))
    (subst (λ c. Alike (node_keeps (map-Stmt Stmt Block (BlockKind → Bool) (BlockKind → Bool) stmt_keeps K' x))
    (stmt_room one (map-Stmt Stmt Block ℕ ℕ N N' x)) c) (sym (fold-roll-Stmt ℕ ℕ (node_steps 1 0) block_steps x))
    (subst (λ z. Alike (node_keeps (map-Stmt Stmt Block (BlockKind → Bool) (BlockKind → Bool) stmt_keeps K' z)) (stmt_room one (map-Stmt Stmt Block ℕ ℕ N N' z))
    (node_steps 1 0 (map-Stmt Stmt Block ℕ ℕ C C' z))) is (stmt_case y)))))
    (λ x y is.
    subst (λ k. Alike k (N' (roll-Block x)) (C' (roll-Block x))) (sym (fold-roll-Block (BlockKind → Bool) (BlockKind → Bool) node_keeps node_all_keep x))
    (subst (λ n. Alike (node_all_keep (map-Block Stmt Block (BlockKind → Bool) (BlockKind → Bool) stmt_keeps K' x)) n (C' (roll-Block x)))
    (sym (fold-roll-Block ℕ ℕ (stmt_room one) (block_room one) x))
    (subst (λ c. Alike (node_all_keep (map-Block Stmt Block (BlockKind → Bool) (BlockKind → Bool) stmt_keeps K' x))
    (block_room one (map-Block Stmt Block ℕ ℕ N N' x)) c) (sym (fold-roll-Block ℕ ℕ (node_steps 1 0) block_steps x))
    (subst (λ z. Alike (node_all_keep (map-Block Stmt Block (BlockKind → Bool) (BlockKind → Bool) stmt_keeps K' z))
    (block_room one (map-Block Stmt Block ℕ ℕ N N' z)) (block_steps (map-Block Stmt Block ℕ ℕ C C' z))) is (block_case y)))))

statements_kept : (ss : List Stmt) → all_keep (map stmt_keeps ss) Spec ≡ true → total (map N ss) ≡ sum (map C ss)
statements_kept [] k = refl
statements_kept (s ∷ ss) k =
    ap (λ n. n + total (map N ss)) ((all_kept s).same (first_of (stmt_keeps s Spec) _ k))
    ∙ ap (λ n. C s + n) (statements_kept ss (second_of (stmt_keeps s Spec) _ k)) ∙ sym (sum_more (C s) (map C ss))

-- a specification's block has as many places as choices
pub choices_room : (b : Block) → keeps Spec b ≡ true → room_of one b ≡ choices_of b
choices_room b k = statements_kept b.statements k

one_each : (q : Question) → question_space one q ≡ 1
one_each Choice = refl
one_each (Call f args) = refl

-- there are no more questions than places
pub questions_few : {S : Type 0} (es : List (Event S)) (low high : ℕ) → Within (question_space one) low es high → low + length es ≤ high
questions_few [] low high w = omega (arith, w)
questions_few (e ∷ es) low high w =
    let h = questions_few es (e.place + question_space one e.question) high w.1 in let o = one_each e.question in let l = w.0 in omega (arith, h, o, l)

module _ (past : Bool) where
  pub choosing_draws : IsDraw past (question_space one) (choosing past)
  choosing_draws = record {
    takes = λ q z picks. (refl, refl);
    looks = λ q z picks other left t. let a = t.0 in let b = t.1 in so (next_of past picks) (next_of past other) (later other) left z a b;
    few = λ q z picks. let h = one_each q in omega (arith, h);
  }
    where
      so : (p o : Bool) (l left : Picks) (z : Picks) → p ≡ o → left ≡ l →
          record { answer = Some (digit o); to = z ++ o ∷ []; taken = o ∷ []; left = l } ≡
          (let d : Drawn Picks = record { answer = Some (digit p); to = z ++ p ∷ []; taken = p ∷ []; left = left } in d)
      so p o l left z a b = cc

  -- where there are picks enough, the answers are the picks that are taken
  pub told_chosen : (es : List (Event (Held Picks))) (so_far picks : Picks) (end : Held Picks) → length es ≤ length picks →
      Chained (from_front (choosing past)) (record { at = so_far; left = picks }) es end → told_by es ++ chosen end.left ≡ chosen picks
  told_chosen [] so_far picks end l c = ap (λ (h : Held Picks). chosen h.left) (sym c)
  told_chosen (e ∷ es) so_far [] end l c = absurd (omega (arith, l))
  told_chosen (e ∷ es) so_far (p ∷ picks) end l c =
      let a : e.answer ≡ Some (digit p) = ap (λ (h : Handled (Held Picks)). h.answer) (sym c.1) in
      let s : e.after ≡ record { at = so_far ++ p ∷ []; left = picks } = ap (λ (h : Handled (Held Picks)). h.to) (sym c.1) in
      ap (λ y. y ∷ told_by es ++ chosen end.left) a
      ∙ ap (λ z. Some (digit p) ∷ z) (told_chosen es (so_far ++ p ∷ []) picks end (omega (arith, l))
      (subst (λ h. Chained (from_front (choosing past)) h es end) s c.2))

  module _ (L : ClosedLayer) (b : Block) (vars args : Env) where
    -- the direct run from the front
    abbrev front_run : Picks → Reached (Held Picks)
    front_run picks = direct_run (eval_of L) one (from_front (choosing past)) b (vars ++ args) (record { at = []; left = picks })

    -- the direct run from the front is what the block ends in
    pub outcome_is : (picks : Picks) → room_of one b ≤ length picks →
        block_outcome L b vars args (chosen picks)
        ≡ Some (record {
          vars = take (length vars) (front_run picks).env;
          answer = answer_of (eval_of L) b.answer (front_run picks).env;
          left =
              chosen (front_run picks).to.left;
        })
    outcome_is picks enough =
        let r = front_run picks in
        let f = block_follows (eval_of L) one (from_front (choosing past)) b.statements 0 (vars ++ args) (record { at = []; left = picks }) in
        let few = questions_few r.events 0 (room_of one b)
        (subst (λ n. Within (question_space one) 0 r.events n) (room_is one (eval_of L) (from_front (choosing past)) b) f.within) in
        ap (λ answers. outcome_at (eval_of L) b vars (in_turn (map (run_of (eval_of L)) b.statements) (vars ++ args) answers))
        (sym (told_chosen r.events [] picks r.to (omega (arith, few, enough)) f.chained))
        ∙ ap (outcome_at (eval_of L) b vars) (f.goes (chosen r.to.left))

    ends_named : (picks : Picks) (env : Env) → room_of one b ≤ length picks → (front_run picks).env ≡ env →
        EndsSo past L b vars args picks (record { vars = take (length vars) env; answer = answer_of (eval_of L) b.answer env })
    ends_named picks env enough same = (
      chosen (front_run picks).to.left,
      outcome_is picks enough ∙ ap (λ env. Some (let o : Outcome =
          record { vars = take (length vars) env; answer = answer_of (eval_of L) b.answer env; left = chosen (front_run picks).to.left } in o)) same,
    )

pub choices_by_place : ChoicesByPlace
choices_by_place past L b vars args most kept enough =
    let room = choices_room b kept in (
      λ picks.
          let h = fronted past (eval_of L) one (choosing past) (choosing_draws past) b (vars ++ args) [] picks in
          let few = h.few in
          let more = replicate (most - length h.taken) false in
          let n = long_append h.taken more in let m = zeros_long (most - length h.taken) in (
            h.taken ++ more,
            omega (arith, few, n, m, enough, room),
            ends_named past L b vars args (h.taken ++ more) _ (omega (arith, few, n, m, enough, room)) (h.names more),
          ),
      λ picks long.
          let p = all_placed past (eval_of L) one (choosing past) (choosing_draws past) b (vars ++ args) [] most (omega (arith, enough, room)) picks in (
            p.put,
            p.long,
            ends_named past L b vars args picks _ (omega (arith, enough, room, long))
                (ap (λ (x : Reached Picks). x.env) (sym (p.mirrors []))
                ∙ ap (λ l. (direct_run (eval_of L) one (by_place (choosing past) l) b (vars ++ args) []).env) (append-nil p.put)),
          ),
    )
