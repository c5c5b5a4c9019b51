-- A block whose every call is answered gets to its end.
use Rattle.std.proofs.Common.{
  ◌≡◌,
  ℕ,
  zero,
  suc,
  ◌+◌,
  Bool,
  true,
  false,
  if◌then◌else◌,
  List,
  [],
  ◌∷◌,
  ◌++◌,
  map,
  take,
  length,
  refl,
  sym,
  ap,
  ◌∙◌,
  subst,
  append_assoc,
  append-nil,
}
use Rattle.std.proofs.lemmas.List.{map-append}
use Rattle.ygg_syntax.specs.declared.tree.Stmt.{Stmt, map-Stmt}
use Rattle.ygg_syntax.specs.declared.tree.Block.{Block, map-Block, fold-Block}
use Rattle.ygg_syntax.specs.declared.tree.Stmt.TheOpen.{Stmt-F, Block-F}
use Rattle.ygg_syntax.specs.declared.tree.Stmt.TheFolds.{ind-Stmt, fold-roll-Stmt, fold-roll-Block}
use Rattle.ygg_syntax.specs.declared.tree.Source.{Source}
use Rattle.ygg_syntax.specs.declared.tree.Source.TheVariants as source
use Rattle.ygg_value.specs.declared.row.Value.{Value}
use Rattle.ygg_meaning.specs.Environments.{Name, Env}
use Rattle.ygg_meaning.specs.Meaning.{is_one}
use Rattle.ygg_meaning.specs.Progress.{
  Eval,
  Run,
  Answer,
  Point,
  Waits,
  Goes,
  Question,
  Call,
  and_then,
  forget_since,
  in_turn,
  for_each,
  from_source,
  ask,
  stmt_run,
  block_run,
  run_of,
}
use Rattle.ygg_meaning.specs.Machine.{State, Machine}
use Rattle.ygg_meaning.specs.Runs.{WholeCall, answers_of}
use Rattle.ygg_meaning.proofs.Extends.{Grows, Extends, then_grows, forget_grows, if_grows, ask_grows, turns_extend, source_grows, goes_grows}

abbrev pub Front : Type 0
Front = List Answer → Point

module _ {B X : Type 0} (M : Machine B X) where
  -- the calls that are waited for, one after another
  abbrev pub Walks : Front → List Answer → State B → List (WholeCall B X) → State B → Type 0
  Walks f told from [] to = from ≡ to
  Walks f told from (t ∷ ts) to =
      (f told ≡ Waits (Call t.name t.args)) × M.Calls from t.name t.args t.notes t.answer t.after × Walks f (told ++ t.answer ∷ []) t.after ts to

  pub record Served (s : State B) (q : Question) : Type 0 where
    pub name : Name
    pub args : List Value
    pub notes : List X
    pub answer : Answer
    pub after : State B
    pub is : q ≡ Call name args
    pub call : M.Calls s name args notes answer after

  -- what is waited for is answered
  abbrev pub Serve : Front → State B → Type 0
  Serve f s = (ts : List (WholeCall B X)) (s' : State B) (q : Question) → Walks f [] s ts s' → f (answers_of ts) ≡ Waits q → Served s' q

  pub record Done (f : Front) (s : State B) : Type 0 where
    pub calls : List (WholeCall B X)
    pub to : State B
    pub env : Env
    pub path : Walks f [] s calls to
    pub ends : f (answers_of calls) ≡ Goes env []

  abbrev pub Finishes : Run → Type 0
  Finishes r = (env : Env) (s : State B) → Serve (r env) s → Done (r env) s

  goes_done : (env : Env) (s : State B) → Done (λ answers. Goes env answers) s
  goes_done env s = record { calls = []; to = s; env = env; path = refl; ends = refl }

  ask_done : (q : Question) (f : Answer → Env) (s : State B) → Serve (λ answers. ask q answers (λ a left. Goes (f a) left)) s →
      Done (λ answers. ask q answers (λ a left. Goes (f a) left)) s
  ask_done q f s serve =
      let x = serve [] s q refl refl in
      record {
        calls = record { name = x.name; args = x.args; notes = x.notes; answer = x.answer; after = x.after } ∷ [];
        to = x.after;
        env = f x.answer;
        path = (ap Waits x.is, x.call, refl);
        ends = refl;
      }

  walk_map : (f h : Front) → ((told : List Answer) (q : Question) → f told ≡ Waits q → h told ≡ Waits q) →
      (told : List Answer) (s : State B) (ts : List (WholeCall B X)) (s' : State B) → Walks f told s ts s' → Walks h told s ts s'
  walk_map f h to told s [] s' w = w
  walk_map f h to told s (t ∷ ts) s' (w, call, rest) = (to told _ w, call, walk_map f h to (told ++ t.answer ∷ []) t.after ts s' rest)

  walk_append : (f : Front) (told : List Answer) (s : State B) (ts : List (WholeCall B X)) (s1 : State B) (us : List (WholeCall B X)) (s' : State B) →
      Walks f told s ts s1 → Walks f (told ++ answers_of ts) s1 us s' → Walks f told s (ts ++ us) s'
  walk_append f told s [] s1 us s' w v = subst (λ x. Walks f told x us s') (sym w) (subst (λ l. Walks f l s1 us s') (append-nil told) v)
  walk_append f told s (t ∷ ts) s1 us s' (w, call, rest) v = (
    w,
    call,
    walk_append f (told ++ t.answer ∷ []) t.after ts s1 us s' rest
        (subst (λ l. Walks f l s1 us s') (sym (append_assoc told (t.answer ∷ []) (answers_of ts))) v),
  )

  walk_shift : (f h : Front) (before : List Answer) → ((told : List Answer) → f (before ++ told) ≡ h told) →
      (told : List Answer) (s : State B) (ts : List (WholeCall B X)) (s' : State B) → Walks h told s ts s' → Walks f (before ++ told) s ts s'
  walk_shift f h before same told s [] s' w = w
  walk_shift f h before same told s (t ∷ ts) s' (w, call, rest) = (
    same told ∙ w,
    call,
    subst (λ l. Walks f l t.after ts s') (sym (append_assoc before told (t.answer ∷ [])))
        (walk_shift f h before same (told ++ t.answer ∷ []) t.after ts s' rest),
  )

  forget_done : (before : Env) (f : Front) (s : State B) → (Serve f s → Done f s) → Serve (λ answers. forget_since before (f answers)) s →
      Done (λ answers. forget_since before (f answers)) s
  forget_done before f s fin serve =
      let through : (told : List Answer) (q : Question) → f told ≡ Waits q → forget_since before (f told) ≡ Waits q = λ told q e. ap (forget_since before) e in
      let d = fin (λ ts s' q w e. serve ts s' q (walk_map f (λ answers. forget_since before (f answers)) through [] s ts s' w) (through (answers_of ts) q e)) in
      record {
        calls = d.calls;
        to = d.to;
        env = take (length before) d.env;
        path = walk_map f (λ answers. forget_since before (f answers)) through [] s d.calls d.to d.path;
        ends = ap (forget_since before) d.ends;
      }

  then_done : (f : Front) (next : Run) (s : State B) → ((answers more : List Answer) → Grows more (f answers) (f (answers ++ more))) →
      (Serve f s → Done f s) → Finishes next →
      Serve (λ answers. and_then (f answers) next) s → Done (λ answers. and_then (f answers) next) s
  then_done f next s grows fin finishes serve = record {
    calls = d.calls ++ e.calls;
    to = e.to;
    env = e.env;
    path = walk_append whole [] s d.calls d.to e.calls e.to first (shifted e.calls e.to e.path);
    ends = at_end e.calls ∙ e.ends;
  }
    where
      whole : Front
      whole answers = and_then (f answers) next

      through : (told : List Answer) (q : Question) → f told ≡ Waits q → and_then (f told) next ≡ Waits q
      through told q e = ap (λ p. and_then p next) e

      d : Done f s
      d = fin (λ ts s' q w e. serve ts s' q (walk_map f (λ answers. and_then (f answers) next) through [] s ts s' w) (through (answers_of ts) q e))

      first : Walks (λ answers. and_then (f answers) next) [] s d.calls d.to
      first = walk_map f (λ answers. and_then (f answers) next) through [] s d.calls d.to d.path

      same : (told : List Answer) → and_then (f (answers_of d.calls ++ told)) next ≡ next d.env told
      same told = ap (λ p. and_then p next) (grows (answers_of d.calls) told d.env [] d.ends)

      shifted : (ts : List (WholeCall B X)) (s' : State B) → Walks (next d.env) [] d.to ts s' →
          Walks (λ answers. and_then (f answers) next) (answers_of d.calls) d.to ts s'
      shifted ts s' w =
          subst (λ l. Walks (λ answers. and_then (f answers) next) l d.to ts s') (append-nil (answers_of d.calls))
          (walk_shift (λ answers. and_then (f answers) next) (next d.env) (answers_of d.calls) same [] d.to ts s' w)

      at_end : (ts : List (WholeCall B X)) → and_then (f (answers_of (d.calls ++ ts))) next ≡ next d.env (answers_of ts)
      at_end ts = ap (λ l. and_then (f l) next) (map-append (λ (t : WholeCall B X). t.answer) d.calls ts) ∙ same (answers_of ts)

      e : Done (next d.env) d.to
      e = finishes d.env d.to (λ ts s' q w waits.
          serve (d.calls ++ ts) s' q (walk_append (λ answers. and_then (f answers) next) [] s d.calls d.to ts s' first (shifted ts s' w)) (at_end ts ∙ waits))

  if_done : (b : Bool) (f h : Front) (s : State B) → (Serve f s → Done f s) → (Serve h s → Done h s) →
      Serve (λ answers. if b then f answers else h answers) s → Done (λ answers. if b then f answers else h answers) s
  if_done true f h s u v = u
  if_done false f h s u v = v

  pub record Ending (r : Run) : Type 0 where
    pub extends : Extends r
    pub finishes : Finishes r

  turns_finish : (count i : ℕ) (body : ℕ → Run) → ((i : ℕ) → Ending (body i)) → Finishes (for_each count i body)
  turns_finish zero i body g env s = λ serve. goes_done env s
  turns_finish (suc count) i body g env s = then_done (body i env) (for_each count (i + 1) body) s ((g i).extends env) ((g i).finishes env s)
      (turns_finish count (i + 1) body g)

  source_done : (eval : Eval) (src : Source) (env : Env) (f : Value → Env) (s : State B) →
      Serve (λ answers. from_source eval src env answers (λ v left. Goes (f v) left)) s →
      Done (λ answers. from_source eval src env answers (λ v left. Goes (f v) left)) s
  source_done eval (source.Value e) env f s serve = goes_done (f (eval e env)) s
  source_done eval (source.Choose at) env f s serve = ask_done _ _ s serve
  source_done eval (source.Call at g args) env f s serve = ask_done _ _ s serve

  module _ (eval : Eval) where
    abbrev R : Stmt → Run
    R = run_of eval

    abbrev R' : Block → Run
    R' = fold-Block Run Run (stmt_run eval) block_run

    abbrev S : Type 0
    S = (s : Stmt) × Ending (R s)

    abbrev Bs : Type 0
    Bs = (b : Block) × Ending (R' b)

    stmt_ending : (y : Stmt-F S Bs) → Ending (stmt_run eval (map-Stmt Stmt Block Run Run R R' (map-Stmt S Bs Stmt Block (λ e. e.0) (λ e. e.0) y)))
    stmt_ending (Stmt-F.Let x s) = record {
      extends = λ env answers more. source_grows eval s env _ answers more;
      finishes =
          λ env st serve. source_done eval s env _ st serve;
    }
    stmt_ending (Stmt-F.Assign x at s) = record {
      extends = λ env answers more. source_grows eval s env _ answers more;
      finishes =
          λ env st serve. source_done eval s env _ st serve;
    }
    stmt_ending (Stmt-F.If test first second) = record {
      extends = λ env answers more. if_grows more (is_one (eval test env)) _ _ _ _ (first.1.extends env answers more) (second.1.extends env answers more);
      finishes = λ env st. if_done (is_one (eval test env)) _ _ st (first.1.finishes env st) (second.1.finishes env st);
    }
    stmt_ending (Stmt-F.For x w n each) =
        let body : (i : ℕ) → Ending _ = λ i. record {
          extends = λ env answers more. forget_grows more env _ _ (each.1.extends _ answers more);
          finishes = λ env st. forget_done env _ st (each.1.finishes _ st);
        } in record {
          extends = λ env answers more. turns_extend n.value 0 _ (λ i. (body i).extends) env answers more;
          finishes = λ env st serve. turns_finish n.value 0 _ body env st serve;
        }
    stmt_ending (Stmt-F.Call f args) = record {
      extends = λ env answers more. ask_grows more _ answers _ (λ a left. goes_grows more env left);
      finishes = λ env st serve. ask_done _ _ st serve;
    }

    in_turn_ending : (ss : List S) → Ending (in_turn (map R (map (λ e. e.0) ss)))
    in_turn_ending [] = record { extends = λ env answers more. goes_grows more env answers; finishes = λ env st serve. goes_done env st }
    in_turn_ending (s ∷ ss) =
        let rest = in_turn_ending ss in record {
          extends = λ env answers more. then_grows more _ _ _ (s.1.extends env answers more) rest.extends;
          finishes = λ env st. then_done _ _ st (s.1.extends env) (s.1.finishes env st) rest.finishes;
        }

    block_ending : (y : Block-F S Bs) → Ending (block_run (map-Block Stmt Block Run Run R R' (map-Block S Bs Stmt Block (λ e. e.0) (λ e. e.0) y)))
    block_ending y =
        let inside = in_turn_ending y.statements in record {
          extends = λ env answers more. forget_grows more env _ _ (inside.extends env answers more);
          finishes = λ env st. forget_done env _ st (inside.finishes env st);
        }

    pub all_ending : (s : Stmt) → Ending (R s)
    all_ending =
        ind-Stmt (λ s. Ending (R s)) (λ b. Ending (R' b))
        (λ x y is. subst Ending (sym (fold-roll-Stmt Run Run (stmt_run eval) block_run x))
        (subst (λ z. Ending (stmt_run eval (map-Stmt Stmt Block Run Run R R' z))) is (stmt_ending y)))
        (λ x y is. subst Ending (sym (fold-roll-Block Run Run (stmt_run eval) block_run x))
        (subst (λ z. Ending (block_run (map-Block Stmt Block Run Run R R' z))) is (block_ending y)))

    pub statements_ending : (ss : List Stmt) → Ending (in_turn (map R ss))
    statements_ending [] = record { extends = λ env answers more. goes_grows more env answers; finishes = λ env st serve. goes_done env st }
    statements_ending (s ∷ ss) =
        let rest = statements_ending ss in let here = all_ending s in record {
          extends = λ env answers more. then_grows more _ _ _ (here.extends env answers more) rest.extends;
          finishes = λ env st. then_done _ _ st (here.extends env) (here.finishes env st) rest.finishes;
        }
