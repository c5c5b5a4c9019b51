-- A block of a specification asks for choices alone, and each takes the next pick.
use Rattle.std.proofs.Common.{◌≡◌, ℕ, true, List, [], ◌∷◌, ◌++◌, map, length, take, Some, refl, sym, ap, ◌∙◌, subst}
use Rattle.ygg_value.specs.Values.{digit}
use Rattle.ygg_value.specs.declared.row.Value.{Value}
use Rattle.ygg_syntax.specs.declared.grammar.BlockKind.TheVariants as kind
use Rattle.ygg_syntax.specs.declared.tree.Block.{Block}
use Rattle.ygg_syntax.specs.declared.tree.Layer.{Layer}
use Rattle.ygg_syntax.specs.declared.tree.File.{File}
use Rattle.ygg_eval.specs.ygg_disk.Power.{pick_of}
use Rattle.ygg_eval.specs.ygg_meaning.Environments.{Env, bind}
use Rattle.ygg_eval.specs.ygg_meaning.Shapes.{values_fit}
use Rattle.ygg_eval.specs.ygg_meaning.Progress.{
  Question,
  Choice,
  Call,
  Answer,
  Point,
  Waits,
  Goes,
  Progress,
  Asks,
  Ends,
  Stray,
  in_turn,
  run_of,
  answer_of,
  ended,
  after,
}
use Rattle.ygg_eval.specs.ygg_meaning.Machine.{Picks}
use Rattle.ygg_eval.specs.ygg_meaning.Layer.{ClosedLayer, eval_of}
use Rattle.ygg_eval.specs.ygg_meaning.Spec.{chosen, outcome_at, block_outcome}
use Rattle.ygg_eval.specs.declared.body.Body.{Body}
use Rattle.ygg_eval.specs.declared.body.Part.{Part}
use Rattle.ygg_eval.specs.declared.body.Part.TheVariants as part
use Rattle.ygg_eval.specs.Layers.{closed_at}
use Rattle.ygg_eval.specs.Bodies.{IsBlock, IsRunnable, arguments_in, variables_in, kind_of, dialogue_in}
use Rattle.ygg_eval.specs.Lower.{Standing, Meaning}
use Rattle.ygg_eval.specs.Conversations.{Asking, Exchange, Exchanged, Talks, asked, answers_of}
use Rattle.ygg_eval.specs.Runs.{Finished}
use Rattle.ygg_eval.specs.Taken.{TakesOnly}
use Rattle.ygg_eval.specs.Ran.{Ran}
use Rattle.ygg_eval.proofs.Stepping.{no_pick, one_pick}
use Rattle.ygg_eval.specs.Keeping.{takes_both}
use Rattle.ygg_eval.proofs.Values.{bind_count}

-- the answers are those of the next picks
pub record AreChosen {S : Type 0} (answers : List Answer) (from to : Standing S) : Type 0 where
  pub picks : Picks
  pub are : answers ≡ chosen picks
  pub takes : TakesOnly picks from.power to.power

module _ {S : Type 0} (M : Meaning S) (file : File) (number : ℕ) where
  -- one question is a choice
  one_chosen : (from : Standing S) (q : Question) (a : Answer) (to : Standing S) → Exchanged M file kind.Spec number from q a to → AreChosen (a ∷ []) from to
  one_chosen from (Call name args) a to ex = let h = ex.asks in absurd (cc)
  one_chosen from Choice a to ex =
      let (is, same) = ex.answered.step in record {
        picks = pick_of from.power.picks ∷ [];
        are = ap (λ x. x ∷ []) is;
        takes = subst (λ (s : Standing S). TakesOnly (pick_of from.power.picks ∷ []) from.power s.power) (sym same)
            (one_pick (pick_of from.power.picks) from.power _ refl refl);
      }

  pub all_chosen : (asking : Asking) (told : List Answer) (from : Standing S) (xs : List (Exchange S)) (to : Standing S) →
      Talks (Exchanged M file kind.Spec number) asking told from xs to → AreChosen (answers_of xs) from to
  all_chosen asking told from [] to h = record {
    picks = [];
    are = refl;
    takes =
        subst (λ (s : Standing S). TakesOnly [] from.power s.power) h (no_pick from.power);
  }
  all_chosen asking told from (x ∷ xs) to (asks, ex, rest) =
      let one = one_chosen from x.question x.answer x.after ex in
      let more = all_chosen asking (told ++ x.answer ∷ []) x.after xs to rest in
      record {
        picks = one.picks ++ more.picks;
        are = ap (λ front. front ++ answers_of xs) one.are ∙ ap (λ rest. chosen one.picks ++ rest) more.are ∙ sym (chosen_append one.picks more.picks);
        takes = takes_both one.picks more.picks from.power x.after.power to.power one.takes more.takes;
      }
    where
      chosen_append : (p q : Picks) → chosen (p ++ q) ≡ chosen p ++ chosen q
      chosen_append [] q = refl
      chosen_append (b ∷ p) q = ap (λ rest. Some (digit b) ∷ rest) (chosen_append p q)

-- the names that a block began with come first among those that it leaves
take_front : (vars args env : Env) → take (length vars) (take (length (vars ++ args)) env) ≡ take (length vars) env
take_front [] args env = none (take (length args) env) ∙ sym (none env)
  where
    none : (e : Env) → take 0 e ≡ []
    none [] = refl
    none (b ∷ e) = refl
take_front (v ∷ vars) args [] = refl
take_front (v ∷ vars) args (b ∷ env) = ap (λ e. b ∷ e) (take_front vars args env)

-- where a block ends with all answers used, this is its outcome
pub ended_outcome : (L : ClosedLayer) (b : Block) (vars args : Env) (answers : List Answer) (env : Env) (answer : Answer) →
    after (eval_of L) b (vars ++ args) answers ≡ Ends env answer
    → block_outcome L b vars args answers ≡ Some (record { vars = take (length vars) env; answer = answer; left = [] })
ended_outcome L b vars args answers env answer h = at (in_turn (map (run_of (eval_of L)) b.statements) (vars ++ args) answers) h
  where
    env_in : Progress → Env
    env_in (Ends e a) = e
    env_in (Asks q) = env
    env_in Stray = env

    at : (p : Point) → ended (eval_of L) b.answer (vars ++ args) p ≡ Ends env answer →
        outcome_at (eval_of L) b vars p ≡ Some (record { vars = take (length vars) env; answer = answer; left = [] })
    at (Waits q) h = absurd (cc)
    at (Goes e (a ∷ left)) h = absurd (cc)
    at (Goes e []) h =
        let vars_are : take (length (vars ++ args)) e ≡ env = cc in
        let answer_is : answer_of (eval_of L) b.answer e ≡ answer = cc in
        ap (λ v. Some (record { vars = v; answer = answer_of (eval_of L) b.answer e; left = [] }))
        (sym (take_front vars args e) ∙ ap (take (length vars)) vars_are)
        ∙ ap (λ a. Some (record { vars = take (length vars) env; answer = a; left = [] })) answer_is

-- the blocks of a specification change its variables
pub spec_variables : (l : Layer) (p : Part) → kind_of p ≡ kind.Spec → variables_in l p ≡ l.state
spec_variables l part.Start e = refl
spec_variables l part.Spec e = refl
spec_variables l part.OnCrash e = refl
spec_variables l part.Crash e = refl
spec_variables l part.Format e = absurd (cc)
spec_variables l part.Impl e = absurd (cc)
spec_variables l part.Tick e = absurd (cc)
spec_variables l part.Recover e = absurd (cc)

-- a block that came to its end ran wholly
pub finished_ran : {S : Type 0} (M : Meaning S) (file : File) (body : Body) (l : Layer) (b : Block) (args values values' : List Value)
    (answer : Answer) (from to : Standing S) → kind_of body.part ≡ kind.Spec
    → values_fit (variables_in l body.part) values ≡ true
    → Finished M file (kind_of body.part) body.layer (dialogue_in file body l b args values) from (variables_in l body.part) values values' answer to
    → Ran file body l b args answer values values' from.power to.power
finished_ran M file body l b args values values' answer from to k e f =
    record { picks = c.picks; gives = gives; takes = c.takes; fit = subst (λ ds. values_fit ds values' ≡ true) (spec_variables l body.part k) f.fit }
  where
    c : AreChosen (answers_of f.came.exchanges) from to
    c = all_chosen M file body.layer (λ told. asked (dialogue_in file body l b args values told)) [] from f.came.exchanges to
        (subst (λ x. Talks (Exchanged M file x body.layer) (λ told. asked (dialogue_in file body l b args values told)) [] from f.came.exchanges to) k
        f.came.path)

    gives : block_outcome (closed_at file body.layer l) b (bind l.state values) (bind (arguments_in l body.part body.number) args) (chosen c.picks)
        ≡ Some (record { vars = bind l.state values'; answer = answer; left = [] })
    gives =
        let L = closed_at file body.layer l in
        let ds = variables_in l body.part in
        let seen = bind (arguments_in l body.part body.number) args in
        let left : take (length (bind ds values)) f.env ≡ bind ds values' = ap (λ n. take n f.env) (bind_count ds values e) ∙ sym f.leaves in
        subst (λ ds. block_outcome (closed_at file body.layer l) b (bind ds values) (bind (arguments_in l body.part body.number) args)
        (chosen c.picks) ≡ Some (record { vars = bind ds values'; answer = answer; left = [] }))
        (spec_variables l body.part k)
        (ap (block_outcome L b (bind ds values) seen) (sym c.are)
        ∙ ended_outcome L b (bind ds values) seen (answers_of f.came.exchanges) f.env answer f.ends
        ∙ ap (λ v. Some (record { vars = v; answer = answer; left = [] })) left)

-- the values of a block that can be run fit its variables
pub runnable_fits : (file : File) (body : Body) (args values : List Value) (l : Layer) (b : Block) → IsRunnable file body args values →
    IsBlock file body l b → values_fit (variables_in l body.part) values ≡ true
runnable_fits file body args values l b r is = subst (λ (x : Layer). values_fit (variables_in x body.part) values ≡ true)
    (same r.layer l (sym r.is.layer ∙ is.layer)) r.variables_fit
  where
    same : (a b : Layer) → Some a ≡ Some b → a ≡ b
    same a b h = cc
