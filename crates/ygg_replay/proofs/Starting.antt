-- The start of a specification, and of what a layer is specified over.
use Rattle.std.proofs.Common.{◌≡◌, ℕ, true, IsTrue, List, [], ◌∷◌, take, length, Some, None, Ok, ◌⊎◌, inl, inr, refl, sym, ap, ◌∙◌, subst}
use Rattle.ygg_value.specs.declared.row.Value.{Value}
use Rattle.ygg_syntax.specs.declared.grammar.BlockKind.{BlockKind}
use Rattle.ygg_syntax.specs.declared.grammar.BlockKind.TheVariants as kind
use Rattle.ygg_syntax.specs.declared.tree.Block.{Block}
use Rattle.ygg_syntax.specs.declared.tree.Declared.{Declared}
use Rattle.ygg_sched.specs.ygg_meaning.Environments.{Env, bind}
use Rattle.ygg_sched.specs.ygg_meaning.Shapes.{values_fit}
use Rattle.ygg_sched.specs.ygg_meaning.Progress.{Answer, Question, Choice, Call, Ends}
use Rattle.ygg_sched.specs.ygg_meaning.Runs.{Dialogue}
use Rattle.ygg_sched.specs.ygg_meaning.Spec.{block_outcome}
use Rattle.ygg_eval.specs.declared.body.Part.TheVariants as part
use Rattle.ygg_eval.specs.declared.body.Part.{Part}
use Rattle.ygg_eval.specs.Bodies.{arguments_in, block_in, dialogue_in, variables_in, IsRunnable}
use Rattle.ygg_eval.specs.Conversations.{Exchange, Exchanged, Talks, asked, answers_of}
use Rattle.ygg_eval.specs.Lower.{Standing}
use Rattle.ygg_eval.specs.declared.run.Ended.{Ended}
use Rattle.ygg_eval.specs.declared.run.Ended.TheVariants as ended
use Rattle.ygg_eval.specs.Runs.{Finished, RunEnds}
use Rattle.ygg_eval.specs.Kept.{Kept, spec_meaning}
use Rattle.ygg_eval.proofs.Runs.{ended_outcome}
use Rattle.ygg_eval.proofs.Values.{bind_count}
use Rattle.ygg_replay.specs.declared.site.ReplaySite.{ReplaySite}
use Rattle.ygg_replay.specs.Sites.{IsHere, closed_in}
use Rattle.ygg_replay.specs.Steps.{IsStart}
use Rattle.ygg_eval.specs.Zeros.{zero_values}
use Rattle.ygg_replay.proofs.Typing.{bind_zeros, memory_zeros}
use Rattle.ygg_syntax.specs.declared.tree.File.{File}
use Rattle.ygg_eval.specs.ygg_meaning_laws.Questions.{question_fits}
use Rattle.ygg_eval.specs.Layers.{signatures_at}

-- a plain block asks for nothing
silent : (file : File) (number : ℕ) (block : Dialogue) (from to : Standing Kept) (xs : List (Exchange Kept)) (env : Env) (answer : Answer) →
    Talks (Exchanged spec_meaning file kind.Plain number) (λ told. asked (block told)) [] from xs to → block (answers_of xs) ≡ Ends env answer →
    block [] ≡ Ends env answer
silent file number block from to [] env answer path ends = ends
silent file number block from to (x ∷ xs) env answer (asks, ex, rest) ends = at x.question ex.asks
  where
    at : (q : Question) → IsTrue (question_fits kind.Plain (signatures_at file number) q) → block [] ≡ Ends env answer
    at Choice h = absurd (cc)
    at (Call name args) h = absurd (cc)

-- the `start` block ran wholly from zeros
pub started : (s : ReplaySite) (state : List Value) (answer : Answer) (from to : Standing Kept) →
    values_fit s.layer.now.state (zero_values s.layer.now.state) ≡ true →
    Finished spec_meaning s.typed.now.file kind.Plain s.place
    (dialogue_in s.typed.now.file (record { layer = s.place; part = part.Start; number = 0 }) s.layer.now s.layer.now.start [] (zero_values s.layer.now.state))
    from s.layer.now.state (zero_values s.layer.now.state) state answer to → IsStart s state
started s state answer from to fit f =
    let l = s.layer.now in
    let L = closed_in s in
    let zeros = bind l.state (zero_values l.state) in
    let block = dialogue_in s.typed.now.file (record { layer = s.place; part = part.Start; number = 0 }) l l.start [] (zero_values l.state) in
    let left : take (length zeros) f.env ≡ bind l.state state =
    ap (λ n. take n f.env) (bind_count l.state (zero_values l.state) fit) ∙ sym f.leaves in
    let ends = silent s.typed.now.file s.place block from to f.came.exchanges f.env answer f.came.path f.ends in (
      answer,
      record {
        left = [];
        is = ap (λ vars. block_outcome L l.start vars [] []) (sym (bind_zeros l.state))
            ∙ (ended_outcome L l.start zeros [] [] f.env answer ends ∙ ap (λ v. Some (record { vars = v; answer = answer; left = [] })) left);
        fit = f.fit;
      },
    )

-- and from values that are zeros, with arguments that are none
pub started_so : (s : ReplaySite) (state values args : List Value) (answer : Answer) (from to : Standing Kept) →
    values_fit s.layer.now.state (zero_values s.layer.now.state) ≡ true → values ≡ zero_values s.layer.now.state → args ≡ [] →
    Finished spec_meaning s.typed.now.file kind.Plain s.place
    (dialogue_in s.typed.now.file (record { layer = s.place; part = part.Start; number = 0 }) s.layer.now s.layer.now.start args values)
    from s.layer.now.state values state answer to → IsStart s state
started_so s state values args answer from to fit are none f =
    let Ran = λ (given vs : List Value). Finished spec_meaning s.typed.now.file kind.Plain s.place
    (dialogue_in s.typed.now.file (record { layer = s.place; part = part.Start; number = 0 }) s.layer.now s.layer.now.start given vs)
    from s.layer.now.state vs state answer to in
    started s state answer from to fit (subst (λ (given : List Value). Ran given (zero_values s.layer.now.state)) none (subst (Ran args) are f))

-- the `start` block can be run so
pub start_runs : (s : ReplaySite) (values args : List Value) → IsHere s → values_fit s.layer.now.state (zero_values s.layer.now.state) ≡ true →
    values ≡ zero_values s.layer.now.state → args ≡ [] →
    IsRunnable s.typed.now.file (record { layer = s.place; part = part.Start; number = 0 }) args values
start_runs s values args here fit are none = record {
  layer = s.layer.now;
  block = s.layer.now.start;
  is = record { layer = here; block = refl };
  arguments_fit = ap (values_fit []) none;
  variables_fit = ap (values_fit s.layer.now.state) are ∙ fit;
}

-- a block on a memory of zeros that sees no arguments can be
pub memory_runs : (s : ReplaySite) (p : Part) (b : Block) (values args : List Value) → IsHere s → block_in s.layer.now p 0 ≡ Some b →
    arguments_in s.layer.now p 0 ≡ [] → variables_in s.layer.now p ≡ s.layer.now.memory → values ≡ zero_values s.layer.now.memory → args ≡ [] →
    IsRunnable s.typed.now.file (record { layer = s.place; part = p; number = 0 }) args values
memory_runs s p b values args here is sees changes are none = record {
  layer = s.layer.now;
  block = b;
  is = record { layer = here; block = is };
  arguments_fit = ap (λ ds. values_fit ds args) sees ∙ ap (values_fit []) none;
  variables_fit = ap (λ ds. values_fit ds values) changes ∙ (ap (values_fit s.layer.now.memory) are
      ∙ memory_zeros s.typed.now.file s.typed.now.typed s.typed.now.derivable s.place s.layer.now here);
}

-- without a stop and faults a run is whole
abbrev pub IsWhole : Ended → Type 0
IsWhole (ended.Whole answer) = Unit {0}
IsWhole ended.Stopped = ⊥
IsWhole ended.Short = ⊥
IsWhole ended.Down = ⊥
IsWhole ended.Failed = ⊥

pub whole_only : (file : File) (x : BlockKind) (number : ℕ) (block : Dialogue) (from : Standing Kept) (ds : List Declared) (values values' : List Value)
    (e : Ended) (to : Standing Kept) → RunEnds spec_meaning file x number block from ds values None (Ok e) values' to → IsWhole e
whole_only file x number block from ds values values' (ended.Whole answer) to h = tt
whole_only file x number block from ds values values' ended.Stopped to h = h.is
whole_only file x number block from ds values values' ended.Short to h = h.early
whole_only file x number block from ds values values' ended.Down to h = h.step
whole_only file x number block from ds values values' ended.Failed to h = h.step

pub nothing_but_whole : (e : Ended) → IsWhole e → (e ≡ ended.Stopped) ⊎ ((e ≡ ended.Short) ⊎ ((e ≡ ended.Down) ⊎ (e ≡ ended.Failed))) → ⊥
nothing_but_whole e h (inl is) = subst IsWhole is h
nothing_but_whole e h (inr (inl is)) = subst IsWhole is h
nothing_but_whole e h (inr (inr (inl is))) = subst IsWhole is h
nothing_but_whole e h (inr (inr (inr is))) = subst IsWhole is h
