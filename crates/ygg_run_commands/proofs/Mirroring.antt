-- What layers do on the calls that are made on a ground is the same wherever they began.
use Rattle.std.proofs.Common.{◌≡◌, List, ◌++◌, length, refl, sym, ap, ◌∙◌, subst}
use Rattle.ygg_syntax.specs.declared.tree.File.{File}
use Rattle.ygg_run.specs.ygg_disk.Disk as disk
use Rattle.ygg_run.specs.ygg_disk.Ground.{Meaning}
use Rattle.ygg_run.specs.ygg_meaning.Environments.{Env}
use Rattle.ygg_run.specs.ygg_meaning.Machine.{State, Machine}
use Rattle.ygg_run.specs.ygg_meaning.DiskMachine.{machine_on}
use Rattle.ygg_run.specs.ygg_meaning.Stack.{layers_of}
use Rattle.ygg_run.specs.ygg_meaning.Mirror.{SameOn, IsJoined, FormattedIf, Mirrors}
use Rattle.ygg_run.specs.ygg_meaning.Noted.{Note}
use Rattle.ygg_run.specs.ygg_meaning.StepLaws.{Same}
use Rattle.ygg_run.specs.ygg_meaning.Grounds.{ground_store, OnGround}
use Rattle.ygg_run.specs.ygg_meaning_proofs_Mirrored.{stacked_mirrors}
use Rattle.ygg_run.proofs.of_ygg_meaning.Stores.{StoreMirrors, machine_mirrors}
use Rattle.ygg_run.specs.ygg_eval.Lower.{Cause, PowerLoss, GivenUp}
use Rattle.ygg_run.specs.ygg_machine.GroundSteps.{ground_steps, ground_machine, ground_calls}
use Rattle.ygg_run.specs.ygg_machine.Bottoms.{bottom_on}
use Rattle.ygg_run.specs.ygg_machine.Told.{SameNotes}
use Rattle.ygg_run.proofs.of_ygg_machine.Numbered.{bottom_is}
use Rattle.ygg_run_commands.specs.OnGround.{layers_on}

same_joined : IsJoined SameNotes
same_joined = record { none = refl; append = λ a c b d x y. ap (λ (l : List Note). l ++ d) x ∙ ap (λ (l : List Note). a ++ l) y }

-- states of the same memories and the same base are the same
pub same_state : {B : Type 0} (t s : State B) → SameOn Same t s → t ≡ s
same_state {B} t s r =
    ap (λ (ms : List Env). record { memories = ms; base = t.base }) r.memories ∙ ap (λ (b : B). record { memories = s.memories; base = b }) r.bases

module _ {S : Type 0} (G : Meaning S) where
  calls_anywhere : (cause : Cause) (start b b' : S) (call : disk.Call) (a : List Note) (reply : disk.Reply) →
      (ground_steps G cause start).Calls b call a reply b' → (ground_calls G cause).Calls b call a reply b'
  calls_anywhere PowerLoss start b b' call a reply h = h
  calls_anywhere GivenUp start b b' call a reply h = h

  falls_anywhere : (cause : Cause) (start b b' : S) (call : disk.Call) (a : List Note) → (ground_steps G cause start).Falls b call a b' →
      (ground_calls G cause).Falls b call a b'
  falls_anywhere PowerLoss start b b' call a h = h
  falls_anywhere GivenUp start b b' call a h = h

  loses_anywhere : (cause : Cause) (start b b' : S) → (ground_steps G cause start).Loses b b' → (ground_calls G cause).Loses b b'
  loses_anywhere PowerLoss start b b' h = h
  loses_anywhere GivenUp start b b' h = h

  anywhere : (cause : Cause) (start : S) → StoreMirrors Same SameNotes ⊥ (ground_steps G cause start) (ground_calls G cause)
  anywhere cause start = record {
    starts = λ none b h. absurd none;
    calls = λ c b b' call a reply r h.
        (b', a, subst (λ (x : S). (ground_calls G cause).Calls x call a reply b') (sym r) (calls_anywhere cause start b b' call a reply h), refl, refl);
    falls = λ c b b' call a r h.
        (b', a, subst (λ (x : S). (ground_calls G cause).Falls x call a b') (sym r) (falls_anywhere cause start b b' call a h), refl, refl);
    loses = λ c b b' r h. (b', subst (λ (x : S). (ground_calls G cause).Loses x b') (sym r) (loses_anywhere cause start b b' h), refl);
  }

  from_start : (start : S) → StoreMirrors Same SameNotes ⊥ (ground_calls G PowerLoss) (ground_store G start)
  from_start start = record {
    starts = λ none b h. absurd none;
    calls = λ c b b' call a reply r h. (b', a, subst (λ (x : S). (ground_store G start).Calls x call a reply b') (sym r) h, refl, refl);
    falls = λ c b b' call a r h. (b', a, subst (λ (x : S). (ground_store G start).Falls x call a b') (sym r) h, refl, refl);
    loses = λ c b b' r h. (b', subst (λ (x : S). (ground_store G start).Loses x b') (sym r) h, refl);
  }

  module _ (f : File) (start : S) where
    -- the layers by number, from a state
    pub numbered_mirrors : (cause : Cause) →
        Mirrors Same SameNotes (FormattedIf ⊥ (bottom_on G cause f start (length f.layers))) (layers_on G f cause)
    numbered_mirrors cause =
        subst (λ (X : Machine S Note). Mirrors Same SameNotes (FormattedIf ⊥ X) (layers_on G f cause)) (sym (bottom_is G cause f start))
        (stacked_mirrors Same SameNotes same_joined ⊥ (ground_machine G cause start) (machine_on (ground_calls G cause))
        (machine_mirrors Same SameNotes refl ⊥ (ground_steps G cause start) (ground_calls G cause) (anywhere cause start)) (layers_of f))

    -- and back to a state, where only power can fail
    pub ground_mirrors : Mirrors Same SameNotes (FormattedIf ⊥ (layers_on G f PowerLoss)) (OnGround G (layers_of f) start)
    ground_mirrors =
        stacked_mirrors Same SameNotes same_joined ⊥ (machine_on (ground_calls G PowerLoss)) (machine_on (ground_store G start))
        (machine_mirrors Same SameNotes refl ⊥ (ground_calls G PowerLoss) (ground_store G start) (from_start start)) (layers_of f)
