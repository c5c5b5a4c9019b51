-- What is done on a ground that tells the disk's state is done on that disk, with the same notes.
use Rattle.std.proofs.Common.{◌≡◌, List, ◌++◌, Bool, Option, Some, length, option_map, refl, sym, ap, ◌∙◌, subst}
use Rattle.ygg_base.specs.declared.geometry.DiskKind.{DiskKind}
use Rattle.ygg_base.specs.declared.geometry.DiskKind.TheVariants as kind
use Rattle.ygg_syntax.specs.declared.tree.File.{File}
use Rattle.ygg_eval.specs.ygg_disk.Disk as disk
use Rattle.ygg_eval.specs.ygg_disk.Kinds.{Disk, model_of}
use Rattle.ygg_eval.specs.ygg_disk.Ground.{Meaning, TellsCall, TellsFall, disk_lost}
use Rattle.ygg_eval.specs.ygg_meaning.Environments.{Env}
use Rattle.ygg_eval.specs.ygg_meaning.Machine.{State, Machine}
use Rattle.ygg_eval.specs.ygg_meaning.DiskMachine.{machine_on, disk_store, tables_in, zeros_on}
use Rattle.ygg_eval.specs.ygg_meaning.Stack.{Stacked, BottomOf, layers_of}
use Rattle.ygg_eval.specs.ygg_meaning.Mirror.{SameOn, IsJoined, FormattedIf, Mirrors}
use Rattle.ygg_eval.specs.ygg_meaning.StepLaws.{Same}
use Rattle.ygg_eval.specs.ygg_meaning.Noted.{Note, noting, disk_in, NotedDisk}
use Rattle.ygg_eval.specs.ygg_meaning.Grounds.{ground_store, TellsBase, TellsZeros, ArePicks, OnGround}
use Rattle.ygg_eval.specs.ygg_meaning_proofs_Mirrored.{stacked_mirrors}
use Rattle.ygg_eval.proofs.of_ygg_meaning.Stores.{StoreMirrors, machine_mirrors, told_steps}
use Rattle.ygg_eval.specs.Lower.{PowerLoss}
use Rattle.ygg_machine.specs.Bottoms.{bottom_on}
use Rattle.ygg_machine.specs.Told.{StacksAreListed, StacksTell, SameNotes, StacksNote}
use Rattle.ygg_machine.proofs.Numbered.{bottom_is}

same_joined : IsJoined SameNotes
same_joined = record { none = refl; append = λ a c b d x y. ap (λ (l : List Note). l ++ d) x ∙ ap (λ (l : List Note). a ++ l) y }

-- what is told of a disk of a kind is told of its state
whole_told : (k : DiskKind) (x : (model_of k).State) (call : disk.Call) (picks : List Bool) (reply : disk.Reply) (after : Option Disk) →
    TellsCall (Some (disk_in k x)) call picks reply after →
    (y : (model_of k).State) × (after ≡ Some (disk_in k y)) × (model_of k).Calls x call picks reply y
whole_told kind.Sync x call picks reply after h = h
whole_told kind.Async x call picks reply after h = h

cut_told : (k : DiskKind) (x : (model_of k).State) (call : disk.Call) (picks : List Bool) (after : Option Disk) →
    TellsFall (Some (disk_in k x)) call picks after →
    (y : (model_of k).State) × (after ≡ Some (disk_in k y)) × (model_of k).Falls x call picks y
cut_told kind.Sync x call picks after h = h
cut_told kind.Async x call picks after h = h

lost_told : (k : DiskKind) (x : (model_of k).State) → disk_lost (disk_in k x) ≡ disk_in k ((model_of k).lost x)
lost_told kind.Sync x = refl
lost_told kind.Async x = refl

module _ {S : Type 0} (G : Meaning S) (f : File) (start : S) where
  noted_mirrors : StoreMirrors (TellsBase G f) SameNotes (TellsZeros G f start) (ground_store G start) (noting (disk_store f.disk))
  noted_mirrors = record {
    starts = λ starts b h.
        let first = (model_of f.disk.kind).start (zeros_on f.disk) in (tables_in f.disk.kind first, refl, (first, ap G.told h ∙ starts, refl));
    calls = λ c b b' call a reply (x, told, shown) (picks, is, step, tell).
        let (y, told', move) = whole_told f.disk.kind x call picks reply (G.told b') (subst (λ o. TellsCall o call picks reply (G.told b')) told tell) in
        (tables_in f.disk.kind y, a, (picks, is, (x, y, shown, move, refl)), (y, told', refl), refl);
    falls = λ c b b' call a (x, told, shown) (picks, is, step, tell).
        let (y, told', move) = cut_told f.disk.kind x call picks (G.told b') (subst (λ o. TellsFall o call picks (G.told b')) told tell) in
        (tables_in f.disk.kind y, a, (picks, is, (x, y, shown, move, refl)), (y, told', refl), refl);
    loses = λ c b b' (x, told, shown) lost.
        let y = (model_of f.disk.kind).lost x in
        (tables_in f.disk.kind y, (x, shown, refl), (y, lost.told ∙ ap (option_map disk_lost) told ∙ ap Some (lost_told f.disk.kind x), refl));
  }

  on_disk : Mirrors (TellsBase G f) SameNotes (FormattedIf (TellsZeros G f start) (OnGround G (layers_of f) start)) (Stacked (NotedDisk f.disk) (layers_of f))
  on_disk =
      stacked_mirrors (TellsBase G f) SameNotes same_joined (TellsZeros G f start) (machine_on (ground_store G start)) (NotedDisk f.disk)
      (machine_mirrors (TellsBase G f) SameNotes refl (TellsZeros G f start) (ground_store G start) (noting (disk_store f.disk)) noted_mirrors) (layers_of f)

-- a machine mirrors itself
module _ {B : Type 0} (M : Machine B Note) where
  same_state : (t s : State B) → SameOn Same t s → t ≡ s
  same_state t s r =
      ap (λ (ms : List Env). record { memories = ms; base = t.base }) r.memories ∙ ap (λ (b : B). record { memories = s.memories; base = b }) r.bases

  itself : (s : State B) → SameOn Same s s
  itself s = record { memories = refl; bases = refl }

  same_mirrors : Mirrors Same SameNotes M M
  same_mirrors = record {
    starts = λ s a h. (s, a, h, itself s, refl);
    calls = λ t s s' name args a answer r h. (s', a, subst (λ x. M.Calls x name args a answer s') (sym (same_state t s r)) h, itself s', refl);
    falls = λ t s name args a f r h. (f, a, subst (λ x. M.Falls x name args a f) (sym (same_state t s r)) h, refl, refl);
    ticks = λ t s s' name a r h. (s', a, subst (λ x. M.Ticks x name a s') (sym (same_state t s r)) h, itself s', refl);
    tick_falls = λ t s name a f r h. (f, a, subst (λ x. M.TickFalls x name a f) (sym (same_state t s r)) h, refl, refl);
    loses = λ t s a f r h. (f, a, subst (λ x. M.Loses x a f) (sym (same_state t s r)) h, refl, refl);
    wakes = λ g f a s r h. (s, a, subst (λ x. M.Wakes x a s) (sym r) h, itself s, refl);
    wake_falls = λ g f f' a r h. (f', a, subst (λ x. M.WakeFalls x a f') (sym r) h, refl, refl);
  }

pub stacks_are_listed : {S : Type 0} (G : Meaning S) → StacksAreListed G
stacks_are_listed {S} G cause f start =
    subst (λ (X : Machine S Note). Mirrors Same SameNotes (bottom_on G cause f start (length f.layers)) X) (bottom_is G cause f start)
    (same_mirrors (bottom_on G cause f start (length f.layers)))

pub stacks_note : {S : Type 0} (G : Meaning S) → StacksNote G
stacks_note {S} G f start =
    subst (λ (X : Machine S Note). Mirrors (TellsBase G f) SameNotes (FormattedIf (TellsZeros G f start) X) (Stacked (NotedDisk f.disk) (layers_of f)))
    (sym (bottom_is G PowerLoss f start)) (on_disk G f start)

pub stacks_tell : {S : Type 0} (G : Meaning S) → StacksTell G
stacks_tell {S} G f start =
    subst (λ (X : Machine S Note). Mirrors (TellsBase G f) ArePicks (FormattedIf (TellsZeros G f start) X) (BottomOf f))
    (sym (bottom_is G PowerLoss f start)) (told_steps G f start)
