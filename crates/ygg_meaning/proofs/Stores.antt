-- A store that mirrors another, and so the layers on it. Notes can be forgotten and found again, and a ground that tells its state mirrors the stated disk.
use Rattle.std.proofs.Common.{◌≡◌, Bool, true, false, List, [], ◌∷◌, ◌++◌, Option, Some, refl, sym, ap, ◌∙◌, subst, append-nil, append_assoc}
use Rattle.std.specs.Option.{option_map}
use Rattle.ygg_syntax.specs.declared.tree.File.{File}
use Rattle.ygg_base.specs.declared.geometry.DiskKind.{DiskKind}
use Rattle.ygg_base.specs.declared.geometry.DiskKind.TheVariants as kind
use Rattle.ygg_meaning.specs.ygg_disk.Disk as disk
use Rattle.ygg_meaning.specs.ygg_disk.Ground.{Meaning, disk_lost, TellsCall, TellsFall}
use Rattle.ygg_meaning.specs.ygg_disk.Kinds.{Disk, model_of}
use Rattle.ygg_meaning.specs.Environments.{Env}
use Rattle.ygg_meaning.specs.Machine.{State, based}
use Rattle.ygg_meaning.specs.DiskMachine.{Store, machine_on, disk_store, tables_in, zeros_on, DiskMachine}
use Rattle.ygg_meaning.specs.Stack.{Layers, Stacked, layers_of}
use Rattle.ygg_meaning.specs.Mirror.{SameOn, IsJoined, FormattedIf, Mirrors}
use Rattle.ygg_meaning.proofs.Mirrored.{stacked_mirrors, formatted_mirrors}
use Rattle.ygg_meaning.specs.Noted.{Note, picks_in, noting, disk_in}
use Rattle.ygg_meaning.specs.StepLaws.{Same, AreNotes}
use Rattle.ygg_meaning.specs.Grounds.{ground_store, TellsBase, ArePicks, TellsZeros, ToldSteps}

pub record StoreMirrors {B X C Y : Type 0} (R : C → B → Type 0) (Q : List X → List Y → Type 0) (P : Type 0) (K : Store B X) (H : Store C Y) : Type 0 where
  pub starts : P → (b : B) → K.Starts b → (c : C) × H.Starts c × R c b
  pub calls : (c : C) (b b' : B) (call : disk.Call) (a : List X) (reply : disk.Reply) → R c b → K.Calls b call a reply b' → (c' : C) × (a' : List Y)
      × H.Calls c call a' reply c' × R c' b' × Q a a'
  pub falls : (c : C) (b b' : B) (call : disk.Call) (a : List X) → R c b → K.Falls b call a b' → (c' : C) × (a' : List Y) × H.Falls c call a' c'
      × R c' b' × Q a a'
  pub loses : (c : C) (b b' : B) → R c b → K.Loses b b' → (c' : C) × H.Loses c c' × R c' b'

module _ {B X C Y : Type 0} (R : C → B → Type 0) (Q : List X → List Y → Type 0) (none : Q [] []) (P : Type 0) (K : Store B X) (H : Store C Y)
    (U : StoreMirrors R Q P K H) where
  -- a state that mirrors a base is a base
  is_base : (t : State C) (s : State B) (b : B) → SameOn R t s → s ≡ based b → t ≡ based t.base
  is_base t s b r e = ap (λ (ms : List Env). record { memories = ms; base = t.base }) (r.memories ∙ ap (λ (x : State B). x.memories) e)

  on_base : (t : State C) (s : State B) (b : B) → SameOn R t s → s ≡ based b → R t.base b
  on_base t s b r e = subst (λ (x : State B). R t.base x.base) e r.bases

  same_base : (c : C) (b : B) (s : State B) → s ≡ based b → R c b → SameOn R (based c) s
  same_base c b s e r = subst (λ x. SameOn R (based c) x) (sym e) (record { memories = refl; bases = r })

  nothing : (a : List X) → a ≡ [] → Q a []
  nothing a e = subst (λ x. Q x []) (sym e) none

  pub machine_mirrors : Mirrors R Q (FormattedIf P (machine_on K)) (machine_on H)
  machine_mirrors = record {
    starts = λ s a (p, (b, none, is, start)).
        let (c, start', r) = U.starts p b start in (based c, [], (c, refl, refl, start'), same_base c b s is r, nothing a none);
    calls = λ t s s' name args a answer r (b, b', call, reply, named, from, step, y, to).
        let (c', a', step', r', q) = U.calls t.base b b' call a reply (on_base t s b r from) step in
        (based c', a', (t.base, c', call, reply, named, is_base t s b r from, step', y, refl), same_base c' b' s' to r', q);
    falls = λ t s name args a f r (b, call, named, from, step).
        let (c', a', step', r', q) = U.falls t.base b f call a (on_base t s b r from) step in
        (c', a', (t.base, call, named, is_base t s b r from, step'), r', q);
    ticks = λ t s s' name a r h. absurd h;
    tick_falls = λ t s name a f r h. absurd h;
    loses = λ t s a f r (b, none, from, step).
        let (c', step', r') = U.loses t.base b f (on_base t s b r from) step in (c', [], (t.base, refl, is_base t s b r from, step'), r', nothing a none);
    wakes = λ g f a s r (none, is). (based g, [], (refl, refl), same_base g f s is r, nothing a none);
    wake_falls = λ g f f' a r h. absurd h;
  }

picks_append : (a c : List Note) → picks_in (a ++ c) ≡ picks_in a ++ picks_in c
picks_append [] c = refl
picks_append (n ∷ a) c = ap (λ l. n.picks ++ l) (picks_append a c) ∙ sym (append_assoc n.picks (picks_in a) (picks_in c))

pub picks_joined : IsJoined ArePicks
picks_joined = record { none = refl; append = λ a c b d x y. ap (λ l. l ++ d) x ∙ ap (λ l. picks_in a ++ l) y ∙ sym (picks_append a c) }

-- the other way round
pub notes_joined : IsJoined AreNotes
notes_joined = record { none = refl; append = λ a c b d x y. ap (λ l. l ++ c) x ∙ ap (λ l. picks_in b ++ l) y ∙ sym (picks_append b d) }

module _ {B : Type 0} (K : Store B Bool) where
  one_note : (call : disk.Call) (cut : Bool) (picks : List Bool) (notes : List Note) → notes ≡ record { call = call; cut = cut; picks = picks } ∷ [] →
      picks ≡ picks_in notes
  one_note call cut picks notes e = sym (ap picks_in e ∙ append-nil picks)

  forgotten : StoreMirrors Same ArePicks (Unit {0}) (noting K) K
  forgotten = record {
    starts = λ _ b h. (b, h, refl);
    calls = λ c b b' call a reply r (picks, is, step).
        (b', picks, subst (λ x. K.Calls x call picks reply b') (sym r) step, refl, one_note call false picks a is);
    falls = λ c b b' call a r (picks, is, step). (b', picks, subst (λ x. K.Falls x call picks b') (sym r) step, refl, one_note call true picks a is);
    loses = λ c b b' r step. (b', subst (λ x. K.Loses x b') (sym r) step, refl);
  }

  found : StoreMirrors Same AreNotes (Unit {0}) K (noting K)
  found = record {
    starts = λ _ b h. (b, h, refl);
    calls = λ c b b' call a reply r step. (
      b',
      record { call = call; cut = false; picks = a } ∷ [],
      (a, refl, subst (λ x. K.Calls x call a reply b') (sym r) step),
      refl,
      one_note call false a _ refl,
    );
    falls = λ c b b' call a r step.
        (b', record { call = call; cut = true; picks = a } ∷ [], (a, refl, subst (λ x. K.Falls x call a b') (sym r) step), refl, one_note call true a _ refl);
    loses = λ c b b' r step. (b', subst (λ x. K.Loses x b') (sym r) step, refl);
  }

  -- notes are forgotten
  pub forget : (layers : Layers) → Mirrors Same ArePicks (Stacked (machine_on (noting K)) layers) (Stacked (machine_on K) layers)
  forget layers =
      formatted_mirrors Same ArePicks picks_joined (Unit {0}) (Stacked (machine_on (noting K)) layers) (Stacked (machine_on K) layers) tt
      (stacked_mirrors Same ArePicks picks_joined (Unit {0}) (machine_on (noting K)) (machine_on K)
      (machine_mirrors Same ArePicks refl (Unit {0}) (noting K) K forgotten) layers)

  -- and found
  pub find : (layers : Layers) → Mirrors Same AreNotes (Stacked (machine_on K) layers) (Stacked (machine_on (noting K)) layers)
  find layers =
      formatted_mirrors Same AreNotes notes_joined (Unit {0}) (Stacked (machine_on K) layers) (Stacked (machine_on (noting K)) layers) tt
      (stacked_mirrors Same AreNotes notes_joined (Unit {0}) (machine_on K) (machine_on (noting K))
      (machine_mirrors Same AreNotes refl (Unit {0}) K (noting K) found) layers)

-- what is told of a disk of a kind is told of its state

whole_told : (k : DiskKind) (x : (model_of k).State) (call : disk.Call) (picks : List Bool) (reply : disk.Reply) (after : Option Disk) →
    TellsCall (Some (disk_in k x)) call picks reply after →
    (y : (model_of k).State) × (after ≡ Some (disk_in k y)) × (model_of k).Calls x call picks reply y
whole_told kind.Sync x call picks reply after h = h
whole_told kind.Async x call picks reply after h = h

cut_told : (k : DiskKind) (x : (model_of k).State) (call : disk.Call) (picks : List Bool) (after : Option Disk) →
    TellsFall (Some (disk_in k x)) call picks after →
    (y : (model_of k).State) × (after ≡ Some (disk_in k y)) × (model_of k).Falls x call picks y
cut_told kind.Sync x call picks after h = h
cut_told kind.Async x call picks after h = h

lost_told : (k : DiskKind) (x : (model_of k).State) → disk_lost (disk_in k x) ≡ disk_in k ((model_of k).lost x)
lost_told kind.Sync x = refl
lost_told kind.Async x = refl

module _ {S : Type 0} (G : Meaning S) (f : File) (start : S) where
  one : (call : disk.Call) (cut : Bool) (picks : List Bool) (notes : List Note) → notes ≡ record { call = call; cut = cut; picks = picks } ∷ [] →
      picks ≡ picks_in notes
  one call cut picks notes e = sym (ap picks_in e ∙ append-nil picks)

  told_mirrors : StoreMirrors (TellsBase G f) ArePicks (TellsZeros G f start) (ground_store G start) (disk_store f.disk)
  told_mirrors = record {
    starts = λ starts b h.
        let first = (model_of f.disk.kind).start (zeros_on f.disk) in (tables_in f.disk.kind first, refl, (first, ap G.told h ∙ starts, refl));
    calls = λ c b b' call a reply (x, told, shown) (picks, is, step, tell).
        let (y, told', move) = whole_told f.disk.kind x call picks reply (G.told b') (subst (λ o. TellsCall o call picks reply (G.told b')) told tell) in
        (tables_in f.disk.kind y, picks, (x, y, shown, move, refl), (y, told', refl), one call false picks a is);
    falls = λ c b b' call a (x, told, shown) (picks, is, step, tell).
        let (y, told', move) = cut_told f.disk.kind x call picks (G.told b') (subst (λ o. TellsFall o call picks (G.told b')) told tell) in
        (tables_in f.disk.kind y, picks, (x, y, shown, move, refl), (y, told', refl), one call true picks a is);
    loses = λ c b b' (x, told, shown) lost.
        let y = (model_of f.disk.kind).lost x in
        (tables_in f.disk.kind y, (x, shown, refl), (y, lost.told ∙ ap (option_map disk_lost) told ∙ ap Some (lost_told f.disk.kind x), refl));
  }

-- where a state is told, each step on the ground is one of the bottom implementation
pub told_steps : {S : Type 0} (G : Meaning S) (f : File) → ToldSteps G f
told_steps G f start =
    stacked_mirrors (TellsBase G f) ArePicks picks_joined (TellsZeros G f start) (machine_on (ground_store G start)) (DiskMachine f.disk)
    (machine_mirrors (TellsBase G f) ArePicks refl (TellsZeros G f start) (ground_store G start) (disk_store f.disk) (told_mirrors G f start)) (layers_of f)
