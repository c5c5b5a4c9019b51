-- A format whose writes may be lost shows what one shows whose writes are all kept.
use Rattle.std.proofs.Common.{◌≡◌, ℕ, suc, Bool, true, All, List, [], ◌∷◌, ◌++◌, take, length, codes, refl, sym, ap, ◌∙◌, subst, arith}
use Rattle.std.proofs.lemmas.List.Elements.{All-nil, All-cons, All-append}
use Rattle.ygg_base.specs.declared.geometry.DiskKind.{DiskKind}
use Rattle.ygg_base.specs.declared.geometry.DiskKind.TheVariants as kind
use Rattle.ygg_value.specs.Number.{Grid}
use Rattle.ygg_value.specs.declared.row.Value.{Value}
use Rattle.ygg_value.specs.declared.row.Value.TheVariants.{Table}
use Rattle.ygg_syntax.specs.declared.tree.Block.{Block}
use Rattle.ygg_syntax.specs.declared.tree.DiskText.{DiskText}
use Rattle.ygg_syntax.specs.declared.tree.File.{File}
use Rattle.ygg_run_image.specs.ygg_disk.Disk as disk
use Rattle.ygg_run_image.specs.ygg_disk.Kinds.{model_of}
use Rattle.ygg_run_image.specs.ygg_meaning.Environments.{Name, Env, bind, look_up}
use Rattle.ygg_run_image.specs.ygg_meaning.Progress.{Answer}
use Rattle.ygg_run_image.specs.ygg_meaning.Machine.{Picks, State, based, on, Machine}
use Rattle.ygg_run_image.specs.ygg_meaning.DiskMachine.{tables_in, zeros_on, DiskMachine}
use Rattle.ygg_run_image.specs.ygg_meaning.Runs.{Dialogue, WholeCall, answers_of, notes_of, Reaches}
use Rattle.ygg_run_image.specs.ygg_meaning.Layer.{ClosedLayer, dialogue_of, BlockRuns, Layered}
use Rattle.ygg_run_image.specs.ygg_meaning.Shapes.{zeros_of}
use Rattle.ygg_run_image.specs.ygg_meaning.Stack.{Layers, Stacked, Bottom, BottomOf, layers_of}
use Rattle.ygg_run_image.specs.ygg_meaning.Under.{Between}
use Rattle.ygg_run_image.specs.ygg_meaning.History.{Lost}
use Rattle.ygg_run_image.specs.ygg_meaning.Left.{Left}
use Rattle.ygg_run_image.specs.ygg_meaning.Mirror.{SameOn}
use Rattle.ygg_run_image.specs.Formatted.{Views, AreFormatted}

-- all writes are kept
abbrev Kept : List Bool → Type 0
Kept = All (λ pick. pick ≡ true)

-- the tables of one disk, and those of a disk that shows the same and would lose nothing of it
pub record Shows (k : DiskKind) (even tables : Env) : Type 0 where
  pub state : (model_of k).State
  pub tables_are : tables ≡ tables_in k state
  pub even_are : even ≡ tables_in k ((model_of k).start ((model_of k).view state))

module _ (d : DiskText) where
  abbrev R : Env → Env → Type 0
  R = Shows d.kind

  -- the states of so many layers on both
  pub record Same (n : ℕ) (t s : State Env) : Type 0 where
    pub tall : length t.memories ≡ n
    pub same : SameOn R t s

  -- a whole step on the one has a step on the other whose writes are all kept
  pub record Alike (n : ℕ) (M : Machine Env Bool) : Type 0 where
    pub starts : (s : State Env) (a : Picks) → M.Starts s a → (t : State Env) × (b : Picks) × M.Starts t b × Same n t s × Kept b
    pub calls : (t s s' : State Env) (name : Name) (args : List Value) (a : Picks) (answer : Answer) → Same n t s → M.Calls s name args a answer s' →
        (t' : State Env) × (b : Picks) × M.Calls t name args b answer t' × Same n t' s' × Kept b

  same_on : (n : ℕ) (m : Env) (t s : State Env) → Same n t s → Same (suc n) (on m t) (on m s)
  same_on n m t s r = record {
    tall = ap suc r.tall;
    same = record { memories = ap (λ (ms : List Env). m ∷ ms) r.same.memories; bases = r.same.bases };
  }

  -- the state below, where a step of a layer begins
  record Opened (n : ℕ) (t : State Env) (memory : Env) (lower : State Env) : Type 0 where
    pub upper : State Env
    pub is : t ≡ on memory upper
    pub related : Same n upper lower

  opened : (n : ℕ) (t s : State Env) (memory : Env) (lower : State Env) → Same (suc n) t s → s ≡ on memory lower → Opened n t memory lower
  opened n t s memory lower r e =
      let memories : t.memories ≡ memory ∷ lower.memories = r.same.memories ∙ ap (λ (x : State Env). x.memories) e in
      record {
        upper = record { memories = lower.memories; base = t.base };
        is = ap (λ (ms : List Env). record { memories = ms; base = t.base }) memories;
        related = record {
          tall = let h : suc (length lower.memories) ≡ suc n = sym (ap (λ (ms : List Env). length ms) memories) ∙ r.tall in omega arith;
          same = record { memories = refl; bases = subst (λ (x : State Env). R t.base x.base) e r.same.bases };
        };
      }

  module _ (n : ℕ) (M : Machine Env Bool) (U : Alike n M) where
    record SamePath (asked : Dialogue) (told : List Answer) (t : State Env) (ts : List (WholeCall Env Bool)) (s' : State Env) : Type 0 where
      pub calls : List (WholeCall Env Bool)
      pub to : State Env
      pub path : Reaches M asked told t calls to
      pub related : Same n to s'
      pub same : answers_of calls ≡ answers_of ts
      pub kept : Kept (notes_of calls)

    path_alike : (asked : Dialogue) (told : List Answer) (ts : List (WholeCall Env Bool)) (t s s' : State Env) → Same n t s →
        Reaches M asked told s ts s' → SamePath asked told t ts s'
    path_alike asked told [] t s s' r h = record {
      calls = [];
      to = t;
      path = refl;
      related = subst (λ (x : State Env). Same n t x) h r;
      same = refl;
      kept = All-nil (λ (pick : Bool). pick ≡ true);
    }
    path_alike asked told (u ∷ us) t s s' r (asks, call, rest) =
        let (t1, b, call', r1, k) = U.calls t s u.after u.name u.args u.notes u.answer r call in
        let p = path_alike asked (told ++ u.answer ∷ []) us t1 u.after s' r1 rest in
        record {
          calls = record { name = u.name; args = u.args; notes = b; answer = u.answer; after = t1 } ∷ p.calls;
          to = p.to;
          path = (asks, call', p.path);
          related = p.related;
          same = ap (λ (rest : List Answer). u.answer ∷ rest) p.same;
          kept = All-append (λ (pick : Bool). pick ≡ true) b (notes_of p.calls) k p.kept;
        }

    module _ (L : ClosedLayer) where
      block_alike : (b : Block) (args : Env) (t s s' : State Env) (a : Picks) (y : Answer) → Same (suc n) t s → BlockRuns L M b args s a y s' →
          (t' : State Env) × (c : Picks) × BlockRuns L M b args t c y t' × Same (suc n) t' s' × Kept c
      block_alike b args t s s' a y r h =
          let o = opened n t s h.memory h.lower r h.from_is in
          let w = h.run in
          let p = path_alike (dialogue_of L b h.memory args) [] w.calls o.upper h.lower h.lower' o.related w.path in
          let memory' = take (length h.memory) h.env' in (
            on memory' p.to,
            notes_of p.calls,
            record {
              memory = h.memory;
              lower = o.upper;
              from_is = o.is;
              env' = h.env';
              lower' = p.to;
              run = record { calls = p.calls; path = p.path; ends = ap (dialogue_of L b h.memory args) p.same ∙ w.ends; takes = refl };
              to_is = refl;
            },
            subst (λ (x : State Env). Same (suc n) (on memory' p.to) x) (sym h.to_is) (same_on n memory' p.to h.lower' p.related),
            p.kept,
          )

      layered_alike : Alike (suc n) (Layered L M)
      layered_alike = record {
        starts = λ s a h.
            let zeros = zeros_of L.layer.memory in
            let (upper, b, starts, r, k) = U.starts h.lower h.first h.starts in
            let (t', c, run, r', k') = block_alike L.layer.format [] (on zeros upper) (on zeros h.lower) s h.second h.answer
            (same_on n zeros upper h.lower r) h.formats in (
              t',
              b ++ c,
              record { lower = upper; first = b; second = c; answer = h.answer; starts = starts; formats = run; takes = refl },
              r',
              All-append (λ (pick : Bool). pick ≡ true) b c k k',
            );
        calls = λ t s s' name args a answer r h.
            let (t', b, run, r', k) = block_alike h.operation.implementation (bind h.operation.arguments args) t s s' a answer r h.step in
            (t', b, record { operation = h.operation; is = h.is; fit = h.fit; step = run }, r', k);
      }

  stacked_alike : (M : Machine Env Bool) → Alike 0 M → (layers : Layers) → Alike (length layers) (Stacked M layers)
  stacked_alike M U [] = U
  stacked_alike M U (L ∷ lower) = layered_alike (length lower) (Stacked M lower) (stacked_alike M U lower) L

  -- a state of as many memories as layers can lose power
  loses : (layers : Layers) (memories : List Env) (base : Env) (x : (model_of d.kind).State) → length memories ≡ length layers → base ≡ tables_in d.kind x →
      (Bottom d layers).Loses (record { memories = memories; base = base }) [] (tables_in d.kind ((model_of d.kind).lost x))
  loses [] [] base x tall is = (base, refl, refl, (x, is, refl))
  loses [] (m ∷ ms) base x tall is = absurd (omega arith)
  loses (L ∷ lower) [] base x tall is = absurd (omega arith)
  loses (L ∷ lower) (m ∷ ms) base x tall is = record {
    memory = m;
    lower = record { memories = ms; base = base };
    from_is = refl;
    falls = loses lower ms base x (omega arith) is;
  }

-- a whole call on a disk has one on a disk that shows the same, whose writes are kept
record CallsKept (k : DiskKind) (call : disk.Call) (reply : disk.Reply) (from to : (model_of k).State) : Type 0 where
  pub picks : Picks
  pub calls : (model_of k).Calls ((model_of k).start ((model_of k).view from)) call picks reply ((model_of k).start ((model_of k).view to))
  pub kept : Kept picks

-- no picks are all kept
none_kept : Kept []
none_kept = All-nil (λ (pick : Bool). pick ≡ true)

-- the tables of a disk that shows the same and would lose nothing of it
abbrev even : disk.Tables → disk.Tables
even x = record { view = x.view; stable = x.view }

calls_kept : (k : DiskKind) (call : disk.Call) (picks : Picks) (reply : disk.Reply) (from to : (model_of k).State) →
    (model_of k).Calls from call picks reply to → CallsKept k call reply from to
calls_kept kind.Sync call picks reply from to h = by_call call h
  where
    by_call : (call : disk.Call) → (model_of kind.Sync).Calls from call picks reply to → CallsKept kind.Sync call reply from to
    by_call (disk.Read at) h = record { picks = []; calls = (refl, h.1, h.2); kept = none_kept }
    by_call (disk.Write at row) h = record { picks = []; calls = (refl, h.1, h.2); kept = none_kept }
    by_call disk.Flush h = record { picks = []; calls = (refl, h.1, h.2); kept = none_kept }
calls_kept kind.Async call picks reply from to h = by_call call h
  where
    by_call : (call : disk.Call) → (model_of kind.Async).Calls from call picks reply to → CallsKept kind.Async call reply from to
    by_call (disk.Read at) h = record { picks = []; calls = (refl, h.1, ap even h.2); kept = none_kept }
    by_call (disk.Write at row) h = record {
      picks = true ∷ [];
      calls = (true, refl, h.2, ap even h.3);
      kept = All-cons (λ (pick : Bool). pick ≡ true) true [] refl none_kept;
    }
    by_call disk.Flush h = record { picks = []; calls = (refl, h.1, ap even h.2); kept = none_kept }

-- tables are those of one state
same_view : (k : DiskKind) (x y : (model_of k).State) → tables_in k x ≡ tables_in k y → (model_of k).view x ≡ (model_of k).view y
same_view kind.Sync x y h = let t : Table x ≡ Table y = ap (λ (e : Env). look_up (codes "view") e) h in cc
same_view kind.Async x y h = let t : Table x.view ≡ Table y.view = ap (λ (e : Env). look_up (codes "view") e) h in cc

-- a disk that shows rows wherever it holds some
view_even : (k : DiskKind) (g : Grid) → (model_of k).view ((model_of k).start g) ≡ g
view_even kind.Sync g = refl
view_even kind.Async g = refl

start_again : (k : DiskKind) (g : Grid) → (model_of k).start ((model_of k).view ((model_of k).start g)) ≡ (model_of k).start g
start_again k g = ap (model_of k).start (view_even k g)

lost_even : (k : DiskKind) (g : Grid) → (model_of k).lost ((model_of k).start g) ≡ (model_of k).start g
lost_even kind.Sync g = refl
lost_even kind.Async g = refl

module _ (d : DiskText) where
  based_alike : (b : Env) (t s : State Env) → Same d 0 t s → s ≡ based b → t ≡ based t.base
  based_alike b t s r e =
      ap (λ (ms : List Env). record { memories = ms; base = t.base }) (r.same.memories ∙ ap (λ (x : State Env). x.memories) e)

  disk_alike : Alike d 0 (DiskMachine d)
  disk_alike = record {
    starts = λ s a (b, none, is, start).
        let first = (model_of d.kind).start (zeros_on d) in (
          based b,
          [],
          (b, refl, refl, start),
          record {
            tall = refl;
            same = record {
              memories = sym (ap (λ (x : State Env). x.memories) is);
              bases = (record {
                state = first;
                tables_are = ap (λ (x : State Env). x.base) is ∙ start;
                even_are = start ∙ ap (tables_in d.kind) (sym (start_again d.kind (zeros_on d)));
              });
            };
          },
          All-nil (λ (pick : Bool). pick ≡ true),
        );
    calls = λ t s s' name args a answer r (b, b', call, reply, named, from, (x, y, at, step, shows), answered, to).
        let k = d.kind in
        let R = r.same.bases in
        let e : tables_in k R.state ≡ tables_in k x = sym R.tables_are ∙ ap (λ (z : State Env). z.base) from ∙ at in
        let c = calls_kept k call a reply x y step in
        let to_base = tables_in k ((model_of k).start ((model_of k).view y)) in (
          based to_base,
          c.picks,
          (
            t.base,
            to_base,
            call,
            reply,
            named,
            based_alike b t s r from,
            (
              (model_of k).start ((model_of k).view x),
              (model_of k).start ((model_of k).view y),
              R.even_are ∙ ap (λ (g : Grid). tables_in k ((model_of k).start g)) (same_view k R.state x e),
              c.calls,
              refl,
            ),
            answered,
            refl,
          ),
          record {
            tall = refl;
            same = record {
              memories = sym (ap (λ (z : State Env). z.memories) to);
              bases = record { state = y; tables_are = ap (λ (z : State Env). z.base) to ∙ shows; even_are = refl };
            };
          },
          c.kept,
        );
  }

-- a format of a file has one whose writes are all kept, which shows the same and would lose nothing
pub record KeptFormat (f : File) (start : State Env) : Type 0 where
  pub even : State Env
  pub picks : Picks
  pub starts : (BottomOf f).Starts even picks
  pub kept : Kept picks
  pub shows : Shows f.disk.kind even.base start.base
  pub loses : (BottomOf f).Loses even [] even.base

kept_format : (f : File) (start : State Env) (picks : Picks) → (BottomOf f).Starts start picks → KeptFormat f start
kept_format f start picks h =
    let d = f.disk in
    let (t, b, starts, r, kept) = (stacked_alike d (DiskMachine d) (disk_alike d) (layers_of f)).starts start picks h in
    let R = r.same.bases in
    let even = (model_of d.kind).start ((model_of d.kind).view R.state) in
    record {
      even = t;
      picks = b;
      starts = starts;
      kept = kept;
      shows = R;
      loses =
          subst (λ (e : Env). (BottomOf f).Loses t [] e) (ap (tables_in d.kind) (lost_even d.kind ((model_of d.kind).view R.state)) ∙ sym R.even_are)
          (loses d (layers_of f) t.memories t.base even r.tall R.even_are);
    }

-- what is seen of the tables of a disk
pub viewed : (k : DiskKind) (x : (model_of k).State) → look_up (codes "view") (tables_in k x) ≡ Table ((model_of k).view x)
viewed kind.Sync x = refl
viewed kind.Async x = refl

shows_same : (k : DiskKind) (even tables : Env) → Shows k even tables → look_up (codes "view") even ≡ look_up (codes "view") tables
shows_same k even tables h =
    let v = (model_of k).view h.state in
    ap (look_up (codes "view")) h.even_are ∙ viewed k ((model_of k).start v) ∙ ap Table (view_even k v) ∙ sym (viewed k h.state)
    ∙ sym (ap (look_up (codes "view")) h.tables_are)

-- whichever writes of a format are kept, the rows that are shown are those of one all of whose writes are kept
pub formats_as_kept : (f : File) (start : State Env) (picks : Picks) (rows : Grid) → (BottomOf f).Starts start picks → Views start rows → AreFormatted f rows
formats_as_kept f start picks rows starts shows =
    let h = kept_format f start picks starts in
    record { start = h.even; picks = h.picks; starts = h.starts; kept = h.kept; shows = shows_same f.disk.kind h.even.base start.base h.shows ∙ shows }

-- and they are what the disk may hold after the one entry that power was lost
pub formats_leave : (f : File) (rows : Grid) → AreFormatted f rows → Left f (Lost ∷ []) rows
formats_leave f rows formatted =
    let h = kept_format f formatted.start formatted.picks formatted.starts in
    record {
      before = [];
      how = Between;
      is = refl;
      state = h.even;
      history = (h.even, h.picks, h.starts, refl);
      picks = [];
      fallen = h.even.base;
      fails = h.loses;
      left = h.even.base;
      stays = ([], refl);
      shows = shows_same f.disk.kind h.even.base formatted.start.base h.shows ∙ formatted.shows;
    }
