-- Runs of a block of a layer on a machine whose own runs are alike.
use Rattle.std.proofs.Common.{◌≡◌, ℕ, Bool, true, false, List, [], ◌∷◌, ◌++◌, take, length, None, refl, sym, ap, ◌∙◌, subst, append_assoc}
use Rattle.std.proofs.lemmas.List.{append-nil}
use Rattle.ygg_value.specs.declared.row.Value.{Value}
use Rattle.ygg_syntax.specs.declared.tree.Block.{Block}
use Rattle.ygg_script.specs.ygg_meaning.Environments.{Name, Env}
use Rattle.ygg_script.specs.ygg_meaning.Progress.{Call, Answer, Asks, Ends}
use Rattle.ygg_script.specs.ygg_meaning.Machine.{Picks, State, on, memory_in, TickName, Machine}
use Rattle.ygg_script.specs.ygg_meaning.Runs.{Dialogue, WholeCall, Reaches, FallsAt, answers_of, notes_of}
use Rattle.ygg_script.specs.ygg_meaning.Layer.{ClosedLayer, BlockRuns, BlockFalls, dialogue_of}
use Rattle.ygg_script.specs.ygg_meaning.Noted.{Note}
use Rattle.ygg_meaning_laws.specs.Acts.{under}
use Rattle.ygg_run_play.proofs.Endings.{AllWhole, Before, like_none}
use Rattle.ygg_run_play.proofs.Alike.{End, Whole, Cut, Process, Alike, flipped, alike_after, alike_cut, Takes, split, one_left, Follows, Steady, follows_after}

-- a call of an operation
abbrev pub calling : Machine Env Note → State Env → Name → List Value → Process
calling M s name args n (Whole y t) = M.Calls s name args n y t
calling M s name args n (Cut f) = M.Falls s name args n f

-- a background step
abbrev pub ticking : Machine Env Note → State Env → TickName → Process
ticking M s name n (Whole y t) = (y ≡ None) × M.Ticks s name n t
ticking M s name n (Cut f) = M.TickFalls s name n f

-- a waking
abbrev pub waking : Machine Env Note → Env → Process
waking M e n (Whole y t) = (y ≡ None) × M.Wakes e n t
waking M e n (Cut f) = M.WakeFalls e n f

-- a block of a layer
abbrev pub blocking : ClosedLayer → Machine Env Note → Block → Env → State Env → Process
blocking L M b args s n (Whole y t) = BlockRuns L M b args s n y t
blocking L M b args s n (Cut f) = BlockFalls L M b args s n f

module _ (lost : Env → Env) (does cuts : Env → Note → Env) where
  -- its runs are alike
  pub record Tidy (M : Machine Env Note) : Type 0 where
    pub calls : (s : State Env) (name : Name) (args : List Value) → Steady lost does cuts s.base (calling M s name args)
    pub ticks : (s : State Env) (name : TickName) → Steady lost does cuts s.base (ticking M s name)
    pub wakes : (e : Env) → Steady lost does cuts e (waking M e)
    pub loses : (s : State Env) (n : List Note) (f : Env) → M.Loses s n f → (n ≡ []) × (f ≡ lost s.base)
    pub starts : (picks left other : Picks) (n m : List Note) (s t : State Env) → M.Starts s n → M.Starts t m → Takes n picks left → Takes m picks other →
        (n ≡ m) × (s ≡ t)

  module _ (M : Machine Env Note) (tidy : Tidy M) where
    module _ (D : Dialogue) (k : ℕ) where
      -- the last of a run of a block that was told these answers: its end, a fall within a call or a loss
      abbrev Tail : List Answer → State Env → List Note → End → Type 0
      Tail told at last (Whole y s) = (env : Env) × (D told ≡ Ends env y) × (s ≡ on (take k env) at) × (last ≡ [])
      Tail told at last (Cut f) = (within : Bool) × FallsAt within M D told at last f

      ends_once : (e f : Env) (y z : Answer) → Ends e y ≡ Ends f z → (e ≡ f) × (y ≡ z)
      ends_once e f y z h = (cc, cc)

      asks_once : (a b : Name) (x z : List Value) → Asks (Call a x) ≡ Asks (Call b z) → (a ≡ b) × (x ≡ z)
      asks_once a b x z h = (cc, cc)

      not_both : {A : Type 0} (told : List Answer) (env : Env) (y : Answer) (name : Name) (args : List Value) → D told ≡ Ends env y →
          D told ≡ Asks (Call name args) → A
      not_both told env y name args h g = let k : Ends env y ≡ Asks (Call name args) = sym h ∙ g in absurd (cc)

      whole_of : (s : State Env) (name : Name) (args : List Value) (n : List Note) (y : Answer) (t : State Env) → M.Calls s name args n y t → AllWhole n
      whole_of s name args n y t h = ((tidy.calls s name args).follows n (Whole y t) h).0

      no_loss : (at : State Env) (last : List Note) (f : Env) → M.Loses at last f → last ≡ []
      no_loss at last f h = (tidy.loses at last f h).0

      tails_alike : (told : List Answer) (at : State Env) (picks left other : Picks) (n m : List Note) (x y : End) → Tail told at n x → Tail told at m y →
          Takes n picks left → Takes m picks other → Alike n x m y
      tails_alike told at picks left other n m (Whole y s) (Whole z t) (e, ends, is, none) (e', ends', is', none') a b =
          let same = ends_once e e' y z (sym ends ∙ ends') in
          (none ∙ sym none', same.1, is ∙ ap (λ v. on (take k v) at) same.0 ∙ sym is')
      tails_alike told at picks left other n m (Whole y s) (Cut g) (e, ends, is, none) (true, h) a b = not_both told e y h.name h.args ends h.asks
      tails_alike told at picks left other n m (Whole y s) (Cut g) (e, ends, is, none) (false, h) a b =
          subst (λ z. Before z n) (sym (no_loss at m g h)) tt
      tails_alike told at picks left other n m (Cut f) (Whole z t) (true, h) (e, ends, is, none) a b = not_both told e z h.name h.args ends h.asks
      tails_alike told at picks left other n m (Cut f) (Whole z t) (false, h) (e, ends, is, none) a b =
          subst (λ v. Before v m) (sym (no_loss at n f h)) tt
      tails_alike told at picks left other n m (Cut f) (Cut g) (true, h) (true, j) a b =
          let same = asks_once h.name j.name h.args j.args (sym h.asks ∙ j.asks) in
          (tidy.calls at h.name h.args).one picks left other n m (Cut f) (Cut g) h.falls
          (subst (λ v. M.Falls at v h.args m g) (sym same.0) (subst (λ v. M.Falls at j.name v m g) (sym same.1) j.falls)) a b
      tails_alike told at picks left other n m (Cut f) (Cut g) (true, h) (false, j) a b = like_none n m (no_loss at m g j)
      tails_alike told at picks left other n m (Cut f) (Cut g) (false, h) (true, j) a b = λ within i e d.
          sym (like_none m n (no_loss at n f h) within i d e)
      tails_alike told at picks left other n m (Cut f) (Cut g) (false, h) (false, j) a b = λ within i e d. no_loss at n f h ∙ sym (no_loss at m g j)

      -- one run has come to its last, while the other makes a call
      last_first : (told : List Answer) (at : State Env) (c : WholeCall Env Note) (picks left mid : Picks) (n rest : List Note) (x y : End) →
          Tail told at n x → D told ≡ Asks (Call c.name c.args) → M.Calls at c.name c.args c.notes c.answer c.after → Takes n picks left →
          Takes c.notes picks mid → Alike n x (c.notes ++ rest) y
      last_first told at c picks left mid n rest (Whole y s) z (e, ends, is, none) asks call a b = not_both told e y c.name c.args ends asks
      last_first told at c picks left mid n rest (Cut f) z (true, h) asks call a b =
          let same = asks_once h.name c.name h.args c.args (sym h.asks ∙ asks) in
          let falls = subst (λ v. M.Falls at v c.args n f) same.0 (subst (λ v. M.Falls at h.name v n f) same.1 h.falls) in
          let before = (tidy.calls at c.name c.args).one picks left mid n c.notes (Cut f) (Whole c.answer c.after) falls call a b in
          alike_cut n c.notes rest f z (whole_of at c.name c.args c.notes c.answer c.after call) before
      last_first told at c picks left mid n rest (Cut f) z (false, h) asks call a b =
          alike_cut n c.notes rest f z (whole_of at c.name c.args c.notes c.answer c.after call)
          (subst (λ v. Before v c.notes) (sym (no_loss at n f h)) tt)

      -- two runs, each by its calls and its last
      runs_alike : (told : List Answer) (cs ds : List (WholeCall Env Note)) (from at to : State Env) (heard other_heard : List Answer) →
          heard ≡ told ++ answers_of cs → other_heard ≡ told ++ answers_of ds → Reaches M D told from cs at → Reaches M D told from ds to →
          (picks left other : Picks) (n m : List Note) (x y : End) → Tail heard at n x → Tail other_heard to m y → Takes (notes_of cs ++ n) picks left →
          Takes (notes_of ds ++ m) picks other → Alike (notes_of cs ++ n) x (notes_of ds ++ m) y
      runs_alike told [] [] from at to heard other_heard is other_is p q picks left other n m x y h g a b =
          tails_alike told from picks left other n m x y
          (subst (λ v. Tail v from n x) (is ∙ append-nil told) (subst (λ s. Tail heard s n x) (sym p) h))
          (subst (λ v. Tail v from m y) (other_is ∙ append-nil told) (subst (λ s. Tail other_heard s m y) (sym q) g)) a b
      runs_alike told [] (d ∷ ds) from at to heard other_heard is other_is p q picks left other n m x y h g a b =
          let s = split d.notes (notes_of ds ++ m) ((d.notes ++ notes_of ds) ++ m) picks other (append_assoc d.notes (notes_of ds) m) b in
          subst (λ v. Alike n x v y) (sym (append_assoc d.notes (notes_of ds) m))
          (last_first told from d picks left s.mid n (notes_of ds ++ m) x y
          (subst (λ v. Tail v from n x) (is ∙ append-nil told) (subst (λ s. Tail heard s n x) (sym p) h)) q.0 q.1 a s.first)
      runs_alike told (c ∷ cs) [] from at to heard other_heard is other_is p q picks left other n m x y h g a b =
          let s = split c.notes (notes_of cs ++ n) ((c.notes ++ notes_of cs) ++ n) picks left (append_assoc c.notes (notes_of cs) n) a in
          subst (λ v. Alike v x m y) (sym (append_assoc c.notes (notes_of cs) n))
          (flipped m (c.notes ++ (notes_of cs ++ n)) y x (last_first told from c picks other s.mid m (notes_of cs ++ n) y x
          (subst (λ v. Tail v from m y) (other_is ∙ append-nil told) (subst (λ s. Tail other_heard s m y) (sym q) g)) p.0 p.1 b s.first))
      runs_alike told (c ∷ cs) (d ∷ ds) from at to heard other_heard is other_is p q picks left other n m x y h g a b =
          let s = split c.notes (notes_of cs ++ n) ((c.notes ++ notes_of cs) ++ n) picks left (append_assoc c.notes (notes_of cs) n) a in
          let t = split d.notes (notes_of ds ++ m) ((d.notes ++ notes_of ds) ++ m) picks other (append_assoc d.notes (notes_of ds) m) b in
          let same = asks_once c.name d.name c.args d.args (sym p.0 ∙ q.0) in
          let call = subst (λ v. M.Calls from v c.args d.notes d.answer d.after) (sym same.0)
          (subst (λ v. M.Calls from d.name v d.notes d.answer d.after) (sym same.1) q.1) in
          let one = (tidy.calls from c.name c.args).one picks s.mid t.mid c.notes d.notes (Whole c.answer c.after) (Whole d.answer d.after) p.1 call
          s.first t.first in
          let mids = one_left c.notes d.notes picks s.mid t.mid one.0 s.first t.first in
          let rest = runs_alike (told ++ c.answer ∷ []) cs ds c.after at to heard other_heard
          (is ∙ sym (append_assoc told (c.answer ∷ []) (answers_of cs)))
          (other_is ∙ ap (λ v. told ++ v ∷ answers_of ds) (sym one.1) ∙ sym (append_assoc told (c.answer ∷ []) (answers_of ds))) p.2
          (subst (λ v. Reaches M D (told ++ v ∷ []) c.after ds to) (sym one.1)
          (subst (λ v. Reaches M D (told ++ d.answer ∷ []) v ds to) (sym one.2) q.2))
          s.mid left other n m x y h g s.second (subst (λ v. Takes (notes_of ds ++ m) v other) (sym mids) t.second) in
          let w = whole_of from c.name c.args c.notes c.answer c.after p.1 in
          subst (λ v. Alike v x ((d.notes ++ notes_of ds) ++ m) y) (sym (append_assoc c.notes (notes_of cs) n))
          (subst (λ v. Alike (c.notes ++ (notes_of cs ++ n)) x v y) (ap (λ v. v ++ (notes_of ds ++ m)) one.0 ∙ sym (append_assoc d.notes (notes_of ds) m))
          (alike_after c.notes (notes_of cs ++ n) (notes_of ds ++ m) x y w rest))

      -- ---- the base at the end

      tail_follows : (told : List Answer) (at : State Env) (n : List Note) (x : End) → Tail told at n x → Follows lost does cuts at.base n x
      tail_follows told at n (Whole y s) (e, ends, is, none) =
          subst (λ v. Follows lost does cuts at.base v (Whole y s)) (sym none) (tt, ap (λ (v : State Env). v.base) is)
      tail_follows told at n (Cut f) (true, h) = (tidy.calls at h.name h.args).follows n (Cut f) h.falls
      tail_follows told at n (Cut f) (false, h) =
          let l = tidy.loses at n f h in subst (λ v. Follows lost does cuts at.base v (Cut f)) (sym l.0) l.1

      run_follows : (told heard : List Answer) (cs : List (WholeCall Env Note)) (from at : State Env) → Reaches M D told from cs at →
          (n : List Note) (x : End) →
          Tail heard at n x → Follows lost does cuts from.base (notes_of cs ++ n) x
      run_follows told heard [] from at p n x h = subst (λ (s : State Env). Follows lost does cuts s.base n x) (sym p) (tail_follows heard at n x h)
      run_follows told heard (c ∷ cs) from at p n x h =
          let w = (tidy.calls from c.name c.args).follows c.notes (Whole c.answer c.after) p.1 in
          subst (λ v. Follows lost does cuts from.base v x) (sym (append_assoc c.notes (notes_of cs) n))
          (follows_after lost does cuts from.base c.after.base c.notes (notes_of cs ++ n) x w.0 w.1
          (run_follows (told ++ c.answer ∷ []) heard cs c.after at p.2 n x h))

    module _ (L : ClosedLayer) (b : Block) (args : Env) where
      -- a run of the block over a memory and the machine below
      record Opened (memory : Env) (lower : State Env) (n : List Note) (x : End) : Type 0 where
        calls : List (WholeCall Env Note)
        at : State Env
        path : Reaches M (dialogue_of L b memory args) [] lower calls at
        last : List Note
        tail : Tail (dialogue_of L b memory args) (length memory) (answers_of calls) at last x
        is : n ≡ notes_of calls ++ last

      opened : (from : State Env) (n : List Note) (x : End) → blocking L M b args from n x → Opened (memory_in from) (under from) n x
      opened from n (Whole y s) h =
          subst (λ (v : State Env). Opened (memory_in v) (under v) n (Whole y s)) (sym h.from_is) (record {
            calls = h.run.calls;
            at = h.lower';
            path = h.run.path;
            last = [];
            tail = (h.env', h.run.ends, h.to_is, refl);
            is = h.run.takes ∙ sym (append-nil (notes_of h.run.calls));
          })
      opened from n (Cut f) h =
          subst (λ (v : State Env). Opened (memory_in v) (under v) n (Cut f)) (sym h.from_is) (record {
            calls = h.run.calls;
            at = h.run.at;
            path = h.run.path;
            last = h.run.last;
            tail = (h.run.within, h.run.falls);
            is = h.run.takes;
          })

      pub block_steady : (from : State Env) → Steady lost does cuts from.base (blocking L M b args from)
      block_steady from = record {
        one = λ picks left other n m x y h g a c.
            let o = opened from n x h in
            let q = opened from m y g in
            let r = runs_alike (dialogue_of L b (memory_in from) args) (length (memory_in from)) [] o.calls q.calls (under from) o.at q.at
            (answers_of o.calls) (answers_of q.calls) refl refl o.path q.path picks left other o.last q.last x y o.tail q.tail
            (subst (λ v. Takes v picks left) o.is a) (subst (λ v. Takes v picks other) q.is c) in
            subst (λ v. Alike v x m y) (sym o.is) (subst (λ v. Alike (notes_of o.calls ++ o.last) x v y) (sym q.is) r);
        follows = λ n x h.
            let o = opened from n x h in
            subst (λ v. Follows lost does cuts from.base v x) (sym o.is)
            (run_follows (dialogue_of L b (memory_in from) args) (length (memory_in from)) [] (answers_of o.calls) o.calls (under from) o.at o.path o.last x
            o.tail);
      }
