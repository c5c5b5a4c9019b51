-- The runs of a disk whose calls are noted are alike.
use Rattle.std.proofs.Common.{◌≡◌, true, List, [], ◌∷◌, Some, inl, refl, sym, ap, ◌∙◌, subst}
use Rattle.std.proofs.lemmas.List.{append-nil}
use Rattle.ygg_value.specs.declared.row.Value.{Value}
use Rattle.ygg_syntax.specs.declared.tree.DiskText.{DiskText}
use Rattle.ygg_script.specs.ygg_disk.Disk as disk
use Rattle.ygg_script.specs.ygg_disk.Kinds.{model_of}
use Rattle.ygg_script.specs.ygg_meaning.Environments.{Name, Env}
use Rattle.ygg_script.specs.ygg_meaning.Progress.{Answer}
use Rattle.ygg_script.specs.ygg_meaning.Machine.{Picks, State, TickName}
use Rattle.ygg_script.specs.ygg_meaning.DiskMachine.{tables_in, disk_call}
use Rattle.ygg_script.specs.ygg_meaning.Noted.{Note, picks_in, NotedDisk}
use Rattle.ygg_meaning_laws.specs.Acts.{Taken, Did}
use Rattle.ygg_meaning_laws.specs.DiskActs.{Replied, Dropped, kind_calls, kind_falls, state_in}
use Rattle.ygg_meaning_laws.proofs.DiskActed.{state_is, call_replies, fall_drops}
use Rattle.ygg_meaning_laws.proofs.StackActed.{stacks_directly}
use Rattle.ygg_run_play.proofs.Endings.{Before}
use Rattle.ygg_run_play.proofs.Alike.{End, Whole, Cut, Alike, Takes, Follows, Steady}
use Rattle.ygg_run_play.proofs.Blocks.{calling, ticking, waking, Tidy}
use Rattle.ygg_run_play.proofs.Layered.{NoTicks}

taken_self : (picks : Picks) → Taken true picks picks []
taken_self [] = refl
taken_self (p ∷ picks) = (refl, taken_self picks)

module _ (d : DiskText) where
  -- what power loss leaves
  abbrev pub lost : Env → Env
  lost e = tables_in d.kind ((model_of d.kind).lost (state_in true d.kind e))

  -- what a whole disk call leaves, with the picks that are noted of it
  abbrev pub does : Env → Note → Env
  does e n = tables_in d.kind (kind_calls true d.kind (state_in true d.kind e) n.call n.picks).to

  -- what power leaves that cuts a disk call
  abbrev pub cuts : Env → Note → Env
  cuts e n = tables_in d.kind (kind_falls true d.kind (state_in true d.kind e) n.call n.picks).to

  abbrev State-of : Type 0
  State-of = (model_of d.kind).State

  some_is : (a b : disk.Call) → Some a ≡ Some b → a ≡ b
  some_is a b h = cc

  -- the base of a state shows the disk's state
  shown : (s : State Env) (b : Env) (x : State-of) → s ≡ (let r : State Env = record { memories = []; base = b } in r) → b ≡ tables_in d.kind x →
      state_in true d.kind s.base ≡ x
  shown s b x e at = ap (λ (v : State Env). state_in true d.kind v.base) e ∙ ap (state_in true d.kind) at ∙ state_is true d.kind x

  -- a call that power cut
  record CutCall (s : State Env) (name : Name) (args : List Value) (n : List Note) (f : Env) : Type 0 where
    call : disk.Call
    named : disk_call name args ≡ Some call
    bits : Picks
    noted : n ≡ (let c : Note = record { call = call; cut = true; picks = bits } in c ∷ [])
    from : State-of
    to : State-of
    from_is : state_in true d.kind s.base ≡ from
    step : (model_of d.kind).Falls from call bits to
    to_is : f ≡ tables_in d.kind to

  cut_call : (s : State Env) (name : Name) (args : List Value) (n : List Note) (f : Env) → (NotedDisk d).Falls s name args n f → CutCall s name args n f
  cut_call s name args n f h =
      let (b, call, named, from_is, (bits, noted, (x, z, at, step, shows))) = h in
      record {
        call = call;
        named = named;
        bits = bits;
        noted = noted;
        from = x;
        to = z;
        from_is = shown s b x from_is at;
        step = step;
        to_is = shows;
      }

  -- what falls with picks that are next is what the function says
  drops : (s : State Env) (call : disk.Call) (from to : State-of) (bits picks left : Picks) → state_in true d.kind s.base ≡ from →
      (model_of d.kind).Falls from call bits to → Taken true bits picks left →
      kind_falls true d.kind (state_in true d.kind s.base) call picks ≡ record { to = to; taken = bits; left = left }
  drops s call from to bits picks left is step took =
      ap (λ x. kind_falls true d.kind x call picks) is ∙ fall_drops true d.kind from to call bits picks left step took

  -- the one call that power cut is before the one that is whole
  cut_before : (s : State Env) (name : Name) (args : List Value) (n m : List Note) (y : Answer) (t : State Env) (f : Env) →
      (NotedDisk d).Calls s name args n y t → CutCall s name args m f → Before m n
  cut_before s name args n m y t f (b, b', call, reply, named, from_is, (bits, noted, step), answer, to) k =
      subst (λ z. Before z n) (sym k.noted)
      (subst (λ z. Before ((let c : Note = record { call = k.call; cut = true; picks = k.bits } in c) ∷ []) z) (sym noted) (inl (refl, refl)))

  calls_one : (s : State Env) (name : Name) (args : List Value) (picks left other : Picks) (n m : List Note) (x y : End) →
      calling (NotedDisk d) s name args n x → calling (NotedDisk d) s name args m y → Takes n picks left → Takes m picks other → Alike n x m y
  calls_one s name args picks left other n m (Whole y t) (Whole z u) h g a b =
      let p = stacks_directly true d [] s t name args n picks left y h a in
      let q = stacks_directly true d [] s u name args m picks other z g b in
      let same = sym p ∙ q in
      (ap (λ (v : Did Env Note). v.notes) same, ap (λ (v : Did Env Note). v.answer) same, ap (λ (v : Did Env Note). v.to) same)
  calls_one s name args picks left other n m (Whole y t) (Cut f) h g a b = cut_before s name args n m y t f h (cut_call s name args m f g)
  calls_one s name args picks left other n m (Cut f) (Whole z u) h g a b = cut_before s name args m n z u f g (cut_call s name args n f h)
  calls_one s name args picks left other n m (Cut f) (Cut g) h k a b = λ within i e o.
      let p = cut_call s name args n f h in
      let q = cut_call s name args m g k in
      let calls : q.call ≡ p.call = some_is q.call p.call (sym q.named ∙ p.named) in
      let first = drops s p.call p.from p.to p.bits picks left p.from_is p.step (taken p.call p.bits n picks left p.noted a) in
      let second = drops s q.call q.from q.to q.bits picks other q.from_is q.step (taken q.call q.bits m picks other q.noted b) in
      let bits : p.bits ≡ q.bits = ap (λ (r : Dropped State-of). r.taken)
      (sym first ∙ ap (λ c. kind_falls true d.kind (state_in true d.kind s.base) c picks) (sym calls) ∙ second) in
      p.noted ∙ ap (λ c. let r : Note = record { call = c; cut = true; picks = p.bits } in r ∷ []) (sym calls)
      ∙ ap (λ v. let r : Note = record { call = q.call; cut = true; picks = v } in r ∷ []) bits ∙ sym q.noted
    where
      taken : (call : disk.Call) (bits : Picks) (n : List Note) (picks left : Picks) →
          n ≡ (let c : Note = record { call = call; cut = true; picks = bits } in c ∷ []) → Takes n picks left → Taken true bits picks left
      taken call bits n picks left is h = subst (λ t. Taken true t picks left) (ap picks_in is ∙ append-nil bits) h

  calls_follow : (s : State Env) (name : Name) (args : List Value) (n : List Note) (x : End) → calling (NotedDisk d) s name args n x →
      Follows lost does cuts s.base n x
  calls_follow s name args n (Whole y t) (b, b', call, reply, named, from_is, (bits, noted, (x, z, at, step, shows)), answer, to) =
      let told = call_replies true d.kind x z call bits bits [] reply step (taken_self bits) in
      subst (λ v. Follows lost does cuts s.base v (Whole y t)) (sym noted) (
        (refl, tt),
        ap (λ (v : State Env). v.base) to ∙ shows ∙ ap (λ (r : Replied State-of). tables_in d.kind r.to) (sym told)
            ∙ ap (λ v. tables_in d.kind (kind_calls true d.kind v call bits).to) (sym (shown s b x from_is at)),
      )
  calls_follow s name args n (Cut f) h =
      let k = cut_call s name args n f h in
      subst (λ v. Follows lost does cuts s.base v (Cut f)) (sym k.noted)
      (k.to_is ∙ ap (λ (r : Dropped State-of). tables_in d.kind r.to)
      (sym (drops s k.call k.from k.to k.bits k.bits [] k.from_is k.step (taken_self k.bits))))

  wakes_steady : (e : Env) → Steady lost does cuts e (waking (NotedDisk d) e)
  wakes_steady e = record { one = one; follows = follows }
    where
      one : (picks left other : Picks) (n m : List Note) (x y : End) → waking (NotedDisk d) e n x → waking (NotedDisk d) e m y → Takes n picks left →
          Takes m picks other → Alike n x m y
      one picks left other n m (Whole y t) (Whole z u) h g a b = (h.1.0 ∙ sym g.1.0, h.0 ∙ sym g.0, h.1.1 ∙ sym g.1.1)
      one picks left other n m (Whole y t) (Cut f) h g a b = absurd g
      one picks left other n m (Cut f) y h g a b = absurd h

      follows : (n : List Note) (x : End) → waking (NotedDisk d) e n x → Follows lost does cuts e n x
      follows n (Whole y t) h =
          subst (λ v. Follows lost does cuts e v (Whole y t)) (sym h.1.0) (tt, ap (λ (v : State Env). v.base) h.1.1)
      follows n (Cut f) h = absurd h

  ticks_steady : (s : State Env) (name : TickName) → Steady lost does cuts s.base (ticking (NotedDisk d) s name)
  ticks_steady s name = record { one = one; follows = follows }
    where
      one : (picks left other : Picks) (n m : List Note) (x y : End) → ticking (NotedDisk d) s name n x → ticking (NotedDisk d) s name m y →
          Takes n picks left → Takes m picks other → Alike n x m y
      one picks left other n m (Whole y t) y' h g a b = absurd h.1
      one picks left other n m (Cut f) y h g a b = absurd h

      follows : (n : List Note) (x : End) → ticking (NotedDisk d) s name n x → Follows lost does cuts s.base n x
      follows n (Whole y t) h = absurd h.1
      follows n (Cut f) h = absurd h

  pub disk_tidy : Tidy lost does cuts (NotedDisk d)
  disk_tidy = record {
    calls = λ s name args. record { one = calls_one s name args; follows = calls_follow s name args };
    ticks = ticks_steady;
    wakes = wakes_steady;
    loses = λ s n f h. let (b, none, from_is, (x, at, shows)) = h in
        (none, shows ∙ ap (λ v. tables_in d.kind ((model_of d.kind).lost v)) (sym (shown s b x from_is at)));
    starts = λ picks left other n m s t h g a b. (
      h.1 ∙ sym g.1,
      h.2 ∙ ap (λ e. let r : State Env = record { memories = []; base = e } in r)
          (h.3 ∙ sym g.3) ∙ sym g.2,
    );
  }

  pub disk_none : (layer : Name) → NoTicks (NotedDisk d) layer
  disk_none layer s name n (Whole y t) e h = h.1
  disk_none layer s name n (Cut f) e h = h
