-- Power that fails on a specification, with a pick for each place: the same ends as with picks from the front.
use Rattle.std.proofs.Common.{
  ◌≡◌,
  ◌<◌,
  ◌≤◌,
  ◌+◌,
  ◌-◌,
  ℕ,
  zero,
  suc,
  Bool,
  true,
  false,
  if◌then◌else◌,
  List,
  [],
  ◌∷◌,
  ◌++◌,
  map,
  Option,
  Some,
  None,
  refl,
  ap,
  ◌∙◌,
  arith,
}
use Rattle.std.specs.Prelude.{nat_lt}
use Rattle.std.specs.Str.{bytes_eq}
use Rattle.std.proofs.lemmas.Bool.Decides.{nat_tests}
use Rattle.ygg_value.specs.declared.row.Value.{Value}
use Rattle.ygg_syntax.specs.declared.tree.Block.{Block}
use Rattle.ygg_syntax.specs.declared.tree.Operation.{Operation}
use Rattle.ygg_sym_runs.specs.ygg_meaning.Environments.{Name, Env, bind}
use Rattle.ygg_sym_runs.specs.ygg_meaning.Progress.{Question, Choice, Call}
use Rattle.ygg_sym_runs.specs.ygg_meaning.Machine.{Picks, State}
use Rattle.ygg_sym_runs.specs.ygg_meaning.Layer.{ClosedLayer, operation_in, operation_of}
use Rattle.ygg_sym_runs.specs.ygg_meaning_laws.Direct.{total}
use Rattle.ygg_sym_runs.specs.ygg_meaning_laws.Acts.{next_of, later}
use Rattle.ygg_sym_runs.specs.ygg_meaning_laws.SpecActs.{Ran, block_ran, then_crash, fall_ran, spec_drops, spec_acts}
use Rattle.ygg_sym_runs.specs.ygg_meaning_laws.RunPlaces.{base_at, cut_by}
use Rattle.ygg_sym_runs.specs.SpecCuts.{fall_places, fall_room}
use Rattle.ygg_sym_runs.proofs.Chosen.{Decided, room, block_end, fronts, backs}

-- the bits from a place on
abbrev pub bits_after : ℕ → (ℕ → Bool) → ℕ → Bool
bits_after n bits k = bits (n + k)

-- what is decided below a number is decided below a greater one
pub more_decided : (n most : ℕ) (P : (ℕ → Bool) → Type 0) → n ≤ most → Decided n P → Decided most P
more_decided n most P l d = record { bits = d.bits; holds = λ g same. d.holds g (λ k m. same k (omega (arith, l, m))) }

-- bits that are followed by others
abbrev both : ℕ → (ℕ → Bool) → (ℕ → Bool) → ℕ → Bool
both n f g k = if nat_lt k n then f k else g (k - n)

both_first : (n : ℕ) (f g : ℕ → Bool) (k : ℕ) → k < n → both n f g k ≡ f k
both_first n f g k l = let t : nat_lt k n ≡ true = grind (arith, nat_tests) in ap (λ b. if b then f k else g (k - n)) t

both_second : (n : ℕ) (f g : ℕ → Bool) (k : ℕ) → both n f g (n + k) ≡ g k
both_second n f g k =
    let t : nat_lt (n + k) n ≡ false = grind (arith, nat_tests) in
    let e : (n + k) - n ≡ k = omega arith in ap (λ b. if b then f (n + k) else g ((n + k) - n)) t ∙ ap g e

-- one bit before others
abbrev first_and : Bool → (ℕ → Bool) → ℕ → Bool
first_and p f zero = p
first_and p f (suc k) = f k

-- an operation's number is at most the sum of all
pub among : (h : Operation → ℕ) (os : List Operation) (name : Name) (o : Operation) → operation_in os name ≡ Some o → h o ≤ total (map h os)
among h [] name o e = absurd (cc)
among h (x ∷ os) name o e = by_name (bytes_eq x.name.text name) e (λ f. among h os name o f)
  where
    by_name : (c : Bool) → (if c then Some x else operation_in os name) ≡ Some o → (operation_in os name ≡ Some o → h o ≤ total (map h os)) →
        h o ≤ h x + total (map h os)
    by_name true e rest = let f : x ≡ o = cc in let g : h x ≡ h o = ap h f in omega (arith, g)
    by_name false e rest = let r = rest e in omega (arith, r)

module _ (m : ClosedLayer) where
  -- what the `crash` block leaves
  abbrev pub crash_end : (ℕ → Bool) → Env → Env
  crash_end bits vars = (block_end m bits m.layer.crash vars []).vars

  -- what a block leaves and then the `crash` block
  abbrev pub then_end : (ℕ → Bool) → Block → Env → Env → Env
  then_end bits b vars args = crash_end (bits_after (room b) bits) (block_end m bits b vars args).vars

  -- what an operation leaves that power has cut
  abbrev pub fall_end : (ℕ → Bool) → Operation → Option Block → Env → List Value → Env
  fall_end bits o (Some b) vars args = then_end bits b vars (bind o.arguments args)
  fall_end bits o None vars args =
      if bits 0 then then_end (bits_after 1 bits) o.spec vars (bind o.arguments args) else crash_end (bits_after 1 bits) vars

  -- what is none does nothing
  abbrev pub drop_end : (ℕ → Bool) → Option Operation → State Env → List Value → Env
  drop_end bits None s args = s.base
  drop_end bits (Some o) s args = fall_end bits o o.on_crash s.base args

  -- power is lost between operations
  abbrev pub lose_end : (ℕ → Bool) → State Env → Env
  lose_end bits s = crash_end bits s.base

  -- power fails within a question
  abbrev pub cut_end : (ℕ → Bool) → Question → State Env → Env
  cut_end bits Choice s = lose_end bits s
  cut_end bits (Call f args) s = drop_end bits (operation_of m f) s args

  module _ (past : Bool) where
    crash_front : (bits : ℕ → Bool) (vars : Env) → (last : Picks) × ((block_ran past m m.layer.crash vars [] last).vars ≡ crash_end bits vars)
    crash_front bits vars = let f = fronts m past bits m.layer.crash vars [] in (f.picks ++ [], ap (λ (r : Ran). r.vars) (f.is []))

    then_front : (bits : ℕ → Bool) (b : Block) (vars args : Env) →
        (last : Picks) × ((then_crash past m (block_ran past m b vars args last)).vars ≡ then_end bits b vars args)
    then_front bits b vars args =
        let f = fronts m past bits b vars args in
        let c = crash_front (bits_after (room b) bits) (block_end m bits b vars args).vars in
        (f.picks ++ c.0, ap (λ (r : Ran). (then_crash past m r).vars) (f.is c.0) ∙ c.1)

    fall_front : (bits : ℕ → Bool) (o : Operation) (crash : Option Block) (vars : Env) (args : List Value) →
        (last : Picks) × ((fall_ran past m o crash vars args last).vars ≡ fall_end bits o crash vars args)
    fall_front bits o (Some b) vars args = then_front bits b vars (bind o.arguments args)
    fall_front bits o None vars args = by_pick (bits 0)
      where
        by_pick : (p : Bool) → (last : Picks) × ((fall_ran past m o None vars args last).vars ≡
            (if p then then_end (bits_after 1 bits) o.spec vars (bind o.arguments args) else crash_end (bits_after 1 bits) vars))
        by_pick true = let t = then_front (bits_after 1 bits) o.spec vars (bind o.arguments args) in (true ∷ t.0, t.1)
        by_pick false = let t = crash_front (bits_after 1 bits) vars in (false ∷ t.0, t.1)

    drop_front : (bits : ℕ → Bool) (o : Option Operation) (s : State Env) (args : List Value) →
        (last : Picks) × ((spec_drops past m s o args last).base ≡ drop_end bits o s args)
    drop_front bits None s args = ([], refl)
    drop_front bits (Some o) s args = fall_front bits o o.on_crash s.base args

    cut_front : (bits : ℕ → Bool) (q : Question) (s : State Env) → (last : Picks) × (cut_by (spec_acts past m) last q s ≡ cut_end bits q s)
    cut_front bits Choice s = crash_front bits s.base
    cut_front bits (Call f args) s = drop_front bits (operation_of m f) s args

    -- what a stop leaves with the picks of places, it leaves with some picks from the front
    pub base_front : (bits : ℕ → Bool) (within : Bool) (es : List (Question × State Env)) (n : ℕ) (end : State Env) →
        (last : Picks) × (base_at (cut_by (spec_acts past m) last) (λ s. ((spec_acts past m).loses s last).base) within es n end
        ≡ base_at (cut_end bits) (lose_end bits) within es n end)
    base_front bits true [] zero end = ([], refl)
    base_front bits false [] zero end = let c = crash_front bits end.base in (c.0, ap (λ (e : Env). Some e) c.1)
    base_front bits within [] (suc n) end = ([], refl)
    base_front bits true (e ∷ es) zero end = let c = cut_front bits e.0 e.1 in (c.0, ap (λ (e : Env). Some e) c.1)
    base_front bits false (e ∷ es) zero end = let c = crash_front bits e.1.base in (c.0, ap (λ (e : Env). Some e) c.1)
    base_front bits within (e ∷ es) (suc n) end = base_front bits within es n end

    crash_back : (vars : Env) (last : Picks) →
        Decided (room m.layer.crash) (λ g. crash_end g vars ≡ (block_ran past m m.layer.crash vars [] last).vars)
    crash_back vars last =
        let d = backs m past m.layer.crash vars [] last in record { bits = d.bits; holds = λ g same. (d.holds g same).0 }

    then_back : (b : Block) (vars args : Env) (last : Picks) →
        Decided (room b + room m.layer.crash) (λ g. then_end g b vars args ≡ (then_crash past m (block_ran past m b vars args last)).vars)
    then_back b vars args last =
        let r = block_ran past m b vars args last in
        let d = backs m past b vars args last in
        let c = crash_back r.vars r.left in
        record {
          bits = both (room b) d.bits c.bits;
          holds = λ g same.
              let first = d.holds g (λ k l.
              let more : k < room b + room m.layer.crash = omega (arith, l) in same k more ∙ both_first (room b) d.bits c.bits k l) in
              let second = c.holds (bits_after (room b) g) (λ k l.
              let more : room b + k < room b + room m.layer.crash = omega (arith, l) in
              same (room b + k) more ∙ both_second (room b) d.bits c.bits k) in
              ap (crash_end (bits_after (room b) g)) first.0 ∙ second;
        }

    fall_back : (o : Operation) (crash : Option Block) (vars : Env) (args : List Value) (last : Picks) →
        Decided (elim crash [ None ↦ suc (room o.spec) + room m.layer.crash | Some b ↦ room b + room m.layer.crash ])
        (λ g. fall_end g o crash vars args ≡ (fall_ran past m o crash vars args last).vars)
    fall_back o (Some b) vars args last = then_back b vars (bind o.arguments args) last
    fall_back o None vars args last = by_pick (next_of past last)
      where
        ending : Bool → Env
        ending p =
            (if p then then_crash past m (block_ran past m o.spec vars (bind o.arguments args) (later last))
            else block_ran past m m.layer.crash vars [] (later last)).vars

        by_pick : (p : Bool) → Decided (suc (room o.spec) + room m.layer.crash) (λ g. fall_end g o None vars args ≡
            (if p then then_crash past m (block_ran past m o.spec vars (bind o.arguments args) (later last))
            else block_ran past m m.layer.crash vars [] (later last)).vars)
        by_pick true =
            let t = then_back o.spec vars (bind o.arguments args) (later last) in
            record {
              bits = first_and true t.bits;
              holds = λ g same.
                  let zeroth : 0 < suc (room o.spec) + room m.layer.crash = omega arith in
                  let rest = t.holds (bits_after 1 g) (λ k l.
                  let more : suc k < suc (room o.spec) + room m.layer.crash = omega (arith, l) in
                  let e : 1 + k ≡ suc k = omega arith in ap g e ∙ same (suc k) more) in
                  ap (λ p. if p then then_end (bits_after 1 g) o.spec vars (bind o.arguments args) else crash_end (bits_after 1 g) vars) (same 0 zeroth)
                  ∙ rest;
            }
        by_pick false =
            let t = crash_back vars (later last) in
            record {
              bits = first_and false t.bits;
              holds = λ g same.
                  let zeroth : 0 < suc (room o.spec) + room m.layer.crash = omega arith in
                  let rest = t.holds (bits_after 1 g) (λ k l.
                  let more : suc k < suc (room o.spec) + room m.layer.crash = omega (arith, l) in
                  let e : 1 + k ≡ suc k = omega arith in ap g e ∙ same (suc k) more) in
                  ap (λ p. if p then then_end (bits_after 1 g) o.spec vars (bind o.arguments args) else crash_end (bits_after 1 g) vars) (same 0 zeroth)
                  ∙ rest;
            }

    drop_back : (f : Name) (o : Option Operation) → operation_of m f ≡ o → (s : State Env) (args : List Value) (last : Picks) →
        Decided (fall_room m) (λ g. drop_end g o s args ≡ (spec_drops past m s o args last).base)
    drop_back f None e s args last = record { bits = λ k. false; holds = λ g same. refl }
    drop_back f (Some o) e s args last =
        let few = among (fall_places m) m.layer.operations f o e in
        more_decided (fall_places m o) (fall_room m) (λ g. drop_end g (Some o) s args ≡ (spec_drops past m s (Some o) args last).base)
        (omega (arith, few)) (fall_back o o.on_crash s.base args last)

    lose_back : (s : State Env) (last : Picks) → Decided (fall_room m) (λ g. lose_end g s ≡ ((spec_acts past m).loses s last).base)
    lose_back s last =
        more_decided (room m.layer.crash) (fall_room m) (λ g. lose_end g s ≡ ((spec_acts past m).loses s last).base) (omega arith) (crash_back s.base last)

    cut_back : (q : Question) (s : State Env) (last : Picks) → Decided (fall_room m) (λ g. cut_end g q s ≡ cut_by (spec_acts past m) last q s)
    cut_back Choice s last = lose_back s last
    cut_back (Call f args) s last = drop_back f (operation_of m f) refl s args last

    some_decided : (a : (ℕ → Bool) → Env) (e : Env) → Decided (fall_room m) (λ g. a g ≡ e) → Decided (fall_room m) (λ g. Some (a g) ≡ Some e)
    some_decided a e d = record { bits = d.bits; holds = λ g same. ap (λ (x : Env). Some x) (d.holds g same) }

    -- and the other way round
    pub base_back : (last : Picks) (within : Bool) (es : List (Question × State Env)) (n : ℕ) (end : State Env) →
        Decided (fall_room m) (λ g. base_at (cut_end g) (lose_end g) within es n end
        ≡ base_at (cut_by (spec_acts past m) last) (λ s. ((spec_acts past m).loses s last).base) within es n end)
    base_back last true [] zero end = record { bits = λ k. false; holds = λ g same. refl }
    base_back last false [] zero end = some_decided (λ g. lose_end g end) _ (lose_back end last)
    base_back last within [] (suc n) end = record { bits = λ k. false; holds = λ g same. refl }
    base_back last true (e ∷ es) zero end = some_decided (λ g. cut_end g e.0 e.1) _ (cut_back e.0 e.1 last)
    base_back last false (e ∷ es) zero end = some_decided (λ g. lose_end g e.1) _ (lose_back e.1 last)
    base_back last within (e ∷ es) (suc n) end = base_back last within es n end
