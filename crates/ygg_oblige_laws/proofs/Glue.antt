-- One environment for all that a schedule speaks of: its states, its arguments, and the picks and stops of its runs.
use Rattle.std.proofs.Common.{◌≡◌, ◌≤◌, ◌+◌, ◌*◌, ◌&&◌, ℕ, Bool, true, List, [], ◌∷◌, sym, ap, ◌∙◌, subst, arith}
use Rattle.std.proofs.lemmas.List.Elements.{All-nil, All-cons, All-head, All-tail}
use Rattle.std.specs.Prelude.{All}
use Rattle.ygg_sym_laws.specs.ygg_meaning_laws_proofs_Tests.{left, right}
use Rattle.ygg_sym_laws.specs.ygg_meaning.Environments.{Env}
use Rattle.ygg_sym_laws.specs.ygg_meaning.Layer.{ClosedLayer}
use Rattle.ygg_sym_laws.specs.ygg_meaning.Obligations.{Schedule, Obligation}
use Rattle.ygg_sym_laws.specs.ygg_meaning.Refines.{Below}
use Rattle.ygg_sym_laws.specs.ygg_meaning.Related.{shaped, all_true, relates}
use Rattle.ygg_sym_laws.specs.ygg_meaning.Shapes.{env_fits}
use Rattle.ygg_sym_laws.specs.ygg_bank.Values.{Inputs, Values}
use Rattle.ygg_sym_laws.specs.ygg_bank.declared.node.Node.{Node}
use Rattle.ygg_sym_laws.specs.ygg_sym_runs.Meaning.{is_set}
use Rattle.ygg_sym_laws.specs.Below.{places_on, failure_room}
use Rattle.ygg_sym_laws.specs.Means.{AreBits}
use Rattle.ygg_oblige_laws.specs.LayerTerms.{ShapesKept}
use Rattle.ygg_oblige_laws.specs.Numbers.{Numbers, numbers_of, block_of}
use Rattle.ygg_oblige_laws.specs.TermStates.{Starting, words_in, state_words}
use Rattle.ygg_oblige_laws.specs.Inputs.{given_env, AreDigits, EnvDigits, Part, InTurn, PartFits, env_part, bits_part, FreshMeans, GluedMeans}
use Rattle.ygg_oblige_laws.specs.States.{given_stand, StartsSo, StatesStand}
use Rattle.ygg_oblige_laws.specs.Worth.{Stand}
use Rattle.ygg_oblige_laws.proofs.Setting.{FromIs}

-- the picks of a run, its stops, the picks of a failure, and those of a recovery and of another
pub record AllBits : Type 0 where
  pub run : ℕ → Bool
  pub stop : ℕ → Bool
  pub last : ℕ → Bool
  pub wake : ℕ → Bool
  pub other : ℕ → Bool

-- the parts have their numbers
abbrev pub AllDigits : Inputs → List Part → Type 0
AllDigits inputs = All (λ (p : Part). AreDigits inputs p.first p.count p.digits)

module _ (G : Below) (L : ClosedLayer) (o : Obligation) (start : ℕ) where
  abbrev pub numbers : Numbers
  numbers = numbers_of G L o start

  abbrev pub places : ℕ
  places = places_on G (block_of L o)

  abbrev pub waking : ℕ
  waking = places_on G L.layer.recover

  -- the parts of an environment that are bits
  abbrev pub bit_parts : AllBits → List Part
  bit_parts bits =
      bits_part numbers.run places bits.run ∷ bits_part numbers.stop (2 * places + 1) bits.stop ∷ bits_part numbers.last (failure_room G) bits.last
      ∷ bits_part numbers.wake waking bits.wake ∷ bits_part numbers.other waking bits.other ∷ []

  pub bits_turn : (bits : AllBits) (from : ℕ) → from ≤ numbers.run → InTurn from (bit_parts bits)
  bits_turn bits from l = (l, (omega arith, (omega arith, (omega arith, (omega arith, tt)))))

  -- the inputs are these bits
  pub record BitsAre (inputs : Inputs) (bits : AllBits) : Type 0 where
    pub run : AreBits inputs numbers.run places bits.run
    pub stop : AreBits inputs numbers.stop (2 * places + 1) bits.stop
    pub last : AreBits inputs numbers.last (failure_room G) bits.last
    pub wake : AreBits inputs numbers.wake waking bits.wake
    pub other : AreBits inputs numbers.other waking bits.other

  pub bits_there : (glue : GluedMeans) (inputs : Inputs) (bits : AllBits) → AllDigits inputs (bit_parts bits) → BitsAre inputs bits
  bits_there glue inputs bits a =
      let P = λ (p : Part). AreDigits inputs p.first p.count p.digits in
      let run = bits_part numbers.run places bits.run in
      let stop = bits_part numbers.stop (2 * places + 1) bits.stop in
      let last = bits_part numbers.last (failure_room G) bits.last in
      let wake = bits_part numbers.wake waking bits.wake in
      let other = bits_part numbers.other waking bits.other in
      let b = All-tail P run (stop ∷ last ∷ wake ∷ other ∷ []) a in
      let c = All-tail P stop (last ∷ wake ∷ other ∷ []) b in
      let d = All-tail P last (wake ∷ other ∷ []) c in
      let e = All-tail P wake (other ∷ []) d in
      record {
        run = glue.bits_are inputs numbers.run places bits.run (All-head P run (stop ∷ last ∷ wake ∷ other ∷ []) a);
        stop = glue.bits_are inputs numbers.stop (2 * places + 1) bits.stop (All-head P stop (last ∷ wake ∷ other ∷ []) b);
        last = glue.bits_are inputs numbers.last (failure_room G) bits.last (All-head P last (wake ∷ other ∷ []) c);
        wake = glue.bits_are inputs numbers.wake waking bits.wake (All-head P wake (other ∷ []) d);
        other = glue.bits_are inputs numbers.other waking bits.other (All-head P other [] e);
      }

  pub bits_fit : (glue : GluedMeans) (nodes : List Node) (bits : AllBits) → All (PartFits nodes) (bit_parts bits)
  bits_fit glue nodes bits =
      let P = PartFits nodes in
      let run = bits_part numbers.run places bits.run in
      let stop = bits_part numbers.stop (2 * places + 1) bits.stop in
      let last = bits_part numbers.last (failure_room G) bits.last in
      let wake = bits_part numbers.wake waking bits.wake in
      let other = bits_part numbers.other waking bits.other in
      All-cons P run (stop ∷ last ∷ wake ∷ other ∷ []) (glue.bits_fit nodes numbers.run places bits.run)
      (All-cons P stop (last ∷ wake ∷ other ∷ []) (glue.bits_fit nodes numbers.stop (2 * places + 1) bits.stop)
      (All-cons P last (wake ∷ other ∷ []) (glue.bits_fit nodes numbers.last (failure_room G) bits.last)
      (All-cons P wake (other ∷ []) (glue.bits_fit nodes numbers.wake waking bits.wake)
      (All-cons P other [] (glue.bits_fit nodes numbers.other waking bits.other) (All-nil P)))))

-- numbers of words for the states of a schedule
pub record StateDigits (L : ClosedLayer) (x : Schedule) : Type 0 where
  pub vars : EnvDigits L.layer.state x.state
  pub memory : EnvDigits L.layer.memory x.memory
  pub low : EnvDigits L.low x.low

pub state_digits : (fresh : FreshMeans) (L : ClosedLayer) (x : Schedule) → ShapesKept L.layer.state → ShapesKept L.layer.memory → ShapesKept L.low →
    shaped L x.state x.memory x.low ≡ true → StateDigits L x
state_digits fresh L x p q r h =
    let ab = left (env_fits L.layer.state x.state && env_fits L.layer.memory x.memory) (env_fits L.low x.low) h in
    record {
      vars = fresh.back L.layer.state x.state p (left (env_fits L.layer.state x.state) (env_fits L.layer.memory x.memory) ab);
      memory = fresh.back L.layer.memory x.memory q (right (env_fits L.layer.state x.state) (env_fits L.layer.memory x.memory) ab);
      low = fresh.back L.low x.low r (right (env_fits L.layer.state x.state && env_fits L.layer.memory x.memory) (env_fits L.low x.low) h);
    }

module _ (L : ClosedLayer) (number : ℕ) (x : Schedule) where
  abbrev pub memory_at : ℕ
  memory_at = number + words_in L.layer.state

  abbrev pub low_at : ℕ
  low_at = number + words_in L.layer.state + words_in L.layer.memory

  -- the parts of an environment that are states, before others
  abbrev pub state_parts : StateDigits L x → List Part → List Part
  state_parts s rest =
      env_part number L.layer.state x.state s.vars ∷ env_part memory_at L.layer.memory x.memory s.memory ∷ env_part low_at L.low x.low s.low ∷ rest

  pub states_turn : (s : StateDigits L x) (rest : List Part) → InTurn (number + state_words L) rest → InTurn number (state_parts s rest)
  states_turn s rest t = (omega arith, (omega arith, (omega arith, subst (λ k. InTurn k rest) same t)))
    where
      same : number + state_words L ≡ number + words_in L.layer.state + words_in L.layer.memory + words_in L.low
      same = omega arith

  pub states_fit : (glue : GluedMeans) (s : StateDigits L x) (rest : List Part) (nodes : List Node) → StatesStand number L nodes → All (PartFits nodes) rest →
      All (PartFits nodes) (state_parts s rest)
  states_fit glue s rest nodes st a =
      let P = PartFits nodes in
      let vars = env_part number L.layer.state x.state s.vars in
      let memory = env_part memory_at L.layer.memory x.memory s.memory in
      let low = env_part low_at L.low x.low s.low in
      All-cons P vars (memory ∷ low ∷ rest) (glue.env_fits nodes number L.layer.state x.state s.vars st.vars)
      (All-cons P memory (low ∷ rest) (glue.env_fits nodes memory_at L.layer.memory x.memory s.memory st.memory)
      (All-cons P low rest (glue.env_fits nodes low_at L.low x.low s.low st.low) a))

  -- the states of the schedule
  abbrev pub stand_of : Stand
  stand_of = record { vars = x.state; memory = x.memory; low = x.low }

  pub states_given : (s : StateDigits L x) (rest : List Part) (inputs : Inputs) → AllDigits inputs (state_parts s rest) →
      (given_stand inputs number L ≡ stand_of) × AllDigits inputs rest
  states_given s rest inputs a =
      let P = λ (p : Part). AreDigits inputs p.first p.count p.digits in
      let vars = env_part number L.layer.state x.state s.vars in
      let memory = env_part memory_at L.layer.memory x.memory s.memory in
      let low = env_part low_at L.low x.low s.low in
      let b = All-tail P vars (memory ∷ low ∷ rest) a in
      let c = All-tail P memory (low ∷ rest) b in
      let v_is = s.vars.give inputs number (All-head P vars (memory ∷ low ∷ rest) a) in
      let m_is = s.memory.give inputs memory_at (All-head P memory (low ∷ rest) b) in
      let l_is = s.low.give inputs low_at (All-head P low rest c) in
      let stand = λ (e m l : Env). let z : Stand = record { vars = e; memory = m; low = l } in z in (
        ap (λ e. stand e (given_env inputs memory_at L.layer.memory) (given_env inputs low_at L.low)) v_is
            ∙ ap (λ m. stand x.state m (given_env inputs low_at L.low)) m_is ∙ ap (λ l. stand x.state x.memory l) l_is,
        All-tail P low rest c,
      )

  -- the states that an obligation begins with are those of the schedule, of which the relation holds
  pub from_there : (v : Values) (nodes : List Node) (S : Starting) → StartsSo v L stand_of nodes S → all_true (relates L x.state x.memory x.low) ≡ true →
      (is_set v S.related ≡ true) × FromIs v L S x
  from_there v nodes S starts h =
      let set = starts.related.relates ∙ h in
      let same = sym (starts.from set) in (
        set,
        record {
          vars_is = ap (λ (z : Stand). z.vars) same;
          memory_is = ap (λ (z : Stand). z.memory) same;
          low_is = ap (λ (z : Stand). z.low) same;
        },
      )
