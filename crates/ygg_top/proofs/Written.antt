-- In each environment in which an obligation's term is 0, a schedule, as texts have it, violates the obligation.
use Rattle.std.proofs.Common.{◌≡◌, ◌+◌, ℕ, zero, suc, Bool, true, false, ◌&&◌, List, [], ◌∷◌, ◌++◌, map, Option, Some, None, refl, sym, ap, ◌∙◌, subst}
use Rattle.std.specs.Prelude.{slice_get}
use Rattle.std.specs.Option.{option_map}
use Rattle.std.proofs.lemmas.Slice.Eq.{bytes_eq-Decides}
use Rattle.ygg_syntax.specs.Files.{IsDerived}
use Rattle.ygg_syntax.specs.declared.tree.Declared.{Declared}
use Rattle.ygg_syntax.specs.declared.tree.DiskText.{DiskText}
use Rattle.ygg_syntax.specs.declared.tree.File.{File}
use Rattle.ygg_yard.specs.ygg_type_rules.Files.{IsTyped}
use Rattle.ygg_yard.specs.ygg_meaning.Environments.{Env, bind}
use Rattle.ygg_yard.specs.ygg_meaning.Layer.{ClosedLayer}
use Rattle.ygg_yard.specs.ygg_meaning.Obligations.{Obligation, Init, CallOf, CutOf, TickOf, CutTickOf, Idle, Again, obligations_of}
use Rattle.ygg_yard.specs.ygg_meaning.Obligations as meaning
use Rattle.ygg_yard.specs.ygg_meaning.Refines.{Below}
use Rattle.ygg_yard.specs.ygg_meaning.Related.{shaped}
use Rattle.ygg_yard.specs.ygg_meaning.Shapes.{env_fits}
use Rattle.ygg_yard.specs.ygg_meaning.Violates.{shapes_fit}
use Rattle.ygg_yard.specs.ygg_meaning.Claims.{Claim, ClaimViolated, claims_at, claims_on, claims_of}
use Rattle.ygg_yard.specs.ygg_meaning.Stack.{Layers, below_of, layers_of}
use Rattle.ygg_oblige_reading.specs.ygg_rules.declared.rule.RuleKind.{RuleKind}
use Rattle.ygg_certify.specs.ygg_bank.Nodes.{IsBank}
use Rattle.ygg_certify.specs.ygg_bank.Values.{Inputs, InputsFit, value_of}
use Rattle.ygg_certify.specs.ygg_bank.declared.node.Id.{Id}
use Rattle.ygg_certify.specs.ygg_bank.declared.node.Node.{Node}
use Rattle.ygg_certify.specs.ygg_sym_runs.Exprs.{SymFunctions}
use Rattle.ygg_certify.specs.ygg_sym_laws.Means.{terms_of}
use Rattle.ygg_certify.specs.ygg_oblige_laws.Meaning.{Refuting, AreTermsOf, claim_name}
use Rattle.ygg_certify.specs.ygg_oblige_laws.Numbers.{numbers_of}
use Rattle.ygg_certify.specs.ygg_oblige_laws.TermStates.{state_words}
use Rattle.ygg_certify.specs.ygg_oblige_laws.Terms.{after_layers, file_made}
use Rattle.ygg_sched_names.specs.ObligeSchedulesLaws.{AllExact, FileSchedules}
use Rattle.ygg_sched_names.specs.Schedules.{values_of, schedule_of, schedules_of, layer_schedules, all_schedules}
use Rattle.ygg_oblige_reading.specs.ygg_sched.Fitting.{halt_meant}
use Rattle.ygg_oblige_reading.specs.ygg_sched.declared.schedule.Halt.{Halt}
use Rattle.ygg_oblige_reading.specs.ygg_sched.declared.schedule.Schedule.{Schedule}
use Rattle.ygg_sched_names.specs.ygg_replay.Shown.{meant}
use Rattle.ygg_top.specs.Verdict.{IsViolation}

both : (a b : Bool) → (a && b) ≡ true → (a ≡ true) × (b ≡ true)
both true b h = (refl, h)
both false b h = absurd (cc h)

-- a stop, as texts have it
abbrev halt_written : meaning.Halt → Halt
halt_written h = record { within = h.within; event = h.event }

-- a schedule, as texts have it, with the obligation's name
abbrev written : Claim → meaning.Schedule → Schedule
written c s = record {
  name = claim_name c;
  state = values_of s.state;
  memory = values_of s.memory;
  low = values_of s.low;
  args = s.args;
  stop = option_map halt_written s.stop;
  picks = s.picks;
  wake = s.wake;
  other = s.other;
}

stop_back : (o : Option meaning.Halt) → option_map halt_meant (option_map halt_written o) ≡ o
stop_back None = refl
stop_back (Some h) = refl

nothing_bound : (ds : List Declared) → bind ds [] ≡ []
nothing_bound [] = refl
nothing_bound (d ∷ ds) = refl

empty_back : (ds : List Declared) (env : Env) → env ≡ [] → bind ds (values_of env) ≡ env
empty_back ds env e = subst (λ (x : Env). bind ds (values_of x) ≡ x) (sym e) (nothing_bound ds)

-- names with values are those of the values
env_back : (ds : List Declared) (env : Env) → env_fits ds env ≡ true → bind ds (values_of env) ≡ env
env_back [] [] h = refl
env_back (d ∷ ds) (b ∷ env) h =
    let (first, rest) = both _ (env_fits ds env) h in
    let (name, shape) = both _ _ first in
    ap (λ n. (n, b.1) ∷ bind ds (values_of env)) ((bytes_eq-Decides d.name.text b.0).0 name) ∙ ap (λ (r : Env). b ∷ r) (env_back ds env rest)
env_back [] (b ∷ env) h = absurd (cc h)
env_back (d ∷ ds) [] h = absurd (cc h)

-- the states are those of their values
record IsBound (c : Claim) (s : meaning.Schedule) : Type 0 where
  state : bind c.layer.layer.state (values_of s.state) ≡ s.state
  memory : bind c.layer.layer.memory (values_of s.memory) ≡ s.memory
  low : bind c.layer.low (values_of s.low) ≡ s.low

-- what an obligation does not speak of is empty
abbrev IsBare : Obligation → meaning.Schedule → Type 0
IsBare Init s = (s.state ≡ []) × (s.memory ≡ []) × (s.low ≡ [])
IsBare (CallOf o) s = Unit {0}
IsBare (CutOf o) s = Unit {0}
IsBare (TickOf t) s = Unit {0}
IsBare (CutTickOf t) s = Unit {0}
IsBare Idle s = Unit {0}
IsBare Again s = (s.state ≡ []) × (s.memory ≡ [])

shaped_back : (c : Claim) (s : meaning.Schedule) → shaped c.layer s.state s.memory s.low ≡ true → IsBound c s
shaped_back c s h =
    let (vars, low) = both _ (env_fits c.layer.low s.low) h in
    let (state, memory) = both (env_fits c.layer.layer.state s.state) (env_fits c.layer.layer.memory s.memory) vars in
    record {
      state = env_back c.layer.layer.state s.state state;
      memory = env_back c.layer.layer.memory s.memory memory;
      low = env_back c.layer.low s.low low;
    }

bound : (c : Claim) (o : Obligation) (s : meaning.Schedule) → shapes_fit c.layer o s ≡ true → IsBare o s → IsBound c s
bound c Init s h bare = record {
  state = empty_back c.layer.layer.state s.state bare.0;
  memory = empty_back c.layer.layer.memory s.memory bare.1;
  low = empty_back c.layer.low s.low bare.2;
}
bound c (CallOf o) s h bare = shaped_back c s (both (shaped c.layer s.state s.memory s.low) _ h).0
bound c (CutOf o) s h bare = shaped_back c s (both (shaped c.layer s.state s.memory s.low) _ h).0
bound c (TickOf t) s h bare = shaped_back c s h
bound c (CutTickOf t) s h bare = shaped_back c s h
bound c Idle s h bare = shaped_back c s h
bound c Again s h bare = record {
  state = empty_back c.layer.layer.state s.state bare.0;
  memory = empty_back c.layer.layer.memory s.memory bare.1;
  low = env_back c.layer.low s.low h;
}

-- a schedule with other states and another stop
abbrev made_of : meaning.Schedule → Env → Env → Env → Option meaning.Halt → meaning.Schedule
made_of s state memory low stop = record {
  state = state;
  memory = memory;
  low = low;
  args = s.args;
  stop = stop;
  picks = s.picks;
  wake = s.wake;
  other = s.other;
}

-- what is written means the schedule
meant_back : (c : Claim) (s : meaning.Schedule) → IsBound c s → meant c (written c s) ≡ s
meant_back c s b =
    let stop = option_map halt_meant (option_map halt_written s.stop) in
    let memory = bind c.layer.layer.memory (values_of s.memory) in
    let low = bind c.layer.low (values_of s.low) in
    ap (λ (x : Env). made_of s x memory low stop) b.state ∙ ap (λ (x : Env). made_of s s.state x low stop) b.memory
    ∙ ap (λ (x : Env). made_of s s.state s.memory x stop) b.low ∙ ap (λ (x : Option meaning.Halt). made_of s s.state s.memory s.low x) (stop_back s.stop)

-- a schedule that violates an obligation, as texts have it
violating : (c : Claim) (s : meaning.Schedule) → IsBare c.obligation s → ClaimViolated c s → (x : Schedule) × IsViolation c x
violating c s bare v =
    let back = meant_back c s (bound c c.obligation s v.meets.shapes bare) in
    (written c s, record { name = refl; violated = subst (λ (y : meaning.Schedule). ClaimViolated c y) (sym back) v })

-- so it is for the obligations of a list
abbrev AreBare : List Claim → List meaning.Schedule → Type 0
AreBare [] [] = Unit {0}
AreBare (c ∷ cs) (x ∷ xs) = IsBare c.obligation x × AreBare cs xs
AreBare [] (x ∷ xs) = ⊥
AreBare (c ∷ cs) [] = ⊥

more_bare : (cs ds : List Claim) (xs ys : List meaning.Schedule) → AreBare cs xs → AreBare ds ys → AreBare (cs ++ ds) (xs ++ ys)
more_bare [] ds [] ys p q = q
more_bare [] ds (x ∷ xs) ys p q = absurd p
more_bare (c ∷ cs) ds [] ys p q = absurd p
more_bare (c ∷ cs) ds (x ∷ xs) ys p q = (p.0, more_bare cs ds xs ys p.1 q)

module _ (G : Below) (L : ClosedLayer) (inputs : Inputs) (number : ℕ) where
  one_bare : (o : Obligation) (start : ℕ) → IsBare o (schedule_of G L inputs number o start)
  one_bare Init start = (refl, refl, refl)
  one_bare (CallOf o) start = tt
  one_bare (CutOf o) start = tt
  one_bare (TickOf t) start = tt
  one_bare (CutTickOf t) start = tt
  one_bare Idle start = tt
  one_bare Again start = (refl, refl)

  layer_bare : (os : List Obligation) (start : ℕ) →
      AreBare (map (λ o. record { layer = L; below = G; obligation = o }) os) (schedules_of G L inputs number os start)
  layer_bare [] start = tt
  layer_bare (o ∷ os) start = (one_bare o start, layer_bare os (numbers_of G L o start).next)

all_bare : (kinds : List RuleKind) (terms : SymFunctions) (disk : DiskText) (inputs : Inputs) (ls : Layers) →
    AreBare (claims_on disk ls) (all_schedules kinds terms disk inputs ls)
all_bare kinds terms disk inputs [] = tt
all_bare kinds terms disk inputs (L ∷ lower) =
    let G = below_of disk lower in
    let number = after_layers kinds terms disk lower in
    more_bare (claims_on disk lower) (claims_at L G) (all_schedules kinds terms disk inputs lower) (layer_schedules G L inputs number)
    (all_bare kinds terms disk inputs lower) (layer_bare G L inputs number (obligations_of L.layer) (number + state_words L))

-- in each environment in which the obligation's term is 0, a schedule, as texts have it, violates the obligation
abbrev pub Writes : List Node → Claim → Id → Type 0
Writes nodes c term = Refuting nodes term → (x : Schedule) × IsViolation c x

-- so it is for each obligation and its term, in order
abbrev pub AllWrite : List Node → List Claim → List Id → Type 0
AllWrite nodes [] [] = Unit {0}
AllWrite nodes (c ∷ cs) (t ∷ ts) = Writes nodes c t × AllWrite nodes cs ts
AllWrite nodes [] (t ∷ ts) = ⊥
AllWrite nodes (c ∷ cs) [] = ⊥

-- schedules of obligations, each of which violates its obligation where that's term is 0
record Named (inputs : Inputs) (nodes : List Node) (cs : List Claim) (ts : List Id) : Type 0 where
  xs : List meaning.Schedule
  shown : AllExact inputs nodes cs ts xs
  bare : AreBare cs xs

first_named : (inputs : Inputs) (nodes : List Node) (c : Claim) (cs : List Claim) (t : Id) (ts : List Id) (xs : List meaning.Schedule) →
    AllExact inputs nodes (c ∷ cs) (t ∷ ts) xs → AreBare (c ∷ cs) xs → (value_of inputs nodes t.0).bits ≡ 0 → (x : Schedule) × IsViolation c x
first_named inputs nodes c cs t ts [] shown bare vanishes = absurd bare
first_named inputs nodes c cs t ts (x ∷ xs) shown bare vanishes = violating c x bare.0 (shown.0.exact.0 vanishes)

rest_named : (inputs : Inputs) (nodes : List Node) (c : Claim) (cs : List Claim) (t : Id) (ts : List Id) (xs : List meaning.Schedule) →
    AllExact inputs nodes (c ∷ cs) (t ∷ ts) xs → AreBare (c ∷ cs) xs → Named inputs nodes cs ts
rest_named inputs nodes c cs t ts [] shown bare = absurd bare
rest_named inputs nodes c cs t ts (x ∷ xs) shown bare = record { xs = xs; shown = shown.1; bare = bare.1 }

all_write : (nodes : List Node) (cs : List Claim) (ts : List Id) → AreTermsOf nodes cs ts →
    ((inputs : Inputs) → InputsFit inputs nodes → Named inputs nodes cs ts) → AllWrite nodes cs ts
all_write nodes [] [] t named = tt
all_write nodes [] (t ∷ ts) all named = absurd all
all_write nodes (c ∷ cs) [] all named = absurd all
all_write nodes (c ∷ cs) (t ∷ ts) all named = (
  λ r. let n = named r.inputs r.fit in first_named r.inputs nodes c cs t ts n.xs n.shown n.bare r.is_zero,
  all_write nodes cs ts all.1 (λ inputs fit. let n = named inputs fit in rest_named inputs nodes c cs t ts n.xs n.shown n.bare),
)

-- so it is for the obligations of a file
pub file_writes : (kinds : List RuleKind) (f : File) → ∥ IsDerived f ∥₁ → IsTyped f → FileSchedules → IsBank (file_made kinds f []).nodes →
    AreTermsOf (file_made kinds f []).nodes (claims_of f) (file_made kinds f []).value →
    AllWrite (file_made kinds f []).nodes (claims_of f) (file_made kinds f []).value
file_writes kinds f derived typed schedules bank mean =
    all_write (file_made kinds f []).nodes (claims_of f) (file_made kinds f []).value mean (λ inputs fit. record {
      xs = all_schedules kinds (terms_of kinds f.defs) f.disk inputs (layers_of f);
      shown = schedules kinds f derived typed bank inputs fit;
      bare = all_bare kinds (terms_of kinds f.defs) f.disk inputs (layers_of f);
    })

-- the schedule at a place violates the obligation at the place, where that's term is 0
pub shown_at : (inputs : Inputs) (nodes : List Node) (cs : List Claim) (ts : List Id) (xs : List meaning.Schedule) → AllExact inputs nodes cs ts xs →
    (place : ℕ) (c : Claim) (t : Id) (x : meaning.Schedule) → slice_get cs place ≡ Some c → slice_get ts place ≡ Some t → slice_get xs place ≡ Some x →
    (value_of inputs nodes t.0).bits ≡ 0 → ClaimViolated c x
shown_at inputs nodes [] ts xs shown place c t x a b d vanishes = absurd (cc a)
shown_at inputs nodes (c ∷ cs) [] xs shown place d t x a b e vanishes = absurd shown
shown_at inputs nodes (c ∷ cs) (u ∷ ts) [] shown place d t x a b e vanishes = absurd shown
shown_at inputs nodes (c ∷ cs) (u ∷ ts) (y ∷ xs) shown zero d t x a b e vanishes =
    let same_claim : c ≡ d = cc a in
    let same_term : t ≡ u = cc b in
    let same_schedule : y ≡ x = cc e in
    subst (λ (k : Claim). ClaimViolated k x) same_claim
    (subst (λ (s : meaning.Schedule). ClaimViolated c s) same_schedule
    (shown.0.exact.0 (subst (λ (i : Id). (value_of inputs nodes i.0).bits ≡ 0) same_term vanishes)))
shown_at inputs nodes (c ∷ cs) (u ∷ ts) (y ∷ xs) shown (suc place) d t x a b e vanishes =
    shown_at inputs nodes cs ts xs shown.1 place d t x a b e vanishes
