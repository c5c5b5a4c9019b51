-- The obligations of a file that is made hold.
use Rattle.std.proofs.Common.{
  ◌≡◌,
  ℕ,
  zero,
  suc,
  ◌+◌,
  ◌*◌,
  ◌-◌,
  Bool,
  true,
  false,
  ◌&&◌,
  List,
  [],
  ◌∷◌,
  ◌++◌,
  ◌⊎◌,
  inl,
  inr,
  length,
  length-append,
  append-nil,
  replicate,
  Option,
  Some,
  None,
  codes,
  refl,
  sym,
  ap,
  ◌∙◌,
  subst,
  arith,
}
use Rattle.std.specs.List.{All, flat_map}
use Rattle.std.proofs.lemmas.List.{length-replicate, length-map}
use Rattle.std.proofs.lemmas.List.Elements.{All-nil, All-cons, All-append, All-map}
use Rattle.std.proofs.lemmas.Bool.{and_from}
use Rattle.std.proofs.lemmas.Grind.{flat_map-append}
use Rattle.ygg_value.specs.Number.{Grid}
use Rattle.ygg_value.specs.Words.{word}
use Rattle.ygg_value.specs.Values.{same_value}
use Rattle.ygg_value.specs.declared.row.Value.{Value}
use Rattle.ygg_value.specs.declared.row.Value.TheVariants.{Word, Row, Table}
use Rattle.ygg_value.proofs.Equality.{same_value-iff}
use Rattle.ygg_syntax.specs.declared.tree.Place.{Place}
use Rattle.ygg_syntax.specs.declared.tree.Operation.{Operation}
use Rattle.ygg_meaning_laws.specs.ygg_meaning.Environments.{Env, bind}
use Rattle.ygg_meaning_laws.specs.ygg_meaning.Shapes.{values_fit}
use Rattle.ygg_meaning_laws.specs.ygg_meaning.Progress.{Answer}
use Rattle.ygg_meaning_laws.specs.ygg_meaning.Machine.{Picks, State, based, on, Machine}
use Rattle.ygg_meaning_laws.specs.ygg_meaning.Layer.{ClosedLayer, BlockRuns, BlockFalls, Layered, dialogue_of}
use Rattle.ygg_meaning_laws.specs.ygg_meaning.Spec.{Outcome, chosen, then_block, call_outcome, fall_outcome, crash_outcome}
use Rattle.ygg_meaning_laws.specs.ygg_meaning.Related.{shaped, settled}
use Rattle.ygg_meaning_laws.specs.ygg_meaning.Obligations.{Obligation, Init, CallOf, CutOf, Idle, Again, obligations_of}
use Rattle.ygg_meaning_laws.specs.ygg_meaning.DiskMachine.{DiskMachine}
use Rattle.ygg_meaning_laws.specs.ygg_meaning.Refines.{OnDisk}
use Rattle.ygg_meaning_laws.specs.ygg_meaning.Violates.{related_after, answers_alike, same_state, most, passes, Holds, start_at}
use Rattle.ygg_meaning_laws.specs.ygg_meaning.Claims.{Claim, ClaimHolds}
use Rattle.ygg_meaning_laws.proofs.Tests.{left, right, bytes_equal}
use Rattle.ygg_yard.specs.Trees.{Places, unwritten, disk_made, operation_made, operations_made, file_made}
use Rattle.ygg_yard.specs.RefinesLaws.{HoldsAll}
use Rattle.ygg_yard.proofs.Dialogues.{quiet_fall, one_run, one_fall, Fell, before, in_it, behind}
use Rattle.ygg_yard.proofs.Disk.{view_of, wrote, cut, lost}
use Rattle.ygg_yard.proofs.Relations.{vars_of, l, L, Sized, zeros_sized, written_sized, is_related, is_settled, low_is, states_are}
use Rattle.ygg_yard.proofs.Operations.{whole, fallen_run, nothing_done, given, D, row, left_env, write_args, asks, ends, after_put, puts}

-- a conclusion that holds for some list of as many picks is not violated
passing : (test : Picks → Bool) (picks : Picks) (count : ℕ) → length picks ≡ count → ((ps : Picks) → length ps ≡ count → test ps ≡ false) →
    test picks ≡ true → ⊥
passing test picks count n none h = let e : true ≡ false = sym h ∙ none picks n in cc

module _ (p : Places) (count : ℕ) where
  abbrev K : ClosedLayer
  K = L p count

  abbrev M : Machine Env Bool
  M = DiskMachine (disk_made p count)

  abbrev now : Grid → State Env
  now g = on [] (based (view_of g))

  abbrev out : Grid → List Answer → Outcome
  out g answers = record { vars = vars_of g; answer = None; left = answers }

  -- the specification's step and the runs have ended with one table
  meet : (g : Grid) (answers : List Answer) (to : State Env) → to ≡ now g → Sized p count g → related_after K to (Some (out g answers)) ≡ true
  meet g answers to e h = ap (λ (s : State Env). related_after K s (Some (out g answers))) e ∙ is_related p count g h

  -- after power has failed: what it left is settled, and so is the end of recovery related
  meet_fallen : (g : Grid) (answers : List Answer) (fallen : Env) (side : Bool) (to : State Env) → fallen ≡ view_of g → side ≡ settled K fallen →
      to ≡ on [] (based fallen) → Sized p count g → (side && related_after K to (Some (out g answers))) ≡ true
  meet_fallen g answers fallen side to e s t h =
      and_from side (related_after K to (Some (out g answers)))
      (s ∙ ap (settled K) e ∙ is_settled p count g h)
      (meet g answers to (t ∙ ap (λ (x : Env). on [] (based x)) e) h)

  -- recovery changes nothing
  recovered : (fallen : Env) (notes : Picks) (to : State Env) → (Layered K M).Wakes fallen notes to → to ≡ on [] (based fallen)
  recovered fallen notes to r =
      let next = subst (λ (s : State Env). BlockRuns K M unwritten [] (on [] s) r.second r.next.0 to) r.wakes.1 r.next.1 in
      nothing_done p count M fallen r.second r.next.0 to next

  init_holds : Holds K M Init
  init_holds x v =
      let run = v.meets.reached.run in
      let start = run.starts in
      let from = subst (λ (s : State Env). BlockRuns K M unwritten [] (on [] s) run.second run.answer v.end.to)
      (start.2 ∙ ap based start.3) run.formats in
      let to = nothing_done p count M _ run.second run.answer v.end.to from in
      passing _ [] 0 refl v.fails (meet _ [] v.end.to to (zeros_sized p count))

  idle_holds : Holds K M Idle
  idle_holds x v =
      let s = states_are p count x.state x.memory x.low v.meets.shapes v.meets.hypotheses in
      let r = v.meets.reached in
      let fell = lost p count s.table r.falls.taken r.fallen
      (subst (λ (e : Env). M.Loses (based e) r.falls.taken r.fallen) s.low_is r.falls.run) in
      passing _ [] 0 refl v.fails
      (ap (λ (e : Env). passes K Idle v.end (crash_outcome K e [])) s.vars_is
      ∙ meet_fallen s.table [] r.fallen v.end.side v.end.to fell r.side (recovered r.fallen r.recovers.taken v.end.to r.recovers.run) s.sized)

  again_holds : Holds K M Again
  again_holds x v =
      let b = low_is p count x.low v.meets.shapes in
      let g = b.table in
      let r = v.meets.reached in
      let cut = subst (λ (e : Env). BlockFalls K M unwritten [] (on [] (based e)) r.falls.taken r.fallen) b.is r.falls.run in
      let gone = quiet_fall M (dialogue_of K unwritten [] []) [] None refl (based (view_of g)) r.falls.taken r.fallen
      (fallen_run K M unwritten [] (view_of g) r.falls.taken r.fallen cut) in
      let fell = lost p count g gone.0 r.fallen gone.1 in
      let first = recovered r.fallen r.recovers.taken v.end.to r.recovers.run ∙ ap (λ (e : Env). on [] (based e)) fell in
      let second = nothing_done p count M (view_of g) r.taken r.answer r.to
      (subst (λ (e : Env). BlockRuns K M unwritten [] (on [] (based e)) r.taken r.answer r.to) b.is r.run) in
      passing _ [] 0 refl v.fails
      (r.side ∙ and_from (settled K r.fallen) (same_state v.end.to r.to)
      (ap (settled K) fell ∙ is_settled p count g b.sized)
      (ap (λ (s : State Env). same_state s r.to) first ∙ ap (λ (s : State Env). same_state (now g) s) second ∙ same_now g))
    where
      same_now : (g : Grid) → same_state (now g) (now g) ≡ true
      same_now g = ap (λ b. b && same_value (Table g) (Table g) && true) (bytes_equal (codes "view"))
          ∙ ap (λ b. b && true) ((same_value-iff (Table g) (Table g)).1 refl)

  module _ (at : ℕ → Place) (number : ℕ) where
    abbrev op : Operation
    op = operation_made at number

    call_holds : Holds K M (CallOf op)
    call_holds x v =
        let s = states_are p count x.state x.memory x.low (left (shaped K x.state x.memory x.low) (values_fit op.arguments x.args) v.meets.shapes)
        v.meets.hypotheses in
        let a = given p count at number x.args (right (shaped K x.state x.memory x.low) (values_fit op.arguments x.args) v.meets.shapes) in
        let g = s.table in
        let w = a.word in
        let r = v.meets.reached in
        let from = subst (λ (e : Env). BlockRuns K M op.implementation (bind op.arguments (w ∷ [])) (on [] (based e)) r.taken v.end.answer v.end.to) s.low_is
        (subst (λ (m : Env). BlockRuns K M op.implementation (bind op.arguments (w ∷ [])) (on m (based x.low)) r.taken v.end.answer v.end.to) s.memory_is
        (subst (λ (vs : List Value). BlockRuns K M op.implementation (bind op.arguments vs) (start_at K M x) r.taken v.end.answer v.end.to) a.is r.run)) in
        let run = whole K M op.implementation (bind op.arguments (w ∷ [])) (view_of g) r.taken v.end.answer v.end.to from in
        let did = one_run M (D p count at number w) (codes "write") (write_args p count at number w) (left_env p count at number w) None
        (asks p count at number w) (ends p count at number w)
        (based (view_of g)) run.lower r.taken run.env v.end.answer run.run in
        let to = run.to_is ∙ ap (on []) (wrote p count g (Word (word 8 number)) (Row (row p count at number w)) did.1.notes did.1.answer run.lower did.2) in
        let picks = replicate (most K (CallOf op)) false in
        let then = after_put p count at number w g in
        let outcome = out then (chosen picks) in
        passing _ picks (most K (CallOf op)) (length-replicate _ false) v.fails
        (ap (λ (e : Env). passes K (CallOf op) v.end (call_outcome K op e x.args (chosen picks))) s.vars_is
        ∙ ap (λ (vs : List Value). passes K (CallOf op) v.end (call_outcome K op (vars_of g) vs (chosen picks))) a.is
        ∙ ap (passes K (CallOf op) v.end) (puts p count at number w g (chosen picks))
        ∙ ap (λ (y : Answer). answers_alike y (Some outcome) && related_after K v.end.to (Some outcome)) did.0
        ∙ meet then (chosen picks) v.end.to to (written_sized p count g number (row p count at number w) s.sized a.fit))

    cut_holds : Holds K M (CutOf op)
    cut_holds x v =
        let s = states_are p count x.state x.memory x.low (left (shaped K x.state x.memory x.low) (values_fit op.arguments x.args) v.meets.shapes)
        v.meets.hypotheses in
        let a = given p count at number x.args (right (shaped K x.state x.memory x.low) (values_fit op.arguments x.args) v.meets.shapes) in
        let g = s.table in
        let w = a.word in
        let r = v.meets.reached in
        let from = subst (λ (e : Env). BlockFalls K M op.implementation (bind op.arguments (w ∷ [])) (on [] (based e)) r.falls.taken r.fallen) s.low_is
        (subst (λ (m : Env). BlockFalls K M op.implementation (bind op.arguments (w ∷ [])) (on m (based x.low)) r.falls.taken r.fallen) s.memory_is
        (subst (λ (vs : List Value). BlockFalls K M op.implementation (bind op.arguments vs) (start_at K M x) r.falls.taken r.fallen) a.is r.falls.run)) in
        let fell = one_fall M (D p count at number w) (codes "write") (write_args p count at number w) (left_env p count at number w) None
        (asks p count at number w) (ends p count at number w)
        (based (view_of g)) r.falls.taken r.fallen
        (fallen_run K M op.implementation (bind op.arguments (w ∷ [])) (view_of g) r.falls.taken r.fallen from) in
        let then = after_put p count at number w g in
        let end = recovered r.fallen r.recovers.taken v.end.to r.recovers.run in
        by g w (ap (λ (e : Env). fall_outcome K op e x.args) s.vars_is ∙ ap (fall_outcome K op (vars_of g)) a.is) s.sized
        (written_sized p count g number (row p count at number w) s.sized a.fit) v.fails r.side end (left_so g w r.fallen fell)
      where
        -- the row was written, or not
        left_so : (g : Grid) (w : Value) (fallen : Env) →
            Fell M (D p count at number w) (codes "write") (write_args p count at number w) (left_env p count at number w) None
            (asks p count at number w) (ends p count at number w) (based (view_of g)) fallen →
            (fallen ≡ view_of g) ⊎ (fallen ≡ view_of (after_put p count at number w g))
        left_so g w fallen (before last h) = inl (lost p count g last fallen h)
        left_so g w fallen (in_it last h) = cut p count g (Word (word 8 number)) (Row (row p count at number w)) last fallen h
        left_so g w fallen (behind call to last m h) =
            inr (lost p count (after_put p count at number w g) last fallen
            (subst (λ (t : State Env). M.Loses t last fallen)
            (wrote p count g (Word (word 8 number)) (Row (row p count at number w)) call.notes call.answer to m) h))

        by : (g : Grid) (w : Value) → fall_outcome K op x.state x.args ≡ fall_outcome K op (vars_of g) (w ∷ []) → Sized p count g →
            Sized p count (after_put p count at number w g) →
            ((picks : Picks) → length picks ≡ most K (CutOf op) → passes K (CutOf op) v.end (fall_outcome K op x.state x.args picks) ≡ false) →
            v.end.side ≡ settled K v.meets.reached.fallen → v.end.to ≡ on [] (based v.meets.reached.fallen) →
            (v.meets.reached.fallen ≡ view_of g) ⊎ (v.meets.reached.fallen ≡ view_of (after_put p count at number w g)) → ⊥
        by g w same h h' fails side end (inl e) =
            let rest = replicate (most K (CutOf op) - 1) false in
            passing _ (false ∷ rest) (most K (CutOf op)) (omega (arith, length-replicate (most K (CutOf op) - 1) false)) fails
            (ap (λ (f : Picks → Option Outcome). passes K (CutOf op) v.end (f (false ∷ rest))) same
            ∙ meet_fallen g (chosen rest) v.meets.reached.fallen v.end.side v.end.to e side end h)
        by g w same h h' fails side end (inr e) =
            let rest = replicate (most K (CutOf op) - 1) false in
            passing _ (true ∷ rest) (most K (CutOf op)) (omega (arith, length-replicate (most K (CutOf op) - 1) false)) fails
            (ap (λ (f : Picks → Option Outcome). passes K (CutOf op) v.end (f (true ∷ rest))) same
            ∙ ap (λ (z : Option Outcome). passes K (CutOf op) v.end (then_block K unwritten z)) (puts p count at number w g (chosen rest))
            ∙ meet_fallen (after_put p count at number w g) (chosen rest) v.meets.reached.fallen v.end.side v.end.to e side end h')

  abbrev pair : Operation → List Obligation
  pair q = CallOf q ∷ CutOf q ∷ []

  operations_hold : (at : ℕ → ℕ → Place) (n : ℕ) → All (Holds K M) (flat_map pair (operations_made at n))
  operations_hold at zero = All-nil (Holds K M)
  operations_hold at (suc n) =
      let q = operation_made (at n) n in
      subst (All (Holds K M)) (sym (flat_map-append pair (operations_made at n) (q ∷ [])))
      (All-append (Holds K M) (flat_map pair (operations_made at n)) (flat_map pair (q ∷ [])) (operations_hold at n)
      (All-cons (Holds K M) (CallOf q) (CutOf q ∷ []) (call_holds (at n) n)
      (All-cons (Holds K M) (CutOf q) [] (cut_holds (at n) n) (All-nil (Holds K M)))))

  operations_many : (at : ℕ → ℕ → Place) (n : ℕ) → length (flat_map pair (operations_made at n)) ≡ 2 * n
  operations_many at zero = refl
  operations_many at (suc n) =
      let q = operation_made (at n) n in
      ap length (flat_map-append pair (operations_made at n) (q ∷ []))
      ∙ length-append (flat_map pair (operations_made at n)) (CallOf q ∷ CutOf q ∷ []) ∙ omega (arith, operations_many at n)

  abbrev claim : Obligation → Claim
  claim q = record { layer = K; below = OnDisk (disk_made p count); obligation = q }

  abbrev last : List Obligation
  last = Idle ∷ Again ∷ []

  abbrev calls : List Obligation
  calls = flat_map pair (operations_made p.operation count)

  listed : obligations_of (l p count) ≡ (Init ∷ calls) ++ last
  listed = ap (λ z. (Init ∷ z) ++ last) (append-nil calls)

  pub all_hold : HoldsAll count (file_made p count)
  all_hold = record {
    counted = length-map (obligations_of (l p count)) claim ∙ ap length listed ∙ length-append (Init ∷ calls) last
        ∙ ap (λ n. suc n + 2) (operations_many p.operation count) ∙ omega arith;
    hold = All-map ClaimHolds claim (obligations_of (l p count)) (subst (All (Holds K M)) (sym listed)
        (All-append (Holds K M) (Init ∷ calls) last (All-cons (Holds K M) Init calls init_holds (operations_hold p.operation count))
        (All-cons (Holds K M) Idle (Again ∷ []) idle_holds (All-cons (Holds K M) Again [] again_holds (All-nil (Holds K M))))));
  }
