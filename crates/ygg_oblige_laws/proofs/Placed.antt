-- The specification's step with picks by place in the unrolled text, as its terms take them, and from the front, as it takes them itself.
use Rattle.std.proofs.Common.{
  ◌≡◌,
  ◌≤◌,
  ◌+◌,
  ◌↔◌,
  ℕ,
  Bool,
  true,
  false,
  if◌then◌else◌,
  List,
  [],
  ◌∷◌,
  ◌++◌,
  length,
  replicate,
  Option,
  Some,
  None,
  refl,
  sym,
  ap,
  ◌∙◌,
  arith,
  append_assoc,
}
use Rattle.ygg_syntax.specs.Choices.{choices_of}
use Rattle.ygg_syntax.specs.declared.grammar.BlockKind.TheVariants.{Spec}
use Rattle.ygg_syntax.specs.declared.tree.Block.{Block}
use Rattle.ygg_syntax.specs.declared.tree.Operation.{Operation}
use Rattle.ygg_value.specs.declared.row.Value.{Value}
use Rattle.ygg_sym_laws.specs.ygg_meaning.Environments.{Env, bind}
use Rattle.ygg_sym_laws.specs.ygg_meaning.Layer.{ClosedLayer}
use Rattle.ygg_sym_laws.specs.ygg_meaning.Machine.{Picks}
use Rattle.ygg_sym_laws.specs.ygg_meaning.Obligations.{Schedule, Obligation, Init, CallOf, CutOf, TickOf, CutTickOf, Idle, Again, NoPicksPass, crash_picks}
use Rattle.ygg_sym_laws.specs.ygg_meaning.Spec.{Outcome, chosen, then_block, call_outcome, crash_outcome, fall_with, start_outcome}
use Rattle.ygg_sym_laws.specs.ygg_meaning.Violates.{End, most, passes, spec_after}
use Rattle.ygg_sym_laws.specs.ygg_meaning_laws.Kinds.{keeps, on_crash_keeps}
use Rattle.ygg_sym_laws.specs.ygg_meaning_laws.Acts.{next_of, later}
use Rattle.ygg_sym_laws.specs.ygg_meaning_laws.Places.{left_after, Result, outcome_by_place}
use Rattle.ygg_sym_laws.specs.ygg_meaning_laws.SpecPlaces.{crash_by_place, then_by_place, as_outcome, ChoosesAlone}
use Rattle.ygg_sym_laws.specs.ygg_meaning_laws_proofs_Choosing.{choices_room}
use Rattle.ygg_sym_laws.proofs.of_ygg_meaning_laws.Failing.{fails_by_place}
use Rattle.ygg_sym_laws.proofs.of_ygg_meaning_laws.Matching.{Fronts, Puts, Matches, block_matches, then_matches, fall_on_crash, fails_alike}
use Rattle.ygg_sym_laws.specs.ygg_meaning_laws_proofs_Placing.{after_more, zeros_long, long_append}
use Rattle.ygg_sym_laws.proofs.Chosen.{room, same_below, nth, placed_end}
use Rattle.ygg_sym_laws.proofs.SpecFalls.{bits_after, crash_end, then_end}

-- a step that leaves places at the end
raised : (n k : ℕ) (O : Picks → Option Outcome) (P : Picks → Result) → Matches n O P → Matches (n + k) O P
raised n k O P m = record {
  front = λ picks. let a = m.front picks in let f = a.few in record { taken = a.taken; few = omega (arith, f); gives = a.gives };
  place = λ picks enough.
      let a = m.place picks (omega (arith, enough)) in
      let more = replicate k false in
      let e = a.enough in let al = a.long in let z = zeros_long k in let l = long_append a.put more in
      record {
        put = a.put ++ more;
        long = omega (arith, al, z, l);
        left = a.left;
        enough = omega (arith, e);
        result = a.result;
        gives = a.gives;
        same = λ rest. ap P (append_assoc a.put more rest) ∙ a.same (more ++ rest);
      };
}

module _ (L : ClosedLayer) where
  -- an operation that power has cut; without an `on crash` block one pick says whether it has happened, and the blocks' picks come after it
  abbrev pub fall_placed : Operation → Option Block → Env → List Value → Picks → Result
  fall_placed o (Some b) vars args picks = then_by_place false L b vars (bind o.arguments args) picks
  fall_placed o None vars args picks =
      if next_of false picks then then_by_place false L o.spec vars (bind o.arguments args) (later picks) else crash_by_place false L vars (later picks)

  -- how the specification's step ends with these picks by place
  abbrev pub spec_placed : Obligation → Schedule → Picks → Option Outcome
  spec_placed Init x picks = start_outcome L
  spec_placed (CallOf o) x picks = as_outcome false L (outcome_by_place false L o.spec x.state (bind o.arguments x.args) picks)
  spec_placed (CutOf o) x picks = as_outcome false L (fall_placed o o.on_crash x.state x.args picks)
  spec_placed (TickOf t) x picks = Some (record { vars = x.state; answer = None; left = [] })
  spec_placed (CutTickOf t) x picks = as_outcome false L (crash_by_place false L x.state picks)
  spec_placed Idle x picks = as_outcome false L (crash_by_place false L x.state picks)
  spec_placed Again x picks = None

  -- the operation has happened, or it has not
  abbrev happened : Operation → Env → List Value → Picks → Option Outcome
  happened o vars args picks = then_block L L.layer.crash (call_outcome L o vars args (chosen picks))

  fall_matches : (o : Operation) (vars : Env) (args : List Value) → keeps Spec o.spec ≡ true → keeps Spec L.layer.crash ≡ true →
      Matches (1 + (choices_of o.spec + choices_of L.layer.crash)) (fall_with L o None vars args) (fall_placed o None vars args)
  fall_matches o vars args kept crash = record { front = λ picks. front (next_of false picks) picks; place = place }
    where
      yes : Matches (choices_of o.spec + choices_of L.layer.crash) (happened o vars args) (then_by_place false L o.spec vars (bind o.arguments args))
      yes = then_matches false L (choices_of o.spec) _ _ crash (block_matches false L o.spec vars (bind o.arguments args) kept)

      no : Matches (choices_of L.layer.crash + choices_of o.spec) (λ picks. crash_outcome L vars (chosen picks)) (crash_by_place false L vars)
      no = raised (choices_of L.layer.crash) (choices_of o.spec) _ _ (block_matches false L L.layer.crash vars [] crash)

      front : (p : Bool) (picks : Picks) → Fronts (1 + (choices_of o.spec + choices_of L.layer.crash)) (fall_with L o None vars args)
          (if p then then_by_place false L o.spec vars (bind o.arguments args) (later picks) else crash_by_place false L vars (later picks))
      front true picks = let a = yes.front (later picks) in let f = a.few in record { taken = true ∷ a.taken; few = omega (arith, f); gives = a.gives }
      front false picks = let a = no.front (later picks) in let f = a.few in record { taken = false ∷ a.taken; few = omega (arith, f); gives = a.gives }

      place : (picks : Picks) → 1 + (choices_of o.spec + choices_of L.layer.crash) ≤ length picks →
          Puts (1 + (choices_of o.spec + choices_of L.layer.crash)) (fall_with L o None vars args) (fall_placed o None vars args) picks
      place [] enough = absurd (omega (arith, enough))
      place (true ∷ picks) enough =
          let a = yes.place picks (omega (arith, enough)) in let e = a.enough in let l = a.long in
          record { put = true ∷ a.put; long = omega (arith, l); left = a.left; enough = omega (arith, e); result = a.result; gives = a.gives; same = a.same }
      place (false ∷ picks) enough =
          let a = no.place picks (omega (arith, enough)) in let e = a.enough in let l = a.long in
          record { put = false ∷ a.put; long = omega (arith, l); left = a.left; enough = omega (arith, e); result = a.result; gives = a.gives; same = a.same }

  -- no list of picks from the front passes just where no list of picks by place does
  pub placed_fails : (o : Obligation) (x : Schedule) (end : End) → ChoosesAlone L o →
      NoPicksPass (most L o) (λ picks. passes L o end (spec_after L o x picks))
      ↔ NoPicksPass (most L o) (λ picks. passes L o end (spec_placed o x picks))
  placed_fails Init x end kept = fails_by_place false L Init x end kept
  placed_fails (CallOf o) x end kept = fails_by_place false L (CallOf o) x end kept
  placed_fails (CutOf o) x end kept = by_crash o.on_crash kept.1
    where
      by_crash : (b : Option Block) → on_crash_keeps b ≡ true →
          NoPicksPass (elim b [ None ↦ 1 + choices_of o.spec + crash_picks L.layer | Some b ↦ choices_of b + crash_picks L.layer ])
          (λ picks. passes L (CutOf o) end (fall_with L o b x.state x.args picks))
          ↔ NoPicksPass (elim b [ None ↦ 1 + choices_of o.spec + crash_picks L.layer | Some b ↦ choices_of b + crash_picks L.layer ])
          (λ picks. passes L (CutOf o) end (as_outcome false L (fall_placed o b x.state x.args picks)))
      by_crash (Some b) k =
          fails_alike (choices_of b + choices_of L.layer.crash) (choices_of b + crash_picks L.layer) _ _ (passes L (CutOf o) end) (omega arith)
          (fall_on_crash false L o b x.state x.args k kept.2) (λ r left. refl)
      by_crash None k =
          fails_alike (1 + (choices_of o.spec + choices_of L.layer.crash)) (1 + choices_of o.spec + crash_picks L.layer) _ _ (passes L (CutOf o) end)
          (omega arith) (fall_matches o x.state x.args kept.0 kept.2) (λ r left. refl)
  placed_fails (TickOf t) x end kept = fails_by_place false L (TickOf t) x end kept
  placed_fails (CutTickOf t) x end kept = fails_by_place false L (CutTickOf t) x end kept
  placed_fails Idle x end kept = fails_by_place false L Idle x end kept
  placed_fails Again x end kept = fails_by_place false L Again x end kept

  -- what the bits of a list of picks lead to is what the list leads to by place
  pub crash_placed : (picks : Picks) (vars : Env) → crash_end L (nth L false picks) vars ≡ (crash_by_place false L vars picks).vars
  crash_placed picks vars = ap (λ (r : Result). r.vars) (sym (placed_end L false picks L.layer.crash vars []))

  pub then_placed : (picks : Picks) (b : Block) (vars args : Env) → keeps Spec b ≡ true →
      then_end L (nth L false picks) b vars args ≡ (then_by_place false L b vars args picks).vars
  then_placed picks b vars args kept =
      let n = choices_of b in
      let bits = nth L false picks in
      let rest = left_after n picks in
      let r = choices_room b kept in
      let middle = (outcome_by_place false L b vars args picks).vars in
      ap (λ (z : Result). crash_end L (bits_after (room b) bits) z.vars) (sym (placed_end L false picks b vars args))
      ∙ ap (λ (z : Result). z.vars) (same_below L (nth L false rest) (bits_after (room b) bits) L.layer.crash middle []
      (λ k l. ap (next_of false) (sym (after_more n k (room b + k) picks (omega (arith, r))))))
      ∙ crash_placed rest middle
