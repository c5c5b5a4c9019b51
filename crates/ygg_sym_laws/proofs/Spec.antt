-- A specification as a machine by place takes the picks that are named.
use Rattle.std.proofs.Common.{◌≡◌, ℕ, ◌+◌, Bool, true, false, if◌then◌else◌, List, [], ◌∷◌, ◌++◌, take, length, Option, Some, None, refl, sym, ap, ◌∙◌}
use Rattle.std.proofs.lemmas.List.{append-nil}
use Rattle.ygg_value.specs.declared.row.Value.{Value}
use Rattle.ygg_syntax.specs.declared.tree.Block.{Block}
use Rattle.ygg_syntax.specs.declared.tree.Operation.{Operation}
use Rattle.ygg_sym_laws.specs.ygg_meaning.Environments.{Env, bind}
use Rattle.ygg_sym_laws.specs.ygg_meaning.Layer.{ClosedLayer, eval_of, operation_of}
use Rattle.ygg_sym_laws.specs.ygg_meaning.Machine.{Picks, State}
use Rattle.ygg_sym_laws.specs.ygg_meaning.Progress.{Question, Choice, Call, answer_of}
use Rattle.ygg_sym_laws.specs.ygg_meaning.Refines.{OnSpec}
use Rattle.ygg_sym_laws.specs.ygg_meaning_laws.Acts.{Fell}
use Rattle.ygg_sym_laws.specs.ygg_meaning_laws.Direct.{direct_run}
use Rattle.ygg_sym_laws.specs.ygg_meaning_laws.Places.{Held, Result, from_front, choosing}
use Rattle.ygg_sym_laws.specs.ygg_meaning_laws.SpecActs.{Ran, block_ran, then_crash, fall_ran, did_so, fell_so, spec_does, spec_drops, spec_acts}
use Rattle.ygg_sym_laws.specs.ygg_meaning_laws_proofs_Choosing.{one}
use Rattle.ygg_sym_laws.specs.ygg_sym_runs.Specs.{Nothing}
use Rattle.ygg_sym_laws.specs.ygg_sym_runs_proofs_Chosen.{room, block_end}
use Rattle.ygg_sym_laws.specs.ygg_sym_runs_proofs_SpecFalls.{bits_after, crash_end, then_end, fall_end, drop_end}
use Rattle.ygg_sym_laws.specs.ygg_sym_runs_proofs_SpecMeans.{spec_ended}
use Rattle.ygg_sym_laws.specs.ygg_sym_runs_proofs_Specs.{choose_at}
use Rattle.ygg_sym_laws.specs.Fronts.{handle_on, takes_on, cut_on, lose_on, cut_takes_on, lose_takes_on}
use Rattle.ygg_sym_laws.specs.Taking.{one_each, block_takes, operation_takes, crash_takes, then_takes, fall_takes, drop_takes}
use Rattle.ygg_sym_laws.proofs.Acting.{falls_at, Named, NamedFalls}
use Rattle.ygg_sym_laws.proofs.Fronting.{fronted}

module _ (m : ClosedLayer) where
  abbrev held : Nothing → Picks → Picks → Held Picks
  held z notes left = record { at = notes; left = left }

  abbrev ran : Result → Picks → Picks → Ran
  ran r taken left = record { vars = r.vars; answer = r.answer; taken = taken; left = left }

  -- a block that takes its picks from the front
  pub block_named : (bits : ℕ → Bool) (b : Block) (vars args : Env) (more : Picks) →
      block_ran false m b vars args (block_takes m bits b vars args ++ more)
      ≡ record {
        vars = (block_end m bits b vars args).vars;
        answer = (block_end m bits b vars args).answer;
        taken = block_takes m bits b vars args;
        left = more;
      }
  block_named bits b vars args more =
      let e = fronted {R = Nothing} {S = Held Picks} (choose_at bits) (from_front (choosing false)) (one_each bits) held (λ i j q z notes more. refl)
      (eval_of m) one (λ f. 1) b (vars ++ args) tt more in
      let all = block_takes m bits b vars args in
      let q = direct_run (eval_of m) (λ f. 1) (from_front (choosing false)) b (vars ++ args) (record { at = []; left = all ++ more }) in
      ap (λ (env : Env). let x : Ran = record {
        vars = take (length vars) env;
        answer = answer_of (eval_of m) b.answer env;
        taken = q.to.at;
        left = q.to.left;
      } in x) e.env_is
      ∙ ap (λ (k : Held Picks). ran (block_end m bits b vars args) k.at k.left) e.to_is

  -- and with no more picks than it takes
  block_alone : (bits : ℕ → Bool) (b : Block) (vars args : Env) →
      block_ran false m b vars args (block_takes m bits b vars args) ≡ ran (block_end m bits b vars args) (block_takes m bits b vars args) []
  block_alone bits b vars args =
      ap (block_ran false m b vars args) (sym (append-nil (block_takes m bits b vars args))) ∙ block_named bits b vars args []

  does : (bits : ℕ → Bool) (o : Option Operation) (args : List Value) (z : State Env) (more : Picks) →
      spec_does false m z o args (operation_takes m bits o args z ++ more)
      ≡ record {
        answer = (spec_ended m bits o args z).answer;
        to = (spec_ended m bits o args z).to;
        notes = operation_takes m bits o args z;
        left = more;
      }
  does bits None args z more = refl
  does bits (Some o) args z more = ap (did_so false m) (block_named bits o.spec z.base (bind o.arguments args) more)

  -- it leaves this, with these picks
  pub record Leaves (r : Ran) (vars : Env) (picks : Picks) : Type 0 where
    pub vars_are : r.vars ≡ vars
    pub taken_are : r.taken ≡ picks
    pub none_left : r.left ≡ []

  crash_named : (bits : ℕ → Bool) (vars : Env) →
      block_ran false m m.layer.crash vars [] (crash_takes m bits vars) ≡ ran (block_end m bits m.layer.crash vars []) (crash_takes m bits vars) []
  crash_named bits vars = block_alone bits m.layer.crash vars []

  pub then_named : (bits : ℕ → Bool) (b : Block) (vars args : Env) →
      Leaves (then_crash false m (block_ran false m b vars args (then_takes m bits b vars args))) (then_end m bits b vars args) (then_takes m bits b vars args)
  then_named bits b vars args =
      let end = block_end m bits b vars args in
      let after = bits_after (room b) bits in
      let crash = crash_takes m after end.vars in
      let all : then_crash false m (block_ran false m b vars args (then_takes m bits b vars args))
      ≡ (let c = block_end m after m.layer.crash end.vars [] in ran c (block_takes m bits b vars args ++ crash) []) =
      ap (then_crash false m) (block_named bits b vars args crash)
      ∙ ap (λ (c : Ran). let x : Ran =
      record { vars = c.vars; answer = c.answer; taken = block_takes m bits b vars args ++ c.taken; left = c.left } in x) (crash_named after end.vars) in
      record {
        vars_are = ap (λ (x : Ran). x.vars) all;
        taken_are = ap (λ (x : Ran). x.taken) all;
        none_left = ap (λ (x : Ran). x.left) all;
      }

  fall_named : (bits : ℕ → Bool) (o : Operation) (crash : Option Block) (vars : Env) (args : List Value) →
      Leaves (fall_ran false m o crash vars args (fall_takes m bits o crash vars args)) (fall_end m bits o crash vars args)
      (fall_takes m bits o crash vars args)
  fall_named bits o (Some b) vars args = then_named bits b vars (bind o.arguments args)
  fall_named bits o None vars args = by_pick (bits 0)
    where
      by_pick : (p : Bool) → let picks =
          p ∷ (if p then then_takes m (bits_after 1 bits) o.spec vars (bind o.arguments args) else crash_takes m (bits_after 1 bits) vars) in
          Leaves (fall_ran false m o None vars args picks)
          (if p then then_end m (bits_after 1 bits) o.spec vars (bind o.arguments args) else crash_end m (bits_after 1 bits) vars) picks
      by_pick true =
          let l = then_named (bits_after 1 bits) o.spec vars (bind o.arguments args) in
          record { vars_are = l.vars_are; taken_are = ap (λ ps. true ∷ ps) l.taken_are; none_left = l.none_left }
      by_pick false =
          let l = crash_named (bits_after 1 bits) vars in
          record {
            vars_are = ap (λ (x : Ran). x.vars) l;
            taken_are = ap (λ (x : Ran). false ∷ x.taken) l;
            none_left = ap (λ (x : Ran). x.left) l;
          }

  drops : (last : ℕ → Bool) (o : Option Operation) (z : State Env) (args : List Value) →
      spec_drops false m z o args (drop_takes m last o z args)
      ≡ record { base = drop_end m last o z args; notes = drop_takes m last o z args; left = [] }
  drops last None z args = refl
  drops last (Some o) z args =
      let l = fall_named last o o.on_crash z.base args in
      let r = fall_ran false m o o.on_crash z.base args (fall_takes m last o o.on_crash z.base args) in
      ap (λ (e : Env). let f : Fell Env Bool = record { base = e; notes = r.taken; left = r.left } in f) l.vars_are
      ∙ ap (λ (ps : Picks). let f : Fell Env Bool =
      record { base = fall_end m last o o.on_crash z.base args; notes = ps; left = r.left } in f) l.taken_are
      ∙ ap (λ (ps : Picks). let f : Fell Env Bool =
      record { base = fall_end m last o o.on_crash z.base args; notes = fall_takes m last o o.on_crash z.base args; left = ps } in f) l.none_left

  pub spec_named : (bits : ℕ → Bool) → Named (spec_acts false m) (handle_on (OnSpec m) bits) (takes_on (OnSpec m) bits)
  spec_named bits = record {
    chooses = λ i z. refl;
    none = λ i z. refl;
    calls = λ i f xs z more. does (λ k. bits (i + k)) (operation_of m f) xs z more;
  }

  pub spec_falls_named : (last : ℕ → Bool) →
      NamedFalls (spec_acts false m) (cut_on (OnSpec m) last) (lose_on (OnSpec m) last) (cut_takes_on (OnSpec m) last) (lose_takes_on (OnSpec m) last)
  spec_falls_named last = record { cuts = cuts; loses = λ z. ap (fell_so false m) (crash_named last z.base) }
    where
      cuts : (q : Question) (z : State Env) → falls_at (spec_acts false m) q z (cut_takes_on (OnSpec m) last q z)
          ≡ record { base = cut_on (OnSpec m) last q z; notes = cut_takes_on (OnSpec m) last q z; left = [] }
      cuts Choice z = ap (fell_so false m) (crash_named last z.base)
      cuts (Call f xs) z = drops last (operation_of m f) z xs
