-- The states that inputs give to a layer.
use Rattle.std.proofs.Common.{◌≡◌, ℕ, true, List, ◌∙◌, ap}
use Rattle.std.specs.Prelude.{◌&&◌}
use Rattle.std.proofs.lemmas.Bool.{and_parts}
use Rattle.ygg_syntax.specs.declared.tree.Declared.{Declared}
use Rattle.ygg_replay.specs.ygg_meaning.Layer.{ClosedLayer}
use Rattle.ygg_replay.specs.ygg_meaning.Related.{shaped}
use Rattle.ygg_replay.specs.ygg_meaning.Shapes.{env_fits}
use Rattle.ygg_eval_places.specs.ygg_bank.Values.{Inputs}
use Rattle.ygg_oblige_given.specs.ygg_oblige_laws.Inputs.{given_env}
use Rattle.ygg_oblige_given.specs.ygg_oblige_laws.Worth as worth

-- each of states that have the declared shapes has them
pub record StandParts (L : ClosedLayer) (s : worth.Stand) : Type 0 where
  pub vars : env_fits L.layer.state s.vars ≡ true
  pub memory : env_fits L.layer.memory s.memory ≡ true
  pub low : env_fits L.low s.low ≡ true

pub stand_parts : (L : ClosedLayer) (s : worth.Stand) → shaped L s.vars s.memory s.low ≡ true → StandParts L s
stand_parts L s h =
    let both = and_parts (env_fits L.layer.state s.vars && env_fits L.layer.memory s.memory) (env_fits L.low s.low) h in
    let own = and_parts (env_fits L.layer.state s.vars) (env_fits L.layer.memory s.memory) both.0 in
    record { vars = own.0; memory = own.1; low = both.1 }

-- names that fit at one number fit at an equal one
pub fits_at : (inputs : Inputs) (ds es : List Declared) (n m : ℕ) → ds ≡ es → n ≡ m → env_fits es (given_env inputs m es) ≡ true →
    env_fits ds (given_env inputs n ds) ≡ true
fits_at inputs ds es n m e f h = ap (λ (xs : List Declared). env_fits xs (given_env inputs n xs)) e ∙ ap (λ k. env_fits es (given_env inputs k es)) f ∙ h
