use Rattle.std.proofs.Common.{◌≡◌, ◌∙◌, ◌+◌, refl, ap}
use Rattle.ygg_oblige_given.specs.ygg_oblige_laws.Inputs.{given_env}
use Rattle.ygg_oblige_given.specs.ygg_oblige_laws.States.{given_stand}
use Rattle.ygg_oblige_given.specs.ygg_oblige_laws.TermStates.{words_in}
use Rattle.ygg_oblige_schedule.specs.Here.{inputs_of, layer_of}
use Rattle.ygg_oblige_schedule.proofs.Stands.{fits_at, stand_parts}
use Rattle.ygg_oblige_schedule.proofs.reader.EnvironmentReader.stand.Goals as goal

pub state-requires-clause-fit : goal.state-requires-clause-fit
state-requires-clause-fit c =
    let r = c.args.self.now in (stand_parts (layer_of r) (given_stand (inputs_of r) r.site.states (layer_of r)) c.requires.fit).vars

pub memory-requires-clause-fit : goal.memory-requires-clause-fit
memory-requires-clause-fit c =
    let r = c.args.self.now in
    let l = r.site.layer.now in
    let from : c.in_ok-from.from ≡ r.site.states + words_in l.state =
    c.in_ok-from.ensures ∙ ap (λ n. r.site.states + n) (c.in_ok-words.ensures ∙ ap words_in c.as_slice.ensures) in
    fits_at (inputs_of r) l.memory l.memory c.in_ok-from.from (r.site.states + words_in l.state) refl from
    (stand_parts (layer_of r) (given_stand (inputs_of r) r.site.states (layer_of r)) c.requires.fit).memory

pub low-requires-clause-fit : goal.low-requires-clause-fit
low-requires-clause-fit c =
    let r = c.args.self.now in (stand_parts (layer_of r) (given_stand (inputs_of r) r.site.states (layer_of r)) c.requires.fit).low

pub returns : goal.returns
returns c =
    let r = c.args.self.now in
    let l = r.site.layer.now in
    let from : c.in_ok-from.from ≡ r.site.states + words_in l.state =
    c.in_ok-from.ensures ∙ ap (λ n. r.site.states + n) (c.in_ok-words.ensures ∙ ap words_in c.as_slice.ensures) in
    record {
      state_fits = c.in_ok-state.ensures.fits;
      memory_fits = c.in_ok-memory.ensures.fits;
      low_fits = c.in_ok-low.ensures.fits;
      state_is = c.in_ok-state.ensures.is;
      memory_is = c.in_ok-memory.ensures.is ∙ ap (λ n. given_env (inputs_of r) n l.memory) from;
      low_is = c.in_ok-low.ensures.is;
    }
