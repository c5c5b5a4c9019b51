-- What a layer is specified over starts in one way.
use Rattle.std.proofs.Common.{◌≡◌, [], ◌∙◌, sym, ap}
use Rattle.ygg_replay.specs.ygg_meaning.Environments.{Env}
use Rattle.ygg_replay.specs.ygg_meaning.Machine.{State, based}
use Rattle.ygg_replay.specs.ygg_meaning.Refines.{Below, OnDisk, OnSpec, machine_below}
use Rattle.ygg_eval_places.specs.ygg_sym_laws.Fronts.{low_at_start, vars_in}

pub starts_are : (G : Below) (low : Env) → (machine_below G).Starts (based low) [] → low ≡ low_at_start G
starts_are (OnDisk d) low (b, none, is, starts) = ap (λ (z : State Env). z.base) is ∙ starts
starts_are (OnSpec m) low (none, starts) = ap (λ (z : State Env). z.base) starts.to_is ∙ sym (ap vars_in starts.gives)
