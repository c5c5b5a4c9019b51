use Rattle.std.proofs.Common.{◌∙◌, ◌++◌, Bool, false, List, [], ◌∷◌, None, ap}
use Rattle.ygg_eval.specs.ygg_disk.declared.power.Power.{Power}
use Rattle.ygg_eval_places.proofs.disk.power_of.Goals as goal

pub returns : goal.returns
returns c =
    ap (λ (bits : List Bool). let p : Power = record { picks = record { bits = bits; next = 0; past = false }; fuse = None; passed = 0; events = None } in p)
    (c.in_ok-push.ensures.ok ∙ ap (λ (bits : List Bool). bits ++ c.args.pick ∷ []) c.new-bits.ensures)
