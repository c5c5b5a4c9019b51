-- The layers of a file on the calls that are made on a ground.
use Rattle.ygg_syntax.specs.declared.tree.File.{File}
use Rattle.ygg_run.specs.ygg_disk.Ground.{Meaning}
use Rattle.ygg_run.specs.ygg_meaning.Machine.{Machine}
use Rattle.ygg_run.specs.ygg_meaning.DiskMachine.{machine_on}
use Rattle.ygg_run.specs.ygg_meaning.Stack.{Stacked, layers_of}
use Rattle.ygg_run.specs.ygg_meaning.Noted.{Note}
use Rattle.ygg_run.specs.ygg_eval.Lower.{Cause}
use Rattle.ygg_run.specs.ygg_machine.GroundSteps.{ground_calls}

-- By the cause a fall is what power loss leaves, or what is done of a step that is given up: its first disk calls, all of them whole but at most the last.
-- Of formatting it says nothing.
abbrev pub layers_on : {S : Type 0} → Meaning S → File → Cause → Machine S Note
layers_on G f cause = Stacked (machine_on (ground_calls G cause)) (layers_of f)
