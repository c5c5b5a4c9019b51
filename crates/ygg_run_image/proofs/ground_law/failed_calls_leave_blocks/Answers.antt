use Rattle.ygg_run_image.proofs.Leaving.{failed_calls_leave_blocks}
use Rattle.ygg_run_image.proofs.ground_law.failed_calls_leave_blocks.Goals as goal

pub returns : goal.returns
returns c = failed_calls_leave_blocks
