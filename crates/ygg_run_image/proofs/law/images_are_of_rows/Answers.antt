use Rattle.ygg_run_image.proofs.Images.{images_hold_their_rows, images_are_blocks, blocks_are_images}
use Rattle.ygg_run_image.proofs.ImageJudging.{images_are_accepted}
use Rattle.ygg_run_image.proofs.law.images_are_of_rows.Goals as goal

pub returns-clause-held : goal.returns-clause-held
returns-clause-held c = images_hold_their_rows

pub returns-clause-blocks : goal.returns-clause-blocks
returns-clause-blocks c = images_are_blocks

pub returns-clause-accepted : goal.returns-clause-accepted
returns-clause-accepted c = images_are_accepted

pub returns-clause-images : goal.returns-clause-images
returns-clause-images c = blocks_are_images
