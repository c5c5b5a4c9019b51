-- The law of the texts that are made.
use Rattle.ygg_accept.proofs.of_ygg_print.FileMarks.{only_file}
use Rattle.ygg_yard.specs.Laws.{MadeIsSound}
use Rattle.ygg_yard.proofs.Sound.{is_sound}

pub made_is_sound : MadeIsSound
made_is_sound = is_sound only_file
