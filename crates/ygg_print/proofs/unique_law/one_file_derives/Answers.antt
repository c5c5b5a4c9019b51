use Rattle.ygg_print.proofs.FileMarks.{only_file}
use Rattle.ygg_print.proofs.unique_law.one_file_derives.Goals as goal

pub returns : goal.returns
returns c = only_file
