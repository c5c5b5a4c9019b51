use Rattle.ygg_base.specs.declared.outside.Moved.TheVariants.{Done, Failed}
use Rattle.ygg_run_image.specs.ygg_base.Devices.{Writes, Flushes}
use Rattle.ygg_run_image.specs.Sealing.{HeaderTurns}
use Rattle.ygg_run_image.proofs.Turns.{turns, turns_twice}
use Rattle.ygg_run_image.proofs.Sealed.{IsEven, header_failed, header_done}
use Rattle.ygg_run_image.proofs.seal.put_header.Goals as goal

pub returns-in-Done-clause-told : goal.returns-in-Done-clause-told
returns-in-Done-clause-told g c =
    turns_twice c.args.geometry IsEven (HeaderTurns c.args.geometry c.flush.result) (Writes 0 c.write_header.new.block Done) (Flushes c.flush.result) _ _ _ _ _
    c.requires.holds c.requires.stays c.write.ensures.still c.in-Done.ensures.told c.flush.ensures.told
    (λ a i j k at w f. header_done c.args.geometry a i at c.write_header.new.block c.write_header.ensures c.flush.result j k w f)

pub returns-in-Failed-clause-told : goal.returns-in-Failed-clause-told
returns-in-Failed-clause-told g c =
    turns c.args.geometry IsEven (HeaderTurns c.args.geometry Failed) (Writes 0 c.write_header.new.block Failed) (Flushes Done) _ _ _
    c.requires.holds c.requires.stays c.in-Failed.ensures.told
    (λ a i j at w. header_failed c.args.geometry a i at c.write_header.new.block c.write_header.ensures j w)
