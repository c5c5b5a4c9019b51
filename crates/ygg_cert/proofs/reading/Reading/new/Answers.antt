use Rattle.std.proofs.Common.{refl}
use Rattle.ygg_cert.proofs.Read.{none_fed}
use Rattle.ygg_cert.proofs.reading.Reading.new.Goals as goal

pub returns : goal.returns
returns c goals =
    none_fed goals _ c.in_ok-next.ensures.phase c.in_ok-next.ensures.line c.in_ok-next.ensures.matched c.in_ok-next.ensures.passed refl refl
