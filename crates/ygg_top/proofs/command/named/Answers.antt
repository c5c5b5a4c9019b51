use Rattle.std.proofs.Common.{refl, ap, arith}
use Rattle.ygg_base.specs.Outside.{Rose}
use Rattle.ygg_top.specs.Imaging.{UsesImage}
use Rattle.ygg_top.proofs.Imaged.{off_told, off_keeps, no_format, no_run, not_format, not_run, few_no_image, four_no_image, many_no_image, five_words}
use Rattle.ygg_top.proofs.Imaged.{format_told, run_told, format_keeps, run_keeps, is_format, is_run}
use Rattle.ygg_top.proofs.ByWords.{alone_told, one_told, two_told, three_told, none_told, many_told, three_words}
use Rattle.ygg_top.proofs.command.named.Goals as goal

pub returns-in-empty-clause-told : goal.returns-in-empty-clause-told
returns-in-empty-clause-told g c =
    let few = c.in-empty.len_below in
    off_told (g.B.Book.kinds c.args.rules.now) (g.L.Library.files c.args.library.now) (g.D.Device.images c.args.device.now)
    (g.D.Device.images c.args.device.now) (g.K.Sink.taken c.args.sink.now) (g.K.Sink.taken c.unnamed.new.sink)
    (Rose (g.L.Library.faults c.args.library.now) (g.L.Library.faults c.args.library.now))
    (Rose (g.D.Device.faults c.args.device.now) (g.D.Device.faults c.args.device.now))
    (Rose (g.K.Sink.faults c.args.sink.now) (g.K.Sink.faults c.unnamed.new.sink)) c.unnamed.result c.args.words.now
    (few_no_image c.args.words.now (omega (arith, few)))
    (none_told (g.B.Book.kinds c.args.rules.now) (g.L.Library.files c.args.library.now) (g.K.Sink.taken c.args.sink.now) (g.K.Sink.taken c.unnamed.new.sink)
    (Rose (g.L.Library.faults c.args.library.now) (g.L.Library.faults c.args.library.now))
    (Rose (g.K.Sink.faults c.args.sink.now) (g.K.Sink.faults c.unnamed.new.sink)) c.unnamed.result c.args.words.now c.in-empty.len_below
    c.unnamed.ensures.told)

pub returns-in-empty-clause-leaves : goal.returns-in-empty-clause-leaves
returns-in-empty-clause-leaves g c =
    let few = c.in-empty.len_below in
    off_keeps (g.B.Book.kinds c.args.rules.now) (g.L.Library.files c.args.library.now) (g.D.Device.images c.args.device.now)
    (g.D.Device.images c.args.device.now) (g.D.Device.attached c.args.device.now) c.args.words.now (few_no_image c.args.words.now (omega (arith, few))) refl

pub returns-in-len1-clause-told : goal.returns-in-len1-clause-told
returns-in-len1-clause-told g c =
    let few = c.in-len1.len_below in
    off_told (g.B.Book.kinds c.args.rules.now) (g.L.Library.files c.args.library.now) (g.D.Device.images c.args.device.now)
    (g.D.Device.images c.args.device.now) (g.K.Sink.taken c.args.sink.now) (g.K.Sink.taken c.alone.new.sink)
    (Rose (g.L.Library.faults c.args.library.now) (g.L.Library.faults c.args.library.now))
    (Rose (g.D.Device.faults c.args.device.now) (g.D.Device.faults c.args.device.now))
    (Rose (g.K.Sink.faults c.args.sink.now) (g.K.Sink.faults c.alone.new.sink)) c.alone.result c.args.words.now
    (few_no_image c.args.words.now (omega (arith, few)))
    (alone_told (g.B.Book.kinds c.args.rules.now) (g.L.Library.files c.args.library.now) (g.K.Sink.taken c.args.sink.now) (g.K.Sink.taken c.alone.new.sink)
    (Rose (g.L.Library.faults c.args.library.now) (g.L.Library.faults c.args.library.now))
    (Rose (g.K.Sink.faults c.args.sink.now) (g.K.Sink.faults c.alone.new.sink)) c.alone.result c.args.words.now c.only-item.result c.as_slice.result.now
    c.of.result c.in-len1.len_at_least c.in-len1.len_below c.only-item.is c.as_slice.ensures c.of.ensures c.alone.ensures.told)

pub returns-in-len1-clause-leaves : goal.returns-in-len1-clause-leaves
returns-in-len1-clause-leaves g c =
    let few = c.in-len1.len_below in
    off_keeps (g.B.Book.kinds c.args.rules.now) (g.L.Library.files c.args.library.now) (g.D.Device.images c.args.device.now)
    (g.D.Device.images c.args.device.now) (g.D.Device.attached c.args.device.now) c.args.words.now (few_no_image c.args.words.now (omega (arith, few))) refl

pub returns-in-len2-clause-told : goal.returns-in-len2-clause-told
returns-in-len2-clause-told g c =
    let few = c.in-len2.len_below in
    off_told (g.B.Book.kinds c.args.rules.now) (g.L.Library.files c.args.library.now) (g.D.Device.images c.args.device.now)
    (g.D.Device.images c.args.device.now) (g.K.Sink.taken c.args.sink.now) (g.K.Sink.taken c.with_one.new.sink)
    (Rose (g.L.Library.faults c.args.library.now) (g.L.Library.faults c.with_one.new.library))
    (Rose (g.D.Device.faults c.args.device.now) (g.D.Device.faults c.args.device.now))
    (Rose (g.K.Sink.faults c.args.sink.now) (g.K.Sink.faults c.with_one.new.sink)) c.with_one.result c.args.words.now
    (few_no_image c.args.words.now (omega (arith, few)))
    (one_told (g.B.Book.kinds c.args.rules.now) (g.L.Library.files c.args.library.now) (g.K.Sink.taken c.args.sink.now)
    (g.K.Sink.taken c.with_one.new.sink) (Rose (g.L.Library.faults c.args.library.now) (g.L.Library.faults c.with_one.new.library))
    (Rose (g.K.Sink.faults c.args.sink.now) (g.K.Sink.faults c.with_one.new.sink)) c.with_one.result c.args.words.now c.command-item.result
    c.first-item.result c.as_slice-in-len2.result.now c.of-command.result c.in-len2.len_at_least c.in-len2.len_below c.command-item.is c.first-item.is
    c.as_slice-in-len2.ensures c.of-command.ensures c.with_one.ensures.told)

pub returns-in-len2-clause-leaves : goal.returns-in-len2-clause-leaves
returns-in-len2-clause-leaves g c =
    let few = c.in-len2.len_below in
    off_keeps (g.B.Book.kinds c.args.rules.now) (g.L.Library.files c.args.library.now) (g.D.Device.images c.args.device.now)
    (g.D.Device.images c.args.device.now) (g.D.Device.attached c.args.device.now) c.args.words.now (few_no_image c.args.words.now (omega (arith, few))) refl

pub returns-in-Run : goal.returns-in-Run
returns-in-Run g c =
    let not : UsesImage c.args.words.now → ⊥ =
    no_format c.args.words.now c.command-item-then-words-lt4.result c.as_slice-in-len3.result.now c.of-in-len3.result c.as_slice-in-len3.ensures
    c.of-in-len3.ensures c.first-item-then-words-lt4.result c.second-item.result
    (three_words c.args.words.now c.command-item-then-words-lt4.result c.first-item-then-words-lt4.result c.second-item.result
    c.in-len3.len_at_least c.in-len3.len_below c.command-item-then-words-lt4.is c.first-item-then-words-lt4.is c.second-item.is)
    (not_format c.of-in-len3.result c.in-Run.is) in
    record {
      told =
          off_told (g.B.Book.kinds c.args.rules.now) (g.L.Library.files c.args.library.now) (g.D.Device.images c.args.device.now)
          (g.D.Device.images c.args.device.now) (g.K.Sink.taken c.args.sink.now) (g.K.Sink.taken c.with_two.new.sink)
          (Rose (g.L.Library.faults c.args.library.now) (g.L.Library.faults c.with_two.new.library))
          (Rose (g.D.Device.faults c.args.device.now) (g.D.Device.faults c.args.device.now))
          (Rose (g.K.Sink.faults c.args.sink.now) (g.K.Sink.faults c.with_two.new.sink)) c.with_two.result c.args.words.now not
          (two_told (g.B.Book.kinds c.args.rules.now) (g.L.Library.files c.args.library.now) (g.K.Sink.taken c.args.sink.now)
          (g.K.Sink.taken c.with_two.new.sink) (Rose (g.L.Library.faults c.args.library.now) (g.L.Library.faults c.with_two.new.library))
          (Rose (g.K.Sink.faults c.args.sink.now) (g.K.Sink.faults c.with_two.new.sink)) c.with_two.result c.args.words.now
          c.command-item-then-words-lt4.result c.first-item-then-words-lt4.result c.second-item.result c.as_slice-in-Run.result.now
          c.of-command-in-Run.result c.in-len3.len_at_least c.in-len3.len_below c.command-item-then-words-lt4.is c.first-item-then-words-lt4.is
          c.second-item.is c.as_slice-in-Run.ensures c.of-command-in-Run.ensures c.with_two.ensures.told);
      kept = c.with_two.ensures.kept;
      leaves =
          off_keeps (g.B.Book.kinds c.args.rules.now) (g.L.Library.files c.args.library.now) (g.D.Device.images c.args.device.now)
          (g.D.Device.images c.args.device.now) (g.D.Device.attached c.args.device.now) c.args.words.now not refl;
      unwritten = λ refused. refl;
      spared = λ off. refl;
      later_library = c.with_two.ensures.later_library;
      later_device = omega arith;
      later_sink = c.with_two.ensures.later_sink;
    }

pub returns-in-Format : goal.returns-in-Format
returns-in-Format g c =
    record {
      told =
          format_told (g.B.Book.kinds c.args.rules.now) (g.L.Library.files c.args.library.now) (g.D.Device.images c.args.device.now)
          (g.D.Device.images c.format.new.device) (g.K.Sink.taken c.args.sink.now) (g.K.Sink.taken c.format.new.sink)
          (Rose (g.L.Library.faults c.args.library.now) (g.L.Library.faults c.format.new.library))
          (Rose (g.D.Device.faults c.args.device.now) (g.D.Device.faults c.format.new.device))
          (Rose (g.K.Sink.faults c.args.sink.now) (g.K.Sink.faults c.format.new.sink)) c.format.result c.args.words.now c.command-item-then-words-lt4.result
          c.first-item-then-words-lt4.result c.second-item.result
          c.as_slice-in-len3.result.now c.of-in-len3.result c.in-len3.len_at_least c.in-len3.len_below c.command-item-then-words-lt4.is
          c.first-item-then-words-lt4.is c.second-item.is c.as_slice-in-len3.ensures c.of-in-len3.ensures
          c.in-Format.is c.format.ensures.told;
      kept = c.format.ensures.kept;
      leaves =
          format_keeps (g.B.Book.kinds c.args.rules.now) (g.L.Library.files c.args.library.now) (g.D.Device.images c.args.device.now)
          (g.D.Device.images c.format.new.device) (g.D.Device.attached c.format.new.device) c.args.words.now c.command-item-then-words-lt4.result
          c.first-item-then-words-lt4.result c.second-item.result
          c.as_slice-in-len3.result.now c.of-in-len3.result c.in-len3.len_at_least c.in-len3.len_below c.command-item-then-words-lt4.is
          c.first-item-then-words-lt4.is c.second-item.is c.as_slice-in-len3.ensures c.of-in-len3.ensures
          c.in-Format.is c.format.ensures.leaves;
      unwritten = λ refused. ap g.D.Device.images (c.format.ensures.untouched refused);
      spared =
          λ off. absurd (off
          (is_format c.args.words.now c.command-item-then-words-lt4.result c.as_slice-in-len3.result.now c.of-in-len3.result c.as_slice-in-len3.ensures
          c.of-in-len3.ensures c.first-item-then-words-lt4.result c.second-item.result
          (three_words c.args.words.now c.command-item-then-words-lt4.result c.first-item-then-words-lt4.result c.second-item.result c.in-len3.len_at_least
          c.in-len3.len_below c.command-item-then-words-lt4.is c.first-item-then-words-lt4.is c.second-item.is) c.in-Format.is));
      later_library = c.format.ensures.later_library;
      later_device = c.format.ensures.later_device;
      later_sink = c.format.ensures.later_sink;
    }

pub returns-in-len4-clause-told : goal.returns-in-len4-clause-told
returns-in-len4-clause-told g c =
    off_told (g.B.Book.kinds c.args.rules.now) (g.L.Library.files c.args.library.now) (g.D.Device.images c.args.device.now)
    (g.D.Device.images c.args.device.now) (g.K.Sink.taken c.args.sink.now) (g.K.Sink.taken c.with_three.new.sink)
    (Rose (g.L.Library.faults c.args.library.now) (g.L.Library.faults c.with_three.new.library))
    (Rose (g.D.Device.faults c.args.device.now) (g.D.Device.faults c.args.device.now))
    (Rose (g.K.Sink.faults c.args.sink.now) (g.K.Sink.faults c.with_three.new.sink)) c.with_three.result c.args.words.now
    (four_no_image c.args.words.now c.in-len4.len_at_least c.in-len4.len_below)
    (three_told (g.B.Book.kinds c.args.rules.now) (g.L.Library.files c.args.library.now) (g.K.Sink.taken c.args.sink.now)
    (g.K.Sink.taken c.with_three.new.sink) (Rose (g.L.Library.faults c.args.library.now) (g.L.Library.faults c.with_three.new.library))
    (Rose (g.K.Sink.faults c.args.sink.now) (g.K.Sink.faults c.with_three.new.sink)) c.with_three.result c.args.words.now
    c.command-item-then-words-lt5.result c.first-item-then-words-lt5.result c.second-item-then-words-lt5.result c.third-item.result
    c.as_slice-in-len4.result.now c.of-command-in-len4.result c.in-len4.len_at_least c.in-len4.len_below c.command-item-then-words-lt5.is
    c.first-item-then-words-lt5.is c.second-item-then-words-lt5.is c.third-item.is c.as_slice-in-len4.ensures c.of-command-in-len4.ensures c.with_three.ensures.told)

pub returns-in-len4-clause-leaves : goal.returns-in-len4-clause-leaves
returns-in-len4-clause-leaves g c =
    off_keeps (g.B.Book.kinds c.args.rules.now) (g.L.Library.files c.args.library.now) (g.D.Device.images c.args.device.now)
    (g.D.Device.images c.args.device.now) (g.D.Device.attached c.args.device.now) c.args.words.now
    (four_no_image c.args.words.now c.in-len4.len_at_least c.in-len4.len_below) refl

pub returns-in-Format-of : goal.returns-in-Format-of
returns-in-Format-of g c =
    let some = c.in-len5.len_at_least in
    let not : UsesImage c.args.words.now → ⊥ =
    no_run c.args.words.now c.command-item-then-words-lt6.result c.as_slice-in-len5.result.now c.of-in-len5.result c.as_slice-in-len5.ensures
    c.of-in-len5.ensures c.file-item.result c.certificate-item.result c.image-item.result c.script-item.result
    (five_words c.args.words.now c.command-item-then-words-lt6.result c.file-item.result c.certificate-item.result c.image-item.result
    c.script-item.result c.in-len5.len_at_least c.in-len5.len_below c.command-item-then-words-lt6.is c.file-item.is c.certificate-item.is
    c.image-item.is c.script-item.is)
    (not_run c.of-in-len5.result c.in-Format-of.is) in
    record {
      told =
          off_told (g.B.Book.kinds c.args.rules.now) (g.L.Library.files c.args.library.now) (g.D.Device.images c.args.device.now)
          (g.D.Device.images c.args.device.now) (g.K.Sink.taken c.args.sink.now) (g.K.Sink.taken c.unnamed-in-Format-of.new.sink)
          (Rose (g.L.Library.faults c.args.library.now) (g.L.Library.faults c.args.library.now))
          (Rose (g.D.Device.faults c.args.device.now) (g.D.Device.faults c.args.device.now))
          (Rose (g.K.Sink.faults c.args.sink.now) (g.K.Sink.faults c.unnamed-in-Format-of.new.sink)) c.unnamed-in-Format-of.result c.args.words.now not
          (many_told (g.B.Book.kinds c.args.rules.now) (g.L.Library.files c.args.library.now) (g.K.Sink.taken c.args.sink.now)
          (g.K.Sink.taken c.unnamed-in-Format-of.new.sink) (Rose (g.L.Library.faults c.args.library.now) (g.L.Library.faults c.args.library.now))
          (Rose (g.K.Sink.faults c.args.sink.now) (g.K.Sink.faults c.unnamed-in-Format-of.new.sink)) c.unnamed-in-Format-of.result c.args.words.now
          (omega (arith, some)) c.unnamed-in-Format-of.ensures.told);
      kept = refl;
      leaves =
          off_keeps (g.B.Book.kinds c.args.rules.now) (g.L.Library.files c.args.library.now) (g.D.Device.images c.args.device.now)
          (g.D.Device.images c.args.device.now) (g.D.Device.attached c.args.device.now) c.args.words.now not refl;
      unwritten = λ refused. refl;
      spared = λ off. refl;
      later_library = omega arith;
      later_device = omega arith;
      later_sink = c.unnamed-in-Format-of.ensures.later;
    }

pub returns-in-Run-of : goal.returns-in-Run-of
returns-in-Run-of g c =
    record {
      told =
          run_told (g.B.Book.kinds c.args.rules.now) (g.L.Library.files c.args.library.now) (g.D.Device.images c.args.device.now)
          (g.D.Device.images c.run.new.device) (g.K.Sink.taken c.args.sink.now) (g.K.Sink.taken c.run.new.sink)
          (Rose (g.L.Library.faults c.args.library.now) (g.L.Library.faults c.run.new.library))
          (Rose (g.D.Device.faults c.args.device.now) (g.D.Device.faults c.run.new.device))
          (Rose (g.K.Sink.faults c.args.sink.now) (g.K.Sink.faults c.run.new.sink)) c.run.result c.args.words.now c.command-item-then-words-lt6.result
          c.file-item.result c.certificate-item.result c.image-item.result c.script-item.result
          c.as_slice-in-len5.result.now c.of-in-len5.result c.in-len5.len_at_least c.in-len5.len_below c.command-item-then-words-lt6.is c.file-item.is
          c.certificate-item.is c.image-item.is c.script-item.is c.as_slice-in-len5.ensures c.of-in-len5.ensures
          c.in-Run-of.is c.run.ensures.told;
      kept = c.run.ensures.kept;
      leaves =
          run_keeps (g.B.Book.kinds c.args.rules.now) (g.L.Library.files c.args.library.now) (g.D.Device.images c.args.device.now)
          (g.D.Device.images c.run.new.device) (g.D.Device.attached c.run.new.device) c.args.words.now c.command-item-then-words-lt6.result c.file-item.result
          c.certificate-item.result c.image-item.result c.script-item.result
          c.as_slice-in-len5.result.now c.of-in-len5.result c.in-len5.len_at_least c.in-len5.len_below c.command-item-then-words-lt6.is c.file-item.is
          c.certificate-item.is c.image-item.is c.script-item.is c.as_slice-in-len5.ensures c.of-in-len5.ensures
          c.in-Run-of.is c.run.ensures.leaves;
      unwritten = c.run.ensures.untouched;
      spared =
          λ off. absurd (off
          (is_run c.args.words.now c.command-item-then-words-lt6.result c.as_slice-in-len5.result.now c.of-in-len5.result c.as_slice-in-len5.ensures
          c.of-in-len5.ensures c.file-item.result c.certificate-item.result c.image-item.result c.script-item.result
          (five_words c.args.words.now c.command-item-then-words-lt6.result c.file-item.result c.certificate-item.result c.image-item.result
          c.script-item.result c.in-len5.len_at_least c.in-len5.len_below c.command-item-then-words-lt6.is c.file-item.is c.certificate-item.is c.image-item.is
          c.script-item.is) c.in-Run-of.is));
      later_library = c.run.ensures.later_library;
      later_device = c.run.ensures.later_device;
      later_sink = c.run.ensures.later_sink;
    }

pub returns-in_default-clause-told : goal.returns-in_default-clause-told
returns-in_default-clause-told g c =
    let some = c.in_default.len_at_least in
    off_told (g.B.Book.kinds c.args.rules.now) (g.L.Library.files c.args.library.now) (g.D.Device.images c.args.device.now)
    (g.D.Device.images c.args.device.now) (g.K.Sink.taken c.args.sink.now) (g.K.Sink.taken c.unnamed-in_default.new.sink)
    (Rose (g.L.Library.faults c.args.library.now) (g.L.Library.faults c.args.library.now))
    (Rose (g.D.Device.faults c.args.device.now) (g.D.Device.faults c.args.device.now))
    (Rose (g.K.Sink.faults c.args.sink.now) (g.K.Sink.faults c.unnamed-in_default.new.sink)) c.unnamed-in_default.result c.args.words.now
    (many_no_image c.args.words.now c.in_default.len_at_least)
    (many_told (g.B.Book.kinds c.args.rules.now) (g.L.Library.files c.args.library.now) (g.K.Sink.taken c.args.sink.now)
    (g.K.Sink.taken c.unnamed-in_default.new.sink) (Rose (g.L.Library.faults c.args.library.now) (g.L.Library.faults c.args.library.now))
    (Rose (g.K.Sink.faults c.args.sink.now) (g.K.Sink.faults c.unnamed-in_default.new.sink)) c.unnamed-in_default.result c.args.words.now
    (omega (arith, some)) c.unnamed-in_default.ensures.told)

pub returns-in_default-clause-leaves : goal.returns-in_default-clause-leaves
returns-in_default-clause-leaves g c =
    off_keeps (g.B.Book.kinds c.args.rules.now) (g.L.Library.files c.args.library.now) (g.D.Device.images c.args.device.now)
    (g.D.Device.images c.args.device.now) (g.D.Device.attached c.args.device.now) c.args.words.now (many_no_image c.args.words.now c.in_default.len_at_least)
    refl
