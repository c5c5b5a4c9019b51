use Rattle.ygg_plain.proofs.Standing.{answered, further}
use Rattle.ygg_plain.proofs.trying.Plainer.round.Goals as goal

pub after_all-requires-2 : goal.after_all-requires-2
after_all-requires-2 c = c.in_ok-plain.ensures.asked c.requires

pub after_all-requires-3 : goal.after_all-requires-3
after_all-requires-3 c = c.in_ok-plain-2.ensures.asked (c.in_ok-plain.ensures.asked c.requires)

pub after_all-requires-4 : goal.after_all-requires-4
after_all-requires-4 c = c.in_ok-plain-3.ensures.asked (c.in_ok-plain-2.ensures.asked (c.in_ok-plain.ensures.asked c.requires))

pub after_all-requires-5 : goal.after_all-requires-5
after_all-requires-5 c =
    c.in_ok-plain-4.ensures.asked (c.in_ok-plain-3.ensures.asked (c.in_ok-plain-2.ensures.asked (c.in_ok-plain.ensures.asked c.requires)))

pub after_all-requires-6 : goal.after_all-requires-6
after_all-requires-6 c =
    c.in_ok-plain-5.ensures.asked
    (c.in_ok-plain-4.ensures.asked (c.in_ok-plain-3.ensures.asked (c.in_ok-plain-2.ensures.asked (c.in_ok-plain.ensures.asked c.requires))))

pub returns : goal.returns
returns c =
    let f = c.args.self.now.typed.now.file in
    let which = c.args.self.now.case in
    let first = c.args.schedule in
    let two = further f which first c.in_ok-plain.plain c.in_ok-plain-2.plain c.in_ok-plain.ensures c.in_ok-plain-2.ensures in
    let three = further f which first c.in_ok-plain-2.plain c.in_ok-plain-3.plain two c.in_ok-plain-3.ensures in
    let four = further f which first c.in_ok-plain-3.plain c.in_ok-plain-4.plain three c.in_ok-plain-4.ensures in
    let five = further f which first c.in_ok-plain-4.plain c.in_ok-plain-5.plain four c.in_ok-plain-5.ensures in
    answered c.after_all-6.result c.after_all-6.ensures (λ x last. further f which first c.in_ok-plain-5.plain x five last)
