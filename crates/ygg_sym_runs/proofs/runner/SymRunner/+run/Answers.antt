use Rattle.std.proofs.Common.{rules, ◌≡◌, ◌+◌, List, None, drop, length, refl, sym, ap, ◌∙◌, subst, arith}
use Rattle.ygg_syntax.specs.declared.tree.Stmt.{Stmt}
use Rattle.ygg_meaning_laws.specs.ygg_type_rules.Statements.{block_errors}
use Rattle.ygg_meaning_laws.specs.Kinds.{keeps}
use Rattle.ygg_sym_runs.specs.ygg_bank_proofs_Widths.{extends_self, extends_both}
use Rattle.ygg_sym_runs.specs.Exprs.{sym_value}
use Rattle.ygg_sym_runs.specs.Names.{SymEnv}
use Rattle.ygg_sym_runs.specs.Seen.{CanTerm, env_of}
use Rattle.ygg_sym_runs.specs.declared.held.SymBinding.{SymBinding}
use Rattle.ygg_sym_runs.specs.Ready.{known_with, terms_of, CanRun, Ended, inside_run}
use Rattle.ygg_sym_runs.specs.Runs.{plain_scope}
use Rattle.ygg_sym_runs.proofs.Going.{rest_is, dropped_is, block_ends, order_goes, order_ends, turns_begin, turns_go, turns_end}
use Rattle.ygg_sym_runs.proofs.Nexts.{first_can, second_can, next_can}
use Rattle.ygg_sym_runs.proofs.Parting.{if_ends}
use Rattle.ygg_sym_runs.proofs.Sides.{choose_test, choose_first, choose_second, choose_width, join_can, step_if, step_for, step_call, ended_for, ended_if}
use Rattle.ygg_sym_runs.proofs.Sizes.{size_if, size_for, size_block, size_item}
use Rattle.ygg_sym_runs.proofs.Turning.{repeat_parts, repeat_enters, repeat_again}
use Rattle.ygg_sym_runs.proofs.Walking.{do_later, enter_runs, rest_runs, block_left}
use Rattle.ygg_sym_runs.proofs.Zeros.{single_both}
use Rattle.ygg_sym_runs.proofs.runner.SymRunner.+run.Goals as goal

pub block-returns-clause-ran : goal.block-returns-clause-ran
block-returns-clause-ran g t c =
    let r = c.args.self.now in
    let kinds = g.B.Book.kinds r.book.now in
    let M = g.W.SymLower.means r.machine.now in
    let law = g.met.W.SymLower.keeps r.machine.now in
    let defs = r.defs.now in
    let f = c.args.frame.now in
    block_ends M defs kinds c.args.b.now c.as_slice.result.now f.names.items c.statements.new.frame.names.items c.truncate.new.self.items
    c.len-outside.result c.args.place c.in_ok-end.end f.state c.statements.new.frame.state c.args.bank.now c.statements.new.bank c.as_slice.ensures
    (omega (arith, f.names.ok.0, c.len-outside.ensures)) c.truncate.ensures.items c.in_ok-end.ensures.ran

pub statement-value-requires : goal.statement-value-requires
statement-value-requires g t c =
    let r = c.args.self.now in
    let kinds = g.B.Book.kinds r.book.now in
    let M = g.W.SymLower.means r.machine.now in
    let law = g.met.W.SymLower.keeps r.machine.now in
    let defs = r.defs.now in
    let at = c.args.bank.now in
    let f = c.args.frame.now in
    let env = env_of f.names.items in
    let s = f.state in
    let test = c.in-If.test in
    let first = c.in-If.first in
    let second = c.in-If.second in
    let can = step_if M law kinds defs c.args.s.now test first second at env s c.in-If.is c.requires.can in
    record {
      can = subst (λ (bs : List SymBinding). CanTerm (known_with defs (env_of bs)) at test) (sym c.as_slice-in-If.ensures.value)
          (choose_test M law kinds defs test first second at env s can);
    }

pub statement-join-requires-clause-can : goal.statement-join-requires-clause-can
statement-join-requires-clause-can g t c =
    let r = c.args.self.now in
    let kinds = g.B.Book.kinds r.book.now in
    let M = g.W.SymLower.means r.machine.now in
    let law = g.met.W.SymLower.keeps r.machine.now in
    let defs = r.defs.now in
    let at = c.args.bank.now in
    let f = c.args.frame.now in
    let env = env_of f.names.items in
    let s = f.state in
    let test = c.in-If.test in
    let first = c.in-If.first in
    let second = c.in-If.second in
    let can = step_if M law kinds defs c.args.s.now test first second at env s c.in-If.is c.requires.can in
    let vn = c.in_ok-value-in-If.ensures.nodes
    ∙ ap (λ (bs : List SymBinding). (sym_value kinds (terms_of kinds defs) test (plain_scope (env_of bs)) at).nodes) c.as_slice-in-If.ensures.value in
    let vf = c.in_ok-value-in-If.ensures.form
    ∙ ap (λ (bs : List SymBinding). (sym_value kinds (terms_of kinds defs) test (plain_scope (env_of bs)) at).value) c.as_slice-in-If.ensures.value in
    let mid = c.value.new.bank in
    let enter = do_later M law kinds defs (block_errors first None) (λ kind. keeps kind first) at mid env s c.value.ensures.grows
    c.in_ok-value-in-If.ensures.single
    (choose_first M law kinds defs test first second at env s can) in
    let next = c.block.new.bank in
    let ran = c.in_ok-middle-in-If.ensures.ran in
    let enter2 = do_later M law kinds defs (block_errors second None) (λ kind. keeps kind second) at next env s
    (extends_both at mid next c.value.ensures.grows c.block.ensures.grows) (single_both at mid next c.in_ok-value-in-If.ensures.single ran.single)
    (choose_second M law kinds defs test first second at env s can) in
    let o = c.in_ok-other-in-If.other in
    let last = c.block-in-If.new.bank in
    let one = c.block.new.frame in
    let two = c.block-in-If.new.frame in
    let ran2 = subst (λ (z : SymEnv). Ended (inside_run M defs kinds second) c.in_ok-middle-in-If.middle z s next c.in_ok-end-in-If.end
    (env_of two.names.items) two.state last)
    c.in_ok-other-in-If.ensures.names
    (subst (λ z. Ended (inside_run M defs kinds second) c.in_ok-middle-in-If.middle (env_of o.names.items) z next c.in_ok-end-in-If.end
    (env_of two.names.items) two.state last)
    c.in_ok-other-in-If.ensures.state c.in_ok-end-in-If.ensures.ran) in
    let names = can.names in
    let left = block_left M law kinds defs first c.args.place mid next env (env_of one.names.items) s one.state enter ran.nodes ran.names ran.state
    c.block.ensures.bank ran.single in
    let right = block_left M law kinds defs second c.in_ok-middle-in-If.middle next last env (env_of two.names.items) s two.state enter2 ran2.nodes ran2.names
    ran2.state c.block-in-If.ensures.bank ran2.single in
    let wide = choose_width M law kinds defs test first second at env s can mid c.in_ok-value-in-If.value c.id_in.result vn vf c.id_in.ensures
    c.value.ensures.bank in
    let grown = extends_both mid next last c.block.ensures.grows c.block-in-If.ensures.grows in
    join_can M law kinds defs can.scope env (env_of one.names.items) (env_of two.names.items) one.state two.state at mid next last c.id_in.result names.shaped
    (extends_both at mid last c.value.ensures.grows grown) wide grown c.block-in-If.ensures.grows left right c.block-in-If.ensures.bank

pub statement-returns-in_ok-join-in-If-clause-ran : goal.statement-returns-in_ok-join-in-If-clause-ran
statement-returns-in_ok-join-in-If-clause-ran g t c =
    let r = c.args.self.now in
    let kinds = g.B.Book.kinds r.book.now in
    let M = g.W.SymLower.means r.machine.now in
    let law = g.met.W.SymLower.keeps r.machine.now in
    let defs = r.defs.now in
    let at = c.args.bank.now in
    let f = c.args.frame.now in
    let env = env_of f.names.items in
    let s = f.state in
    let test = c.in-If.test in
    let first = c.in-If.first in
    let second = c.in-If.second in
    let can = step_if M law kinds defs c.args.s.now test first second at env s c.in-If.is c.requires.can in
    let vn = c.in_ok-value-in-If.ensures.nodes
    ∙ ap (λ (bs : List SymBinding). (sym_value kinds (terms_of kinds defs) test (plain_scope (env_of bs)) at).nodes) c.as_slice-in-If.ensures.value in
    let vf = c.in_ok-value-in-If.ensures.form
    ∙ ap (λ (bs : List SymBinding). (sym_value kinds (terms_of kinds defs) test (plain_scope (env_of bs)) at).value) c.as_slice-in-If.ensures.value in
    let o = c.in_ok-other-in-If.other in
    let one = c.block.new.frame in
    let two = c.block-in-If.new.frame in
    ended_if M law kinds defs c.args.s.now test first second c.args.place c.in_ok-end-in-If.end env (env_of c.join.new.frame.names.items) s
    c.join.new.frame.state at c.join.new.bank c.in-If.is
    (if_ends kinds (terms_of kinds defs) (M.machine kinds) test (inside_run M defs kinds first) (inside_run M defs kinds second) c.args.place
    c.in_ok-middle-in-If.middle c.in_ok-end-in-If.end env (env_of one.names.items) (env_of two.names.items) (env_of c.join.new.frame.names.items)
    (env_of o.names.items)
    s one.state two.state c.join.new.frame.state o.state at c.value.new.bank c.block.new.bank c.block-in-If.new.bank c.join.new.bank c.in_ok-value-in-If.value
    c.id_in.result vn vf c.id_in.ensures c.in_ok-middle-in-If.ensures.ran c.in_ok-other-in-If.ensures.names c.in_ok-other-in-If.ensures.state
    c.in_ok-end-in-If.ensures.ran
    c.in_ok-join-in-If.ensures.nodes c.in_ok-join-in-If.ensures.names c.in_ok-join-in-If.ensures.state c.in_ok-value-in-If.ensures.single
    c.in_ok-join-in-If.ensures.single)

pub statement-block-requires : goal.statement-block-requires
statement-block-requires g t c κs h =
    let smaller = size_if c.args.s.now c.in-If.test c.in-If.first c.in-If.second c.in-If.is in (
      omega arith,
      (
        search rules,
        (
          search rules,
          (
            search rules,
            (
              let r = c.args.self.now in
                  let kinds = g.B.Book.kinds r.book.now in
                  let M = g.W.SymLower.means r.machine.now in
                  let law = g.met.W.SymLower.keeps r.machine.now in
                  let defs = r.defs.now in
                  let f = c.args.frame.now in
                  let can = first_can M law defs c.args.s.now c.in-If.test c.in-If.first c.in-If.second c.args.bank.now c.value.new.bank
                  (env_of f.names.items) f.state
                  c.in-If.is c.requires.can c.value.ensures.grows c.in_ok-value-in-If.ensures.single in
                  can,
              c.value.ensures.bank,
            ),
          ),
        ),
      ),
    )

pub statement-block-requires-in-If : goal.statement-block-requires-in-If
statement-block-requires-in-If g t c κs h =
    let smaller = size_if c.args.s.now c.in-If.test c.in-If.first c.in-If.second c.in-If.is in (
      omega arith,
      (
        search rules,
        (
          search rules,
          (
            search rules,
            (
              let r = c.args.self.now in
                  let kinds = g.B.Book.kinds r.book.now in
                  let M = g.W.SymLower.means r.machine.now in
                  let law = g.met.W.SymLower.keeps r.machine.now in
                  let defs = r.defs.now in
                  let f = c.args.frame.now in
                  let o = c.in_ok-other-in-If.other in
                  let one = c.block.new.frame in
                  let can = second_can M law defs c.args.s.now c.in-If.test c.in-If.first c.in-If.second c.args.bank.now c.value.new.bank c.block.new.bank
                  (env_of f.names.items) (env_of one.names.items) (env_of o.names.items) f.state one.state o.state
                  (inside_run M defs kinds c.in-If.first) c.args.place
                  c.in_ok-middle-in-If.middle c.in-If.is c.requires.can c.value.ensures.grows c.in_ok-value-in-If.ensures.single c.block.ensures.grows
                  c.in_ok-middle-in-If.ensures.ran c.in_ok-other-in-If.ensures.names c.in_ok-other-in-If.ensures.state in
                  can,
              c.block.ensures.bank,
            ),
          ),
        ),
      ),
    )

pub statement-turns-requires : goal.statement-turns-requires
statement-turns-requires g t c κs h =
    let smaller = size_for c.args.s.now c.in-For.x c.in-For.w c.in-For.n c.in-For.each c.in-For.is in (
      omega arith,
      (
        search rules,
        (
          search rules,
          (
            search rules,
            (
              let r = c.args.self.now in
                  let kinds = g.B.Book.kinds r.book.now in
                  let M = g.W.SymLower.means r.machine.now in
                  let law = g.met.W.SymLower.keeps r.machine.now in
                  let defs = r.defs.now in
                  let f = c.args.frame.now in
                  let can = step_for M law kinds defs c.args.s.now c.in-For.x c.in-For.w c.in-For.n c.in-For.each c.args.bank.now (env_of f.names.items) f.state
                  c.in-For.is c.requires.can in
                  can,
              c.requires.bank,
            ),
          ),
        ),
      ),
    )

pub block-statements-requires : goal.block-statements-requires
block-statements-requires g t c κs h =
    let smaller = size_block c.args.b.now c.as_slice.result.now c.as_slice.ensures in (
      omega arith,
      (
        search rules,
        (
          search rules,
          (
            search rules,
            (
              let r = c.args.self.now in
                  let kinds = g.B.Book.kinds r.book.now in
                  let M = g.W.SymLower.means r.machine.now in
                  let law = g.met.W.SymLower.keeps r.machine.now in
                  let defs = r.defs.now in
                  let f = c.args.frame.now in
                  let can = subst (λ (ss : List Stmt). CanRun M defs ss c.args.bank.now (env_of f.names.items) f.state) (sym c.as_slice.ensures)
                  (enter_runs M law kinds defs c.args.b.now c.args.bank.now (env_of f.names.items) f.state c.requires.can) in
                  can,
              c.requires.bank,
            ),
          ),
        ),
      ),
    )

pub statements-statement-requires : goal.statements-statement-requires
statements-statement-requires g t c κs h =
    let smaller = size_item c.args.all.now c.loop-s.s-index c.s-item.result _ c.loop-s-test.true c.s-item.is in (
      omega arith,
      (
        search rules,
        (
          search rules,
          (
            search rules,
            (
              let r = c.args.self.now in
                  let kinds = g.B.Book.kinds r.book.now in
                  let M = g.W.SymLower.means r.machine.now in
                  let law = g.met.W.SymLower.keeps r.machine.now in
                  let defs = r.defs.now in
                  let f = c.loop-s.frame in
                  let can = next_can M law defs c.args.all.now c.loop-s.s-index c.s-item.result _ c.loop-s.bank (env_of f.names.items)
                  f.state c.loop-s-test.true c.s-item.is
                  c.loop-s.invariant.can in
                  can,
              c.loop-s.invariant.bank,
            ),
          ),
        ),
      ),
    )

pub statement-called-requires-clause-can : goal.statement-called-requires-clause-can
statement-called-requires-clause-can g t c =
    let r = c.args.self.now in
    let kinds = g.B.Book.kinds r.book.now in
    let M = g.W.SymLower.means r.machine.now in
    let law = g.met.W.SymLower.keeps r.machine.now in
    let defs = r.defs.now in
    let f = c.args.frame.now in
    step_call M law kinds defs c.args.s.now c.in-Call.f c.in-Call.es c.as_slice-in-Call.result.now c.args.bank.now (env_of f.names.items) f.state c.in-Call.is
    c.as_slice-in-Call.ensures c.requires.can

pub statement-returns-in-For-clause-ran : goal.statement-returns-in-For-clause-ran
statement-returns-in-For-clause-ran g t c =
    let r = c.args.self.now in
    let kinds = g.B.Book.kinds r.book.now in
    let M = g.W.SymLower.means r.machine.now in
    let law = g.met.W.SymLower.keeps r.machine.now in
    let defs = r.defs.now in
    let f = c.args.frame.now in
    let n = c.turns.new.frame in
    ended_for M law kinds defs c.args.s.now c.in-For.x c.in-For.w c.in-For.n c.in-For.each c.args.place (env_of f.names.items) (env_of n.names.items) f.state
    n.state c.args.bank.now c.turns.new.bank c.turns.result c.in-For.is c.turns.ensures.ran

pub statements-loop-s-init : goal.statements-loop-s-init
statements-loop-s-init g t c =
    record {
      went = record { places = refl; rest = refl };
      can = c.requires.can;
      grows = extends_self c.args.bank.now;
      bank = c.requires.bank;
      single = λ first h. h;
    }

pub statements-loop-s-preserved : goal.statements-loop-s-preserved
statements-loop-s-preserved g t c =
    let r = c.args.self.now in
    let kinds = g.B.Book.kinds r.book.now in
    let M = g.W.SymLower.means r.machine.now in
    let law = g.met.W.SymLower.keeps r.machine.now in
    let defs = r.defs.now in
    let f = c.loop-s.frame in
    let all = c.args.all.now in
    let i = c.loop-s.s-index in
    let t = c.s-item.result in
    let split = rest_is all i t _ c.loop-s-test.true c.s-item.is in
    let can = subst (λ (ss : List Stmt). CanRun M defs ss c.loop-s.bank (env_of f.names.items) f.state) split c.loop-s.invariant.can in
    let at = c.args.bank.now in
    let f0 = c.args.frame.now in
    let n = c.statement.new.frame in
    let new = c.statement.new.bank in
    let ran = c.in_ok-at.ensures.ran in
    let so_far = c.loop-s.invariant in
    record {
      went = order_goes M defs kinds all c.args.place (env_of f0.names.items) f0.state at i c.loop-s.at c.in_ok-at.at (env_of f.names.items)
          (env_of n.names.items) f.state n.state c.loop-s.bank new t _ c.loop-s-test.true c.s-item.is so_far.went ran;
      can = rest_runs M law kinds defs t (drop (i + 1) all) c.loop-s.at c.loop-s.bank new (env_of f.names.items) (env_of n.names.items) f.state n.state can
          ran.nodes ran.names ran.state c.statement.ensures.bank ran.single;
      grows = extends_both at c.loop-s.bank new so_far.grows c.statement.ensures.grows;
      bank = c.statement.ensures.bank;
      single = single_both at c.loop-s.bank new so_far.single ran.single;
    }

pub statements-returns-clause-ran : goal.statements-returns-clause-ran
statements-returns-clause-ran g t c =
    let r = c.args.self.now in
    let kinds = g.B.Book.kinds r.book.now in
    let M = g.W.SymLower.means r.machine.now in
    let law = g.met.W.SymLower.keeps r.machine.now in
    let defs = r.defs.now in
    let f = c.loop-s.frame in
    let f0 = c.args.frame.now in
    order_ends M defs kinds c.args.all.now c.args.place (env_of f0.names.items) f0.state c.args.bank.now c.loop-s.s-index c.loop-s.at (env_of f.names.items)
    f.state c.loop-s.bank (omega (arith, c.loop-s-test.false)) c.loop-s.invariant.single c.loop-s.invariant.went

pub turns-loop-i-init : goal.turns-loop-i-init
turns-loop-i-init g t c =
    let r = c.args.self.now in
    let kinds = g.B.Book.kinds r.book.now in
    let M = g.W.SymLower.means r.machine.now in
    let law = g.met.W.SymLower.keeps r.machine.now in
    let defs = r.defs.now in
    let f = c.args.frame.now in
    record {
      went = turns_begin M defs kinds c.args.x.now c.args.w c.args.n c.args.each.now c.args.place (env_of f.names.items) f.state c.args.bank.now;
      can = c.requires.can;
      grows = extends_self c.args.bank.now;
      bank = c.requires.bank;
      single = λ first h. h;
    }

pub turns-number-requires-clause-least : goal.turns-number-requires-clause-least
turns-number-requires-clause-least g t c =
    let r = c.args.self.now in
    let kinds = g.B.Book.kinds r.book.now in
    let M = g.W.SymLower.means r.machine.now in
    let law = g.met.W.SymLower.keeps r.machine.now in
    let defs = r.defs.now in
    let f = c.loop-i.frame in
    let x = c.args.x.now in
    let w = c.args.w in
    let n = c.args.n in
    let each = c.args.each.now in
    let env = env_of f.names.items in
    let parts = repeat_parts M law kinds defs x w n each c.loop-i.bank env f.state c.loop-i.invariant.can in
    let wide = parts.width in
    wide.0

pub turns-number-requires-clause-most : goal.turns-number-requires-clause-most
turns-number-requires-clause-most g t c =
    let r = c.args.self.now in
    let kinds = g.B.Book.kinds r.book.now in
    let M = g.W.SymLower.means r.machine.now in
    let law = g.met.W.SymLower.keeps r.machine.now in
    let defs = r.defs.now in
    let f = c.loop-i.frame in
    let x = c.args.x.now in
    let w = c.args.w in
    let n = c.args.n in
    let each = c.args.each.now in
    let env = env_of f.names.items in
    let parts = repeat_parts M law kinds defs x w n each c.loop-i.bank env f.state c.loop-i.invariant.can in
    let wide = parts.width in
    wide.1

pub turns-number-requires-clause-below : goal.turns-number-requires-clause-below
turns-number-requires-clause-below g t c =
    let r = c.args.self.now in
    let kinds = g.B.Book.kinds r.book.now in
    let M = g.W.SymLower.means r.machine.now in
    let law = g.met.W.SymLower.keeps r.machine.now in
    let defs = r.defs.now in
    let f = c.loop-i.frame in
    let x = c.args.x.now in
    let w = c.args.w in
    let n = c.args.n in
    let each = c.args.each.now in
    let env = env_of f.names.items in
    let parts = repeat_parts M law kinds defs x w n each c.loop-i.bank env f.state c.loop-i.invariant.can in
    let bound = parts.bound in
    omega (arith, bound, c.loop-i-test.true)

pub turns-block-requires : goal.turns-block-requires
turns-block-requires g t c κs h = (
  omega arith,
  (
    search rules,
    (
      search rules,
      (
        search rules,
        (
          let r = c.args.self.now in
              let kinds = g.B.Book.kinds r.book.now in
              let M = g.W.SymLower.means r.machine.now in
              let law = g.met.W.SymLower.keeps r.machine.now in
              let defs = r.defs.now in
              let f = c.loop-i.frame in
              let x = c.args.x.now in
              let w = c.args.w in
              let n = c.args.n in
              let each = c.args.each.now in
              let env = env_of f.names.items in
              let enter = repeat_enters M law kinds defs x w n each c.loop-i.bank c.number.new.bank env (env_of c.name_value.new.names.items) f.state c.loop-i.i
              c.in_ok-number.number c.loop-i-test.true c.loop-i.invariant.can c.in_ok-number.ensures.nodes c.in_ok-number.ensures.form
              c.in_ok-name_value.ensures
              c.number.ensures.bank c.in_ok-number.ensures.single in
              enter,
          c.number.ensures.bank,
        ),
      ),
    ),
  ),
)

pub turns-loop-i-preserved : goal.turns-loop-i-preserved
turns-loop-i-preserved g t c =
    let r = c.args.self.now in
    let kinds = g.B.Book.kinds r.book.now in
    let M = g.W.SymLower.means r.machine.now in
    let law = g.met.W.SymLower.keeps r.machine.now in
    let defs = r.defs.now in
    let f = c.loop-i.frame in
    let x = c.args.x.now in
    let w = c.args.w in
    let n = c.args.n in
    let each = c.args.each.now in
    let env = env_of f.names.items in
    let enter = repeat_enters M law kinds defs x w n each c.loop-i.bank c.number.new.bank env (env_of c.name_value.new.names.items) f.state c.loop-i.i
    c.in_ok-number.number c.loop-i-test.true c.loop-i.invariant.can c.in_ok-number.ensures.nodes c.in_ok-number.ensures.form c.in_ok-name_value.ensures
    c.number.ensures.bank c.in_ok-number.ensures.single in
    let f0 = c.args.frame.now in
    let at = c.args.bank.now in
    let now = c.loop-i.bank in
    let mid = c.number.new.bank in
    let new = c.block.new.bank in
    let pushed = c.name_value.new.names.items in
    let during = c.block.new.frame.names.items in
    let after = c.truncate.new.self.items in
    let k = c.len-before.result in
    let ran = c.in_ok-at.ensures.ran in
    let so_far = c.loop-i.invariant in
    let counted : k ≡ length f.names.items = omega (arith, f.names.ok.0, c.len-before.ensures) in
    let cut = dropped_is f.names.items during after k counted c.truncate.ensures.items in
    let grown = extends_both now mid new c.number.ensures.grows c.block.ensures.grows in
    record {
      went = turns_go M defs kinds x w n each c.args.place (env_of f0.names.items) f0.state at c.loop-i.i c.loop-i.at c.in_ok-at.at f.names.items pushed during
          after k f.state c.block.new.frame.state now mid new c.in_ok-number.number c.loop-i-test.true so_far.went c.in_ok-number.ensures.nodes
          c.in_ok-number.ensures.form c.in_ok-name_value.ensures ran counted c.truncate.ensures.items;
      can = repeat_again M law kinds defs x w n each now mid new env (env_of pushed) (env_of during) (env_of after) f.state c.block.new.frame.state c.loop-i.i
          c.loop-i.at c.in_ok-number.number so_far.can c.in_ok-name_value.ensures enter grown ran.nodes ran.names ran.state c.block.ensures.bank ran.single cut;
      grows = extends_both at now new so_far.grows grown;
      bank = c.block.ensures.bank;
      single = single_both at now new so_far.single (single_both now mid new c.in_ok-number.ensures.single ran.single);
    }

pub turns-returns-clause-ran : goal.turns-returns-clause-ran
turns-returns-clause-ran g t c =
    let r = c.args.self.now in
    let kinds = g.B.Book.kinds r.book.now in
    let M = g.W.SymLower.means r.machine.now in
    let law = g.met.W.SymLower.keeps r.machine.now in
    let defs = r.defs.now in
    let f = c.loop-i.frame in
    let x = c.args.x.now in
    let w = c.args.w in
    let n = c.args.n in
    let each = c.args.each.now in
    let env = env_of f.names.items in
    let f0 = c.args.frame.now in
    turns_end M defs kinds x w n each c.args.place (env_of f0.names.items) f0.state c.args.bank.now c.loop-i.i c.loop-i.at env f.state c.loop-i.bank
    (omega (arith, c.loop-i-test.false)) c.loop-i.invariant.single c.loop-i.invariant.went

pub statement-returns-in_err-middle-in-If-clause-grows : goal.statement-returns-in_err-middle-in-If-clause-grows
statement-returns-in_err-middle-in-If-clause-grows g t c =
    extends_both c.args.bank.now c.value.new.bank c.block.new.bank c.value.ensures.grows c.block.ensures.grows

pub statement-returns-in_err-end-in-If-clause-grows : goal.statement-returns-in_err-end-in-If-clause-grows
statement-returns-in_err-end-in-If-clause-grows g t c =
    extends_both c.args.bank.now c.value.new.bank c.block-in-If.new.bank c.value.ensures.grows
    (extends_both c.value.new.bank c.block.new.bank c.block-in-If.new.bank c.block.ensures.grows c.block-in-If.ensures.grows)

pub statement-returns-in_err-join-in-If-clause-grows : goal.statement-returns-in_err-join-in-If-clause-grows
statement-returns-in_err-join-in-If-clause-grows g t c =
    extends_both c.args.bank.now c.value.new.bank c.join.new.bank c.value.ensures.grows
    (extends_both c.value.new.bank c.block.new.bank c.join.new.bank c.block.ensures.grows
    (extends_both c.block.new.bank c.block-in-If.new.bank c.join.new.bank c.block-in-If.ensures.grows c.join.ensures.grows))

pub statement-returns-in_ok-join-in-If-clause-grows : goal.statement-returns-in_ok-join-in-If-clause-grows
statement-returns-in_ok-join-in-If-clause-grows g t c =
    extends_both c.args.bank.now c.value.new.bank c.join.new.bank c.value.ensures.grows
    (extends_both c.value.new.bank c.block.new.bank c.join.new.bank c.block.ensures.grows
    (extends_both c.block.new.bank c.block-in-If.new.bank c.join.new.bank c.block-in-If.ensures.grows c.join.ensures.grows))

pub statements-returns-in_err-at-clause-grows : goal.statements-returns-in_err-at-clause-grows
statements-returns-in_err-at-clause-grows g t c =
    extends_both c.args.bank.now c.loop-s.bank c.statement.new.bank c.loop-s.invariant.grows c.statement.ensures.grows

pub turns-returns-in_err-number-clause-grows : goal.turns-returns-in_err-number-clause-grows
turns-returns-in_err-number-clause-grows g t c =
    extends_both c.args.bank.now c.loop-i.bank c.number.new.bank c.loop-i.invariant.grows c.number.ensures.grows

pub turns-returns-in_err-name_value-clause-grows : goal.turns-returns-in_err-name_value-clause-grows
turns-returns-in_err-name_value-clause-grows g t c =
    extends_both c.args.bank.now c.loop-i.bank c.number.new.bank c.loop-i.invariant.grows c.number.ensures.grows

pub turns-returns-in_err-at-clause-grows : goal.turns-returns-in_err-at-clause-grows
turns-returns-in_err-at-clause-grows g t c =
    extends_both c.args.bank.now c.loop-i.bank c.block.new.bank c.loop-i.invariant.grows
    (extends_both c.loop-i.bank c.number.new.bank c.block.new.bank c.number.ensures.grows c.block.ensures.grows)
