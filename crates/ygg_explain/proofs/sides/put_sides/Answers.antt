use Rattle.std.proofs.Common.{◌≡◌, ℕ, false, List, ◌++◌, Result, OnOk, ap, ◌∙◌}
use Rattle.ygg_value.specs.declared.row.Value.{Value}
use Rattle.ygg_value.specs.declared.row.Value.TheVariants.{Table}
use Rattle.ygg_explain.specs.Lines.{both_text}
use Rattle.ygg_explain.specs.Parts.{Adds, AreSides, are_tables, values}
use Rattle.ygg_explain.proofs.Adding.{on_ok}
use Rattle.ygg_explain.proofs.sides.put_sides.Goals as goal

-- both values
told : {A E : Type 0} (r : Result A E) (v w : Value) (before after : List ℕ) → are_tables v w ≡ false → OnOk r (after ≡ before ++ both_text v w) →
    OnOk r (Adds (AreSides v w) before after)
told r v w before after unlike h = on_ok r (λ added. record { text = both_text v w; like = values unlike; added = added }) h

pub returns-in-Table-Word-default-default : goal.returns-in-Table-Word-default-default
returns-in-Table-Word-default-default c =
    told c.put_both.result c.args.a.now c.args.b.now c.args.out.now c.put_both.new.out
    (ap (λ v. are_tables v c.args.b.now) c.in-Table-Word-default-default.is-0
    ∙ ap (are_tables (Table c.in-Table-Word-default-default.field-0-0)) c.in-Table-Word-default-default.is-1)
    c.put_both.ensures

pub returns-in-Table-Row-default-default : goal.returns-in-Table-Row-default-default
returns-in-Table-Row-default-default c =
    told c.put_both-in-Table-Row-default-default.result c.args.a.now c.args.b.now c.args.out.now c.put_both-in-Table-Row-default-default.new.out
    (ap (λ v. are_tables v c.args.b.now) c.in-Table-Row-default-default.is-0
    ∙ ap (are_tables (Table c.in-Table-Row-default-default.field-0-0)) c.in-Table-Row-default-default.is-1)
    c.put_both-in-Table-Row-default-default.ensures

pub returns-in-Row-default-default-default : goal.returns-in-Row-default-default-default
returns-in-Row-default-default-default c =
    told c.put_both-in-Row-default-default-default.result c.args.a.now c.args.b.now c.args.out.now c.put_both-in-Row-default-default-default.new.out
    (ap (λ v. are_tables v c.args.b.now) c.in-Row-default-default-default.is-0) c.put_both-in-Row-default-default-default.ensures

pub returns-in-Word-default-default-default : goal.returns-in-Word-default-default-default
returns-in-Word-default-default-default c =
    told c.put_both-in-Word-default-default-default.result c.args.a.now c.args.b.now c.args.out.now c.put_both-in-Word-default-default-default.new.out
    (ap (λ v. are_tables v c.args.b.now) c.in-Word-default-default-default.is-0) c.put_both-in-Word-default-default-default.ensures
