-- Whole disk calls are counted.
use Rattle.std.proofs.Common.{◌≡◌, ◌≢◌, ℕ, suc, ◌≤◌, ◌<◌, ◌+◌, ◌-◌, ◌^◌, [], ◌∷◌, length, Option, Some, IsSomeAnd, sym, ap, ◌∙◌, subst, arith}
use Rattle.std.proofs.Math.Nat.{le-min, min-le_left}
use Rattle.ygg_eval.specs.ygg_disk.Ground.{Meaning}
use Rattle.ygg_eval.specs.ygg_disk.Power.{IsNamed, counted}
use Rattle.ygg_eval.specs.ygg_disk.declared.power.Fuse.{Fuse}
use Rattle.ygg_eval.specs.ygg_disk.declared.power.Power.{Power}
use Rattle.ygg_machine.specs.Leaves.{WholeAreCounted}

-- a fuse that isn't named names another call
other_call : (p : Power) (f : Fuse) → ¬ IsNamed p → p.fuse ≡ Some f → f.call ≢ p.passed
other_call p f unnamed is e = unnamed (subst (λ (o : Option Fuse). IsSomeAnd o (λ g. g.call ≡ p.passed)) (sym is) e)

-- a call that a fuse of 64 digits leaves behind is counted
one_counted : (n call : ℕ) → n ≤ call → call ≢ n → call < 2 ^ 64 → counted n ≡ n + 1
one_counted n call before other size =
    let at_most = min-le_left (n + 1) (2 ^ 64 - 1) in
    let room : n + 1 ≤ 2 ^ 64 - 1 = omega arith in
    let here : n + 1 ≤ n + 1 = omega arith in
    let at_least = le-min here room in
    omega arith

pub whole_are_counted : {S : Type 0} (G : Meaning S) → WholeAreCounted G
whole_are_counted G [] before after fuse same set size reached = (
  ap (λ (p : Power). p.fuse) same ∙ set,
  ap (λ (p : Power). p.passed) same ∙ sym (zero_more before.passed),
  subst (λ (n : ℕ). n ≤ fuse.call) (sym (ap (λ (p : Power). p.passed) same)) reached,
)
  where
    zero_more : (n : ℕ) → n + 0 ≡ n
    zero_more n = omega arith
whole_are_counted G (n ∷ ns) before after fuse (whole, unnamed, next, begun, rest) set size reached =
    let other = other_call before fuse unnamed set in
    let one : next.passed ≡ before.passed + 1 = begun.passed ∙ one_counted before.passed fuse.call reached other size in
    let (set', passed, reached') = whole_are_counted G ns next after fuse rest (begun.fuse ∙ set) size
    (subst (λ (n : ℕ). n ≤ fuse.call) (sym one) (nearer before.passed fuse.call reached other)) in
    (set', passed ∙ ap (λ (n : ℕ). n + length ns) one ∙ one_more before.passed (length ns), reached')
  where
    nearer : (n call : ℕ) → n ≤ call → call ≢ n → n + 1 ≤ call
    nearer n call h other = omega arith

    one_more : (n k : ℕ) → (n + 1) + k ≡ n + suc k
    one_more n k = omega arith
