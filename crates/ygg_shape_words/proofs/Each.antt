-- Facts of a result that a call answers and the caller hands on.
use Rattle.std.proofs.Common.{◌≡◌, IfOk, OnOk, Result, Ok, Err, sym, subst}

-- where it is made as the call says, it is as the caller says
pub each_ok : {A E X : Type 0} {P Q : A → Type 0} (r : Result A E) → OnOk r X → IfOk r P → ((a : A) → X → P a → Q a) → IfOk r Q
each_ok (Ok a) x p f = f a x p
each_ok (Err e) x p f = tt

-- the same of one that is known before the call
pub this_ok : {A E X : Type 0} (Q : A → Type 0) (r : Result A E) (a : A) → OnOk r X → IfOk r (λ b. b ≡ a) → (X → Q a) → IfOk r Q
this_ok Q (Ok b) a x e f = subst Q (sym e) (f x)
this_ok Q (Err e) a x p f = tt

-- what follows from what the call leaves
pub on_ok : {A E X Y : Type 0} (r : Result A E) → OnOk r X → (X → Y) → OnOk r Y
on_ok (Ok a) x f = f x
on_ok (Err e) x f = tt
