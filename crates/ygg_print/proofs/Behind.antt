-- What stands behind a list after calls that each add their part to its end.
use Rattle.std.proofs.Common.{◌≡◌, List, ◌++◌, Result, OnOk, ap, ◌∙◌, append_assoc}
use Rattle.std.proofs.lemmas.Result.{on_ok_weaker}

module _ {T E M : Type 0} (r : Result T E) (new : List M) where
  -- the part, written in another way
  pub same : (old part whole : List M) → part ≡ whole → OnOk r (new ≡ old ++ part) → OnOk r (new ≡ old ++ whole)
  same old part whole is last = on_ok_weaker r (λ h. h ∙ ap (λ (rest : List M). old ++ rest) is) last

  -- a part behind a part is, together with it, behind what was before
  pub behind : (middle old first second : List M) → middle ≡ old ++ first → OnOk r (new ≡ middle ++ second) → OnOk r (new ≡ old ++ (first ++ second))
  behind middle old first second before last =
      on_ok_weaker r (λ h. h ∙ (ap (λ (m : List M). m ++ second) before ∙ append_assoc old first second)) last
