-- What answers of a machine that answers by place keep: its state is in order, and they fit what is asked.
use Rattle.std.proofs.Common.{◌≡◌, ℕ, true, List, [], ◌∷◌, ◌++◌, map, refl, sym, ap, ◌∙◌, subst, append_assoc}
use Rattle.std.proofs.lemmas.List.{append-nil}
use Rattle.ygg_meaning_laws.specs.ygg_type_rules.Names.{Named}
use Rattle.ygg_meaning_laws.specs.ygg_type_rules.declared.scope.Signature.{Signature}
use Rattle.ygg_meaning_laws.specs.ygg_meaning.Progress.{Answer, Point, Waits, Question}
use Rattle.ygg_meaning_laws.specs.Questions.{answer_fits, question_fits}
use Rattle.ygg_meaning_laws.proofs.ProgressSounds.{Told}
use Rattle.ygg_meaning_laws.specs.Direct.{Handled, Event, told_by, AsksAll, Chained}
use Rattle.ygg_eval_places.specs.Machines.{PlaceMeaning, IsPlaces, CanAnswer}

heads : {A : Type 0} {x y : A} {xs ys : List A} → x ∷ xs ≡ y ∷ ys → x ≡ y
heads h = cc

tails : {A : Type 0} {x y : A} {xs ys : List A} → x ∷ xs ≡ y ∷ ys → xs ≡ ys
tails h = cc

waits_for : (p q : Question) → Waits p ≡ Waits q → p ≡ q
waits_for p q h = cc

-- nothing was told
pub told_none : (lower : Named Signature) (f : List Answer → Point) → Told lower f []
told_none lower f [] more a q e w = absurd (cc)
told_none lower f (t ∷ ts) more a q e w = absurd (cc)

-- one more answer fits
told_more : (lower : Named Signature) (f : List Answer → Point) (told : List Answer) (a : Answer) (q : Question) → Told lower f told → f told ≡ Waits q →
    answer_fits lower q a ≡ true → Told lower f (told ++ a ∷ [])
told_more lower f [] a q all asks fit [] more b r e w =
    subst (λ x. answer_fits lower x b ≡ true) (waits_for q r (sym asks ∙ w)) (subst (λ x. answer_fits lower q x ≡ true) (heads e) fit)
told_more lower f [] a q all asks fit (t ∷ []) more b r e w = absurd (let k : [] ≡ b ∷ more = tails e in cc)
told_more lower f [] a q all asks fit (t ∷ u ∷ ts) more b r e w = absurd (let k : [] ≡ u ∷ (ts ++ b ∷ more) = tails e in cc)
told_more lower f (x ∷ told) a q all asks fit [] more b r e w = subst (λ z. answer_fits lower r z ≡ true) (heads e) (all [] told x r refl w)
told_more lower f (x ∷ told) a q all asks fit (t ∷ ts) more b r e w =
    told_more lower (λ z. f (x ∷ z)) told a q (λ u m c p g v. all (x ∷ u) m c p (ap (λ z. x ∷ z) g) v) asks fit ts more b r (tails e)
    (ap (λ z. f (z ∷ ts)) (heads e) ∙ w)

module _ {S : Type 0} (M : PlaceMeaning S) (law : IsPlaces M) (serves : M.Serves) (f : List Answer → Point)
    (served : (answers : List Answer) (q : Question) → Told M.lower f answers → f answers ≡ Waits q → question_fits M.kind M.lower q ≡ true) where
  -- the answers fit, and the state is in order
  pub record Kept (answers : List Answer) (to : M.Is) : Type 0 where
    pub told : Told M.lower f answers
    pub good : M.Good to

  -- so it is after each event
  pub all_kept : (told : List Answer) (es : List (Event M.Is)) (from to : M.Is) → M.Good from → Told M.lower f told → AsksAll f told es →
      Chained M.handle from es to → Kept (told ++ told_by es) to
  all_kept told [] from to good fit asked chained = record { told = subst (Told M.lower f) (sym (append-nil told)) fit; good = subst M.Good chained good }
  all_kept told (e ∷ es) from to good fit asked chained =
      let q = e.question in
      let can : CanAnswer M q from = record { serves = serves; good = good; fits = served told q fit asked.0 } in
      let answered = chained.1 in
      let a = subst (λ (x : Answer). answer_fits M.lower q x ≡ true) (ap (λ (h : Handled M.Is). h.answer) answered) (law.fits e.place q from can) in
      let g = subst M.Good (ap (λ (h : Handled M.Is). h.to) answered) (law.keeps e.place q from can) in
      let r = all_kept (told ++ e.answer ∷ []) es e.after to g (told_more M.lower f told e.answer q fit asked.0 a) asked.1 chained.2 in
      record { told = subst (Told M.lower f) (append_assoc told (e.answer ∷ []) (told_by es)) r.told; good = r.good }
