-- What environments give, one item after another.
use Rattle.std.proofs.Common.{
  ◌≡◌,
  ◌<◌,
  ℕ,
  ◌+◌,
  ◌==◌,
  true,
  false,
  if◌then◌else◌,
  Option,
  Some,
  List,
  [],
  ◌∷◌,
  ◌++◌,
  length,
  take,
  get_or,
  refl,
  sym,
  ap,
  ◌∙◌,
}
use Rattle.std.proofs.lemmas.List.{take_more}
use Rattle.ygg_value.specs.Number.{Number}
use Rattle.ygg_bank.specs.Values.{also_given, given_for}
use Rattle.ygg_bank.specs.declared.env.Given.{Given}
use Rattle.ygg_bank.specs.declared.env.Given.TheVariants as given

-- what is given after one more item
given_for-append : (env : List Given) (item : Given) (number : ℕ) → given_for (env ++ item ∷ []) number ≡ also_given (given_for env number) item number
given_for-append [] (given.Word n w) number = refl
given_for-append (given.Word m u ∷ env) item number =
    elim (m == number) as (λ b. (if b then Some u else given_for (env ++ item ∷ []) number)
    ≡ also_given (if b then Some u else given_for env number) item number)
    [ true ↦ refl | false ↦ given_for-append env item number ]

-- what the items so far give is known after one more of them
pub one_more_given : (env : List Given) (i : ℕ) (item : Given) (old new : ℕ → Option Number) → i < length env → item ≡ get_or env i item →
    ((number : ℕ) → new number ≡ also_given (old number) item number) → ((number : ℕ) → old number ≡ given_for (take i env) number) →
    (number : ℕ) → new number ≡ given_for (take (i + 1) env) number
one_more_given env i item old new l is more known number =
    more number ∙ ap (λ o. also_given o item number) (known number) ∙ sym (given_for-append (take i env) item number)
    ∙ ap (λ z. given_for (take i env ++ z ∷ []) number) is ∙ ap (λ z. given_for z number) (sym (take_more env i item l))
