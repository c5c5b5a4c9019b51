-- The first obligation that was found to fail, and the lines of what was found.
use Rattle.std.proofs.Common.{◌≡◌, ◌<◌, ◌≤◌, ◌+◌, ℕ, List, [], ◌∷◌, ◌++◌, length, drop, get_or, Option, Some, None, Result, Ok, Err, sym, ap, subst, ◌∙◌, arith}
use Rattle.std.specs.Prelude.{All, IfSome, IfOk}
use Rattle.std.proofs.lemmas.List.{append-nil, drop_all, get_or-map}
use Rattle.ygg_base.specs.declared.status.Status.{Status}
use Rattle.ygg_certify.specs.ygg_bank.declared.env.Given.{Given}
use Rattle.ygg_certify.specs.ygg_bank.Values.{inputs_of}
use Rattle.ygg_syntax.specs.declared.tree.File.{File}
use Rattle.ygg_top.specs.ygg_rules.declared.rule.RuleKind.{RuleKind}
use Rattle.ygg_certify.specs.declared.finding.Finding.{Finding}
use Rattle.ygg_top.specs.declared.verdict.Refutation.{Refutation}
use Rattle.ygg_top.specs.Findings.{FitsTerms, IsEnd, IsFitting, IsRefuting, IsRefutingBy}
use Rattle.ygg_certify.specs.Findings.{IsHeld}
use Rattle.ygg_top.specs.Certifying.{CertifiesFile}
use Rattle.ygg_top.specs.CertifiedFindings.{
  EndsOf,
  IsRefutedBy,
  IsUndecided,
  IsWithLast,
  env_of,
  lines_found,
  names_found,
  refutation_at,
  refutation_or,
  refutation_from,
  summary_of,
}
use Rattle.ygg_top.proofs.Opened.{refuted_from, some_end, none_end}

-- all lines
pub lines_all : (budget : ℕ) (fs : List Finding) (i : ℕ) (text : List ℕ) → length fs ≤ i → text ++ lines_found budget (drop i fs) ≡ lines_found budget fs →
    text ≡ lines_found budget fs
lines_all budget fs i text past so_far =
    sym (append-nil text) ∙ ap (λ (xs : List Finding). text ++ lines_found budget xs) (sym (drop_all i fs past)) ∙ so_far

module _ (fs : List Finding) (i : ℕ) (so_far : refutation_from 0 fs ≡ refutation_from i (drop i fs)) where
  module _ (f : Finding) (within : i < length fs) (here : f ≡ get_or fs i f) where
    abbrev later : Option Refutation
    later = refutation_from (i + 1) (drop (i + 1) fs)

    -- one that was found to fail
    pub fails_here : (place : ℕ) (env : List Given) → place ≡ i → Some env ≡ env_of f.outcome → refutation_from 0 fs ≡ Some (refutation_at place env)
    fails_here place env at found =
        refuted_from fs i f within here so_far ∙ ap (λ (o : Option (List Given)). refutation_or o i later) (sym found)
        ∙ ap (λ (p : ℕ). Some (refutation_at p env)) (sym at)

    -- one that wasn't
    pub fails_later : None ≡ env_of f.outcome → refutation_from 0 fs ≡ later
    fails_later found = refuted_from fs i f within here so_far ∙ ap (λ (o : Option (List Given)). refutation_or o i later) (sym found)

  -- none was
  pub fails_never : length fs ≤ i → refutation_from 0 fs ≡ None
  fails_never past = so_far ∙ ap (refutation_from i) (drop_all i fs past)

-- a refutation is of one of what was found
place_from : (start : ℕ) (fs : List Finding) (r : Refutation) → refutation_from start fs ≡ Some r → r.place < start + length fs
place_from start [] r is = absurd (cc is)
place_from start (f ∷ fs) r is = by (env_of f.outcome) is (λ rest. place_from (start + 1) fs r rest)
  where
    by : (env : Option (List Given)) → refutation_or env start (refutation_from (start + 1) fs) ≡ Some r →
        (refutation_from (start + 1) fs ≡ Some r → r.place < (start + 1) + length fs) → r.place < start + length (f ∷ fs)
    by (Some env) e below = let same : refutation_at start env ≡ r = cc in let at = ap (λ (x : Refutation). x.place) same in omega (arith, at)
    by None e below = let rest = below e in omega (arith, rest)

pub place_within : (fs : List Finding) (place : ℕ) (env : List Given) → refutation_from 0 fs ≡ Some (refutation_at place env) → place < length fs
place_within fs place env is = let within = place_from 0 fs (refutation_at place env) is in omega (arith, within)

-- its environment gives each input a word of its width
pub fits_at : (kinds : List RuleKind) (f : File) (fs : List Finding) (place : ℕ) (env : List Given) → refutation_from 0 fs ≡ Some (refutation_at place env) →
    IfSome (refutation_from 0 fs) (IsFitting kinds f)
    → FitsTerms kinds f (inputs_of env)
fits_at kinds f fs place env is fits = subst (λ (o : Option Refutation). IfSome o (IsFitting kinds f)) is fits

-- what is printed of it
pub refuting_at : (kinds : List RuleKind) (f : File) (fs : List Finding) (place : ℕ) (env : List Given) (other : Finding) (text : List ℕ) →
    place < length fs → IsRefutingBy kinds f (get_or fs place other).name place env text
    → IsRefuting kinds f (names_found fs) (refutation_at place env) text
refuting_at kinds f fs place env other text within refuting =
    subst (λ (name : List ℕ). IsRefutingBy kinds f name place env text) (sym (get_or-map (λ (x : Finding). x.name) fs place other [] within)) refuting

module _ {E : Type 0} (kinds : List RuleKind) (f : File) (fs : List Finding) where
  -- where one fails
  pub refuted_end : (place : ℕ) (env : List Given) (r : Result (Status × List ℕ) E) → refutation_from 0 fs ≡ Some (refutation_at place env) →
      IfOk r (IsRefutedBy kinds f fs place env)
      → IfOk r (EndsOf kinds f fs)
  refuted_end place env (Err e) first ends = tt
  refuted_end place env (Ok end) first ends =
      subst (λ (s : Status). IsEnd kinds f (names_found fs) (summary_of fs) s end.1) (sym ends.0)
      (some_end kinds f fs end.1 (refutation_at place env) first ends.1)

  -- where none does
  pub undecided_end : (r : Result (Status × List ℕ) E) → refutation_from 0 fs ≡ None → (All IsHeld fs → ⊥) → IfOk r IsUndecided
      → IfOk r (EndsOf kinds f fs)
  undecided_end (Err e) first unheld ends = tt
  undecided_end (Ok end) first unheld ends =
      subst (λ (s : Status). IsEnd kinds f (names_found fs) (summary_of fs) s end.1) (sym ends.0) (none_end kinds f fs end.1 first unheld ends.1)

  -- the lines with what is printed last
  pub with_lines : (budget : ℕ) (text : List ℕ) (last : Status × List ℕ) (r : Result (Status × List ℕ) E) → text ≡ lines_found budget fs →
      EndsOf kinds f fs last →
      ((status : Status) (rest : List ℕ) → IsEnd kinds f (names_found fs) (summary_of fs) status rest
      → CertifiesFile kinds f budget status (lines_found budget fs ++ rest)) →
      IfOk r (IsWithLast text last)
      → IfOk r (λ end. CertifiesFile kinds f budget end.0 end.1)
  with_lines budget text last (Err e) is ends certifies joined = tt
  with_lines budget text last (Ok end) is ends certifies joined =
      subst (λ (s : Status). CertifiesFile kinds f budget s end.1) (sym joined.0)
      (subst (λ (t : List ℕ). CertifiesFile kinds f budget last.0 t) (sym (joined.1 ∙ ap (λ (ls : List ℕ). ls ++ last.1) is)) (certifies last.0 last.1 ends))
