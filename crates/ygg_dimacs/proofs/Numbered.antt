-- The clauses that are read have variables from 1 on.
use Rattle.std.proofs.Common.{◌≡◌, ℕ, zero, suc, ◌<◌, Bool, true, false, List, [], ◌∷◌, ◌++◌}
use Rattle.std.proofs.Common.{All, Option, Some, None, Result, Ok, Err, refl, sym, ◌∙◌, subst, arith}
use Rattle.std.specs.Prelude.{◌==◌, if◌then◌else◌, IfOk}
use Rattle.std.specs.List.{list_any}
use Rattle.std.proofs.lemmas.Bool.Decides.{nat_tests}
use Rattle.std.proofs.lemmas.List.Elements.{All-nil, All-cons, All-push}
use Rattle.ygg_base.specs.declared.failure.Refuse.{Refuse}
use Rattle.ygg_base.specs.declared.failure.Refuse.TheVariants.{At, Memory}
use Rattle.ygg_cnf.specs.declared.lit.Lit.{Lit}
use Rattle.ygg_cnf.specs.Literals.{is_same, with_literal}
use Rattle.ygg_dimacs.specs.declared.cnf.Cnf.{Cnf}
use Rattle.ygg_dimacs.specs.declared.header.Header.{Header}
use Rattle.ygg_dimacs.specs.declared.flaw.ClausesFlaw.TheVariants as flaw
use Rattle.ygg_dimacs.specs.Flaws.{refusal_at}
use Rattle.ygg_dimacs.specs.Places.{TextPlace, Line, TextWord, place}
use Rattle.ygg_dimacs.specs.Lines.{content_of, end_from}
use Rattle.ygg_dimacs.specs.Numbers.{literal_in}
use Rattle.ygg_dimacs.specs.Headers.{header_in}
use Rattle.ygg_dimacs.specs.Words.{words_of_all}
use Rattle.ygg_dimacs.specs.Reading.{Read, Gives, after_clauses, clauses_in, over, after_header, cnf_in, lines_of, cnf_of}
use Rattle.ygg_dimacs.proofs.Taking.{by_literal, next_word, by_some, by_none}

-- a literal of some variable
abbrev Numbered : Lit → Type 0
Numbered x = 0 < x.var

with_numbered : (part : List Lit) (x : Lit) → All Numbered part → Numbered x → All Numbered (with_literal part x)
with_numbered part x all some = by_test (list_any (is_same x) part)
  where
    by_test : (b : Bool) → All Numbered (if b then part else part ++ x ∷ [])
    by_test true = all
    by_test false = All-push Numbered part x all some

joined : (part : List Lit) (r : Read (List (List Lit))) (cs : List (List Lit)) → All Numbered part →
    ((others : List (List Lit)) → r ≡ Ok others → All (All Numbered) others) → after_clauses (part ∷ []) r ≡ Ok cs → All (All Numbered) cs
joined part (Ok others) cs all rest is =
    let same : part ∷ others ≡ cs = cc is in
    subst (λ (x : List (List Lit)). All (All Numbered) x) same (All-cons (All Numbered) part others all (rest others refl))
joined part (Err e) cs all rest is = absurd (cc is)

numbered_in : (variables : ℕ) (end : TextPlace) (left : ℕ) (part : List Lit) (ws : List TextWord) (cs : List (List Lit)) → All Numbered part →
    clauses_in variables end left part ws ≡ Ok cs → All (All Numbered) cs
numbered_in variables end zero part [] cs all is =
    let none : cs ≡ [] = cc is in subst (λ (x : List (List Lit)). All (All Numbered) x) (sym none) (All-nil (All Numbered))
numbered_in variables end zero part (w ∷ ws) cs all is = absurd (cc is)
numbered_in variables end (suc left) part [] cs all is = absurd (cc is)
numbered_in variables end (suc left) part (w ∷ ws) cs all is =
    by_found (literal_in variables w.bytes) (sym (next_word variables end left part w ws) ∙ is)
    (λ others. numbered_in variables end left [] ws others (All-nil Numbered))
    (λ x some. numbered_in variables end (suc left) (with_literal part x) ws cs (with_numbered part x all some))
  where
    by_found : (found : Option Lit) → by_literal variables end left part w ws found ≡ Ok cs →
        ((others : List (List Lit)) → clauses_in variables end left [] ws ≡ Ok others → All (All Numbered) others) →
        ((x : Lit) → Numbered x → clauses_in variables end (suc left) (with_literal part x) ws ≡ Ok cs → All (All Numbered) cs) → All (All Numbered) cs
    by_found None e ended goes = absurd (cc e)
    by_found (Some x) e ended goes = by_test (x.var == 0) refl
      where
        by_test : (b : Bool) → (x.var == 0) ≡ b → All (All Numbered) cs
        by_test true t = joined part (clauses_in variables end left [] ws) cs all ended (sym (by_none variables end left part w ws x t) ∙ e)
        by_test false t =
            let some : 0 < x.var = grind (arith, nat_tests) in
            goes x some (sym (by_some variables end left part w ws x t) ∙ e)

-- the clauses of what is read
clauses_over : (variables : ℕ) (r : Read (List (List Lit))) (c : Cnf) → ((cs : List (List Lit)) → r ≡ Ok cs → All (All Numbered) cs) → over variables r ≡ Ok c →
    All (All Numbered) c.clauses
clauses_over variables (Ok cs) c all is =
    let same : cs ≡ c.clauses = cc is in subst (λ (x : List (List Lit)). All (All Numbered) x) same (all cs refl)
clauses_over variables (Err e) c all is = absurd (cc is)

-- what the first line that counts gives, by the header that it is
abbrev pub by_header : Line → List Line → TextPlace → Option Header → Read Cnf
by_header first ls end None = Err (refusal_at flaw.Header first.number 1)
by_header first ls end (Some h) = after_header h ls end

pub header_step : (first : Line) (ls : List Line) (end : TextPlace) → cnf_in (first ∷ ls) end ≡ by_header first ls end (header_in first.bytes)
header_step first ls end = by_case (header_in first.bytes) refl
  where
    by_case : (h : Option Header) → header_in first.bytes ≡ h → cnf_in (first ∷ ls) end ≡ by_header first ls end (header_in first.bytes)
    by_case None e = rw (e, cnf_in, by_header) refl
    by_case (Some h) e = rw (e, cnf_in, by_header) refl

by_lines : (ls : List Line) (end : TextPlace) (c : Cnf) → cnf_in ls end ≡ Ok c → All (All Numbered) c.clauses
by_lines [] end c is = absurd (cc is)
by_lines (first ∷ ls) end c is = by_case (header_in first.bytes) (sym (header_step first ls end) ∙ is)
  where
    by_case : (h : Option Header) → by_header first ls end h ≡ Ok c → All (All Numbered) c.clauses
    by_case None e = absurd (cc e)
    by_case (Some h) e =
        clauses_over h.variables (clauses_in h.variables end h.clauses [] (words_of_all ls)) c
        (λ cs. numbered_in h.variables end h.clauses [] (words_of_all ls) cs (All-nil Numbered)) e

-- whatever is answered
pub gives_numbered : (text : List ℕ) (r : Result Cnf Refuse) → Gives (λ (x : Cnf). x) r (cnf_of text) →
    IfOk r (λ c. All (All (λ (x : Lit). 0 < x.var)) c.clauses)
gives_numbered text (Ok c) is = by_lines (content_of (lines_of text)) (end_from (place 1 1) (lines_of text)) c is
gives_numbered text (Err (At refusal)) is = tt
gives_numbered text (Err Memory) is = tt
