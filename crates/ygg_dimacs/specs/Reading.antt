-- The clauses that a text is, or its first refusal.
use Rattle.std.specs.Prelude.{◌≡◌, ℕ, zero, suc, ◌==◌, if◌then◌else◌, List, [], ◌∷◌, ◌++◌, Some, None, Result, Ok, Err}
use Rattle.ygg_base.specs.declared.failure.Refusal.{Refusal}
use Rattle.ygg_base.specs.declared.failure.Refuse.{Refuse}
use Rattle.ygg_base.specs.declared.failure.Refuse.TheVariants.{At, Memory}
use Rattle.ygg_cnf.specs.declared.lit.Lit.{Lit}
use Rattle.ygg_cnf.specs.Literals.{with_literal}
use Rattle.ygg_dimacs.specs.declared.cnf.Cnf.{Cnf}
use Rattle.ygg_dimacs.specs.declared.flaw.ClausesFlaw.TheVariants.{Header, Number, Count}
use Rattle.ygg_dimacs.specs.declared.header.Header as head
use Rattle.ygg_dimacs.specs.Flaws.{refusal_at}
use Rattle.ygg_dimacs.specs.Places.{TextPlace, Line, TextWord, place}
use Rattle.ygg_dimacs.specs.Lines.{numbered, pieces_of, content_of, end_from}
use Rattle.ygg_dimacs.specs.Words.{words_of_all}
use Rattle.ygg_dimacs.specs.Numbers.{literal_in}
use Rattle.ygg_dimacs.specs.Headers.{header_in}

-- something, or a refusal
abbrev pub Read : Type 0 → Type 0
Read A = Result A Refusal

-- what code answers, seen so, is what is read, unless no memory was left
abbrev pub Gives : {X Y : Type 0} → (X → Y) → Result X Refuse → Read Y → Type 0
Gives view (Ok x) read = read ≡ Ok (view x)
Gives view (Err (At refusal)) read = read ≡ Err refusal
Gives view (Err Memory) read = Unit {0}

-- these clauses, and then others
abbrev pub after_clauses : List (List Lit) → Read (List (List Lit)) → Read (List (List Lit))
after_clauses done (Ok others) = Ok (done ++ others)
after_clauses done (Err refusal) = Err refusal

-- The clauses that words are, as many as are still to end, the first of which goes on from these literals. A literal is kept once in its clause, and the
-- number 0 ends the clause. A word that is no literal is refused, and a word after the last clause, and the end of the words before it.
abbrev pub clauses_in : ℕ → TextPlace → ℕ → List Lit → List TextWord → Read (List (List Lit))
clauses_in variables end zero part [] = Ok []
clauses_in variables end zero part (w ∷ ws) = Err (refusal_at Count w.line w.column)
clauses_in variables end (suc left) part [] = Err (refusal_at Count end.line end.column)
clauses_in variables end (suc left) part (w ∷ ws) = elim (literal_in variables w.bytes) [
  | None ↦ Err (refusal_at Number w.line w.column)
  | Some x ↦
      if x.var == 0 then after_clauses (part ∷ []) (clauses_in variables end left [] ws)
      else clauses_in variables end (suc left) (with_literal part x) ws
]

-- clauses over so many variables
abbrev pub cnf : ℕ → List (List Lit) → Cnf
cnf variables clauses = record { variables = variables; clauses = clauses }

-- clauses over so many variables, or a refusal
abbrev pub over : ℕ → Read (List (List Lit)) → Read Cnf
over variables (Ok clauses) = Ok (cnf variables clauses)
over variables (Err refusal) = Err refusal

-- what the lines after a header give
abbrev pub after_header : head.Header → List Line → TextPlace → Read Cnf
after_header h ls end = over h.variables (clauses_in h.variables end h.clauses [] (words_of_all ls))

-- what lines that count give, the first of which is to be the header
abbrev pub cnf_in : List Line → TextPlace → Read Cnf
cnf_in [] end = Err (refusal_at Header end.line end.column)
cnf_in (first ∷ ls) end = elim (header_in first.bytes) [
  | None ↦ Err (refusal_at Header first.number 1)
  | Some h ↦ after_header h ls end
]

-- the lines of a text
abbrev pub lines_of : List ℕ → List Line
lines_of text = numbered 1 (pieces_of text)

-- the clauses that a text is, or its first refusal
abbrev pub cnf_of : List ℕ → Read Cnf
cnf_of text = cnf_in (content_of (lines_of text)) (end_from (place 1 1) (lines_of text))
