-- The text of a term's clauses, put gate by gate.
use Rattle.std.proofs.Common.{◌≡◌, ℕ, ◌+◌, ◌<◌, ◌≤◌, List, [], ◌∷◌, ◌++◌, length, drop, get_or, Option, Result, Err, refl, sym, ap, ◌∙◌, subst, append_assoc}
use Rattle.std.proofs.lemmas.List.{append-nil}
use Rattle.std.proofs.lemmas.List.Concat.{flat_map-cons}
use Rattle.std.proofs.lemmas.Grind.{flat_map-append}
use Rattle.ygg_base.specs.declared.status.Status.{Status}
use Rattle.ygg_base.specs.declared.status.Status.TheVariants.{Done, Refuted, Refused, Undecided, Fault, NoMemory}
use Rattle.ygg_report.proofs.Fronts.{adds_more}
use Rattle.ygg_blast.specs.ygg_cnf.declared.lit.Lit.{Lit}
use Rattle.ygg_blast.specs.ygg_gates.Circuits.{literal, true_literal}
use Rattle.ygg_blast.specs.ygg_gates.Clauses.{clauses_from, gate_clauses}
use Rattle.ygg_blast.specs.ygg_gates.declared.gate.Gate.{Gate}
use Rattle.ygg_cnf.specs.Lines.{clause_line}
use Rattle.ygg_dimacs.specs.Printing.{header_line, clause_lines}
use Rattle.ygg_cnf.specs.Pieces.{Flows, Cuts, Passes, Finishes}
use Rattle.ygg_cnf.proofs.Flowing.{text_done, text_short}
use Rattle.ygg_dimacs.specs.declared.counting.ClauseCount.{ClauseCount}
use Rattle.ygg_dimacs.specs.Counted.{between, clauses_text, IsCountOf, greatest_of}
use Rattle.ygg_dimacs.proofs.Gatewise.{gates_more}

-- the lines of some clauses and of others
lines_append : (xs ys : List (List Lit)) → clause_lines (xs ++ ys) ≡ clause_lines xs ++ clause_lines ys
lines_append xs ys = flat_map-append clause_line xs ys

-- the lines that are still to come begin with those of the next gate
lines_more : (gates : List Gate) (i : ℕ) (g d : Gate) → i < length gates → g ≡ get_or gates i d →
    clause_lines (clauses_from (i + 2) (drop i gates))
    ≡ clause_lines (gate_clauses (literal (i + 2)) g) ++ clause_lines (clauses_from (i + 1 + 2) (drop (i + 1) gates))
lines_more gates i g d l e =
    ap clause_lines (gates_more gates i g d l e) ∙ lines_append (gate_clauses (literal (i + 2)) g) (clauses_from (i + 1 + 2) (drop (i + 1) gates))

-- bytes that went on, of more that are to come
goes_on : {before middle now : Option (List ℕ)} {kept mid left whole : List ℕ} (all one rest : List ℕ) → all ≡ one ++ rest →
    Flows before kept middle (mid ++ all) whole → Flows middle mid now left one → Flows before kept now (left ++ rest) whole
goes_on {before} {middle} {now} {kept} {mid} {left} {whole} all one rest parts f g = record {
  put = f.put ++ g.put;
  adds = adds_more before middle now f.put g.put f.adds g.adds;
  is = f.is ∙ ap (λ (x : List ℕ). f.put ++ (mid ++ x)) parts
      ∙ ap (λ (x : List ℕ). f.put ++ x) (sym (append_assoc mid one rest) ∙ ap (λ (x : List ℕ). x ++ rest) g.is ∙ append_assoc g.put left rest)
      ∙ sym (append_assoc f.put g.put (left ++ rest));
}

-- bytes that were cut short, of more that were to come
cut_on : {before middle now : Option (List ℕ)} {kept mid whole : List ℕ} (all one rest : List ℕ) → all ≡ one ++ rest →
    Flows before kept middle (mid ++ all) whole → Cuts middle mid now one → Cuts before kept now whole
cut_on {before} {middle} {now} {kept} {mid} {whole} all one rest parts f c = record {
  front = f.put ++ c.front;
  is = record {
    rest = c.is.rest ++ rest;
    is = f.is ∙ ap (λ (x : List ℕ). f.put ++ (mid ++ x)) parts
        ∙ ap (λ (x : List ℕ). f.put ++ x) (sym (append_assoc mid one rest) ∙ ap (λ (x : List ℕ). x ++ rest) c.is.is ∙ append_assoc c.front c.is.rest rest)
        ∙ sym (append_assoc f.put c.front (c.is.rest ++ rest));
  };
  adds = adds_more before middle now f.put c.front f.adds c.adds;
}

-- one gate more
pub gate_on : (before middle now : Option (List ℕ)) (kept mid left whole : List ℕ) (gates : List Gate) (i : ℕ) (g d : Gate) → i < length gates →
    g ≡ get_or gates i d → Flows before kept middle (mid ++ clause_lines (clauses_from (i + 2) (drop i gates))) whole →
    Flows middle mid now left (clause_lines (gate_clauses (literal (i + 2)) g)) →
    Flows before kept now (left ++ clause_lines (clauses_from (i + 1 + 2) (drop (i + 1) gates))) whole
gate_on before middle now kept mid left whole gates i g d l e f p =
    goes_on (clause_lines (clauses_from (i + 2) (drop i gates))) (clause_lines (gate_clauses (literal (i + 2)) g))
    (clause_lines (clauses_from (i + 1 + 2) (drop (i + 1) gates))) (lines_more gates i g d l e) f p

-- one gate that is cut short
pub gate_short : (before middle now : Option (List ℕ)) (kept mid left other whole : List ℕ) (Later Since : Type 0) (gates : List Gate) (i : ℕ) (g d : Gate)
    (s : Status) → i < length gates → g ≡ get_or gates i d → Flows before kept middle (mid ++ clause_lines (clauses_from (i + 2) (drop i gates))) whole →
    Passes middle mid now left (clause_lines (gate_clauses (literal (i + 2)) g)) Later (Err s) → (Later → Since) →
    Passes before kept now other whole Since (Err s)
gate_short before middle now kept mid left other whole Later Since gates i g d s l e f p since = by_status s p
  where
    cut : Cuts middle mid now (clause_lines (gate_clauses (literal (i + 2)) g)) → Cuts before kept now whole
    cut c =
        cut_on (clause_lines (clauses_from (i + 2) (drop i gates))) (clause_lines (gate_clauses (literal (i + 2)) g))
        (clause_lines (clauses_from (i + 1 + 2) (drop (i + 1) gates))) (lines_more gates i g d l e) f c

    by_status : (t : Status) → Passes middle mid now left (clause_lines (gate_clauses (literal (i + 2)) g)) Later (Err t) →
        Passes before kept now other whole Since (Err t)
    by_status Fault h = (since h.0, cut h.1)
    by_status NoMemory h = cut h
    by_status Done h = absurd h
    by_status Refuted h = absurd h
    by_status Refused h = absurd h
    by_status Undecided h = absurd h

-- the text in its three parts
pub text_parts : (gates : List Gate) (goal : Lit) (total : ClauseCount) → IsCountOf total (between gates goal) →
    (header_line total.variables total.clauses ++ clause_line (true_literal ∷ [])) ++ (clause_lines (clauses_from 2 gates) ++ clause_line (goal ∷ []))
    ≡ clauses_text (between gates goal)
text_parts gates goal total is =
    let cs = clauses_from 2 gates in
    let first = clause_line (true_literal ∷ []) in
    let last = clause_line (goal ∷ []) in
    let all = between gates goal in
    let head = header_line total.variables total.clauses in
    let one : clause_lines ((goal ∷ []) ∷ []) ≡ last = flat_map-cons clause_line (goal ∷ []) [] ∙ append-nil last in
    let tail : clause_lines (cs ++ ((goal ∷ []) ∷ [])) ≡ clause_lines cs ++ last =
    lines_append cs ((goal ∷ []) ∷ []) ∙ ap (λ (x : List ℕ). clause_lines cs ++ x) one in
    let lines : clause_lines all ≡ first ++ (clause_lines cs ++ last) =
    flat_map-cons clause_line (true_literal ∷ []) (cs ++ ((goal ∷ []) ∷ [])) ∙ ap (λ (x : List ℕ). first ++ x) tail in
    append_assoc head first (clause_lines cs ++ last)
    ∙ ap (λ (x : List ℕ). head ++ x) (sym lines)
    ∙ ap (λ (k : ℕ). header_line k total.clauses ++ clause_lines all) is.variables
    ∙ ap (λ (k : ℕ). header_line (greatest_of 0 all) k ++ clause_lines all) is.clauses

-- the header of clauses that are so many, and the line of the first of them
abbrev pub front : ClauseCount → List ℕ
front total = header_line total.variables total.clauses ++ clause_line (true_literal ∷ [])

-- the text put whole
pub text_ends : (before middle now : Option (List ℕ)) (kept mid slice last : List ℕ) (gates : List Gate) (goal : Lit) (total : ClauseCount)
    (Later Since : Type 0)
    (r : Result (Unit {0}) Status) → IsCountOf total (between gates goal) → kept ≡ front total → slice ≡ last → last ≡ clause_line (goal ∷ []) →
    Flows before kept middle mid (clause_lines (clauses_from 2 gates)) → Finishes middle mid now slice Later r → (Later → Since) →
    Finishes before [] now (clauses_text (between gates goal)) Since r
text_ends before middle now kept mid slice last gates goal total Later Since r is begins same ends f p since =
    subst (λ (x : List ℕ). Finishes before [] now x Since r) (text_parts gates goal total is)
    (text_done before middle now kept (front total) mid (clause_lines (clauses_from 2 gates)) (clause_line (goal ∷ [])) Later Since r begins f
    (subst (λ (x : List ℕ). Finishes middle mid now x Later r) (same ∙ ends) p) since)

-- the text cut short
pub text_cut : (before now : Option (List ℕ)) (kept left : List ℕ) (gates : List Gate) (goal : Lit) (total : ClauseCount) (SinkRose : Type 0) (s : Status) →
    IsCountOf total (between gates goal) → kept ≡ front total → Passes before kept now left (clause_lines (clauses_from 2 gates)) SinkRose (Err s) →
    Finishes before [] now (clauses_text (between gates goal)) SinkRose (Err s)
text_cut before now kept left gates goal total SinkRose s is begins p =
    subst (λ (x : List ℕ). Finishes before [] now x SinkRose (Err s)) (text_parts gates goal total is)
    (text_short before now kept (front total) left (clause_lines (clauses_from 2 gates)) (clause_line (goal ∷ [])) SinkRose s begins p)
