-- The certificate of what was found, put piece by piece.
use Rattle.std.proofs.Common.{◌≡◌, ℕ, List, [], ◌∷◌, ◌++◌, Option, Result, Ok, Err, map, refl, sym, ap, ◌∙◌, subst}
use Rattle.std.specs.List.{flat_map}
use Rattle.std.proofs.lemmas.List.{append-nil}
use Rattle.std.proofs.lemmas.List.Concat.{flat_map-cons}
use Rattle.ygg_base.specs.declared.status.Status.{Status}
use Rattle.ygg_cnf.specs.Pieces.{Flows, Passes, log_lines}
use Rattle.ygg_cnf.proofs.Flowing.{begun, joined, passes_on, passes_short}
use Rattle.ygg_cert.specs.Texts.{opening_line, closing_line, item_text}
use Rattle.ygg_certify.specs.declared.finding.Finding.{Finding}
use Rattle.ygg_certify.specs.Findings.{item_of, lines_of, log_of}

-- the lines of a log that went on
pub lines_passed : (before middle now : Option (List ℕ)) (kept opened mid closed left : List ℕ) (f : Finding) (Later Since : Type 0)
    (r : Result (Unit {0}) Status) → opened ≡ kept ++ opening_line f.name f.clauses → Flows before opened middle mid (log_lines (log_of f.outcome)) →
    closed ≡ mid ++ closing_line →
    Passes middle closed now left [] Later r → (Later → Since)
    → Passes before kept now left (lines_of f) Since r
lines_passed before middle now kept opened mid closed left f Later Since r opens f_log closes passed since = by_result r passed
  where
    opening : Flows before kept before opened (opening_line f.name f.clauses)
    opening = subst (λ (x : List ℕ). Flows before kept before x (opening_line f.name f.clauses)) (sym opens) (begun before kept (opening_line f.name f.clauses))

    closing : Flows middle mid middle closed closing_line
    closing = subst (λ (x : List ℕ). Flows middle mid middle x closing_line) (sym closes) (begun middle mid closing_line)

    all : Flows before kept middle closed (lines_of f)
    all = joined (joined opening f_log) closing

    by_result : (q : Result (Unit {0}) Status) → Passes middle closed now left [] Later q → Passes before kept now left (lines_of f) Since q
    by_result (Ok done) p = subst (λ (x : List ℕ). Flows before kept now left x) (append-nil (lines_of f)) (joined all p)
    by_result (Err s) p =
        subst (λ (x : List ℕ). Passes before kept now left x Since (Err s)) (append-nil (lines_of f))
        (passes_on before middle now kept closed left left (lines_of f) [] Later Since s all p since)

-- the lines of a log that were cut short in its steps
pub lines_short : (before now : Option (List ℕ)) (kept opened left : List ℕ) (f : Finding) (SinkRose : Type 0) (s : Status) →
    opened ≡ kept ++ opening_line f.name f.clauses → Passes before opened now left (log_lines (log_of f.outcome)) SinkRose (Err s)
    → Passes before kept now left (lines_of f) SinkRose (Err s)
lines_short before now kept opened left f SinkRose s opens passed =
    passes_short before now kept left left (opening_line f.name f.clauses ++ log_lines (log_of f.outcome)) closing_line SinkRose s
    (passes_on before before now kept opened left left (opening_line f.name f.clauses) (log_lines (log_of f.outcome)) SinkRose SinkRose s opening
    passed (λ rose. rose))
  where
    opening : Flows before kept before opened (opening_line f.name f.clauses)
    opening = subst (λ (x : List ℕ). Flows before kept before x (opening_line f.name f.clauses)) (sym opens) (begun before kept (opening_line f.name f.clauses))

-- no memory for the line after the steps
pub lines_lost : (before middle : Option (List ℕ)) (kept opened mid left : List ℕ) (f : Finding) (SinkRose : Type 0) (s : Status) →
    opened ≡ kept ++ opening_line f.name f.clauses → Flows before opened middle mid (log_lines (log_of f.outcome)) →
    Passes middle mid middle left closing_line SinkRose (Err s)
    → Passes before kept middle left (lines_of f) SinkRose (Err s)
lines_lost before middle kept opened mid left f SinkRose s opens f_log passed =
    passes_on before middle middle kept mid left left (opening_line f.name f.clauses ++ log_lines (log_of f.outcome)) closing_line SinkRose SinkRose s
    (joined opening f_log) passed (λ rose. rose)
  where
    opening : Flows before kept before opened (opening_line f.name f.clauses)
    opening = subst (λ (x : List ℕ). Flows before kept before x (opening_line f.name f.clauses)) (sym opens) (begun before kept (opening_line f.name f.clauses))

-- the lines of the logs by their items
pub lines_same : (findings : List Finding) → flat_map lines_of findings ≡ flat_map item_text (map item_of findings)
lines_same [] = refl
lines_same (f ∷ findings) =
    flat_map-cons lines_of f findings ∙ ap (λ (x : List ℕ). lines_of f ++ x) (lines_same findings)
    ∙ sym (flat_map-cons item_text (item_of f) (map item_of findings))
