-- What is printed of logs that refute is checked.
use Rattle.std.proofs.Common.{◌≡◌, ℕ, List, [], ◌∷◌, ◌++◌, length, refl, sym, ap, subst, ◌∙◌, append_assoc, arith, ◌⊎◌, inl, inr}
use Rattle.std.specs.Prelude.{All, Contains}
use Rattle.std.specs.List.{flat_map}
use Rattle.std.proofs.Math.Seq.{get_or-append_seam}
use Rattle.std.proofs.lemmas.List.{append-nil, length-append}
use Rattle.std.proofs.lemmas.List.Elements.{All-head, All-tail, Contains-append_left}
use Rattle.ygg_cnf.specs.declared.lit.Lit.{Lit}
use Rattle.ygg_cnf.specs.declared.log.Step.{Step}
use Rattle.ygg_cnf.specs.Logs.{clause_of, Derives, EndsEmpty}
use Rattle.ygg_cnf.specs.Lines.{step_line}
use Rattle.ygg_cnf.specs.Steps.{IsStep}
use Rattle.ygg_cert.specs.declared.item.Goal.{Goal}
use Rattle.ygg_cert.specs.declared.item.Item.{Item}
use Rattle.ygg_cert.specs.Texts.{first_line, opening_line, closing_line, last_line, item_text, certificate_of}
use Rattle.ygg_cert.specs.Places.{Place, Start, Between, Within, End, Leads}
use Rattle.ygg_cert.specs.Judging.{joined, LeadBy, IsWhole}
use Rattle.ygg_cert.specs.Laws.{IsItemOf, AreItemsOf}

-- a text whose lines lead from a place to another
record Path (from to : Place) (text : List ℕ) : Type 0 where
  lines : List (List ℕ)
  is : text ≡ joined lines
  lead : LeadBy from lines to

-- no line
nowhere : (place : Place) → Path place place []
nowhere place = record { lines = []; is = refl; lead = refl }

-- a line before a path
line_path : (from next to : Place) (line text : List ℕ) → Leads from line next → Path next to text → Path from to (line ++ text)
line_path from next to line text leads path = record {
  lines = line ∷ path.lines;
  is = ap (λ (x : List ℕ). line ++ x) path.is;
  lead = (next, (leads, path.lead));
}

-- the clauses that a log adds
clauses_after : List (List Lit) → List Step → List (List Lit)
clauses_after held [] = held
clauses_after held (step ∷ log) = clauses_after (held ++ clause_of step ∷ []) log

-- the lines of a log
log_path : (name : List ℕ) (held : List (List Lit)) (gs : List Goal) (to : Place) (log : List Step) (text : List ℕ) → Derives held log → All IsStep log →
    Path (Within name (clauses_after held log) gs) to text
    → Path (Within name held gs) to (flat_map step_line log ++ text)
unfolding clauses_after
log_path name held gs to [] text derives may path = path
log_path name held gs to (step ∷ log) text derives may path =
    subst (λ (x : List ℕ). Path (Within name held gs) to x) (sym (append_assoc (step_line step) (flat_map step_line log) text))
    (line_path (Within name held gs) (Within name (held ++ clause_of step ∷ []) gs) to (step_line step) (flat_map step_line log ++ text)
    (inr (step, (record { may = All-head IsStep step log may; is = refl }, derives.0, refl)))
    (log_path name (held ++ clause_of step ∷ []) gs to log text derives.1 (All-tail IsStep step log may) path))

-- an empty clause that is held stays held
still_held : (held : List (List Lit)) (log : List Step) → Contains held [] → Contains (clauses_after held log) []
unfolding clauses_after
still_held held [] empty = empty
still_held held (step ∷ log) empty = still_held (held ++ clause_of step ∷ []) log (Contains-append_left held (clause_of step ∷ []) [] empty)

-- the last clause is held
last_held : (held : List (List Lit)) (rest : List Step) (last : Step) → clause_of last ≡ [] → Contains (clauses_after held (rest ++ last ∷ [])) []
unfolding clauses_after
last_held held [] last empty = (
  length held,
  omega (arith, length-append held (clause_of last ∷ [])),
  get_or-append_seam held (clause_of last) [] [] ∙ empty,
)
last_held held (step ∷ rest) last empty = last_held (held ++ clause_of step ∷ []) rest last empty

empty_held : (held : List (List Lit)) (log : List Step) → Contains held [] ⊎ EndsEmpty log → Contains (clauses_after held log) []
empty_held held log (inl empty) = still_held held log empty
empty_held held log (inr (rest, (last, (is, empty)))) =
    subst (λ (x : List Step). Contains (clauses_after held x) []) (sym is) (last_held held rest last empty)

-- the lines of a goal
item_path : (g : Goal) (gs : List Goal) (i : Item) (to : Place) (text : List ℕ) → IsItemOf g i → Path (Between gs) to text
    → Path (Between (g ∷ gs)) to (item_text i ++ text)
item_path g gs i to text of path =
    subst (λ (x : List ℕ). Path (Between (g ∷ gs)) to x) (sym grouped)
    (line_path (Between (g ∷ gs)) (Within g.name g.clauses gs) to (opening_line i.name i.clauses) (flat_map step_line i.log ++ (closing_line ++ text))
    (opens, refl)
    (log_path g.name g.clauses gs to i.log (closing_line ++ text) of.refutes.derives of.may
    (line_path (Within g.name (clauses_after g.clauses i.log) gs) (Between gs) to closing_line text
    (inl (refl, empty_held g.clauses i.log of.refutes.empty, refl)) path)))
  where
    opens : opening_line i.name i.clauses ≡ opening_line g.name (length g.clauses)
    opens = ap (λ (n : List ℕ). opening_line n i.clauses) of.named ∙ ap (λ (n : ℕ). opening_line g.name n) of.counted

    grouped : item_text i ++ text ≡ opening_line i.name i.clauses ++ (flat_map step_line i.log ++ (closing_line ++ text))
    grouped =
        append_assoc (opening_line i.name i.clauses ++ flat_map step_line i.log) closing_line text
        ∙ append_assoc (opening_line i.name i.clauses) (flat_map step_line i.log) (closing_line ++ text)

-- the lines of goals
items_path : (goals : List Goal) (items : List Item) (to : Place) (text : List ℕ) → AreItemsOf goals items → Path (Between []) to text
    → Path (Between goals) to (flat_map item_text items ++ text)
items_path [] [] to text are path = path
items_path (g ∷ gs) (i ∷ is) to text are path =
    subst (λ (x : List ℕ). Path (Between (g ∷ gs)) to x) (sym (append_assoc (item_text i) (flat_map item_text is) text))
    (item_path g gs i to (flat_map item_text is ++ text) are.0 (items_path gs is to text are.1 path))
items_path [] (i ∷ is) to text are path = absurd are
items_path (g ∷ gs) [] to text are path = absurd are

pub printed_is_checked : (goals : List Goal) (items : List Item) → AreItemsOf goals items → IsWhole goals (certificate_of items) (length goals)
printed_is_checked goals items are =
    let ends : Path (Between []) End (last_line ++ []) = line_path (Between []) End End last_line [] (refl, refl) (nowhere End) in
    let path : Path (Start goals) End (first_line ++ (flat_map item_text items ++ (last_line ++ []))) =
    line_path (Start goals) (Between goals) End first_line (flat_map item_text items ++ (last_line ++ [])) (refl, refl)
    (items_path goals items End (last_line ++ []) are ends) in
    record {
      count = length path.lines;
      reaches = record {
        lines = path.lines;
        is = append_assoc first_line (flat_map item_text items) last_line ∙ path.is ∙ sym (append-nil (joined path.lines));
        counted = refl;
        lead = path.lead;
      };
      all = refl;
    }
