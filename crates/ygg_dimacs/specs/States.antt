-- What has been read of the clauses of a text, and how words change it.
use Rattle.std.specs.Prelude.{◌≡◌, ◌≤◌, List, ◌++◌, Err, Ok, Result}
use Rattle.ygg_base.specs.declared.failure.Refusal.{Refusal}
use Rattle.ygg_base.specs.declared.failure.Refuse.{Refuse}
use Rattle.ygg_base.specs.declared.failure.Refuse.TheVariants.{At, Memory}
use Rattle.ygg_cnf.specs.declared.lit.Lit.{Lit}
use Rattle.ygg_dimacs.specs.declared.reading.State.{State}
use Rattle.ygg_dimacs.specs.Headers.{most_variables}
use Rattle.ygg_dimacs.specs.Marks.{IsMarked}
use Rattle.ygg_dimacs.specs.declared.places.TextPlace as code_place
use Rattle.ygg_dimacs.specs.Places.{TextPlace, TextWord}
use Rattle.ygg_dimacs.specs.Left.{place_of}
use Rattle.ygg_dimacs.specs.Reading.{Read, clauses_in, after_clauses}

-- the marks are those of the clause so far, and variables are few
pub record IsReady (s : State) : Type 0 where
  pub marked : IsMarked s.marks.items s.part
  pub few : s.variables ≤ most_variables

-- what these words give where the end of what is read stands there
abbrev pub read_on : State → TextPlace → List TextWord → Read (List (List Lit))
read_on s end ws = after_clauses s.done (clauses_in s.variables end s.left s.part ws)

-- after these words any others go on from there
pub record Goes (before : State) (words : List TextWord) (after : State) : Type 0 where
  pub variables : after.variables ≡ before.variables
  pub on : (end : TextPlace) (ws : List TextWord) → read_on before end (words ++ ws) ≡ read_on after end ws

-- whatever follows these words, they are refused
abbrev pub Stops : State → List TextWord → Refusal → Type 0
Stops before words refusal = (end : TextPlace) (ws : List TextWord) → read_on before end (words ++ ws) ≡ Err refusal

-- what taking words comes to
abbrev pub Takes : State → List TextWord → State → Result (Unit {0}) Refuse → Type 0
Takes before words after (Ok done) = Goes before words after × IsReady after
Takes before words after (Err (At refusal)) = Stops before words refusal
Takes before words after (Err Memory) = Unit {0}

-- what taking all words comes to, where what is read ends there
abbrev pub TakesAll : State → List TextWord → TextPlace → State → Result code_place.TextPlace Refuse → Type 0
TakesAll before words end after (Ok p) = Goes before words after × IsReady after × (place_of p ≡ end)
TakesAll before words end after (Err (At refusal)) = Stops before words refusal
TakesAll before words end after (Err Memory) = Unit {0}
