-- What certificates are worth.
use Rattle.std.specs.Prelude.{◌≡◌, ℕ, ◌+◌, ◌^◌, ◌<◌, List, [], ◌∷◌, length, All}
use Rattle.ygg_cnf.specs.declared.lit.Lit.{Lit}
use Rattle.ygg_cnf.specs.declared.log.Step.{Step}
use Rattle.ygg_cnf.specs.Logs.{Derives, Refutes}
use Rattle.ygg_cnf.specs.Steps.{IsLiteral, IsStep}
use Rattle.ygg_cert.specs.declared.item.Goal.{Goal}
use Rattle.ygg_cert.specs.declared.item.Item.{Item}
use Rattle.ygg_cert.specs.declared.verdict.CertEnd.{CertEnd}
use Rattle.ygg_cert.specs.declared.verdict.CertEnd.TheVariants as cert
use Rattle.ygg_cert.specs.Texts.{certificate_of}
use Rattle.ygg_cert.specs.Judging.{IsWhole, Judges}

-- a log refutes the clauses of the goal
abbrev pub IsRefuted : Goal → Type 0
IsRefuted g = (log : List Step) × Refutes g.clauses log

-- where a text is checked, a log refutes each goal
abbrev pub CheckedIsRefuted : Type 0
CheckedIsRefuted = (goals : List Goal) (text : List ℕ) (count : ℕ) → IsWhole goals text count → All IsRefuted goals

-- a log that refutes the goal, whose steps may stand in a text, under the goal's name and with the number of its clauses
pub record IsItemOf (g : Goal) (i : Item) : Type 0 where
  pub named : i.name ≡ g.name
  pub counted : i.clauses ≡ length g.clauses
  pub may : All IsStep i.log
  pub refutes : Refutes g.clauses i.log

-- such a log for each goal, in order
abbrev pub AreItemsOf : List Goal → List Item → Type 0
AreItemsOf [] [] = Unit {0}
AreItemsOf (g ∷ gs) (i ∷ is) = IsItemOf g i × AreItemsOf gs is
AreItemsOf _ _ = ⊥

-- the text of logs that refute the goals is checked
abbrev pub PrintedIsChecked : Type 0
PrintedIsChecked = (goals : List Goal) (items : List Item) → AreItemsOf goals items → IsWhole goals (certificate_of items) (length goals)

-- of a text one thing is said, out of memory aside
abbrev pub JudgedOnce : Type 0
JudgedOnce =
    (goals : List Goal) (text : List ℕ) (a b : CertEnd) → (a ≡ cert.Memory → ⊥) → (b ≡ cert.Memory → ⊥) → Judges goals text a → Judges goals text b → a ≡ b

-- the steps of a log over clauses whose literals may be written may be written too, where no number is too great
abbrev pub StepsMay : Type 0
StepsMay =
    (clauses : List (List Lit)) (log : List Step) → All (All IsLiteral) clauses → length clauses + length log < 2 ^ 64 → Derives clauses log → All IsStep log
