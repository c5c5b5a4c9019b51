-- What the commands of a script that is run are to a history, and what is printed of them.
use Rattle.std.specs.Prelude.{◌≡◌, ℕ, List, [], ◌∷◌, ◌++◌, length, None, codes}
use Rattle.std.specs.Fmt.{decimal}
use Rattle.std.specs.List.{flat_map}
use Rattle.ygg_syntax.specs.declared.tree.File.{File}
use Rattle.ygg_run.specs.ygg_meaning.Progress.{Answer}
use Rattle.ygg_run.specs.ygg_meaning.History.{Entry, Called, Cut, Ticked, CutTick}
use Rattle.ygg_run.specs.ygg_meaning.History as history
use Rattle.ygg_run.specs.ygg_report.Lines.{ended}
use Rattle.ygg_run.specs.ygg_script.declared.command.Command.{Command}
use Rattle.ygg_run.specs.ygg_script.declared.command.Command.TheVariants.{Call, Tick, Lost, Fail, Keep}
use Rattle.ygg_run.specs.ygg_run_play.Named.{operation_name, tick_name}
use Rattle.ygg_run.specs.ygg_run_play.Lines.{answer_text}

-- the entry of a command, whatever it answers; only operations and background steps are run
abbrev pub Ran : File → Command → Entry → Type 0
Ran f (Call op args) e = (answer : Answer) × (e ≡ Called (operation_name f op) args answer)
Ran f (Tick layer number) e = e ≡ Ticked (tick_name f layer number)
Ran f Lost e = ⊥
Ran f (Fail within call) e = ⊥
Ran f (Keep picks) e = ⊥

-- the entries of commands, one each, in their order
abbrev pub AllRan : File → List Command → List Entry → Type 0
AllRan f [] es = es ≡ []
AllRan f (c ∷ cs) es = (e : Entry) × (rest : List Entry) × (es ≡ e ∷ rest) × Ran f c e × AllRan f cs rest

-- the answer of an entry: only a whole operation has one
abbrev pub answer_in : Entry → Answer
answer_in (Called name args answer) = answer
answer_in (Cut name args) = None
answer_in (Ticked name) = None
answer_in (CutTick name) = None
answer_in history.Lost = None

-- the lines of a run by the time when these are whole: `up`, and the answer of each
abbrev pub run_lines : List Entry → List ℕ
run_lines es = ended (codes "up") ++ flat_map (λ (e : Entry). ended (answer_text (answer_in e))) es

-- the last line: how many commands were run
abbrev pub ran_line : ℕ → List ℕ
ran_line count = ended (codes "ran " ++ decimal count)

-- the whole text of a run
abbrev pub run_text : List Command → List Entry → List ℕ
run_text script es = run_lines es ++ ran_line (length script)
