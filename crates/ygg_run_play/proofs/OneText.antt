-- What a script names is one thing wherever each of its lines is.
use Rattle.std.proofs.Common.{◌≡◌, ℕ, ◌+◌, true, Bool, List, [], ◌∷◌, ◌++◌, inl, inr, refl, sym, ap, ◌∙◌, subst}
use Rattle.std.specs.List.{All}
use Rattle.std.proofs.lemmas.List.Elements.{All-head, All-tail}
use Rattle.ygg_syntax.specs.declared.tree.File.{File}
use Rattle.ygg_meaning_laws.specs.ygg_type_rules.Files.{IsTyped}
use Rattle.ygg_script.specs.ygg_meaning.Environments.{Env}
use Rattle.ygg_script.specs.ygg_meaning.Machine.{Picks, Machine}
use Rattle.ygg_script.specs.ygg_meaning.Stack.{layers_of}
use Rattle.ygg_script.specs.ygg_meaning.Trace.{Standing, Up, Moment}
use Rattle.ygg_script.specs.ygg_meaning.Noted.{Note, picks_in, NotedDisk}
use Rattle.ygg_meaning_laws.specs.Acts.{Taken}
use Rattle.ygg_script.specs.declared.command.Command.{Command}
use Rattle.ygg_run_play.specs.Named.{stop_after, Names, Unreached}
use Rattle.ygg_run_play.specs.Lines.{text_of}
use Rattle.ygg_run_play.specs.Played.{Noted}
use Rattle.ygg_run_play.specs.Laws.{HasOneWay, FilesHaveOneWay, HasOneText, ScriptsHaveOneText}
use Rattle.ygg_run_play.proofs.Blocks.{Tidy}
use Rattle.ygg_run_play.proofs.Layered.{stacked_tidy}
use Rattle.ygg_run_play.proofs.Scripted.{line_once, missed_apart}
use Rattle.ygg_run_play.proofs.Disks.{lost, does, cuts, disk_tidy, disk_none}
use Rattle.ygg_run_play.proofs.Names.{typed_distinct}

-- picks that are all 1 are taken where none are left
all_taken : (picks : Picks) → All (λ pick. pick ≡ true) picks → Taken true picks [] []
all_taken [] h = refl
all_taken (p ∷ picks) h =
    let P : Bool → Type 0 = λ pick. pick ≡ true in (All-head P p picks h, all_taken picks (All-tail P p picks h))

module _ (M : Machine Env Note) (f : File) (way : HasOneWay M f) where
  named_once : (cs : List Command) (picks : Picks) (from : Standing Env) (ms other : List (Moment Note)) → Names M f cs picks from ms →
      Names M f cs picks from other → ms ≡ other
  named_once [] picks from ms other h g = h ∙ sym g
  named_once (c ∷ cs) picks from ms other (here, rest, next, left, is, happens, leading, more) (here', rest', next', left', is', happens', leading', more') =
      let same = way.line c (stop_after cs) picks from here here' next next' left left' happens leading happens' leading' in
      let rests = named_once cs left next rest rest' more
      (subst (λ v. Names M f cs v next rest') (sym same.2) (subst (λ v. Names M f cs left' v rest') (sym same.1) more')) in
      is ∙ ap (λ v. v ++ rest) same.0 ∙ ap (λ v. here' ++ v) rests ∙ sym is'

  missed_once : (line : ℕ) (cs : List Command) (picks : Picks) (from : Standing Env) (at other : ℕ) → Unreached M f line cs picks from at →
      Unreached M f line cs picks from other → at ≡ other
  missed_once line [] picks from at other h g = absurd h
  missed_once line (c ∷ cs) picks from at other (inl h) (inl g) = h.1 ∙ sym g.1
  missed_once line (c ∷ cs) picks from at other (inl h) (inr (here, next, left, happens, leading, more)) =
      absurd (way.missed c (stop_after cs) picks from here next left h.0 happens leading)
  missed_once line (c ∷ cs) picks from at other (inr (here, next, left, happens, leading, more)) (inl g) =
      absurd (way.missed c (stop_after cs) picks from here next left g.0 happens leading)
  missed_once line (c ∷ cs) picks from at other (inr (here, next, left, happens, leading, more)) (inr (here', next', left', happens', leading', more')) =
      let same = way.line c (stop_after cs) picks from here here' next next' left left' happens leading happens' leading' in
      missed_once (line + 1) cs left next at other more
      (subst (λ v. Unreached M f (line + 1) cs v next other) (sym same.2) (subst (λ v. Unreached M f (line + 1) cs left' v other) (sym same.1) more'))

  never_both : (line : ℕ) (cs : List Command) (picks : Picks) (from : Standing Env) (ms : List (Moment Note)) (at : ℕ) → Names M f cs picks from ms →
      Unreached M f line cs picks from at → ⊥
  never_both line [] picks from ms at h g = g
  never_both line (c ∷ cs) picks from ms at (here, rest, next, left, is, happens, leading, more) (inl g) =
      way.missed c (stop_after cs) picks from here next left g.0 happens leading
  never_both line (c ∷ cs) picks from ms at (here, rest, next, left, is, happens, leading, more) (inr (here', next', left', happens', leading', more')) =
      let same = way.line c (stop_after cs) picks from here here' next next' left left' happens leading happens' leading' in
      never_both (line + 1) cs left next rest at more
      (subst (λ v. Unreached M f (line + 1) cs v next at) (sym same.2) (subst (λ v. Unreached M f (line + 1) cs left' v at) (sym same.1) more'))

  pub one_text : (script : List Command) → HasOneText M f script
  one_text script = record {
    text = λ text other h g.
        h.prints ∙ ap (text_of script) (named_once script [] (Up h.start) h.moments g.moments h.names
        (subst (λ s. Names M f script [] (Up s) g.moments) (way.fresh g.start h.start g.fresh h.fresh) g.names)) ∙ sym g.prints;
    line = λ line other h g.
        missed_once 2 script [] (Up h.start) line other h.unreached
        (subst (λ s. Unreached M f 2 script [] (Up s) other) (way.fresh g.start h.start g.fresh h.fresh) g.unreached);
    not_both = λ text line h g.
        never_both 2 script [] (Up h.start) h.moments line h.names
        (subst (λ s. Unreached M f 2 script [] (Up s) line) (way.fresh g.start h.start g.fresh h.fresh) g.unreached);
  }

-- the runs of a typed file's layers are alike
pub noted_tidy : (f : File) → IsTyped f → Tidy (lost f.disk) (does f.disk) (cuts f.disk) (Noted f)
noted_tidy f typed =
    let d = f.disk in
    (stacked_tidy (lost d) (does d) (cuts d) (NotedDisk d) (disk_tidy d) (disk_none d) (layers_of f) (typed_distinct f typed)).0

pub files_have_one_way : FilesHaveOneWay
files_have_one_way f typed =
    let d = f.disk in
    let tidy = noted_tidy f typed in
    record {
      fresh = λ s t h g.
          (tidy.starts [] [] [] h.notes g.notes s t h.starts g.starts (all_taken (picks_in h.notes) h.kept) (all_taken (picks_in g.notes) g.kept)).1;
      line = line_once (lost d) (does d) (cuts d) (Noted f) f tidy;
      missed = missed_apart (lost d) (does d) (cuts d) (Noted f) f tidy;
    }

pub scripts_have_one_text : ScriptsHaveOneText
scripts_have_one_text f typed script = one_text (Noted f) f (files_have_one_way f typed) script
