-- Lines of commands read one after the other.
use Rattle.std.proofs.Common.{◌≡◌, ℕ, ◌+◌, Bool, true, false, List, [], ◌∷◌, ◌++◌, Result, Ok, Err, refl, sym, ap, ◌∙◌, append_assoc}
use Rattle.std.specs.Prelude.{◌==◌, codes, length, IsErrAnd}
use Rattle.std.specs.Str.{bytes_eq}
use Rattle.std.proofs.lemmas.List.{append-nil}
use Rattle.ygg_base.specs.declared.failure.Refusal.{Refusal}
use Rattle.ygg_base.specs.declared.failure.Refuse.{Refuse}
use Rattle.ygg_base.specs.declared.failure.Refuse.TheVariants.{At, Memory}
use Rattle.ygg_syntax.specs.declared.tree.File.{File}
use Rattle.ygg_sched.specs.Lines.{Read, ◌>>=◌, Gives}
use Rattle.ygg_script.specs.declared.command.Command.{Command}
use Rattle.ygg_script.specs.declared.flaw.ScriptFlaw.TheVariants.{Line}
use Rattle.ygg_script.specs.Flaws.{refusal_at}
use Rattle.ygg_script.specs.Lines.{command_at}
use Rattle.ygg_script.specs.Reading.{is_stoppable, pieces_of, is_last, is_nothing, commands_at, script_in, script_of}
use Rattle.ygg_script.proofs.Pieces.{some_piece, nothing_is, empty_is}

-- what was read before, and what is still read
abbrev pub with_commands : List Command → Read (List Command) → Read (List Command)
with_commands front read = read >>= λ commands. Ok (front ++ commands)

regroup : (front : List Command) (c : Command) (read : Read (List Command)) →
    with_commands front (read >>= λ commands. Ok (c ∷ commands)) ≡ with_commands (front ++ c ∷ []) read
regroup front c (Ok cs) = ap (λ (all : List Command). Ok all) (sym (append_assoc front (c ∷ []) cs))
regroup front c (Err refusal) = refl

-- nothing was read before
pub from_begin : (read : Read (List Command)) → with_commands [] read ≡ read
from_begin (Ok cs) = refl
from_begin (Err refusal) = refl

module _ (f : File) (stoppable : Bool) (line : ℕ) (text : List ℕ) where
  -- a piece that is no line
  pub no_line : commands_at f stoppable line (text ∷ []) ≡ Err (refusal_at Line line)
  unfolding commands_at
  no_line = refl

  module _ (front : List Command) (pieces : List (List ℕ)) (there : is_last pieces ≡ false) where
    -- a line that is read
    pub reads_on : (c : Command) → bytes_eq text (codes "end") ≡ false → command_at f stoppable line text ≡ Ok c →
        with_commands (front ++ c ∷ []) (commands_at f (is_stoppable c) (line + 1) pieces)
        ≡ with_commands front (commands_at f stoppable line (text ∷ pieces))
    unfolding commands_at
    reads_on c other read = rw (there, other, read) (sym (regroup front c (commands_at f (is_stoppable c) (line + 1) pieces)))

    -- a line that is refused
    pub refuses : (refusal : Refusal) → bytes_eq text (codes "end") ≡ false → command_at f stoppable line text ≡ Err refusal →
        with_commands front (commands_at f stoppable line (text ∷ pieces)) ≡ Err refusal
    unfolding commands_at
    refuses refusal other read = rw (there, other, read) refl

    -- the last line
    pub ends : bytes_eq text (codes "end") ≡ true → is_nothing pieces ≡ true →
        with_commands front (commands_at f stoppable line (text ∷ pieces)) ≡ Ok front
    unfolding commands_at
    ends last nothing = rw (there, last, nothing) (ap (λ (all : List Command). Ok all) (append-nil front))

    -- something after it
    pub goes_past : bytes_eq text (codes "end") ≡ true → is_nothing pieces ≡ false →
        with_commands front (commands_at f stoppable line (text ∷ pieces)) ≡ Err (refusal_at Line (line + 1))
    unfolding commands_at
    goes_past last more = rw (there, last, more) refl

-- where no line is left
pub fails_at_end : (f : File) (stoppable : Bool) (line : ℕ) (front : List Command) (bytes : List ℕ) (total : Read (List Command))
    (result : Result (List Command) Refuse) (refuse : Refuse)
    → IsErrAnd result (λ r. r ≡ refuse) → refuse ≡ At (refusal_at Line line) → pieces_of bytes ≡ bytes ∷ []
    → with_commands front (commands_at f stoppable line (pieces_of bytes)) ≡ total → Gives (λ x. x) result total
fails_at_end f stoppable line front bytes total (Ok x) refuse same is last so_far = absurd same
fails_at_end f stoppable line front bytes total (Err r) refuse same is last so_far =
    rw (same, is) (sym so_far ∙ ap (λ (pieces : List (List ℕ)). with_commands front (commands_at f stoppable line pieces)) last
    ∙ ap (with_commands front) (no_line f stoppable line bytes))

-- where a line is left, and bytes after it
module _ (f : File) (stoppable : Bool) (line : ℕ) (front : List Command) (bytes text after : List ℕ) (total : Read (List Command))
    (pieces : pieces_of bytes ≡ text ∷ pieces_of after) (so_far : with_commands front (commands_at f stoppable line (pieces_of bytes)) ≡ total) where
  here : with_commands front (commands_at f stoppable line (text ∷ pieces_of after)) ≡ total
  here = ap (λ (ps : List (List ℕ)). with_commands front (commands_at f stoppable line ps)) (sym pieces) ∙ so_far

  pub ends_here : bytes_eq text (codes "end") ≡ true → (length after == 0) ≡ true → total ≡ Ok front
  ends_here last none =
      sym here ∙ ends f stoppable line text front (pieces_of after) (some_piece after) last (nothing_is after ∙ sym (empty_is after) ∙ none)

  pub past_here : (refuse : Refuse) (number : ℕ) → refuse ≡ At (refusal_at Line number) → number ≡ line + 1 → bytes_eq text (codes "end") ≡ true →
      (length after == 0) ≡ false → Gives {X = List Command} {Y = List Command} (λ x. x) (Err refuse) total
  past_here refuse number is next last some =
      rw (is, next) (sym here ∙ goes_past f stoppable line text front (pieces_of after) (some_piece after) last
      (nothing_is after ∙ sym (empty_is after) ∙ some))

  refused_here : (refuse : Refuse) → bytes_eq text (codes "end") ≡ false →
      Gives {X = Command} {Y = Command} (λ x. x) (Err refuse) (command_at f stoppable line text) →
      Gives {X = List Command} {Y = List Command} (λ x. x) (Err refuse) total
  refused_here (At refusal) other read = sym here ∙ refuses f stoppable line text front (pieces_of after) (some_piece after) refusal other read
  refused_here Memory other read = tt

  pub fails_here : (result : Result (List Command) Refuse) (refuse : Refuse) → IsErrAnd result (λ r. r ≡ refuse) → bytes_eq text (codes "end") ≡ false →
      Gives {X = Command} {Y = Command} (λ x. x) (Err refuse) (command_at f stoppable line text) → Gives (λ x. x) result total
  fails_here (Ok x) refuse same other read = absurd same
  fails_here (Err r) refuse same other read = rw same (refused_here refuse other read)

  pub reads_here : (c : Command) (grown : List Command) (next : Bool) (number : ℕ) → grown ≡ front ++ c ∷ [] → next ≡ is_stoppable c → number ≡ line + 1 →
      bytes_eq text (codes "end") ≡ false → command_at f stoppable line text ≡ Ok c → with_commands grown (commands_at f next number (pieces_of after)) ≡ total
  reads_here c grown next number all can is other read =
      rw (all, can, is) (reads_on f stoppable line text front (pieces_of after) (some_piece after) c other read ∙ here)

-- the first line
module _ (f : File) (text : List ℕ) where
  pub begins_not : (result : Result (List Command) Refuse) (refuse : Refuse) → IsErrAnd result (λ r. r ≡ refuse) → refuse ≡ At (refusal_at Line 1) →
      pieces_of text ≡ text ∷ [] → Gives (λ x. x) result (script_of f text)
  unfolding script_in
  begins_not (Ok x) refuse same is last = absurd same
  begins_not (Err r) refuse same is last = rw (same, is) (ap (script_in f) last)

  module _ (first after : List ℕ) (pieces : pieces_of text ≡ first ∷ pieces_of after) where
    pub begins_otherwise : bytes_eq first (codes "ygg-script 1") ≡ false → script_of f text ≡ Err (refusal_at Line 1)
    unfolding script_in
    begins_otherwise other = ap (script_in f) pieces ∙ rw (some_piece after, other) refl

    pub begins : (number : ℕ) → number ≡ 1 + 1 → bytes_eq first (codes "ygg-script 1") ≡ true → script_of f text ≡ commands_at f false number (pieces_of after)
    unfolding script_in
    begins number is same = ap (script_in f) pieces ∙ rw (some_piece after, same, is) refl
