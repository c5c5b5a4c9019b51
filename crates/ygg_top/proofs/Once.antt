-- `play` ends in one way.
use Rattle.std.proofs.Common.{◌≡◌, ℕ, ◌≤◌, ◌<◌, List, length, Option, Some, None, Result, Ok, Err, inl, inr, refl, sym, ap, subst, ◌∙◌, arith}
use Rattle.ygg_base.specs.declared.failure.Refusal.{Refusal}
use Rattle.ygg_base.specs.declared.status.Status.{Status}
use Rattle.ygg_syntax.specs.declared.tree.File.{File}
use Rattle.ygg_type.specs.ygg_type_rules.Files.{IsTyped}
use Rattle.ygg_top_command.specs.ygg_report.Lines.{refused_line}
use Rattle.ygg_run.specs.ygg_sched.Lines.{Read}
use Rattle.ygg_run.specs.ygg_script.declared.command.Command.{Command}
use Rattle.ygg_run.specs.ygg_script.Reading.{script_of}
use Rattle.ygg_run.specs.ygg_run_play.Played.{Noted, unreached_at}
use Rattle.ygg_run.specs.ygg_run_play.Laws.{HasOneText}
use Rattle.ygg_run.proofs.of_ygg_run_play.OneText.{scripts_have_one_text}
use Rattle.ygg_top_command.specs.Refusing.{RefusesUnread, most_bytes}
use Rattle.ygg_top_command.specs.Standing.{IsRefused}
use Rattle.ygg_top.specs.Laws.{PlayEndsOneWay}
use Rattle.ygg_top.specs.Playing.{IsScriptText, PlaysScript, PlaysStored, RefusesLines, RefusesScript}

-- two endings that are one
abbrev Same : (status other : Status) (text line : List ℕ) → Type 0
Same status other text line = (status ≡ other) × (text ≡ line)

-- no text is read and refused
not_both : (r : Read (List Command)) (script : List Command) (refusal : Refusal) → r ≡ Ok script → r ≡ Err refusal → ⊥
not_both r script refusal a b = let h : Ok script ≡ Err refusal = sym a ∙ b in absurd (cc)

same_script : (r : Read (List Command)) (x y : List Command) → r ≡ Ok x → r ≡ Ok y → x ≡ y
same_script r x y a b = let h : Ok x ≡ Ok y = sym a ∙ b in cc

same_refusal : (r : Read (List Command)) (x y : Refusal) → r ≡ Err x → r ≡ Err y → x ≡ y
same_refusal r x y a b = let h : Err x ≡ Err y = sym a ∙ b in cc

same_bytes : (x y : List ℕ) → Some x ≡ Some y → x ≡ y
same_bytes x y h = cc

-- refusals that are one end a command in one way
refused_once : (r s : Refusal) (status other : Status) (text line : List ℕ) → r ≡ s → IsRefused r status text → IsRefused s other line →
    Same status other text line
refused_once r s status other text line same a b = (a.0 ∙ sym b.0, a.1 ∙ ap refused_line same ∙ sym b.1)

-- a script is played in one way
played_once : (f : File) (script : List Command) → HasOneText (Noted f) f script → (status other : Status) (text line : List ℕ) →
    PlaysScript f script status text → PlaysScript f script other line → Same status other text line
played_once f script one status other text line (inl a) (inl b) = (a.0 ∙ sym b.0, one.text text line a.1 b.1)
played_once f script one status other text line (inl a) (inr b) = absurd (one.not_both text b.1.0 a.1 b.1.2)
played_once f script one status other text line (inr a) (inl b) = absurd (one.not_both line a.1.0 b.1 a.1.2)
played_once f script one status other text line (inr a) (inr b) =
    refused_once a.0 b.0 status other text line (a.1.1 ∙ ap unreached_at (one.line a.1.0 b.1.0 a.1.2 b.1.2) ∙ sym b.1.1) a.2 b.2

-- what stands under the script's name has one refusal
refusal_once : (f : File) (stored : Option (List ℕ)) (r s : Refusal) → RefusesScript f stored r → RefusesScript f stored s → r ≡ s
refusal_once f None r s (inl a) (inl b) = a ∙ sym b
refusal_once f None r s (inl a) (inr b) = absurd b
refusal_once f None r s (inr a) b = absurd a
refusal_once f (Some bytes) r s (inl a) (inl b) = a.1 ∙ sym b.1
refusal_once f (Some bytes) r s (inl a) (inr b) = absurd (omega (arith, a.0, b.0))
refusal_once f (Some bytes) r s (inr a) (inl b) = absurd (omega (arith, a.0, b.0))
refusal_once f (Some bytes) r s (inr a) (inr b) = same_refusal (script_of f bytes) r s a.1 b.1

-- what is refused is no script
no_script : (f : File) (stored : Option (List ℕ)) (r : Refusal) (bytes : List ℕ) (script : List Command) → RefusesScript f stored r → stored ≡ Some bytes →
    IsScriptText f bytes script → ⊥
no_script f stored r bytes script refuses is text = refuted (subst (λ (s : Option (List ℕ)). RefusesScript f s r) is refuses)
  where
    refuted : RefusesScript f (Some bytes) r → ⊥
    refuted (inl a) = omega (arith, a.0, text.small)
    refuted (inr a) = not_both (script_of f bytes) script r text.reads a.1

pub play_ends_one_way : PlayEndsOneWay
play_ends_one_way f typed stored status other text line (inl a) (inl b) =
    refused_once a.0 b.0 status other text line (refusal_once f stored a.0 b.0 a.1 b.1) a.2 b.2
play_ends_one_way f typed stored status other text line (inl a) (inr b) = absurd (no_script f stored a.0 b.0 b.1 a.1 b.2 b.3)
play_ends_one_way f typed stored status other text line (inr a) (inl b) = absurd (no_script f stored b.0 a.0 a.1 b.1 a.2 a.3)
play_ends_one_way f typed stored status other text line (inr a) (inr b) =
    let bytes = same_bytes b.0 a.0 (sym b.2 ∙ a.2) in
    let script = same_script (script_of f a.0) b.1 a.1 (subst (λ (x : List ℕ). script_of f x ≡ Ok b.1) bytes b.3.reads) a.3.reads in
    played_once f a.1 (scripts_have_one_text f typed a.1) status other text line a.4
    (subst (λ (x : List Command). PlaysScript f x other line) script b.4)
