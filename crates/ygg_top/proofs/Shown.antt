-- What is printed of an obligation that fails, handed to `replay`.
use Rattle.std.proofs.Common.{◌≡◌, inl, inr, ℕ, List, [], Option, Some, Result, Ok, Err, length, sym, ap, subst, ◌∙◌, arith}
use Rattle.ygg_base.specs.declared.failure.Refusal.{Refusal}
use Rattle.ygg_base.specs.declared.status.Status.TheVariants.{Refuted}
use Rattle.ygg_base.specs.declared.tokens.Tokens.{Tokens}
use Rattle.ygg_base.specs.Lexing.{tokens_of}
use Rattle.ygg_syntax.specs.Files.{Derives}
use Rattle.ygg_syntax.specs.declared.tree.File.{File}
use Rattle.ygg_yard.specs.ygg_type_rules.Files.{IsTyped, type_errors_of}
use Rattle.ygg_yard.specs.ygg_type_rules.TypeErrors.{listed}
use Rattle.ygg_yard.specs.ygg_type_rules.declared.type_error.TypeError.{TypeError}
use Rattle.ygg_type.specs.Typed.{IsFirstTypeError}
use Rattle.ygg_yard.specs.ygg_accept.Accepting.{IsAccepted, RefusesLayers, RefusesTokens}
use Rattle.ygg_top.specs.ygg_report.Lines.{shows_line}
use Rattle.ygg_sched_names.specs.ygg_replay.Ending.{Replaying}
use Rattle.ygg_sched_names.specs.ygg_replay.Laws.{OneEnding}
use Rattle.ygg_sched_names.specs.Laws.{PrintedShows}
use Rattle.ygg_top.specs.ygg_top_command.Refusing.{IsLayerFile, RefusesFile}
use Rattle.ygg_top.specs.Replaying.{ReplaysStored, Replays}
use Rattle.ygg_top.specs.Showing.{IsShownAgain}

-- the laws on replays of texts
pub record OnReplays : Type 0 where
  pub one_ending : OneEnding
  pub printed : PrintedShows

-- a text with tokens is not refused for its bytes
not_both : (r : Result Tokens Refusal) (tokens : Tokens) (refusal : Refusal) → r ≡ Ok tokens → r ≡ Err refusal → ⊥
not_both r tokens refusal a b = let h : Ok tokens ≡ Err refusal = sym a ∙ b in absurd (cc)

same_tokens : (r : Result Tokens Refusal) (a b : Tokens) → r ≡ Ok a → r ≡ Ok b → a ≡ b
same_tokens r a b p q = let h : Ok a ≡ Ok b = sym p ∙ q in cc

pub same_bytes : (a b : List ℕ) → Some a ≡ Some b → a ≡ b
same_bytes a b h = cc

-- a file without a type error has no first one
typed_first : (g f : File) → g ≡ f → IsTyped f → (r : Refusal) → IsFirstTypeError g r → ⊥
typed_first g f same typed r first =
    let none : listed (type_errors_of g) ≡ [] = ap (λ (x : File). listed (type_errors_of x)) same ∙ typed in
    let within = first.1.in_list.1 in
    let few : length (listed (type_errors_of g)) ≡ 0 = ap (λ (es : List TypeError). length es) none in
    absurd (omega (arith, within, few))

-- a text that is accepted is not refused
not_refused : (bytes : List ℕ) (tokens : Tokens) (f : File) (r : Refusal) → IsAccepted bytes tokens f → RefusesLayers bytes r → ⊥
not_refused bytes tokens f r a (inl e) = not_both (tokens_of bytes) tokens r a.spells e
not_refused bytes tokens f r a (inr refuses) =
    by_tokens refuses.0 (same_tokens (tokens_of bytes) refuses.0 tokens refuses.1 a.spells) refuses.2
  where
    by_tokens : (others : Tokens) → others ≡ tokens → RefusesTokens others r → ⊥
    by_tokens others same (inl none) = none.nothing f (subst (λ (ts : Tokens). Derives ts.items f) (sym same) a.derives)
    by_tokens others same (inr m) =
        typed_first m.file f (a.only m.file (subst (λ (ts : Tokens). Derives ts.items m.file) same m.derives)) a.typed r m.first

-- a layer file is not refused
pub file_stands : (bytes : List ℕ) (f : File) (r : Refusal) → IsLayerFile bytes f → RefusesFile (Some bytes) r → ⊥
file_stands bytes f r is (inl large) = let more = large.0 in let few = is.small in absurd (omega (arith, more, few))
file_stands bytes f r is (inr refuses) = not_refused bytes is.tokens f r is.accepted refuses.1

-- a text is one layer file
pub one_file : (bytes : List ℕ) (f g : File) → IsLayerFile bytes f → IsLayerFile bytes g → g ≡ f
one_file bytes f g a b =
    let same = same_tokens (tokens_of bytes) b.tokens a.tokens b.accepted.spells a.accepted.spells in
    a.accepted.only g (subst (λ (ts : Tokens). Derives ts.items g) same b.accepted.derives)

-- the text of a schedule that is shown of each accepted text of the file is shown again
pub shown_again : (f : File) (name text : List ℕ) → OneEnding →
    ((bytes : List ℕ) (tokens : Tokens) → IsAccepted bytes tokens f → Replaying f text Refuted (shows_line name)) → IsShownAgain f name text
shown_again f name text one replays small bytes is files file schedule at_file at_schedule status line does =
    by_file (subst (λ (o : Option (List ℕ)). Replays (Some files) schedule o status line) (does.1 ∙ at_file) does.2)
  where
    by_text : (found : List ℕ) → found ≡ text → Replaying f found status line → (status ≡ Refuted) × (line ≡ shows_line name)
    by_text found same replayed =
        one f text status Refuted line (shows_line name) (subst (λ (bs : List ℕ). Replaying f bs status line) same replayed)
        (replays bytes is.tokens is.accepted)

    by_schedule : ReplaysStored f (Some text) status line → (status ≡ Refuted) × (line ≡ shows_line name)
    by_schedule (inl unread) = let large = unread.1.0 in absurd (omega (arith, large, small))
    by_schedule (inr read) = by_text read.0 (same_bytes read.0 text (sym read.1)) read.3

    by_layers : (g : File) → g ≡ f → (kept : Option (List ℕ)) → kept ≡ Some text → ReplaysStored g kept status line →
        (status ≡ Refuted) × (line ≡ shows_line name)
    by_layers g same kept stands stored =
        by_schedule (subst (λ (h : File). ReplaysStored h (Some text) status line) same
        (subst (λ (o : Option (List ℕ)). ReplaysStored g o status line) stands stored))

    by_file : Replays (Some files) schedule (Some bytes) status line → (status ≡ Refuted) × (line ≡ shows_line name)
    by_file (inl refused) = absurd (file_stands bytes f refused.0 is refused.1)
    by_file (inr read) =
        let other : read.0 ≡ bytes = same_bytes read.0 bytes (sym read.2) in
        let again : IsLayerFile bytes read.1 = subst (λ (bs : List ℕ). IsLayerFile bs read.1) other read.3 in
        by_layers read.1 (one_file bytes f read.1 is again) read.4.0 (read.4.1 ∙ at_schedule) read.4.2
