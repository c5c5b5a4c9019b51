use Rattle.std.proofs.Common.{◌∙◌, sym, ℕ, List, Some, None}
use Rattle.std.specs.Option.{option_copied}
use Rattle.ygg_script.specs.Names.{is_name, are_words}
use Rattle.ygg_script.specs.Left.{pieces_left}
use Rattle.ygg_script.proofs.Pieces.{call_is, both, first_fails, second_fails}
use Rattle.ygg_script.proofs.names.call_in.Goals as goal
use Rattle.ygg_script.proofs.names.call_in.Goals.{else-is_name-via-then-is_name+else-are_words, else-is_name-via-else-is_name}

pub returns-then-are_words : goal.returns-then-are_words
returns-then-are_words c =
    let name : List ℕ = c.cut.result.0.now in
    let words : List (List ℕ) = pieces_left 32 (option_copied c.cut.result.1) in
    call_is c.args.bytes.now name (option_copied c.cut.result.1) c.cut.ensures.cut
    ∙ both (is_name name) (are_words words) (Some (name, words)) None (sym c.is_name.ensures ∙ c.if-is_name.true)
    (sym c.are_words.ensures ∙ c.if-are_words.true)

pub returns-else-is_name : goal.returns-else-is_name
returns-else-is_name c =
    let name : List ℕ = c.cut.result.0.now in
    let words : List (List ℕ) = pieces_left 32 (option_copied c.cut.result.1) in
    let is = call_is c.args.bytes.now name (option_copied c.cut.result.1) c.cut.ensures.cut in
    elim c.else-is_name.branch [
      | else-is_name-via-then-is_name+else-are_words w ↦
          is ∙ second_fails (is_name name) (are_words words) (Some (name, words)) None (sym w.are_words.ensures ∙ w.if-are_words.false)
      | else-is_name-via-else-is_name w ↦
          is ∙ first_fails (is_name name) (are_words words) (Some (name, words)) None (sym c.is_name.ensures ∙ w.if-is_name.false)
    ]
