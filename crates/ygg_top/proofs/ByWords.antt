-- From a command by the number of its words to the command that the words name.
use Rattle.std.proofs.Common.{◌≡◌, ◌≤◌, ◌<◌, ℕ, List, [], ◌∷◌, Option, length, slice_index_or, sym, ap, subst, ◌∙◌, arith}
use Rattle.ygg_base.specs.declared.lists.Held.{Held}
use Rattle.ygg_base.specs.declared.status.Status.{Status}
use Rattle.ygg_report.specs.Putting.{NoFront}
use Rattle.ygg_rules.specs.declared.rule.RuleKind.{RuleKind}
use Rattle.ygg_top_command.proofs.Telling.{more_told}
use Rattle.ygg_top_command.specs.Reports.{Told}
use Rattle.ygg_top.specs.declared.words.Alone.{Alone}
use Rattle.ygg_top.specs.declared.words.One.{One}
use Rattle.ygg_top.specs.declared.words.Three.{Three}
use Rattle.ygg_top.specs.declared.words.Two.{Two}
use Rattle.ygg_top.specs.Ending.{Ends, EndsAlone, EndsOne, EndsThree, EndsTwo, IsLeft, LeavesOne, LeavesTwo, NamesNone}
use Rattle.ygg_top.specs.Words.{alone_of, one_of, three_of, two_of}

one_word : (words : List (List ℕ)) (only : List ℕ) → 1 ≤ length words → length words < 2 → only ≡ slice_index_or words 0 only → words ≡ only ∷ []
one_word [] only some few is = absurd (omega (arith, some))
one_word (word ∷ []) only some few is = ap (λ (w : List ℕ). w ∷ []) (sym is)
one_word (a ∷ b ∷ rest) only some few is = absurd (omega (arith, few))

two_words : (words : List (List ℕ)) (command first : List ℕ) → 2 ≤ length words → length words < 3 → command ≡ slice_index_or words 0 command →
    first ≡ slice_index_or words 1 first → words ≡ command ∷ first ∷ []
two_words [] command first some few c f = absurd (omega (arith, some))
two_words (a ∷ []) command first some few c f = absurd (omega (arith, some))
two_words (a ∷ b ∷ []) command first some few c f = cc (c, f)
two_words (a ∷ b ∷ d ∷ rest) command first some few c f = absurd (omega (arith, few))

pub three_words : (words : List (List ℕ)) (command first second : List ℕ) → 3 ≤ length words → length words < 4 → command ≡ slice_index_or words 0 command →
    first ≡ slice_index_or words 1 first → second ≡ slice_index_or words 2 second → words ≡ command ∷ first ∷ second ∷ []
three_words [] command first second some few c f s = absurd (omega (arith, some))
three_words (a ∷ []) command first second some few c f s = absurd (omega (arith, some))
three_words (a ∷ b ∷ []) command first second some few c f s = absurd (omega (arith, some))
three_words (a ∷ b ∷ d ∷ []) command first second some few c f s = cc (c, f, s)
three_words (a ∷ b ∷ d ∷ e ∷ rest) command first second some few c f s = absurd (omega (arith, few))

four_words : (words : List (List ℕ)) (command first second third : List ℕ) → 4 ≤ length words → length words < 5 →
    command ≡ slice_index_or words 0 command → first ≡ slice_index_or words 1 first → second ≡ slice_index_or words 2 second →
    third ≡ slice_index_or words 3 third → words ≡ command ∷ first ∷ second ∷ third ∷ []
four_words [] command first second third some few c f s t = absurd (omega (arith, some))
four_words (a ∷ []) command first second third some few c f s t = absurd (omega (arith, some))
four_words (a ∷ b ∷ []) command first second third some few c f s t = absurd (omega (arith, some))
four_words (a ∷ b ∷ d ∷ []) command first second third some few c f s t = absurd (omega (arith, some))
four_words (a ∷ b ∷ d ∷ e ∷ []) command first second third some few c f s t = cc (c, f, s, t)
four_words (a ∷ b ∷ d ∷ e ∷ g ∷ rest) command first second third some few c f s t = absurd (omega (arith, few))

module _ (kinds : List RuleKind) (files : Option (List Held)) (before now : Option (List ℕ)) (LibraryRose SinkRose : Type 0) (result : Status) where
  abbrev Says : List (List ℕ) → Type 0
  Says words = Told (Ends kinds words files) (IsLeft kinds words files) before now LibraryRose SinkRose result

  -- one word
  pub alone_told : (words : List (List ℕ)) (only word : List ℕ) (command : Alone) → 1 ≤ length words → length words < 2 →
      only ≡ slice_index_or words 0 only → word ≡ only → command ≡ alone_of word → Told (EndsAlone command) NoFront before now ⊥ SinkRose result →
      Told (Ends kinds words files) (IsLeft kinds words files) before now LibraryRose SinkRose result
  unfolding Ends IsLeft
  alone_told words only word command some few is same of told =
      subst Says (sym (one_word words only some few is))
      (more_told (EndsAlone (alone_of only)) NoFront before now ⊥ LibraryRose SinkRose result (λ none. absurd none)
      (subst (λ (c : Alone). Told (EndsAlone c) NoFront before now ⊥ SinkRose result) (of ∙ ap alone_of same) told))

  -- two words
  pub one_told : (words : List (List ℕ)) (asked first word : List ℕ) (command : One) → 2 ≤ length words → length words < 3 →
      asked ≡ slice_index_or words 0 asked → first ≡ slice_index_or words 1 first → word ≡ asked → command ≡ one_of word →
      Told (EndsOne kinds files command first) (LeavesOne kinds files command first) before now LibraryRose SinkRose result →
      Told (Ends kinds words files) (IsLeft kinds words files) before now LibraryRose SinkRose result
  unfolding Ends IsLeft
  one_told words asked first word command some few c f same of told =
      subst Says (sym (two_words words asked first some few c f))
      (subst (λ (d : One). Told (EndsOne kinds files d first) (LeavesOne kinds files d first) before now LibraryRose SinkRose result)
      (of ∙ ap one_of same) told)

  -- three words
  pub two_told : (words : List (List ℕ)) (asked first second word : List ℕ) (command : Two) → 3 ≤ length words → length words < 4 →
      asked ≡ slice_index_or words 0 asked → first ≡ slice_index_or words 1 first → second ≡ slice_index_or words 2 second → word ≡ asked →
      command ≡ two_of word →
      Told (EndsTwo kinds files command first second) (LeavesTwo kinds files command first second) before now LibraryRose SinkRose result →
      Told (Ends kinds words files) (IsLeft kinds words files) before now LibraryRose SinkRose result
  unfolding Ends IsLeft
  two_told words asked first second word command some few c f s same of told =
      subst Says (sym (three_words words asked first second some few c f s))
      (subst (λ (d : Two). Told (EndsTwo kinds files d first second) (LeavesTwo kinds files d first second) before now LibraryRose SinkRose result)
      (of ∙ ap two_of same) told)

  -- four words
  pub three_told : (words : List (List ℕ)) (asked first second third word : List ℕ) (command : Three) → 4 ≤ length words → length words < 5 →
      asked ≡ slice_index_or words 0 asked → first ≡ slice_index_or words 1 first → second ≡ slice_index_or words 2 second →
      third ≡ slice_index_or words 3 third → word ≡ asked → command ≡ three_of word →
      Told (EndsThree kinds files command first second third) NoFront before now LibraryRose SinkRose result →
      Told (Ends kinds words files) (IsLeft kinds words files) before now LibraryRose SinkRose result
  unfolding Ends IsLeft
  three_told words asked first second third word command some few c f s t same of told =
      subst Says (sym (four_words words asked first second third some few c f s t))
      (subst (λ (d : Three). Told (EndsThree kinds files d first second third) NoFront before now LibraryRose SinkRose result)
      (of ∙ ap three_of same) told)

  -- no words
  pub none_told : (words : List (List ℕ)) → length words < 1 → Told NamesNone NoFront before now ⊥ SinkRose result →
      Told (Ends kinds words files) (IsLeft kinds words files) before now LibraryRose SinkRose result
  unfolding Ends IsLeft
  none_told [] few told = more_told NamesNone NoFront before now ⊥ LibraryRose SinkRose result (λ none. absurd none) told
  none_told (a ∷ rest) few told = absurd (omega (arith, few))

  -- more than four words
  pub many_told : (words : List (List ℕ)) → 5 ≤ length words → Told NamesNone NoFront before now ⊥ SinkRose result →
      Told (Ends kinds words files) (IsLeft kinds words files) before now LibraryRose SinkRose result
  unfolding Ends IsLeft
  many_told [] many told = absurd (omega (arith, many))
  many_told (a ∷ []) many told = absurd (omega (arith, many))
  many_told (a ∷ b ∷ []) many told = absurd (omega (arith, many))
  many_told (a ∷ b ∷ c ∷ []) many told = absurd (omega (arith, many))
  many_told (a ∷ b ∷ c ∷ d ∷ []) many told = absurd (omega (arith, many))
  many_told (a ∷ b ∷ c ∷ d ∷ e ∷ rest) many told = more_told NamesNone NoFront before now ⊥ LibraryRose SinkRose result (λ none. absurd none) told

-- a command with one word after it that is this one
pub one_so : (kinds : List RuleKind) (files : Option (List Held)) (word : List ℕ) (before now : Option (List ℕ)) (LibraryRose SinkRose : Type 0)
    (result : Status) (command asked : One) → command ≡ asked →
    Told (EndsOne kinds files asked word) (LeavesOne kinds files asked word) before now LibraryRose SinkRose result →
    Told (EndsOne kinds files command word) (LeavesOne kinds files command word) before now LibraryRose SinkRose result
one_so kinds files word before now LibraryRose SinkRose result command asked is told =
    subst (λ (c : One). Told (EndsOne kinds files c word) (LeavesOne kinds files c word) before now LibraryRose SinkRose result) (sym is) told

-- a command with two words after it that is this one
pub two_so : (kinds : List RuleKind) (files : Option (List Held)) (first second : List ℕ) (before now : Option (List ℕ)) (LibraryRose SinkRose : Type 0)
    (result : Status) (command asked : Two) → command ≡ asked →
    Told (EndsTwo kinds files asked first second) (LeavesTwo kinds files asked first second) before now LibraryRose SinkRose result →
    Told (EndsTwo kinds files command first second) (LeavesTwo kinds files command first second) before now LibraryRose SinkRose result
two_so kinds files first second before now LibraryRose SinkRose result command asked is told =
    subst (λ (c : Two). Told (EndsTwo kinds files c first second) (LeavesTwo kinds files c first second) before now LibraryRose SinkRose result)
    (sym is) told

-- a command with three words after it that is this one
pub three_so : (kinds : List RuleKind) (files : Option (List Held)) (first second third : List ℕ) (before now : Option (List ℕ))
    (LibraryRose SinkRose : Type 0) (result : Status) (command asked : Three) → command ≡ asked →
    Told (EndsThree kinds files asked first second third) NoFront before now LibraryRose SinkRose result →
    Told (EndsThree kinds files command first second third) NoFront before now LibraryRose SinkRose result
three_so kinds files first second third before now LibraryRose SinkRose result command asked is told =
    subst (λ (c : Three). Told (EndsThree kinds files c first second third) NoFront before now LibraryRose SinkRose result) (sym is) told
