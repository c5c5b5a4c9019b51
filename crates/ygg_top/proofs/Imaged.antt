-- From a command on an image, or on none, to the command that the words name.
use Rattle.std.proofs.Common.{◌≡◌, ◌⊎◌, ◌≤◌, ◌<◌, ℕ, List, [], ◌∷◌, Option, length, slice_index_or, inl, inr, refl, sym, ap, subst, ◌∙◌, arith}
use Rattle.ygg_base.specs.declared.lists.Held.{Held}
use Rattle.ygg_base.specs.declared.status.Status.{Status}
use Rattle.ygg_base.specs.Devices.{Image, Attachment}
use Rattle.ygg_rules.specs.declared.rule.RuleKind.{RuleKind}
use Rattle.ygg_top_command.specs.Reports.{Told}
use Rattle.ygg_top_command.specs.Breaking.{ToldOn}
use Rattle.ygg_top_command.proofs.Breaks.{told_on}
use Rattle.ygg_top.specs.declared.words.OnImage.{OnImage}
use Rattle.ygg_top.specs.declared.words.OnImage.TheVariants.{Format, Run, Other}
use Rattle.ygg_top.specs.Ending.{Ends, IsLeft}
use Rattle.ygg_top.specs.Imaging.{UsesImage, EndsTwoOn, EndsFourOn, EndsOn, LeavesTwoOn, LeavesFourOn, IsLeftOn, BreaksTwoOn, BreaksFourOn, IsBrokenOn}
use Rattle.ygg_top.specs.Imaging.{KeepsTwoOn, KeepsFourOn, KeepsOn}
use Rattle.ygg_top.specs.Words.{on_image}
use Rattle.ygg_top.proofs.ByWords.{three_words}

pub five_words : (words : List (List ℕ)) (a b c d e : List ℕ) → 5 ≤ length words → length words < 6 → a ≡ slice_index_or words 0 a →
    b ≡ slice_index_or words 1 b → c ≡ slice_index_or words 2 c → d ≡ slice_index_or words 3 d → e ≡ slice_index_or words 4 e →
    words ≡ a ∷ b ∷ c ∷ d ∷ e ∷ []
five_words [] a b c d e some few ia ib ic id ie = absurd (omega (arith, some))
five_words (p ∷ []) a b c d e some few ia ib ic id ie = absurd (omega (arith, some))
five_words (p ∷ q ∷ []) a b c d e some few ia ib ic id ie = absurd (omega (arith, some))
five_words (p ∷ q ∷ r ∷ []) a b c d e some few ia ib ic id ie = absurd (omega (arith, some))
five_words (p ∷ q ∷ r ∷ s ∷ []) a b c d e some few ia ib ic id ie = absurd (omega (arith, some))
five_words (p ∷ q ∷ r ∷ s ∷ t ∷ []) a b c d e some few ia ib ic id ie = cc (ia, ib, ic, id, ie)
five_words (p ∷ q ∷ r ∷ s ∷ t ∷ u ∷ rest) a b c d e some few ia ib ic id ie = absurd (omega (arith, few))

module _ (kinds : List RuleKind) (files : Option (List Held)) (before now : Option (List Image)) (taken took : Option (List ℕ))
    (LibraryRose DeviceRose SinkRose : Type 0) (result : Status) where
  abbrev SaysOn : List (List ℕ) → Type 0
  SaysOn words =
      ToldOn (EndsOn kinds files before now words) (IsLeftOn kinds files before now words) (IsBrokenOn kinds files before now words) taken took LibraryRose
      DeviceRose SinkRose result

  abbrev Says : List (List ℕ) → Type 0
  Says words = Told (Ends kinds words files) (IsLeft kinds words files) taken took LibraryRose SinkRose result

  abbrev SaysTwoOn : OnImage → (command file image : List ℕ) → Type 0
  SaysTwoOn asked command file image =
      ToldOn (EndsTwoOn kinds files before now asked command file image) (LeavesTwoOn kinds files before now asked command file image)
      (BreaksTwoOn kinds files before now asked file) taken took LibraryRose DeviceRose SinkRose result

  abbrev SaysFourOn : OnImage → (command file certificate image script : List ℕ) → Type 0
  SaysFourOn asked command file certificate image script =
      ToldOn (EndsFourOn kinds files before now asked command file certificate image script)
      (LeavesFourOn kinds files before now asked command file certificate image script)
      (BreaksFourOn kinds files before now asked file certificate image script) taken took LibraryRose DeviceRose SinkRose result

  -- a command that isn't on an image
  pub off_told : (words : List (List ℕ)) → (UsesImage words → ⊥) → Says words → SaysOn words
  unfolding EndsOn IsLeftOn IsBrokenOn
  off_told [] not told =
      told_on taken took LibraryRose DeviceRose SinkRose result (EndsOn kinds files before now []) (IsLeftOn kinds files before now [])
      (IsBrokenOn kinds files before now []) told
  off_told (a ∷ []) not told =
      told_on taken took LibraryRose DeviceRose SinkRose result (EndsOn kinds files before now (a ∷ [])) (IsLeftOn kinds files before now (a ∷ []))
      (IsBrokenOn kinds files before now (a ∷ [])) told
  off_told (a ∷ b ∷ []) not told =
      told_on taken took LibraryRose DeviceRose SinkRose result (EndsOn kinds files before now (a ∷ b ∷ [])) (IsLeftOn kinds files before now (a ∷ b ∷ []))
      (IsBrokenOn kinds files before now (a ∷ b ∷ [])) told
  off_told (a ∷ b ∷ c ∷ []) not told = by (on_image a) refl
    where
      by : (asked : OnImage) → on_image a ≡ asked → SaysTwoOn asked a b c
      by Format is = absurd (not is)
      by Run is =
          told_on taken took LibraryRose DeviceRose SinkRose result (EndsTwoOn kinds files before now Run a b c) (LeavesTwoOn kinds files before now Run a b c)
          (BreaksTwoOn kinds files before now Run b) told
      by Other is =
          told_on taken took LibraryRose DeviceRose SinkRose result (EndsTwoOn kinds files before now Other a b c)
          (LeavesTwoOn kinds files before now Other a b c) (BreaksTwoOn kinds files before now Other b) told
  off_told (a ∷ b ∷ c ∷ d ∷ []) not told =
      told_on taken took LibraryRose DeviceRose SinkRose result (EndsOn kinds files before now (a ∷ b ∷ c ∷ d ∷ []))
      (IsLeftOn kinds files before now (a ∷ b ∷ c ∷ d ∷ [])) (IsBrokenOn kinds files before now (a ∷ b ∷ c ∷ d ∷ [])) told
  off_told (a ∷ b ∷ c ∷ d ∷ e ∷ []) not told = by (on_image a) refl
    where
      by : (asked : OnImage) → on_image a ≡ asked → SaysFourOn asked a b c d e
      by Format is =
          told_on taken took LibraryRose DeviceRose SinkRose result (EndsFourOn kinds files before now Format a b c d e)
          (LeavesFourOn kinds files before now Format a b c d e) (BreaksFourOn kinds files before now Format b c d e) told
      by Run is = absurd (not is)
      by Other is =
          told_on taken took LibraryRose DeviceRose SinkRose result (EndsFourOn kinds files before now Other a b c d e)
          (LeavesFourOn kinds files before now Other a b c d e) (BreaksFourOn kinds files before now Other b c d e) told
  off_told (a ∷ b ∷ c ∷ d ∷ e ∷ f ∷ rest) not told =
      told_on taken took LibraryRose DeviceRose SinkRose result (EndsOn kinds files before now (a ∷ b ∷ c ∷ d ∷ e ∷ f ∷ rest))
      (IsLeftOn kinds files before now (a ∷ b ∷ c ∷ d ∷ e ∷ f ∷ rest)) (IsBrokenOn kinds files before now (a ∷ b ∷ c ∷ d ∷ e ∷ f ∷ rest)) told

  -- `format`
  pub format_told : (words : List (List ℕ)) (command file image word : List ℕ) (asked : OnImage) → 3 ≤ length words → length words < 4 →
      command ≡ slice_index_or words 0 command → file ≡ slice_index_or words 1 file → image ≡ slice_index_or words 2 image → word ≡ command →
      asked ≡ on_image word → asked ≡ Format → SaysTwoOn Format command file image → SaysOn words
  unfolding EndsOn IsLeftOn IsBrokenOn
  format_told words command file image word asked some few c f i same of is told =
      subst SaysOn (sym (three_words words command file image some few c f i))
      (subst (λ (o : OnImage). SaysTwoOn o command file image) (sym is ∙ of ∙ ap on_image same) told)

  -- `run`
  pub run_told : (words : List (List ℕ)) (command file certificate image script word : List ℕ) (asked : OnImage) → 5 ≤ length words → length words < 6 →
      command ≡ slice_index_or words 0 command → file ≡ slice_index_or words 1 file → certificate ≡ slice_index_or words 2 certificate →
      image ≡ slice_index_or words 3 image → script ≡ slice_index_or words 4 script → word ≡ command → asked ≡ on_image word → asked ≡ Run →
      SaysFourOn Run command file certificate image script → SaysOn words
  unfolding EndsOn IsLeftOn IsBrokenOn
  run_told words command file certificate image script word asked some few c f r i s same of is told =
      subst SaysOn (sym (five_words words command file certificate image script some few c f r i s))
      (subst (λ (o : OnImage). SaysFourOn o command file certificate image script) (sym is ∙ of ∙ ap on_image same) told)

-- what is left of the images
module _ (kinds : List RuleKind) (files : Option (List Held)) (before now : Option (List Image)) (attached : Option Attachment) where
  -- of a command that isn't on an image
  pub off_keeps : (words : List (List ℕ)) → (UsesImage words → ⊥) → now ≡ before → KeepsOn kinds files before now attached words
  unfolding KeepsOn
  off_keeps [] not same = same
  off_keeps (a ∷ []) not same = same
  off_keeps (a ∷ b ∷ []) not same = same
  off_keeps (a ∷ b ∷ c ∷ []) not same = by (on_image a) refl
    where
      by : (asked : OnImage) → on_image a ≡ asked → KeepsTwoOn kinds files before now asked attached b c
      by Format is = absurd (not is)
      by Run is = same
      by Other is = same
  off_keeps (a ∷ b ∷ c ∷ d ∷ []) not same = same
  off_keeps (a ∷ b ∷ c ∷ d ∷ e ∷ []) not same = by (on_image a) refl
    where
      by : (asked : OnImage) → on_image a ≡ asked → KeepsFourOn kinds files before now asked b d
      by Format is = same
      by Run is = absurd (not is)
      by Other is = same
  off_keeps (a ∷ b ∷ c ∷ d ∷ e ∷ f ∷ rest) not same = same

  -- of `format`
  pub format_keeps : (words : List (List ℕ)) (command file image word : List ℕ) (asked : OnImage) → 3 ≤ length words → length words < 4 →
      command ≡ slice_index_or words 0 command → file ≡ slice_index_or words 1 file → image ≡ slice_index_or words 2 image → word ≡ command →
      asked ≡ on_image word → asked ≡ Format → KeepsTwoOn kinds files before now Format attached file image →
      KeepsOn kinds files before now attached words
  unfolding KeepsOn
  format_keeps words command file image word asked some few c f i same of is keeps =
      subst (λ (w : List (List ℕ)). KeepsOn kinds files before now attached w) (sym (three_words words command file image some few c f i))
      (subst (λ (o : OnImage). KeepsTwoOn kinds files before now o attached file image) (sym is ∙ of ∙ ap on_image same) keeps)

  -- of `run`
  pub run_keeps : (words : List (List ℕ)) (command file certificate image script word : List ℕ) (asked : OnImage) → 5 ≤ length words →
      length words < 6 → command ≡ slice_index_or words 0 command → file ≡ slice_index_or words 1 file →
      certificate ≡ slice_index_or words 2 certificate → image ≡ slice_index_or words 3 image → script ≡ slice_index_or words 4 script →
      word ≡ command → asked ≡ on_image word → asked ≡ Run → KeepsFourOn kinds files before now Run file image →
      KeepsOn kinds files before now attached words
  unfolding KeepsOn
  run_keeps words command file certificate image script word asked some few c f r i s same of is keeps =
      subst (λ (w : List (List ℕ)). KeepsOn kinds files before now attached w)
      (sym (five_words words command file certificate image script some few c f r i s))
      (subst (λ (o : OnImage). KeepsFourOn kinds files before now o file image) (sym is ∙ of ∙ ap on_image same) keeps)

-- words of which the first is this
module _ (words : List (List ℕ)) (command word : List ℕ) (asked : OnImage) (same : word ≡ command) (of : asked ≡ on_image word) where
  -- with two words after it: it is `format`, or names no command on an image
  module _ (file image : List ℕ) (is : words ≡ command ∷ file ∷ image ∷ []) where
    pub is_format : asked ≡ Format → UsesImage words
    is_format format = subst UsesImage (sym is) (sym (ap on_image same) ∙ sym of ∙ format)

    pub no_format : (asked ≡ Format → ⊥) → UsesImage words → ⊥
    no_format not uses = not (of ∙ ap on_image same ∙ subst UsesImage is uses)

  -- with four: it is `run`, or names none
  module _ (file certificate image script : List ℕ) (is : words ≡ command ∷ file ∷ certificate ∷ image ∷ script ∷ []) where
    pub is_run : asked ≡ Run → UsesImage words
    is_run run = subst UsesImage (sym is) (sym (ap on_image same) ∙ sym of ∙ run)

    pub no_run : (asked ≡ Run → ⊥) → UsesImage words → ⊥
    no_run not uses = not (of ∙ ap on_image same ∙ subst UsesImage is uses)

-- another command than `format`, or than `run`
pub not_format : (asked : OnImage) → (asked ≡ Run) ⊎ (asked ≡ Other) → asked ≡ Format → ⊥
not_format asked (inl run) format = absurd (cc (run, format))
not_format asked (inr other) format = absurd (cc (other, format))

pub not_run : (asked : OnImage) → (asked ≡ Format) ⊎ (asked ≡ Other) → asked ≡ Run → ⊥
not_run asked (inl format) run = absurd (cc (format, run))
not_run asked (inr other) run = absurd (cc (other, run))

-- words that are fewer, or more, than those of a command on an image
pub few_no_image : (words : List (List ℕ)) → length words < 3 → UsesImage words → ⊥
few_no_image [] few uses = uses
few_no_image (a ∷ []) few uses = uses
few_no_image (a ∷ b ∷ []) few uses = uses
few_no_image (a ∷ b ∷ c ∷ rest) few uses = absurd (omega (arith, few))

pub four_no_image : (words : List (List ℕ)) → 4 ≤ length words → length words < 5 → UsesImage words → ⊥
four_no_image [] some few uses = uses
four_no_image (a ∷ []) some few uses = uses
four_no_image (a ∷ b ∷ []) some few uses = uses
four_no_image (a ∷ b ∷ c ∷ []) some few uses = absurd (omega (arith, some))
four_no_image (a ∷ b ∷ c ∷ d ∷ []) some few uses = uses
four_no_image (a ∷ b ∷ c ∷ d ∷ e ∷ rest) some few uses = absurd (omega (arith, few))

pub many_no_image : (words : List (List ℕ)) → 6 ≤ length words → UsesImage words → ⊥
many_no_image [] many uses = uses
many_no_image (a ∷ []) many uses = uses
many_no_image (a ∷ b ∷ []) many uses = uses
many_no_image (a ∷ b ∷ c ∷ []) many uses = absurd (omega (arith, many))
many_no_image (a ∷ b ∷ c ∷ d ∷ []) many uses = uses
many_no_image (a ∷ b ∷ c ∷ d ∷ e ∷ []) many uses = absurd (omega (arith, many))
many_no_image (a ∷ b ∷ c ∷ d ∷ e ∷ f ∷ rest) many uses = uses
