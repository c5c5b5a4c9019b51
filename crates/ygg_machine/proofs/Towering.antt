-- A layer on a tower: its formatting, its waking and its background steps, as commands of the layers on the ground.
use Rattle.std.proofs.Common.{◌≡◌, ℕ, suc, ◌<◌, true, [], length, slice_get, Some, option_map, inl, inr, refl, sym, ap, ◌∙◌, subst}
use Rattle.ygg_syntax.specs.declared.tree.Block.{Block}
use Rattle.ygg_syntax.specs.declared.tree.Layer.{Layer}
use Rattle.ygg_syntax.specs.declared.tree.Tick.{Tick}
use Rattle.ygg_syntax.specs.declared.tree.File.{File}
use Rattle.ygg_syntax.specs.Files.{IsDerivable}
use Rattle.ygg_eval.specs.ygg_type_rules.TypeErrors.{none}
use Rattle.ygg_eval.specs.ygg_type_rules.Files.{type_errors_of}
use Rattle.ygg_eval.specs.ygg_meaning.Environments.{bind}
use Rattle.ygg_eval.specs.ygg_meaning.Progress.{Answer}
use Rattle.ygg_eval.specs.ygg_meaning.Machine.{TickName}
use Rattle.ygg_eval.specs.ygg_meaning.Layer.{tick_in}
use Rattle.ygg_eval.specs.declared.body.Part.TheVariants as part
use Rattle.ygg_eval.specs.Bodies.{IsBlock}
use Rattle.ygg_eval.specs.Layers.{closed_at}
use Rattle.ygg_eval.specs.Lower.{Standing, Meaning, Ending, Whole, Down, Failed, Starved, PowerLoss, IsLower}
use Rattle.ygg_machine.specs.Floors.{Raised, lower_of, place_of, silent, zeroed, Begins, RunsOn, RunsSilently, IsCut, floor_meaning}
use Rattle.ygg_machine.specs.FloorKeeps.{block_kept, at_place}
use Rattle.ygg_machine.specs.FloorStacks.{run_lasts, layer_there}
use Rattle.ygg_machine.specs.Commands.{Command, formatting, waking, ticking, IsTickAt, HasTick}
use Rattle.ygg_machine.specs.Towers.{Rooted, floor_rooted, StandsOn, Tells, IsTower, CommandEnds, FormatEnds, StillStands, LosesPower}
use Rattle.ygg_machine.proofs.Beginning.{Joins, formatting_joins, waking_joins, begun_kept, under_down, under_failed, under_starved, then_ends}
use Rattle.ygg_eval.proofs.OnSpec.{there as element}
use Rattle.ygg_machine.proofs.Telling.{kept_told}
use Rattle.ygg_machine.proofs.Typing.{tick_found}
use Rattle.ygg_machine.proofs.Ticking.{ticks_here, ticks_under}

module _ {S : Type 0} (M : Meaning S) (R : S → Rooted S) (Stands : File → S → Type 0) (keeps : IsLower M) (stacks : IsTower M R Stands) (file : File) where
  -- what stands does so after a block that was begun
  begun_lasts : (l : Layer) (b : Block) (from to : Standing (Raised S)) (ending : Ending) → Begins M file l b from ending to →
      Stands file from.machine.below → Stands file to.machine.below
  begun_lasts l b from to ending (inl (e, is, r)) stands =
      run_lasts M R Stands stacks file _ (place_of M from.machine) _ (lower_of from) (lower_of to) l.memory (zeroed l.memory from).machine.memory
      to.machine.memory r.result r.run stands
  begun_lasts l b from to ending (inr (is, same)) stands = subst (λ (x : Standing (Raised S)). Stands file x.machine.below) (sym same) stands

  -- and so after one that was run
  run_stands : (l : Layer) (b : Block) (from to : Standing (Raised S)) (e : Ending) → RunsOn M file l b [] from e to →
      StandsOn M Stands file from.machine → StillStands (floor_meaning M) (StandsOn M Stands) file from.machine to.machine
  run_stands l b from to e r stands =
      let k = block_kept M keeps file l b [] from to e r in
      record {
        number = ap suc k.goes_on.number;
        stands = record {
          there = subst (λ (n : ℕ). n < length file.layers) (sym k.goes_on.number) stands.there;
          below = run_lasts M R Stands stacks file _ (place_of M from.machine) _ (lower_of from) (lower_of to) l.memory from.machine.memory
              to.machine.memory r.result r.run stands.below;
        };
      }

  -- the layer stands where what is below it does
  pub under_stands : (from to : Raised S) → StandsOn M Stands file from → StillStands M Stands file from.below to.below →
      StillStands (floor_meaning M) (StandsOn M Stands) file from to
  under_stands from to stands h = record {
    number = ap suc h.number;
    stands = record { there = subst (λ (n : ℕ). n < length file.layers) (sym h.number) stands.there; below = h.stands };
  }

  module _ (from : Standing (Raised S)) (stands : StandsOn M Stands file from.machine) where
    abbrev N : Meaning S
    N = (R from.machine.below).meaning

    T : Tells Stands M (R from.machine.below).meaning
    T = stacks.tells from.machine.below

    -- the layer
    here : (l : Layer) × (slice_get file.layers (place_of M from.machine) ≡ Some l)
    here = layer_there file (place_of M from.machine) stands.there

    told_there : (l : Layer) → slice_get file.layers (place_of M from.machine) ≡ Some l → slice_get file.layers (place_of N from.machine) ≡ Some l
    told_there l there = ap (λ (n : ℕ). slice_get file.layers n) (T.number from.machine.below) ∙ there

    told_number : (to : Raised S) → place_of M to ≡ place_of M from.machine → place_of N to ≡ place_of N from.machine
    told_number to h = T.number to.below ∙ h ∙ sym (T.number from.machine.below)

    module _ (l : Layer) (there : slice_get file.layers (place_of M from.machine) ≡ Some l) (b : Block)
        (lower upper : Command N.behavior.Base N.behavior.Note)
        (J : Joins (closed_at file (place_of N from.machine) l) b (λ cause. N.behavior.machine cause file (place_of N from.machine)) lower upper
        (bind l.memory from.machine.memory) (N.behavior.state file from.machine.below)) where
      joined_cut : (mid : Standing (Raised S)) → place_of M mid.machine ≡ place_of M from.machine → (e : Ending) → IsCut e →
          CommandEnds N file lower e (lower_of from) (lower_of mid) → CommandEnds (floor_meaning N) file upper e from mid
      joined_cut mid number (Whole answer) cut h = absurd cut
      joined_cut mid number Down cut h =
          under_down N T.leaves_both file l b lower upper from (told_there l there) J mid (told_number mid.machine number) h
      joined_cut mid number Failed cut h =
          under_failed N T.leaves_both file l b lower upper from (told_there l there) J mid (told_number mid.machine number) h
      joined_cut mid number Starved cut h =
          under_starved N T.leaves_both file l b lower upper from (told_there l there) J mid (told_number mid.machine number) h

      joined_done : (mid to : Standing (Raised S)) → StillStands M Stands file from.machine.below mid.machine.below → (answer : Answer) →
          CommandEnds N file lower (Whole answer) (lower_of from) (lower_of mid) → (ending : Ending) → Begins M file l b mid ending to →
          CommandEnds (floor_meaning N) file upper ending from to
      joined_done mid to still answer h ending begins =
          let (e, is, k) = begun_kept M keeps file l b mid to ending begins in
          let told = kept_told M N Stands T file l b [] [] refl (zeroed l.memory mid) to still.stands e k in
          subst (λ (x : Ending). CommandEnds (floor_meaning (R from.machine.below).meaning) file upper x from to) (sym is)
          (then_ends N T.leaves_both file l b lower upper from (told_there l there) J mid to answer h (told_number mid.machine still.number) e told)

    -- formatting
    pub format_cut : (mid : Standing (Raised S)) → StillStands M Stands file from.machine.below mid.machine.below → (e : Ending) → IsCut e →
        FormatEnds (R from.machine.below) file e (lower_of from) (lower_of mid) → FormatEnds (floor_rooted R from.machine) file e from mid
    format_cut mid still e cut h =
        let (l, there) = layer_there file (place_of M from.machine) stands.there in
        joined_cut l there l.format (formatting (λ cause notes fallen. (R from.machine.below).FormatFalls cause file notes fallen)) _
        (formatting_joins N (λ cause notes fallen. (R from.machine.below).FormatFalls cause file notes fallen) file (place_of N from.machine) l
        (told_there l there) (bind l.memory from.machine.memory) (N.behavior.state file from.machine.below)) mid still.number e cut h

    pub format_done : (mid to : Standing (Raised S)) → StillStands M Stands file from.machine.below mid.machine.below → (answer : Answer) →
        FormatEnds (R from.machine.below) file (Whole answer) (lower_of from) (lower_of mid) → (ending : Ending) →
        ((l : Layer) → slice_get file.layers (place_of M from.machine) ≡ Some l → Begins M file l l.format mid ending to) →
        FormatEnds (floor_rooted R from.machine) file ending from to
    format_done mid to still answer h ending begins =
        let (l, there) = layer_there file (place_of M from.machine) stands.there in
        joined_done l there l.format (formatting (λ cause notes fallen. (R from.machine.below).FormatFalls cause file notes fallen)) _
        (formatting_joins N (λ cause notes fallen. (R from.machine.below).FormatFalls cause file notes fallen) file (place_of N from.machine) l
        (told_there l there) (bind l.memory from.machine.memory) (N.behavior.state file from.machine.below)) mid to still answer h ending (begins l there)

    -- waking
    pub wake_cut : (mid : Standing (Raised S)) → StillStands M Stands file from.machine.below mid.machine.below → (e : Ending) → IsCut e →
        CommandEnds N file waking e (lower_of from) (lower_of mid) → CommandEnds (floor_meaning N) file waking e from mid
    wake_cut mid still e cut h =
        let (l, there) = layer_there file (place_of M from.machine) stands.there in
        joined_cut l there l.recover waking waking (waking_joins (closed_at file (place_of N from.machine) l)
        (λ cause. N.behavior.machine cause file (place_of N from.machine)) (bind l.memory from.machine.memory) (N.behavior.state file from.machine.below))
        mid still.number e cut h

    pub wake_done : (mid to : Standing (Raised S)) → StillStands M Stands file from.machine.below mid.machine.below → (answer : Answer) →
        CommandEnds N file waking (Whole answer) (lower_of from) (lower_of mid) → (ending : Ending) →
        ((l : Layer) → slice_get file.layers (place_of M from.machine) ≡ Some l → Begins M file l l.recover mid ending to) →
        CommandEnds (floor_meaning N) file waking ending from to
    wake_done mid to still answer h ending begins =
        let (l, there) = layer_there file (place_of M from.machine) stands.there in
        joined_done l there l.recover waking waking (waking_joins (closed_at file (place_of N from.machine) l)
        (λ cause. N.behavior.machine cause file (place_of N from.machine)) (bind l.memory from.machine.memory) (N.behavior.state file from.machine.below))
        mid to still answer h ending (begins l there)

    -- a block that was begun leaves the layer standing
    pub begun_stands : (mid to : Standing (Raised S)) → StillStands M Stands file from.machine.below mid.machine.below → (ending : Ending) (l : Layer)
        (b : Block) →
        Begins M file l b mid ending to → StillStands (floor_meaning M) (StandsOn M Stands) file from.machine to.machine
    begun_stands mid to still ending l b begins =
        let (e, is, k) = begun_kept M keeps file l b mid to ending begins in
        let number = k.goes_on.number ∙ still.number in
        record {
          number = ap suc number;
          stands = record {
            there = subst (λ (n : ℕ). n < length file.layers) (sym number) stands.there;
            below = begun_lasts l b mid to ending begins still.stands;
          };
        }

    -- a background step of the layer itself
    pub tick_here : (to : Standing (Raised S)) (l : Layer) (t : Tick) (name : TickName) (e : Ending) →
        slice_get file.layers (place_of M from.machine) ≡ Some l → name.layer ≡ l.name.text → tick_in l.ticks name.name ≡ Some t →
        RunsOn M file l t.body [] from e to → CommandEnds (floor_meaning N) file (ticking name) (silent e) from to
    tick_here to l t name e there named found r =
        ticks_here N file l name from to (told_there l there) t named found e
        (kept_told M N Stands T file l t.body [] [] refl from to stands.below e (block_kept M keeps file l t.body [] from to e r))

    -- the same by its place, as it was run
    pub tick_ends : none (type_errors_of file) ≡ true → ∥ IsDerivable file ∥₁ → (to : Standing (Raised S)) (number : ℕ) (name : TickName) →
        IsTickAt file (place_of M from.machine) number name → (ending : Ending) →
        ((l : Layer) (b : Block) → IsBlock file (record { layer = place_of M from.machine; part = part.Tick; number = number }) l b →
        RunsSilently M file l b from ending to) → CommandEnds (floor_meaning N) file (ticking name) ending from to
    tick_ends fine derivable to number name i ending ran =
        let (e, is, r) = ran i.layer i.tick.body (record { layer = i.there; block = ap (option_map (λ (t : Tick). t.body)) i.is }) in
        let found = ap (λ (n : TickName). tick_in i.layer.ticks n.name) i.named
        ∙ tick_found file fine derivable (place_of M from.machine) number i.layer i.tick i.there i.is in
        subst (λ (x : Ending). CommandEnds (floor_meaning (R from.machine.below).meaning) file (ticking name) x from to) (sym is)
        (tick_here to i.layer i.tick name e i.there (ap (λ (n : TickName). n.layer) i.named) found r)

    -- the layer stands after it
    pub tick_stands : (to : Standing (Raised S)) (number : ℕ) → HasTick file (place_of M from.machine) number → (ending : Ending) →
        ((l : Layer) (b : Block) → IsBlock file (record { layer = place_of M from.machine; part = part.Tick; number = number }) l b →
        RunsSilently M file l b from ending to) → StillStands (floor_meaning M) (StandsOn M Stands) file from.machine to.machine
    tick_stands to number (l, there, within) ending ran =
        let (t, is) = element l.ticks number within in
        let (e, same, r) = ran l t.body (record { layer = there; block = ap (option_map (λ (t : Tick). t.body)) is }) in
        run_stands l t.body from to e r stands

    -- a background step of a layer below
    pub tick_under : (to : Standing (Raised S)) → StillStands M Stands file from.machine.below to.machine.below →
        to.machine.memory ≡ from.machine.memory → (name : TickName) (e : Ending) → CommandEnds N file (ticking name) e (lower_of from) (lower_of to) →
        CommandEnds (floor_meaning N) file (ticking name) e from to
    tick_under to still memory name e h =
        let (l, there) = layer_there file (place_of M from.machine) stands.there in
        ticks_under N file l name from to (told_there l there) (told_number to.machine still.number) memory e h

module _ {S : Type 0} (M : Meaning S) (R : S → Rooted S) (Stands : File → S → Type 0) (stacks : IsTower M R Stands) (from to : Raised S)
    (h : LosesPower (R from.below).meaning Stands from.below to.below) where
  number_kept : place_of M to ≡ place_of M from
  number_kept = let T = stacks.tells from.below in sym (T.number to.below) ∙ h.number ∙ T.number from.below

  lost_there : (file : File) → StandsOn M Stands file from →
      ((floor_meaning (R from.below).meaning).behavior.machine PowerLoss file ((floor_meaning (R from.below).meaning).number from)).Loses
      ((floor_meaning (R from.below).meaning).behavior.state file from) []
      ((floor_meaning (R from.below).meaning).behavior.state file to).base
  lost_there file stands =
      let (l, there) = layer_there file (place_of M from) stands.there in
      at_place (R from.below).meaning file (λ X s s'. X.Loses s [] s'.base) ((R from.below).meaning.behavior.machine PowerLoss file
      (place_of (R from.below).meaning from)) l from to
      (ap (λ (n : ℕ). slice_get file.layers n) ((stacks.tells from.below).number from.below) ∙ there) h.number (record {
        memory = bind l.memory from.memory;
        lower = (R from.below).meaning.behavior.state file from.below;
        from_is = refl;
        falls = h.lost file stands.below;
      })

  -- power loss between commands
  pub loses_power : LosesPower (floor_meaning (R from.below).meaning) (StandsOn M Stands) from to
  loses_power = record {
    number = ap suc h.number;
    later = h.later;
    stands = λ file s. record {
      there = subst (λ (n : ℕ). n < length file.layers) (sym number_kept) s.there;
      below = h.stands file s.below;
    };
    lost = lost_there;
  }
