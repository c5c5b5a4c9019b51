-- What is so of a layer on a tower, as the layer's fields have it.
use Rattle.std.proofs.Common.{◌≡◌, ◌≢◌, ◌<◌, ℕ, suc, arith, List, true, slice_get, Some, option_map, inl, inr, refl, sym, ap, ◌∙◌, subst}
use Rattle.ygg_value.specs.declared.row.Value.{Value}
use Rattle.ygg_syntax.specs.declared.tree.Block.{Block}
use Rattle.ygg_syntax.specs.declared.tree.Layer.{Layer}
use Rattle.ygg_syntax.specs.declared.tree.Tick.{Tick}
use Rattle.ygg_syntax.specs.declared.tree.File.{File}
use Rattle.ygg_syntax.specs.Files.{IsDerivable}
use Rattle.ygg_eval.specs.ygg_type_rules.TypeErrors.{none}
use Rattle.ygg_eval.specs.ygg_type_rules.Files.{type_errors_of}
use Rattle.ygg_eval.specs.ygg_disk.declared.power.Power.{Power}
use Rattle.ygg_eval.specs.ygg_meaning.Machine.{TickName}
use Rattle.ygg_eval.specs.declared.body.Part.{Part}
use Rattle.ygg_eval.specs.declared.body.Part.TheVariants as part
use Rattle.ygg_eval.specs.Bodies.{block_in, IsBlock}
use Rattle.ygg_eval.specs.Lower.{Standing, Meaning, Ending, AfterWhole, Serves, IsLower}
use Rattle.ygg_machine.specs.Floors.{Raised, lower_of, place_of, IsFirst, IsCut, IsWhole, RunsSilently, Begins, FitsFloor, floor_meaning}
use Rattle.ygg_machine.specs.FloorStacks.{layer_there}
use Rattle.ygg_machine.specs.Commands.{waking, ticking, HasTick, IsTickAt}
use Rattle.ygg_machine.specs.Towers.{Rooted, floor_rooted, StandsOn, IsTower, CommandEnds, FormatEnds, StillStands, LosesPower}
use Rattle.ygg_machine.proofs.Stepping.{whole_is, serves_silently, serves_begun, serves_under, tick_of_layer}
use Rattle.ygg_machine.proofs.Towering.{
  under_stands,
  format_cut,
  format_done,
  wake_cut,
  wake_done,
  begun_stands,
  tick_ends,
  tick_stands,
  tick_under,
  loses_power,
}

-- power loss between commands
pub lost_as : {S : Type 0} (M : Meaning S) (R : S → Rooted S) (Stands : File → S → Type 0) → IsTower M R Stands → (memory : List Value) (below below' : S)
    (self : Raised S) → record { memory = memory; below = below } ≡ self → LosesPower (R below).meaning Stands below below' →
    LosesPower (floor_meaning (R self.below).meaning) (StandsOn M Stands) self (record { memory = memory; below = below' })
lost_as {S} M R Stands stacks memory below below' self view h =
    subst (λ (s : Raised S). LosesPower (floor_meaning (R s.below).meaning) (StandsOn M Stands) s (record { memory = memory; below = below' })) view
    (loses_power M R Stands stacks (record { memory = memory; below = below }) (record { memory = memory; below = below' }) h)

-- a background step of the layer itself
module _ {S : Type 0} (M : Meaning S) (R : S → Rooted S) (Stands : File → S → Type 0) (keeps : IsLower M) (stacks : IsTower M R Stands) (file : File)
    (place number : ℕ) (self : Raised S) (here : place ≡ place_of M self) (power : Power) (to : Standing (Raised S)) (ending : Ending)
    (stands : StandsOn M Stands file self)
    (ran : (l : Layer) (b : Block) → IsBlock file (record { layer = place_of M self; part = part.Tick; number = number }) l b →
    RunsSilently M file l b (record { machine = self; power = power }) ending to) where
  pub tick_ends_as : none (type_errors_of file) ≡ true → ∥ IsDerivable file ∥₁ → (name : TickName) → IsTickAt file place number name →
      CommandEnds (floor_meaning (R self.below).meaning) file (ticking name) ending (record { machine = self; power = power }) to
  tick_ends_as fine derivable name i =
      tick_ends M R Stands keeps stacks file (record { machine = self; power = power }) stands fine derivable to number name
      (subst (λ (n : ℕ). IsTickAt file n number name) here i) ending ran

  pub tick_stands_as : HasTick file place number → StillStands (floor_meaning M) (StandsOn M Stands) file self to.machine
  tick_stands_as h =
      tick_stands M R Stands keeps stacks file (record { machine = self; power = power }) stands to number
      (subst (λ (n : ℕ). HasTick file n number) here h) ending ran

  pub tick_serves_as : HasTick file place number → AfterWhole ending (Serves M file (place_of M self) (lower_of to)) →
      AfterWhole ending (Serves (floor_meaning M) file (suc (place_of M self)) to)
  tick_serves_as h s =
      let (l, there, t, is) = tick_of_layer file (place_of M self) number (subst (λ (n : ℕ). HasTick file n number) here h) in
      serves_silently M file (place_of M self) l t.body (record { machine = self; power = power }) to ending there
      (ran l t.body (record { layer = there; block = ap (option_map (λ (t : Tick). t.body)) is })) s

-- the place of a layer, as its fields have it
pub place_as : {S : Type 0} (M : Meaning S) (place layer : ℕ) (memory : List Value) (below : S) (self : Raised S) →
    record { memory = memory; below = below } ≡ self → place ≡ M.number below → layer ≡ place → layer ≡ place_of M self
place_as {S} M place layer memory below self view numbered is = is ∙ numbered ∙ ap (λ (s : Raised S). place_of M s) view

-- a layer at another place of those up to this one is below it
pub below_as : {S : Type 0} (M : Meaning S) (place layer : ℕ) (memory : List Value) (below : S) (self : Raised S) →
    record { memory = memory; below = below } ≡ self → place ≡ M.number below → layer ≢ place → layer < suc (place_of M self) → layer < M.number below
below_as {S} M place layer memory below self view numbered other inside =
    at (M.number below) (λ is. other (is ∙ sym numbered))
    (subst (λ (s : Raised S). layer < suc (place_of M s)) (sym view) inside)
  where
    at : (n : ℕ) → layer ≢ n → layer < suc n → layer < n
    at n other inside = omega arith

-- a command that was made below
module _ {S : Type 0} (M : Meaning S) (R : S → Rooted S) (Stands : File → S → Type 0) (keeps : IsLower M) (stacks : IsTower M R Stands) (file : File)
    (memory : List Value) (below below' : S) (self : Raised S) (view : record { memory = memory; below = below } ≡ self) (power power' : Power)
    (stands : StandsOn M Stands file self) (still : StillStands M Stands file below below') where
  abbrev start : Standing (Raised S)
  start = record { machine = record { memory = memory; below = below }; power = power }

  abbrev mid : Standing (Raised S)
  mid = record { machine = record { memory = memory; below = below' }; power = power' }

  abbrev low : Standing S
  low = record { machine = below; power = power }

  abbrev low' : Standing S
  low' = record { machine = below'; power = power' }

  stands_inside : StandsOn M Stands file (record { memory = memory; below = below })
  stands_inside = subst (λ (s : Raised S). StandsOn M Stands file s) (sym view) stands

  -- the layer stands
  pub under_as : StillStands (floor_meaning M) (StandsOn M Stands) file self (record { memory = memory; below = below' })
  under_as =
      subst (λ (s : Raised S). StillStands (floor_meaning M) (StandsOn M Stands) file s (record { memory = memory; below = below' })) view
      (under_stands M R Stands keeps stacks file (record { memory = memory; below = below }) (record { memory = memory; below = below' }) stands_inside still)

  pub format_cut_as : (e : Ending) → IsCut e → FormatEnds (R below) file e low low' →
      FormatEnds (floor_rooted R self) file e (record { machine = self; power = power }) mid
  format_cut_as e cut h =
      subst (λ (s : Raised S). FormatEnds (floor_rooted R s) file e (record { machine = s; power = power })
      (record { machine = record { memory = memory; below = below' }; power = power' })) view
      (format_cut M R Stands keeps stacks file start stands_inside mid still e cut h)

  pub wake_cut_as : (e : Ending) → IsCut e → CommandEnds (R below).meaning file waking e low low' →
      CommandEnds (floor_meaning (R self.below).meaning) file waking e (record { machine = self; power = power }) mid
  wake_cut_as e cut h =
      subst (λ (s : Raised S). CommandEnds (floor_meaning (R s.below).meaning) file waking e (record { machine = s; power = power })
      (record { machine = record { memory = memory; below = below' }; power = power' })) view
      (wake_cut M R Stands keeps stacks file start stands_inside mid still e cut h)

  pub tick_under_as : (name : TickName) (e : Ending) → CommandEnds (R below).meaning file (ticking name) e low low' →
      CommandEnds (floor_meaning (R self.below).meaning) file (ticking name) e (record { machine = self; power = power }) mid
  tick_under_as name e h =
      subst (λ (s : Raised S). CommandEnds (floor_meaning (R s.below).meaning) file (ticking name) e (record { machine = s; power = power })
      (record { machine = record { memory = memory; below = below' }; power = power' })) view
      (tick_under M R Stands keeps stacks file start stands_inside mid still refl name e h)

  same_place : (n : ℕ) → n ≡ M.number below → n ≡ place_of M self
  same_place n is = is ∙ ap (λ (s : Raised S). place_of M s) view

  pub serves_under_as : (e : Ending) → FitsFloor M file self → AfterWhole e (Serves M file (M.number below) low') →
      AfterWhole e (Serves (floor_meaning M) file (suc (place_of M self)) mid)
  serves_under_as e fits h =
      subst (λ (n : ℕ). AfterWhole e (Serves (floor_meaning M) file (suc n) mid)) (ap (λ (s : Raised S). place_of M s) view)
      (serves_under M file start mid (M.number below) e (subst (λ (s : Raised S). FitsFloor M file s) (sym view) fits) refl refl h)

  -- a block of the layer was begun after it
  module _ (e : Ending) (was_whole : IsWhole e) (ending : Ending) (to : Standing (Raised S)) where
    abbrev Began : Part → Type 0
    Began p = (l : Layer) (b : Block) → IsBlock file (record { layer = M.number below'; part = p; number = 0 }) l b →
        Begins M file l b (record { machine = record { memory = memory; below = below' }; power = power' }) ending to

    moved : (l : Layer) → slice_get file.layers (M.number below) ≡ Some l → slice_get file.layers (M.number below') ≡ Some l
    moved l h = ap (λ (n : ℕ). slice_get file.layers n) still.number ∙ h

    pub format_done_as : FormatEnds (R below) file e low low' → Began part.Format →
        FormatEnds (floor_rooted R self) file ending (record { machine = self; power = power }) to
    format_done_as h began =
        let (answer, is) = whole_is e was_whole in
        subst (λ (s : Raised S). FormatEnds (floor_rooted R s) file ending (record { machine = s; power = power }) to) view
        (format_done M R Stands keeps stacks file start stands_inside mid to still answer
        (subst (λ (x : Ending). FormatEnds (R below) file x (record { machine = below; power = power }) (record { machine = below'; power = power' })) is h)
        ending (λ l there. began l l.format (record { layer = moved l there; block = refl })))

    pub wake_done_as : CommandEnds (R below).meaning file waking e low low' → Began part.Recover →
        CommandEnds (floor_meaning (R self.below).meaning) file waking ending (record { machine = self; power = power }) to
    wake_done_as h began =
        let (answer, is) = whole_is e was_whole in
        subst (λ (s : Raised S). CommandEnds (floor_meaning (R s.below).meaning) file waking ending (record { machine = s; power = power }) to) view
        (wake_done M R Stands keeps stacks file start stands_inside mid to still answer
        (subst (λ (x : Ending). CommandEnds (R below).meaning file waking x (record { machine = below; power = power })
        (record { machine = below'; power = power' })) is h)
        ending (λ l there. began l l.recover (record { layer = moved l there; block = refl })))

    -- some block was begun
    pub record SomeBegun : Type 0 where
      pub layer : Layer
      pub there : slice_get file.layers (M.number below') ≡ Some layer
      pub block : Block
      pub begun : Begins M file layer block (record { machine = record { memory = memory; below = below' }; power = power' }) ending to

    some_begun : (p : Part) → IsFirst p → Began p → SomeBegun
    some_begun p (inl e) began =
        let (l, there) = layer_there file (M.number below) stands_inside.there in
        record {
          layer = l;
          there = moved l there;
          block = l.format;
          begun = began l l.format (record { layer = moved l there; block = ap (λ (q : Part). block_in l q 0) e });
        }
    some_begun p (inr e) began =
        let (l, there) = layer_there file (M.number below) stands_inside.there in
        record {
          layer = l;
          there = moved l there;
          block = l.recover;
          begun = began l l.recover (record { layer = moved l there; block = ap (λ (q : Part). block_in l q 0) e });
        }

    pub done_stands_as : (p : Part) → IsFirst p → Began p → StillStands (floor_meaning M) (StandsOn M Stands) file self to.machine
    done_stands_as p first began =
        let x = some_begun p first began in
        subst (λ (s : Raised S). StillStands (floor_meaning M) (StandsOn M Stands) file s to.machine) view
        (begun_stands M R Stands keeps stacks file start stands_inside mid to still ending x.layer x.block x.begun)

    pub done_serves_as : (p : Part) → IsFirst p → Began p → AfterWhole ending (Serves M file (M.number below') (lower_of to)) →
        AfterWhole ending (Serves (floor_meaning M) file (suc (place_of M self)) to)
    done_serves_as p first began h =
        let x = some_begun p first began in
        subst (λ (n : ℕ). AfterWhole ending (Serves (floor_meaning M) file (suc n) to)) (still.number ∙ ap (λ (s : Raised S). place_of M s) view)
        (serves_begun M file (M.number below') x.layer x.block mid to ending x.there x.begun h)
