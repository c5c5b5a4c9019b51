-- Obligations of a file by their places.
use Rattle.std.specs.Prelude.{◌≡◌, ℕ, List, slice_get, Option, Some, None}
use Rattle.std.specs.Option.{option_map}
use Rattle.ygg_syntax.specs.declared.tree.Operation.{Operation}
use Rattle.ygg_syntax.specs.declared.tree.Tick.{Tick}
use Rattle.ygg_syntax.specs.declared.tree.Layer.{Layer}
use Rattle.ygg_syntax.specs.declared.tree.File.{File}
use Rattle.ygg_meaning.specs.Obligations.{Obligation, Init, CallOf, CutOf, TickOf, CutTickOf, Idle, Again}
use Rattle.ygg_sched.specs.declared.case.CaseKind.{CaseKind}
use Rattle.ygg_sched.specs.declared.case.CaseKind.TheVariants as kind
use Rattle.ygg_sched.specs.declared.case.Case.{Case}
use Rattle.ygg_sched.specs.declared.naming.Numbered.{Numbered}
use Rattle.ygg_sched.specs.Sites.{Site, obligation_in, site_named}

-- what an obligation asks
abbrev pub kind_of : Obligation → CaseKind
kind_of Init = kind.Init
kind_of (CallOf o) = kind.Call
kind_of (CutOf o) = kind.Cut
kind_of (TickOf t) = kind.Tick
kind_of (CutTickOf t) = kind.CutTick
kind_of Idle = kind.Idle
kind_of Again = kind.Again

-- the obligation of a layer that is meant, if there is one
abbrev pub obligation_at : Layer → CaseKind → ℕ → Option Obligation
obligation_at l kind.Init number = Some Init
obligation_at l kind.Call number = option_map CallOf (slice_get l.operations number)
obligation_at l kind.Cut number = option_map CutOf (slice_get l.operations number)
obligation_at l kind.Tick number = option_map TickOf (slice_get l.ticks number)
obligation_at l kind.CutTick number = option_map CutTickOf (slice_get l.ticks number)
obligation_at l kind.Idle number = Some Idle
obligation_at l kind.Again number = Some Again

-- the operation or background step that an obligation has stands at this place of these lists
abbrev pub StandsAt : List Operation → List Tick → Obligation → ℕ → Type 0
StandsAt os ts Init number = Unit {0}
StandsAt os ts (CallOf o) number = slice_get os number ≡ Some o
StandsAt os ts (CutOf o) number = slice_get os number ≡ Some o
StandsAt os ts (TickOf t) number = slice_get ts number ≡ Some t
StandsAt os ts (CutTickOf t) number = slice_get ts number ≡ Some t
StandsAt os ts Idle number = Unit {0}
StandsAt os ts Again number = Unit {0}

-- the obligation that this is in code
abbrev pub numbered_in : Numbered → Obligation
numbered_in n = obligation_in n.obligation

-- it stands at its number in a layer with these operations and background steps
abbrev pub IsNumbered : List Operation → List Tick → Numbered → Type 0
IsNumbered os ts n = StandsAt os ts (numbered_in n) n.number

-- the obligation, by its places
pub record IsCaseOf (s : Site) (c : Case) : Type 0 where
  pub place : c.layer ≡ s.place
  pub obligation : obligation_at s.layer c.kind c.number ≡ Some s.obligation

-- the first obligation of a file that has this name, by its places
pub record IsFirstNamed (f : File) (name : List ℕ) (c : Case) : Type 0 where
  pub site : Site
  pub named : site_named f name ≡ Some site
  pub is : IsCaseOf site c

-- the same, where the file has one of this name
abbrev pub IsCaseNamed : File → List ℕ → Option Case → Type 0
IsCaseNamed f name None = site_named f name ≡ None
IsCaseNamed f name (Some c) = IsFirstNamed f name c
