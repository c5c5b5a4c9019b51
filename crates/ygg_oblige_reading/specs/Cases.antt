-- An obligation of a file by its place in the list, and by the places of its layer and of its operation or background step.
use Rattle.std.specs.Prelude.{◌≡◌, ℕ, slice_get, Some}
use Rattle.ygg_syntax.specs.declared.tree.File.{File}
use Rattle.ygg_syntax.specs.declared.tree.Layer.{Layer}
use Rattle.ygg_oblige_list.specs.ygg_meaning.Claims.{claims_of}
use Rattle.ygg_oblige_list.specs.ygg_meaning.Obligations.{Obligation}
use Rattle.ygg_oblige_schedule.specs.ygg_eval.Layers.{below_at, closed_at}
use Rattle.ygg_oblige_schedule.specs.ygg_sched.Cases.{obligation_at}
use Rattle.ygg_oblige_schedule.specs.ygg_sched.declared.case.Case.{Case}

-- the obligation at a place of the file's list is the one at these places
pub record IsCaseAt (f : File) (place : ℕ) (c : Case) : Type 0 where
  pub layer : Layer
  pub here : slice_get f.layers c.layer ≡ Some layer
  pub obligation : Obligation
  pub is : obligation_at layer c.kind c.number ≡ Some obligation
  pub claim : slice_get (claims_of f) place ≡ Some (record { layer = closed_at f c.layer layer; below = below_at f c.layer; obligation = obligation })
