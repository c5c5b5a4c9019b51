-- How a call on a disk in memory ends: whole, cut by power, stopped before it began, or without memory.
use Rattle.std.proofs.Common.{◌≡◌, ◌↔◌, ◌⊎◌, inl, inr, Bool, true, false, true≢false, List, Option, Some, Result, Ok, Err, refl, sym, ap, subst}
use Rattle.std.specs.Prelude.{IsSomeAnd}
use Rattle.std.specs.Result.{IsErr}
use Rattle.std.proofs.lemmas.Result.{IfOk-from_err}
use Rattle.ygg_base.specs.declared.geometry.DiskKind.{DiskKind}
use Rattle.ygg_list.specs.declared.memory.NoMemory.{NoMemory}
use Rattle.ygg_value.specs.declared.row.Value.{Value}
use Rattle.ygg_disk.specs.Disk.{Call, Reply}
use Rattle.ygg_disk.specs.Fate.{IsFate, Begins}
use Rattle.ygg_disk.specs.Ground.{Meaning, Whole, Cut, Stopped, Down, Turns, IsDownWhereNamed}
use Rattle.ygg_disk.specs.Kinds.{model_of}
use Rattle.ygg_disk.specs.Marked.{MarkedCache, marked_calls, marked_falls, marked_loses}
use Rattle.ygg_disk.specs.Meanings.{disk_meaning, pending_meaning}
use Rattle.ygg_disk.specs.Power.{Begun, IsNamed}
use Rattle.ygg_disk.specs.declared.fate.Fate.{Fate}
use Rattle.ygg_disk.specs.declared.fate.Fate.TheVariants as fate
use Rattle.ygg_disk.specs.declared.power.Fuse.{Fuse}
use Rattle.ygg_disk.specs.declared.power.Power.{Power}
use Rattle.ygg_disk.specs.declared.turn.Turn.{Turn}
use Rattle.ygg_disk.specs.declared.turn.Turn.TheVariants as turn

-- what became of the call is known
pub begins_as : (call : Call) (whole within : List Bool) (p p' : Power) (f g : Fate) → f ≡ g → Begins call whole within p p' (Ok f) →
    Begins call whole within p p' (Ok g)
begins_as call whole within p p' f g e b = subst (λ (x : Fate). Begins call whole within p p' (Ok x)) e b

-- whether power has failed, as the fuse says
pub done_unnamed : (p : Power) → IsFate p fate.Whole → (turn.Done ≡ turn.Down) ↔ IsNamed p
done_unnamed p f = (λ e. absurd (cc), λ n. absurd (f n))

pub answer_unnamed : (p : Power) (v : Value) → IsFate p fate.Whole → (turn.Answer v ≡ turn.Down) ↔ IsNamed p
answer_unnamed p v f = (λ e. absurd (cc), λ n. absurd (f n))

pub within_named : (p : Power) → IsFate p fate.Within → (turn.Down ≡ turn.Down) ↔ IsNamed p
within_named p f = (λ e. subst (λ (o : Option Fuse). IsSomeAnd o (λ x. x.call ≡ p.passed)) (sym f) refl, λ n. refl)

pub before_named : (p : Power) → IsFate p fate.Before → (turn.Down ≡ turn.Down) ↔ IsNamed p
before_named p f = (λ e. subst (λ (o : Option Fuse). IsSomeAnd o (λ x. x.call ≡ p.passed)) (sym f) refl, λ n. refl)

pub either_named : (call : Call) (whole within : List Bool) (p p' : Power) (f : Fate) → (f ≡ fate.Within) ⊎ (f ≡ fate.Before) →
    Begins call whole within p p' (Ok f) → (turn.Down ≡ turn.Down) ↔ IsNamed p
either_named call whole within p p' f (inl e) b = within_named p (begins_as call whole within p p' f fate.Within e b).0
either_named call whole within p p' f (inr e) b = before_named p (begins_as call whole within p p' f fate.Before e b).0

pub starved_named : (p : Power) (r : Result Turn NoMemory) → IsErr r → IsDownWhereNamed p r
starved_named p r e = IfOk-from_err r (λ t. (t ≡ turn.Down) ↔ IsNamed p) e

module _ {S : Type 0} (G : Meaning S) (call : Call) (before after : S) (p p' : Power) where
  pub down_within : IsFate p fate.Within → Cut G call before after p p' → Down G call before after p p'
  down_within f =
      subst (λ (o : Option Fuse). Cut G call before after (record p { fuse = o }) p' → Down G call before after (record p { fuse = o }) p') (sym f) (λ x. x)

  pub down_before : IsFate p fate.Before → Stopped G before after p p' → Down G call before after p p'
  down_before f =
      subst (λ (o : Option Fuse). Stopped G before after (record p { fuse = o }) p' → Down G call before after (record p { fuse = o }) p') (sym f) (λ x. x)

  -- one of the two, where a `match` has them in one arm
  pub down_either : (whole within : List Bool) (f : Fate) → (f ≡ fate.Within) ⊎ (f ≡ fate.Before) → Begins call whole within p p' (Ok f) →
      (Begun true true call within p p' → Cut G call before after p p') → (p' ≡ p → Stopped G before after p p') → Down G call before after p p'
  down_either whole within f (inl e) b cut stopped = let x = begins_as call whole within p p' f fate.Within e b in down_within x.0 (cut x.1)
  down_either whole within f (inr e) b cut stopped = let x = begins_as call whole within p p' f fate.Before e b in down_before x.0 (stopped x.1)

  pub starved : (r : Result Turn NoMemory) → IsErr r → G.Breaks before call after → p' ≡ p → Turns G call before after p p' r
  starved (Ok t) e b l = absurd (true≢false (sym e))
  starved (Err x) e b l = record { breaks = b; leaves = l }

-- a disk of a kind
module _ (kind : DiskKind) (call : Call) (before after : (model_of kind).State) (p p' : Power) where
  pub disk_whole : (picks : List Bool) (reply : Reply) → (model_of kind).Calls before call picks reply after → Begun true false call picks p p' →
      Whole (disk_meaning kind) call reply before after p p'
  disk_whole picks reply step b = record { picks = picks; step = step; told = (after, refl, step); leaves = b }

  pub disk_cut : (picks : List Bool) → (model_of kind).Falls before call picks after → Begun true true call picks p p' →
      Cut (disk_meaning kind) call before after p p'
  disk_cut picks step b = record { picks = picks; step = step; told = (after, refl, step); leaves = b }

  pub disk_stopped : after ≡ (model_of kind).lost before → p' ≡ p → Stopped (disk_meaning kind) before after p p'
  disk_stopped e l = record { lost = record { step = e; told = ap (λ (s : (model_of kind).State). Some (record { kind = kind; state = s })) e }; leaves = l }

-- the disk with a write-back cache
module _ (call : Call) (before after : MarkedCache) (p p' : Power) where
  pub pending_whole : (picks : List Bool) (reply : Reply) → marked_calls before call picks reply after → Begun true false call picks p p' →
      Whole pending_meaning call reply before after p p'
  pending_whole picks reply step b = record { picks = picks; step = step; told = refl; leaves = b }

  pub pending_cut : (picks : List Bool) → marked_falls before call picks after → Begun true true call picks p p' →
      Cut pending_meaning call before after p p'
  pending_cut picks step b = record { picks = picks; step = step; told = refl; leaves = b }

  pub pending_stopped : marked_loses before after → p' ≡ p → Stopped pending_meaning before after p p'
  pending_stopped e l = record { lost = record { step = e; told = refl }; leaves = l }
