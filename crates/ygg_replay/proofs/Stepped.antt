-- How steps of the layer's specification end, with all the picks that are given.
use Rattle.std.proofs.Common.{◌≡◌, ℕ, suc, ◌+◌, true, List, [], length, slice_get, Option, Some, None, option_map, refl, sym, ap, ◌∙◌, false, arith}
use Rattle.std.specs.Prelude.{option_and_then}
use Rattle.ygg_value.specs.declared.row.Value.{Value}
use Rattle.ygg_syntax.specs.declared.grammar.BlockKind.TheVariants.{Spec}
use Rattle.ygg_syntax.specs.declared.tree.Block.{Block}
use Rattle.ygg_syntax.specs.declared.tree.Operation.{Operation}
use Rattle.ygg_syntax.specs.declared.tree.Layer.{Layer}
use Rattle.ygg_syntax.specs.declared.tree.File.{File}
use Rattle.ygg_syntax.specs.Choices.{choices_of}
use Rattle.ygg_syntax.specs.Files.{IsDerivable}
use Rattle.ygg_sched.specs.ygg_type_rules.TypeErrors.{none}
use Rattle.ygg_sched.specs.ygg_type_rules.Files.{type_errors_of}
use Rattle.ygg_sched.specs.ygg_disk.declared.power.Power.{Power}
use Rattle.ygg_sched.specs.ygg_meaning.Environments.{Env, bind}
use Rattle.ygg_sched.specs.ygg_meaning.Shapes.{values_fit}
use Rattle.ygg_sched.specs.ygg_meaning.Progress.{Answer}
use Rattle.ygg_sched.specs.ygg_meaning.Machine.{Picks}
use Rattle.ygg_sched.specs.ygg_meaning.Layer.{ClosedLayer}
use Rattle.ygg_sched.specs.ygg_meaning.Obligations.{call_picks, crash_picks, fall_picks}
use Rattle.ygg_sched.specs.ygg_meaning.Spec.{Outcome, chosen, call_outcome, crash_outcome, fall_with, fall_outcome}
use Rattle.ygg_eval.specs.ygg_meaning_laws.Kinds.{keeps}
use Rattle.ygg_eval.proofs.of_ygg_meaning_laws.Matching.{block_matches, fall_on_crash, fall_maybe}
use Rattle.ygg_eval.specs.declared.body.Part.TheVariants as part
use Rattle.ygg_eval.specs.Kept.{Kept, IsKept}
use Rattle.ygg_eval.proofs.OnSpec.{layer_fits}
use Rattle.ygg_eval.specs.Layers.{variables_at}
use Rattle.ygg_replay.specs.declared.site.ReplaySite.{ReplaySite}
use Rattle.ygg_replay.specs.Runs.{fresh}
use Rattle.ygg_replay.specs.Sites.{IsHere, closed_in, vars_at, VarsFit}
use Rattle.ygg_replay.specs.Steps.{EndsIn, EndsSomehow}
use Rattle.ygg_replay.proofs.Picks.{reads}
use Rattle.ygg_replay.proofs.SpecSteps.{call_extends, crash_extends, fall_extends, with_all}
use Rattle.ygg_replay.proofs.Specified.{exists, Gave, Dropped, LostSo}
use Rattle.ygg_replay.proofs.Typing.{block_kept}

module _ (s : ReplaySite) (here : IsHere s) (fine : none (type_errors_of s.typed.now.file) ≡ true) (derivable : ∥ IsDerivable s.typed.now.file ∥₁)
    (state : List Value) (power power' : Power) (picks : Picks) (fresh_is : power ≡ fresh picks) (k : Kept) (numbered : k.number ≡ suc s.place)
    (is_kept : IsKept s.typed.now.file k) where
  abbrev file : File
  file = s.typed.now.file

  abbrev layer : Layer
  layer = s.layer.now

  abbrev L : ClosedLayer
  L = closed_in s

  abbrev vars : Env
  vars = vars_at s state

  fits : VarsFit s k.values
  fits = layer_fits file s.place layer k.values here (ap (λ n. values_fit (variables_at file n) k.values) (sym numbered) ∙ is_kept.fit)

  crash_kept : keeps Spec layer.crash ≡ true
  crash_kept = block_kept file fine derivable (record { layer = s.place; part = part.Crash; number = 0 }) layer layer.crash
      (record { layer = here; block = refl })

  module _ (number : ℕ) (o : Operation) (args : List Value) (there : slice_get layer.operations number ≡ Some o) where
    spec_kept : keeps Spec o.spec ≡ true
    spec_kept = block_kept file fine derivable (record { layer = s.place; part = part.Spec; number = number }) layer o.spec
        (record { layer = here; block = ap (option_map (λ (o : Operation). o.spec)) there })

    on_crash_kept : (b : Block) → o.on_crash ≡ Some b → keeps Spec b ≡ true
    on_crash_kept b h = block_kept file fine derivable (record { layer = s.place; part = part.OnCrash; number = number }) layer b
        (record { layer = here; block = ap (option_and_then (λ (o : Operation). o.on_crash)) there ∙ h })

    -- a whole operation
    pub called_ends : (answer : Answer) → Gave file fine s.place state power power' k args answer layer o → length picks ≡ call_picks o →
        EndsIn s (call_outcome L o vars args (chosen picks)) answer k.values
    called_ends answer g all =
        let (x, e) = exists (choices_of o.spec) (λ picks. call_outcome L o vars args (chosen picks)) _
        (block_matches false L o.spec vars (bind o.arguments args) spec_kept) picks all in
        record {
          left = x.left;
          is = with_all (λ picks. call_outcome L o vars args (chosen picks)) (call_extends L o vars args) picks g.taken
              (reads picks g.taken power power' fresh_is g.takes) (vars_at s k.values) answer g.gives x e;
          fit = fits;
        }

    fall_exists : length picks ≡ fall_picks layer o → (x : Outcome) × (fall_outcome L o vars args picks ≡ Some x)
    fall_exists all = at o.on_crash refl all
      where
        at : (b : Option Block) → o.on_crash ≡ b →
            length picks ≡ (elim b [ None ↦ 1 + choices_of o.spec + crash_picks layer | Some b ↦ choices_of b + crash_picks layer ]) →
            (x : Outcome) × (fall_with L o b vars args picks ≡ Some x)
        at None h all =
            let same : 1 + choices_of o.spec + crash_picks layer ≡ 1 + (choices_of o.spec + crash_picks layer) = omega arith in
            exists (1 + (choices_of o.spec + crash_picks layer)) (fall_with L o None vars args) _ (fall_maybe false L o vars args spec_kept crash_kept)
            picks (all ∙ same)
        at (Some b) h all = exists (choices_of b + crash_picks layer) (fall_with L o (Some b) vars args) _
            (fall_on_crash false L o b vars args (on_crash_kept b h) crash_kept) picks all

    -- power that failed within an operation
    pub dropped_ends : Dropped file fine s.place state power power' k args layer o → length picks ≡ fall_picks layer o →
        EndsSomehow s (fall_outcome L o vars args picks) k.values
    dropped_ends g all =
        let (x, e) = fall_exists all in (
          g.answer,
          record {
            left = x.left;
            is = with_all (fall_outcome L o vars args) (fall_extends L o o.on_crash vars args) picks g.taken
                (reads picks g.taken power power' fresh_is g.takes) (vars_at s k.values) g.answer g.gives x e;
            fit = fits;
          },
        )

  -- power that failed between operations
  pub lost_ends : LostSo file fine s.place state power power' k layer → length picks ≡ crash_picks layer →
      EndsSomehow s (crash_outcome L vars (chosen picks)) k.values
  lost_ends g all =
      let (x, e) = exists (choices_of layer.crash) (λ picks. crash_outcome L vars (chosen picks)) _
      (block_matches false L layer.crash vars [] crash_kept) picks all in (
        g.answer,
        record {
          left = x.left;
          is = with_all (λ picks. crash_outcome L vars (chosen picks)) (crash_extends L vars) picks g.taken
              (reads picks g.taken power power' fresh_is g.takes) (vars_at s k.values) g.answer g.gives x e;
          fit = fits;
        },
      )
