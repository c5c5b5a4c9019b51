-- The machine below a layer of a typed file gives answers that fit, and its values keep their shapes. These are proofs that stand among the
-- specifications, since the machine gives them as the value of its field `keeps`.
use Rattle.std.specs.Prelude.{◌≡◌, ◌≤◌, ℕ, zero, suc, Bool, true, false, List, [], ◌++◌, length, slice_get, Option, Some, None}
use Rattle.std.proofs.Common.{refl, ap, subst}
use Rattle.ygg_syntax.specs.declared.grammar.BlockKind.TheVariants.{Impl}
use Rattle.ygg_syntax.specs.declared.tree.File.{File}
use Rattle.ygg_syntax.specs.declared.tree.Layer.{Layer}
use Rattle.ygg_eval.specs.ygg_type_rules.Names.{Named as NamedList}
use Rattle.ygg_eval.specs.ygg_type_rules.Files.{disk_operations}
use Rattle.ygg_eval.specs.ygg_type_rules.declared.scope.Signature.{Signature}
use Rattle.ygg_eval.specs.ygg_meaning.Environments.{Env}
use Rattle.ygg_eval.specs.ygg_meaning.Machine.{Machine, State}
use Rattle.ygg_eval.specs.ygg_meaning.Progress.{Question, Choice, Call}
use Rattle.ygg_eval.specs.ygg_meaning.Refines.{Below, OnDisk, OnSpec}
use Rattle.ygg_eval.specs.ygg_meaning_laws.Questions.{answer_fits, question_fits}
use Rattle.ygg_eval.specs.ygg_meaning_laws.Direct.{Handled}
use Rattle.ygg_eval.specs.ygg_meaning_laws.Acts.{Acts, Did, noted_picks}
use Rattle.ygg_eval.specs.ygg_meaning_laws.DiskActs.{disk_acts}
use Rattle.ygg_eval.specs.ygg_meaning_laws.SpecActs.{spec_acts}
use Rattle.ygg_eval.specs.ygg_meaning_laws_proofs_DiskServes.{disk_serves}
use Rattle.ygg_eval.specs.ygg_meaning_laws_proofs_SpecServes.{spec_serves}
use Rattle.ygg_eval.specs.ygg_meaning_laws_proofs_Made.{Serves}
use Rattle.ygg_eval.specs.Files.{IsStateBelow}
use Rattle.ygg_eval.proofs.InFile.{disk_fine, layer_sees, layer_answers}
use Rattle.ygg_eval_places.specs.ygg_sym_laws.Fronts.{handle_on, takes_on}
use Rattle.ygg_eval_places.specs.ygg_sym_laws.Taking.{Takes}
use Rattle.ygg_eval_places.specs.ygg_sym_laws_proofs_Acting.{Named}
use Rattle.ygg_eval_places.specs.ygg_sym_laws_proofs_Disk.{disk_named}
use Rattle.ygg_eval_places.specs.ygg_sym_laws_proofs_Spec.{spec_named}
use Rattle.ygg_eval.specs.Layers.{below_at, closed_at, signatures_at, signatures_of}
use Rattle.ygg_eval_places.specs.Machines.{IsPlaces}
use Rattle.ygg_eval_places.specs.Bits.{bits_in}
use Rattle.ygg_eval.proofs.OnSpec.{there}
use Rattle.ygg_eval_places.specs.Belows.{Stands, below_meaning}
use Rattle.ygg_eval_places.specs.declared.below.BelowPlaces.{BelowPlaces}

-- the answer fits, and the state is one of the machine's
pub record Kept (G : Below) (lower : NamedList Signature) (q : Question) (h : Handled (State Env)) : Type 0 where
  pub fits : answer_fits lower q h.answer ≡ true
  pub good : IsStateBelow G h.to

-- whatever answers as a function of picks does, with the picks that are named
module _ {M : Machine Env Bool} (G : Below) (lower : NamedList Signature) (F : Acts Env Bool)
    (serves : Serves false noted_picks M F (IsStateBelow G) (λ q. question_fits Impl lower q ≡ true) (λ q a. answer_fits lower q a ≡ true))
    (h : ℕ → Question → State Env → Handled (State Env)) (takes : Takes (State Env)) (named : Named F h takes) where
  kept : (i : ℕ) (q : Question) (z : State Env) → IsStateBelow G z → question_fits Impl lower q ≡ true → Kept G lower q (h i q z)
  kept i Choice z good may = absurd (cc)
  kept i (Call f xs) z good may =
      let picks = takes i (Call f xs) z ++ [] in
      let did = named.calls i f xs z [] in
      record {
        fits = subst (λ a. answer_fits lower (Call f xs) a ≡ true) (ap (λ (d : Did Env Bool). d.answer) did) (serves.fit z f xs picks good may);
        good = subst (IsStateBelow G) (ap (λ (d : Did Env Bool). d.to) did) (serves.keeps z f xs picks good may);
      }

no_layer : (ls : List Layer) (place : ℕ) → suc place ≤ length ls → slice_get ls place ≡ None → ⊥
no_layer ls place l e = let (x, h) = there ls place l in absurd (cc)

-- the machine of this number of a typed file
pub below_kept : (file : File) (number : ℕ) → Stands file number → (bits : ℕ → Bool) (i : ℕ) (q : Question) (z : State Env) →
    IsStateBelow (below_at file number) z → question_fits Impl (signatures_at file number) q ≡ true →
    Kept (below_at file number) (signatures_at file number) q (handle_on (below_at file number) bits i q z)
below_kept file zero stands bits i q z good may =
    kept (OnDisk file.disk) (disk_operations file.disk) (disk_acts false file.disk)
    (disk_serves false file.disk (disk_fine false file stands.kept stands.typed))
    (handle_on (OnDisk file.disk) bits) (takes_on (OnDisk file.disk) bits) (disk_named file.disk bits) i q z good may
below_kept file (suc place) stands bits i q z good may = by_layer (slice_get file.layers place) refl good may
  where
    by_layer : (m : Option Layer) → slice_get file.layers place ≡ m →
        IsStateBelow (elim m as (λ m. Below) [ None ↦ OnDisk file.disk | Some m ↦ OnSpec (closed_at file place m) ]) z →
        question_fits Impl (elim m as (λ m. NamedList Signature) [ None ↦ [] | Some m ↦ signatures_of m.operations ]) q ≡ true →
        Kept (elim m as (λ m. Below) [ None ↦ OnDisk file.disk | Some m ↦ OnSpec (closed_at file place m) ])
        (elim m as (λ m. NamedList Signature) [ None ↦ [] | Some m ↦ signatures_of m.operations ]) q
        (handle_on (elim m as (λ m. Below) [ None ↦ OnDisk file.disk | Some m ↦ OnSpec (closed_at file place m) ]) bits i q z)
    by_layer None e good may = absurd (no_layer file.layers place stands.there e)
    by_layer (Some m) e good may =
        let L = closed_at file place m in
        let sees = layer_sees false file stands.kept stands.typed place m e in
        kept (OnSpec L) (signatures_of m.operations) (spec_acts false L)
        (spec_serves false L (layer_answers false file stands.kept stands.typed place m e) (signatures_of m.operations) sees.seen sees.fit)
        (handle_on (OnSpec L) bits) (takes_on (OnSpec L) bits) (spec_named L bits) i q z good may

-- so it is a machine on which blocks are run by place
pub belows_fit : (m : BelowPlaces) → IsPlaces (below_meaning m)
belows_fit m = record {
  fits = λ i q s can. (below_kept m.typed.now.file m.number can.serves (bits_in m.bits.run) i q s.at can.good.state can.fits).fits;
  keeps = λ i q s can. record {
    shaped = refl;
    state = (below_kept m.typed.now.file m.number can.serves (bits_in m.bits.run) i q s.at can.good.state can.fits).good;
  };
}
