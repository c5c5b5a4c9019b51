-- A disk without type errors serves typed blocks as its function of picks says.
use Rattle.std.proofs.Common.{◌≡◌, Bool, true, false, List, Option, Some, None, refl, sym, ap, ◌∙◌, subst}
use Rattle.ygg_value.specs.declared.row.Value.{Value}
use Rattle.ygg_syntax.specs.declared.grammar.BlockKind.TheVariants.{Impl}
use Rattle.ygg_syntax.specs.declared.tree.DiskText.{DiskText}
use Rattle.ygg_base.specs.declared.geometry.DiskKind.{DiskKind}
use Rattle.ygg_base.specs.declared.geometry.DiskKind.TheVariants.{Sync, Async}
use Rattle.ygg_meaning_laws.specs.ygg_type_rules.Names.{Named, look_up}
use Rattle.ygg_meaning_laws.specs.Signature.{Signature}
use Rattle.ygg_meaning_laws.specs.TypeErrors.{none}
use Rattle.ygg_meaning_laws.specs.Files.{disk_errors, disk_operations}
use Rattle.ygg_meaning_laws.specs.ygg_disk.Disk as disk
use Rattle.ygg_meaning_laws.specs.Environments.{Name, Env}
use Rattle.ygg_meaning_laws.specs.Progress.{Question, Call, Answer}
use Rattle.ygg_meaning_laws.specs.Machine.{Picks, State, based}
use Rattle.ygg_meaning_laws.specs.ygg_disk.Kinds.{model_of}
use Rattle.ygg_meaning_laws.specs.DiskMachine.{disk_call, tables_in, DiskMachine}
use Rattle.ygg_meaning_laws.specs.Fitting.{all_fit}
use Rattle.ygg_meaning_laws.specs.Questions.{gives, answer_fits, question_fits}
use Rattle.ygg_meaning_laws.specs.Machines.{IsSized, DiskAnswers}
use Rattle.ygg_meaning_laws.proofs.Sizes.{disk_answers_all}
use Rattle.ygg_meaning_laws.specs.Acts.{Taken, noted_picks, CallIs, FallIs, LossIs}
use Rattle.ygg_meaning_laws.specs.DiskActs.{kind_calls, kind_falls, state_in, disk_does, disk_drops, disk_acts}
use Rattle.ygg_meaning_laws.proofs.DiskActed.{state_is}
use Rattle.ygg_meaning_laws.proofs.Made.{Serves}

-- a fitting call
pub record IsFitting (lower : Named Signature) (name : Name) (args : List Value) : Type 0 where
  pub operation : Signature
  pub found : look_up name lower ≡ Some operation
  pub fit : all_fit operation.arguments args ≡ true

pub fitting_call : (lower : Named Signature) (name : Name) (args : List Value) → question_fits Impl lower (Call name args) ≡ true → IsFitting lower name args
fitting_call lower name args h = cases (look_up name lower) refl h
  where
    cases : (o : Option Signature) → look_up name lower ≡ o → elim o as (λ o. Bool) [ None ↦ false | Some o ↦ all_fit o.arguments args ] ≡ true →
        IsFitting lower name args
    cases None e h = absurd (cc)
    cases (Some o) e h = record { operation = o; found = e; fit = h }

pub answer_does : (lower : Named Signature) (name : Name) (args : List Value) (o : Signature) (a : Answer) → look_up name lower ≡ Some o →
    gives o a ≡ true → answer_fits lower (Call name args) a ≡ true
answer_does lower name args o a found g = ap (λ (x : Option Signature). elim x as (λ x. Bool) [ None ↦ false | Some o ↦ gives o a ]) found ∙ g

module _ (past : Bool) where
  pub kind_steps : (kind : DiskKind) (s : (model_of kind).State) (call : disk.Call) (picks : Picks) →
      let r = kind_calls past kind s call picks in (model_of kind).Calls s call r.taken r.reply r.to × Taken past r.taken picks r.left
  kind_steps Sync s (disk.Read at) picks = ((refl, refl, refl), refl)
  kind_steps Sync s (disk.Write at row) picks = ((refl, refl, refl), refl)
  kind_steps Sync s disk.Flush picks = ((refl, refl, refl), refl)
  kind_steps Async s (disk.Read at) picks = ((refl, refl, refl), refl)
  kind_steps Async s (disk.Write at row) picks = ((_, refl, refl, refl), (refl, refl))
  kind_steps Async s disk.Flush picks = ((refl, refl, refl), refl)

  kind_drops : (kind : DiskKind) (s : (model_of kind).State) (call : disk.Call) (picks : Picks) →
      let r = kind_falls past kind s call picks in (model_of kind).Falls s call r.taken r.to × Taken past r.taken picks r.left
  kind_drops Sync s (disk.Read at) picks = ((refl, refl), refl)
  kind_drops Sync s (disk.Write at row) picks = ((_, refl, refl), (refl, refl))
  kind_drops Sync s disk.Flush picks = ((refl, refl), refl)
  kind_drops Async s (disk.Read at) picks = ((refl, refl), refl)
  kind_drops Async s (disk.Write at row) picks = ((_, refl, refl), (refl, refl))
  kind_drops Async s disk.Flush picks = ((refl, refl), refl)

  module _ (d : DiskText) where
    -- a call, from what a disk shows
    does_so : (x : (model_of d.kind).State) (name : Name) (args : List Value) (call : disk.Call) (picks : Picks) → disk_call name args ≡ Some call →
        CallIs past noted_picks (DiskMachine d) (based (tables_in d.kind x)) name args picks (disk_does past d (based (tables_in d.kind x)) (Some call) picks)
    does_so x name args call picks named =
        let t = tables_in d.kind x in
        let y = state_in past d.kind t in
        let k = kind_steps d.kind y call picks in
        let r = kind_calls past d.kind y call picks in
        record {
          step = (t, tables_in d.kind r.to, call, r.reply, named, refl, (y, r.to, ap (tables_in d.kind) (sym (state_is past d.kind x)), k.0, refl), refl, refl);
          took = k.1;
        }

    drops_so : (x : (model_of d.kind).State) (name : Name) (args : List Value) (call : disk.Call) (picks : Picks) → disk_call name args ≡ Some call →
        FallIs past noted_picks (DiskMachine d) (based (tables_in d.kind x)) name args picks (disk_drops past d (based (tables_in d.kind x)) (Some call) picks)
    drops_so x name args call picks named =
        let t = tables_in d.kind x in
        let y = state_in past d.kind t in
        let k = kind_drops d.kind y call picks in
        let r = kind_falls past d.kind y call picks in
        record { step = (t, call, named, refl, (y, r.to, ap (tables_in d.kind) (sym (state_is past d.kind x)), k.0, refl)); took = k.1 }

    module _ (fine : none (disk_errors d) ≡ true) where
      known : DiskAnswers d
      known = disk_answers_all d fine

      -- what a block may ask of the disk, and answers that fit
      abbrev pub MayAsk : Question → Type 0
      MayAsk q = question_fits Impl (disk_operations d) q ≡ true

      abbrev pub Fits : Question → Answer → Type 0
      Fits q a = answer_fits (disk_operations d) q a ≡ true

      call_is : (s : State Env) (name : Name) (args : List Value) (picks : Picks) → IsSized d s → MayAsk (Call name args) →
          CallIs past noted_picks (DiskMachine d) s name args picks ((disk_acts past d).calls s name args picks)
      call_is s name args picks sized may =
          let f = fitting_call (disk_operations d) name args may in
          let can = known.calls s name args f.operation sized f.found f.fit in
          let (b, b', call, reply, named, from_is, (x, z, at, step, shows), answer, to) = can.call in
          subst (λ s. CallIs past noted_picks (DiskMachine d) s name args picks (disk_does past d s (disk_call name args) picks)) (sym (from_is ∙ ap based at))
          (subst (λ c. CallIs past noted_picks (DiskMachine d) (based (tables_in d.kind x)) name args picks
          (disk_does past d (based (tables_in d.kind x)) c picks)) (sym named)
          (does_so x name args call picks named))

      fall_is : (s : State Env) (name : Name) (args : List Value) (picks : Picks) → IsSized d s → MayAsk (Call name args) →
          FallIs past noted_picks (DiskMachine d) s name args picks ((disk_acts past d).falls s name args picks)
      fall_is s name args picks sized may =
          let f = fitting_call (disk_operations d) name args may in
          let can = known.calls s name args f.operation sized f.found f.fit in
          let (b, b', call, reply, named, from_is, (x, z, at, step, shows), answer, to) = can.call in
          subst (λ s. FallIs past noted_picks (DiskMachine d) s name args picks (disk_drops past d s (disk_call name args) picks)) (sym (from_is ∙ ap based at))
          (subst (λ c. FallIs past noted_picks (DiskMachine d) (based (tables_in d.kind x)) name args picks
          (disk_drops past d (based (tables_in d.kind x)) c picks)) (sym named)
          (drops_so x name args call picks named))

      loss_is : (s : State Env) (picks : Picks) → IsSized d s → LossIs past noted_picks (DiskMachine d) s picks ((disk_acts past d).loses s picks)
      loss_is s picks sized =
          let can = known.can_lose s sized in
          let (b, none, from_is, (x, at, shows)) = can.loses in
          subst (λ s. LossIs past noted_picks (DiskMachine d) s picks ((disk_acts past d).loses s picks)) (sym (from_is ∙ ap based at))
          (record {
            step = (tables_in d.kind x, refl, refl, (state_in past d.kind (tables_in d.kind x), ap (tables_in d.kind) (sym (state_is past d.kind x)), refl));
            took = refl;
          })

      -- a disk without type errors serves
      pub disk_serves : Serves past noted_picks (DiskMachine d) (disk_acts past d) (IsSized d) MayAsk Fits
      disk_serves = record {
        no_choice = λ h. absurd (cc);
        calls = call_is;
        keeps = λ s name args picks sized may.
            let f = fitting_call (disk_operations d) name args may in
            known.keeps s _ name args _ _ f.operation sized f.found f.fit (call_is s name args picks sized may).step;
        fit = λ s name args picks sized may.
            let f = fitting_call (disk_operations d) name args may in
            answer_does (disk_operations d) name args f.operation _ f.found
            (known.gives s _ name args _ _ f.operation sized f.found f.fit (call_is s name args picks sized may).step);
        falls = fall_is;
        loses = loss_is;
      }
