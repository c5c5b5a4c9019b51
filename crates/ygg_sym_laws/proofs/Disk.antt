-- A disk as a machine by place takes the picks that are named.
use Rattle.std.proofs.Common.{◌≡◌, ℕ, Bool, false, [], ◌∷◌, ◌++◌, Option, Some, None, refl, sym, ap, ◌∙◌}
use Rattle.ygg_base.specs.declared.geometry.DiskKind.{DiskKind}
use Rattle.ygg_base.specs.declared.geometry.DiskKind.TheVariants.{Sync, Async}
use Rattle.ygg_syntax.specs.declared.tree.DiskText.{DiskText}
use Rattle.ygg_sym_laws.specs.ygg_disk.Disk as disk
use Rattle.ygg_sym_laws.specs.ygg_disk.Kinds.{model_of}
use Rattle.ygg_sym_laws.specs.ygg_meaning.DiskMachine.{disk_call, answer_to, tables_in}
use Rattle.ygg_sym_laws.specs.ygg_meaning.Environments.{Env}
use Rattle.ygg_sym_laws.specs.ygg_meaning.Machine.{Picks, State, based}
use Rattle.ygg_sym_laws.specs.ygg_meaning.Progress.{Question, Choice, Call}
use Rattle.ygg_sym_laws.specs.ygg_meaning.Refines.{OnDisk}
use Rattle.ygg_sym_laws.specs.ygg_meaning_laws.Acts.{Did, Fell}
use Rattle.ygg_sym_laws.specs.ygg_meaning_laws.DiskActs.{Replied, Dropped, kind_calls, kind_falls, state_in, disk_does, disk_drops, disk_acts}
use Rattle.ygg_sym_laws.specs.Fronts.{handle_on, takes_on, cut_on, lose_on, cut_takes_on, lose_takes_on}
use Rattle.ygg_sym_laws.specs.Taking.{whole_picks, cut_picks}
use Rattle.ygg_sym_laws.proofs.Acting.{falls_at, Named, NamedFalls}

replied : (kind : DiskKind) (s : (model_of kind).State) (call : disk.Call) (pick : Bool) (more : Picks) →
    let r = kind_calls false kind s call (pick ∷ []) in
    kind_calls false kind s call (whole_picks kind pick (Some call) ++ more)
    ≡ record { reply = r.reply; to = r.to; taken = whole_picks kind pick (Some call); left = more }
replied Sync s (disk.Read at) pick more = refl
replied Sync s (disk.Write at row) pick more = refl
replied Sync s disk.Flush pick more = refl
replied Async s (disk.Read at) pick more = refl
replied Async s (disk.Write at row) pick more = refl
replied Async s disk.Flush pick more = refl

dropped : (kind : DiskKind) (s : (model_of kind).State) (call : disk.Call) (pick : Bool) →
    kind_falls false kind s call (cut_picks pick (Some call))
    ≡ record { to = (kind_falls false kind s call (pick ∷ [])).to; taken = cut_picks pick (Some call); left = [] }
dropped Sync s (disk.Read at) pick = refl
dropped Sync s (disk.Write at row) pick = refl
dropped Sync s disk.Flush pick = refl
dropped Async s (disk.Read at) pick = refl
dropped Async s (disk.Write at row) pick = refl
dropped Async s disk.Flush pick = refl

no_picks : (kind : DiskKind) (pick : Bool) → whole_picks kind pick None ≡ []
no_picks Sync pick = refl
no_picks Async pick = refl

module _ (d : DiskText) where
  does : (z : State Env) (call : Option disk.Call) (pick : Bool) (more : Picks) →
      let r = disk_does false d z call (pick ∷ []) in
      disk_does false d z call (whole_picks d.kind pick call ++ more)
      ≡ record { answer = r.answer; to = r.to; notes = whole_picks d.kind pick call; left = more }
  does z None pick more =
      let none = no_picks d.kind pick in
      ap (λ ps. let x : Did Env Bool = record { answer = None; to = z; notes = []; left = ps ++ more } in x) none
      ∙ ap (λ ps. let x : Did Env Bool = record { answer = None; to = z; notes = ps; left = more } in x) (sym none)
  does z (Some call) pick more =
      ap (λ (r : Replied (model_of d.kind).State). let x : Did Env Bool =
      record { answer = answer_to r.reply; to = based (tables_in d.kind r.to); notes = r.taken; left = r.left } in x)
      (replied d.kind (state_in false d.kind z.base) call pick more)

  drops : (z : State Env) (call : Option disk.Call) (pick : Bool) →
      disk_drops false d z call (cut_picks pick call)
      ≡ record { base = (disk_drops false d z call (pick ∷ [])).base; notes = cut_picks pick call; left = [] }
  drops z None pick = refl
  drops z (Some call) pick =
      ap (λ (r : Dropped (model_of d.kind).State). let x : Fell Env Bool = record { base = tables_in d.kind r.to; notes = r.taken; left = r.left } in x)
      (dropped d.kind (state_in false d.kind z.base) call pick)

  pub disk_named : (bits : ℕ → Bool) → Named (disk_acts false d) (handle_on (OnDisk d) bits) (takes_on (OnDisk d) bits)
  disk_named bits = record {
    chooses = λ i z. refl;
    none = λ i z. refl;
    calls = λ i f xs z more. does z (disk_call f xs) (bits i) more;
  }

  pub disk_falls_named : (last : ℕ → Bool) →
      NamedFalls (disk_acts false d) (cut_on (OnDisk d) last) (lose_on (OnDisk d) last) (cut_takes_on (OnDisk d) last) (lose_takes_on (OnDisk d) last)
  disk_falls_named last = record { cuts = cuts; loses = λ z. refl }
    where
      cuts : (q : Question) (z : State Env) → falls_at (disk_acts false d) q z (cut_takes_on (OnDisk d) last q z)
          ≡ record { base = cut_on (OnDisk d) last q z; notes = cut_takes_on (OnDisk d) last q z; left = [] }
      cuts Choice z = refl
      cuts (Call f xs) z = drops z (disk_call f xs) (last 0)
