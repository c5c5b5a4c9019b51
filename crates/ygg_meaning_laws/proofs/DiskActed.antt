-- A disk does what its function of picks says.
use Rattle.std.proofs.Common.{◌≡◌, Bool, [], ◌∷◌, Some, refl, sym, ap, ◌∙◌, subst}
use Rattle.ygg_syntax.specs.declared.tree.DiskText.{DiskText}
use Rattle.ygg_base.specs.declared.geometry.DiskKind.{DiskKind}
use Rattle.ygg_base.specs.declared.geometry.DiskKind.TheVariants.{Sync, Async}
use Rattle.ygg_meaning_laws.specs.ygg_disk.Disk as disk
use Rattle.ygg_meaning_laws.specs.Environments.{Env}
use Rattle.ygg_meaning_laws.specs.Progress.{Answer}
use Rattle.ygg_meaning_laws.specs.Machine.{Picks, State, based}
use Rattle.ygg_meaning_laws.specs.ygg_disk.Kinds.{model_of}
use Rattle.ygg_meaning_laws.specs.DiskMachine.{answer_to, tables_in, DiskMachine}
use Rattle.ygg_meaning_laws.specs.Acts.{next_of, later, Taken, Did, Fell, noted_picks, IsActed}
use Rattle.ygg_meaning_laws.specs.DiskActs.{Replied, Dropped, kind_calls, kind_falls, state_in, disk_does, disk_drops, disk_acts}

module _ (past : Bool) where
  -- the tables that a disk shows tell its state
  pub state_is : (kind : DiskKind) (s : (model_of kind).State) → state_in past kind (tables_in kind s) ≡ s
  state_is Sync s = refl
  state_is Async s = refl

  pub call_replies : (kind : DiskKind) (s t : (model_of kind).State) (call : disk.Call) (taken picks left : Picks) (reply : disk.Reply) →
      (model_of kind).Calls s call taken reply t → Taken past taken picks left →
      kind_calls past kind s call picks ≡ record { reply = reply; to = t; taken = taken; left = left }
  call_replies Sync s t (disk.Read at) taken picks left reply (n, y, to) took =
      let l : left ≡ picks = subst (λ z. Taken past z picks left) n took in cc
  call_replies Sync s t (disk.Write at row) taken picks left reply (n, y, to) took =
      let l : left ≡ picks = subst (λ z. Taken past z picks left) n took in cc
  call_replies Sync s t disk.Flush taken picks left reply (n, y, to) took =
      let l : left ≡ picks = subst (λ z. Taken past z picks left) n took in cc
  call_replies Async s t (disk.Read at) taken picks left reply (n, y, to) took =
      let l : left ≡ picks = subst (λ z. Taken past z picks left) n took in cc
  call_replies Async s t (disk.Write at row) taken picks left reply (kept, n, y, to) took =
      let l : Taken past (kept ∷ []) picks left = subst (λ z. Taken past z picks left) n took in
      let k : kept ≡ next_of past picks = l.0 in let m : left ≡ later picks = l.1 in cc
  call_replies Async s t disk.Flush taken picks left reply (n, y, to) took =
      let l : left ≡ picks = subst (λ z. Taken past z picks left) n took in cc

  pub fall_drops : (kind : DiskKind) (s t : (model_of kind).State) (call : disk.Call) (taken picks left : Picks) →
      (model_of kind).Falls s call taken t → Taken past taken picks left → kind_falls past kind s call picks ≡ record { to = t; taken = taken; left = left }
  fall_drops Sync s t (disk.Read at) taken picks left (n, to) took = let l : left ≡ picks = subst (λ z. Taken past z picks left) n took in cc
  fall_drops Sync s t (disk.Write at row) taken picks left (kept, n, to) took =
      let l : Taken past (kept ∷ []) picks left = subst (λ z. Taken past z picks left) n took in
      let k : kept ≡ next_of past picks = l.0 in let m : left ≡ later picks = l.1 in cc
  fall_drops Sync s t disk.Flush taken picks left (n, to) took = let l : left ≡ picks = subst (λ z. Taken past z picks left) n took in cc
  fall_drops Async s t (disk.Read at) taken picks left (n, to) took = let l : left ≡ picks = subst (λ z. Taken past z picks left) n took in cc
  fall_drops Async s t (disk.Write at row) taken picks left (kept, n, to) took =
      let l : Taken past (kept ∷ []) picks left = subst (λ z. Taken past z picks left) n took in
      let k : kept ≡ next_of past picks = l.0 in let m : left ≡ later picks = l.1 in cc
  fall_drops Async s t disk.Flush taken picks left (n, to) took = let l : left ≡ picks = subst (λ z. Taken past z picks left) n took in cc

  -- whatever a disk does is what its function says
  pub disk_acted : (d : DiskText) → IsActed past noted_picks (DiskMachine d) (disk_acts past d)
  disk_acted d = record {
    calls = λ s s' name args notes picks left y h took.
        let (b, b', call, reply, named, from_is, (x, z, at, step, shows), answer, to) = h in
        ap (λ c. disk_does past d s c picks) named
        ∙ ap (λ (e : State Env). disk_does past d e (Some call) picks) (from_is ∙ ap based at)
        ∙ ap (λ x. did d (kind_calls past d.kind x call picks)) (state_is d.kind x)
        ∙ ap (did d) (call_replies d.kind x z call notes picks left reply step took)
        ∙ made_so (answer_to reply) y (based (tables_in d.kind z)) s' notes left (sym answer) (ap based (sym shows) ∙ sym to);
    falls = λ s name args notes picks left f h took.
        let (b, call, named, from_is, (x, z, at, step, shows)) = h in
        ap (λ c. disk_drops past d s c picks) named
        ∙ ap (λ (e : State Env). disk_drops past d e (Some call) picks) (from_is ∙ ap based at)
        ∙ ap (λ x. fell d (kind_falls past d.kind x call picks)) (state_is d.kind x)
        ∙ ap (fell d) (fall_drops d.kind x z call notes picks left step took)
        ∙ ap (λ (e : Env). let r : Fell Env Bool = record { base = e; notes = notes; left = left } in r) (sym shows);
    loses = λ s notes picks left f h took.
        let (b, none, from_is, (x, at, shows)) = h in
        ap (λ (e : State Env). lost d picks (state_in past d.kind e.base)) (from_is ∙ ap based at)
        ∙ ap (lost d picks) (state_is d.kind x)
        ∙ lost_so _ f notes picks left (sym shows) none (subst (λ t. Taken past t picks left) none took);
  }
    where
      did : (d : DiskText) → Replied (model_of d.kind).State → Did Env Bool
      did d r = record { answer = answer_to r.reply; to = based (tables_in d.kind r.to); notes = r.taken; left = r.left }

      fell : (d : DiskText) → Dropped (model_of d.kind).State → Fell Env Bool
      fell d r = record { base = tables_in d.kind r.to; notes = r.taken; left = r.left }

      lost : (d : DiskText) → Picks → (model_of d.kind).State → Fell Env Bool
      lost d picks x = record { base = tables_in d.kind ((model_of d.kind).lost x); notes = []; left = picks }

      made_so : (y z : Answer) (s t : State Env) (notes left : Picks) → y ≡ z → s ≡ t →
          record { answer = y; to = s; notes = notes; left = left } ≡ (let r : Did Env Bool = record { answer = z; to = t; notes = notes; left = left } in r)
      made_so y z s t notes left h g = cc

      lost_so : (e f : Env) (notes picks left : Picks) → e ≡ f → notes ≡ [] → left ≡ picks →
          record { base = e; notes = []; left = picks } ≡ (let r : Fell Env Bool = record { base = f; notes = notes; left = left } in r)
      lost_so e f notes picks left h n l = cc
