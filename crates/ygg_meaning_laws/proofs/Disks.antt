-- A disk answers each of its operations, whatever its tables are.
use Rattle.std.proofs.Common.{◌≡◌, ◌&&◌, Bool, true, false, if◌then◌else◌, List, [], ◌∷◌, ◌++◌, length, Some, None, codes, refl, sym, ap, ◌∙◌, subst, arith}
use Rattle.std.specs.Str.{bytes_eq}
use Rattle.std.proofs.lemmas.Bool.{and_from}
use Rattle.ygg_base.specs.declared.reason.Reason.TheVariants as reason
use Rattle.ygg_value.specs.declared.shape.Shape.TheVariants as shape
use Rattle.ygg_value.specs.Shapes.{IsShape}
use Rattle.ygg_value.specs.Values.{word_in, row_in, table_read, table_write}
use Rattle.ygg_value.specs.declared.row.Value.{Value}
use Rattle.ygg_syntax.specs.declared.tree.DiskText.{DiskText}
use Rattle.ygg_base.specs.declared.geometry.DiskKind.{DiskKind}
use Rattle.ygg_base.specs.declared.geometry.DiskKind.TheVariants.{Sync, Async}
use Rattle.ygg_meaning_laws.specs.ygg_type_rules.Names.{Named, look_up}
use Rattle.ygg_meaning_laws.specs.Signature.{Signature}
use Rattle.ygg_meaning_laws.specs.TypeErrors.{none, unless}
use Rattle.ygg_meaning_laws.specs.Limits.{width_fits, words_fit, rows_fit, words_fit_in}
use Rattle.ygg_meaning_laws.specs.Files.{disk_errors, address, disk_row, disk_operations}
use Rattle.ygg_meaning.specs.Disk as disk
use Rattle.ygg_meaning.specs.Kinds.{Model, model_of}
use Rattle.ygg_meaning.specs.Environments.{Name, Env}
use Rattle.ygg_meaning.specs.Progress.{Answer}
use Rattle.ygg_meaning.specs.Machine.{Picks, State, based}
use Rattle.ygg_meaning.specs.Runs.{Dialogue, WholeCall, Reaches}
use Rattle.ygg_meaning.specs.DiskMachine.{disk_call, answer_to, tables_in, DiskMachine}
use Rattle.ygg_meaning.specs.Under.{Failure, InCall, InTick, Between, FailsBy}
use Rattle.ygg_meaning_laws.proofs.Tests.{left as first_of, right as second_of, passed, width_within, words_within, bytes_same, bytes_equal}
use Rattle.ygg_meaning_laws.specs.Machines.{CanCall, CanFall, CanLose}

-- the rows of a disk without type errors have a shape
pub record RowIs (d : DiskText) : Type 0 where
  pub is : disk_row d ≡ Some (shape.Row d.words.value d.width.value)
  pub limits : IsShape (shape.Row d.words.value d.width.value)

pub disk_row_is : (d : DiskText) → none (disk_errors d) ≡ true → RowIs d
disk_row_is d e =
    let first = none (unless (rows_fit d.rows.value) reason.Limit d.rows.place) in
    let second = none (unless (words_fit_in d.rows.value d.words.value) reason.Limit d.words.place) in
    let third = none (unless (width_fits d.width.value) reason.Width d.width.place) in
    let rest = second_of first (second && third) e in
    let words = first_of (words_fit d.words.value) _ (passed (words_fit_in d.rows.value d.words.value) reason.Limit d.words.place
    (first_of second third rest)) in
    let width = passed (width_fits d.width.value) reason.Width d.width.place (second_of second third rest) in
    record {
      is = ap (λ b. if b then Some (shape.Row d.words.value d.width.value) else None)
          (and_from (words_fit d.words.value) (width_fits d.width.value) words width);
      limits = (words_within d.words.value words, width_within d.width.value width);
    }

-- a call of the disk
pub record IsDiskCall (name : Name) (args : List Value) : Type 0 where
  pub call : disk.Call
  pub is : disk_call name args ≡ Some call

reads : (args : List Value) → length args ≡ 1 → IsDiskCall (codes "read") args
reads [] n = absurd (omega arith)
reads (at ∷ []) n = record {
  call = disk.Read (word_in at).bits;
  is =
      ap (λ b. if b then Some (disk.Read (word_in at).bits) else None) (bytes_equal (codes "read"));
}
reads (at ∷ b ∷ rest) n = absurd (omega arith)

writes : (args : List Value) → length args ≡ 2 → IsDiskCall (codes "write") args
writes [] n = absurd (omega arith)
writes (at ∷ []) n = absurd (omega arith)
writes (at ∷ row ∷ []) n = record {
  call = disk.Write (word_in at).bits (row_in row);
  is =
      ap (λ b. if b then Some (disk.Write (word_in at).bits (row_in row)) else None) (bytes_equal (codes "write"));
}
writes (at ∷ row ∷ b ∷ rest) n = absurd (omega arith)

flushes : (args : List Value) → length args ≡ 0 → IsDiskCall (codes "flush") args
flushes [] n = record { call = disk.Flush; is = ap (λ b. if b then Some disk.Flush else None) (bytes_equal (codes "flush")) }
flushes (b ∷ rest) n = absurd (omega arith)

-- the others after the first of some names
abbrev pub rest_of : Named Signature → Named Signature
rest_of [] = []
rest_of (o ∷ rest) = rest

signature_is : (a b : Signature) → Some a ≡ Some b → a ≡ b
signature_is a b h = cc

-- an operation of the disk with as many arguments is a call of it
pub is_call : (d : DiskText) (name : Name) (args : List Value) (o : Signature) → look_up name (disk_operations d) ≡ Some o →
    length args ≡ length o.arguments → IsDiskCall name args
is_call d name args o h n = by_read (bytes_eq (codes "read") name) refl h
  where
    from : (s : Signature) → Some s ≡ Some o → (word : Name) → bytes_eq word name ≡ true → (length args ≡ length s.arguments → IsDiskCall word args) →
        IsDiskCall name args
    from s h word e make = subst (λ x. IsDiskCall x args) (bytes_same word name e)
        (make (n ∙ ap (λ (x : Signature). length x.arguments) (sym (signature_is s o h))))

    by_flush : (c : Bool) → bytes_eq (codes "flush") name ≡ c →
        (if c then Some (record { arguments = []; answers = false; answer = None }) else None) ≡ Some o → IsDiskCall name args
    by_flush true e h = from _ h (codes "flush") e (flushes args)
    by_flush false e h = absurd (cc)

    by_write : (b : Bool) → bytes_eq (codes "write") name ≡ b →
        (if b then Some (record { arguments = address ∷ disk_row d ∷ []; answers = false; answer = None }) else look_up name
        (rest_of (rest_of (disk_operations d)))) ≡ Some o → IsDiskCall name args
    by_write true e h = from _ h (codes "write") e (writes args)
    by_write false e h = by_flush (bytes_eq (codes "flush") name) refl h

    by_read : (b : Bool) → bytes_eq (codes "read") name ≡ b →
        (if b then Some (record { arguments = address ∷ []; answers = true; answer = disk_row d }) else look_up name (rest_of (disk_operations d)))
        ≡ Some o → IsDiskCall name args
    by_read true e h = from _ h (codes "read") e (reads args)
    by_read false e h = by_write (bytes_eq (codes "write") name) refl h

-- a kind of disk makes each call
pub record Makes (K : Model) (from : K.State) (call : disk.Call) : Type 0 where
  pub picks : Picks
  pub reply : disk.Reply
  pub to : K.State
  pub makes : K.Calls from call picks reply to

pub makes : (kind : DiskKind) (from : (model_of kind).State) (call : disk.Call) → Makes (model_of kind) from call
makes Sync from (disk.Read at) = record { picks = []; reply = Some (table_read from at); to = from; makes = (refl, refl, refl) }
makes Sync from (disk.Write at row) = record { picks = []; reply = None; to = table_write from at row; makes = (refl, refl, refl) }
makes Sync from disk.Flush = record { picks = []; reply = None; to = from; makes = (refl, refl, refl) }
makes Async from (disk.Read at) = record { picks = []; reply = Some (table_read from.view at); to = from; makes = (refl, refl, refl) }
makes Async from (disk.Write at row) = record { picks = true ∷ []; reply = None; to = disk.written true from at row; makes = (true, refl, refl, refl) }
makes Async from disk.Flush = record { picks = []; reply = None; to = record { view = from.view; stable = from.view }; makes = (refl, refl, refl) }

-- power can cut each call
pub record Cuts (K : Model) (from : K.State) (call : disk.Call) : Type 0 where
  pub picks : Picks
  pub to : K.State
  pub cuts : K.Falls from call picks to

pub cuts : (kind : DiskKind) (from : (model_of kind).State) (call : disk.Call) → Cuts (model_of kind) from call
cuts Sync from (disk.Read at) = record { picks = []; to = from; cuts = (refl, refl) }
cuts Sync from (disk.Write at row) = record { picks = true ∷ []; to = table_write from at row; cuts = (true, refl, refl) }
cuts Sync from disk.Flush = record { picks = []; to = from; cuts = (refl, refl) }
cuts Async from (disk.Read at) = record { picks = []; to = disk.lost from; cuts = (refl, refl) }
cuts Async from (disk.Write at row) = record { picks = true ∷ []; to = disk.lost (disk.written true from at row); cuts = (true, refl, refl) }
cuts Async from disk.Flush = record { picks = []; to = disk.lost from; cuts = (refl, refl) }

-- a state of a kind of disk
pub record Shows (kind : DiskKind) (s : State Env) : Type 0 where
  pub disk : (model_of kind).State
  pub is : s ≡ based (tables_in kind disk)

module _ (disk_text : DiskText) where
  -- what power loss leaves is a state of it
  pub shows_fallen : (s : State Env) (how : Failure) (picks : Picks) (f : Env) → FailsBy (DiskMachine disk_text) how s picks f → Shows disk_text.kind (based f)
  shows_fallen s (InCall name args) picks f h = let (b, call, e, from, (d, d', at, falls, is)) = h in record { disk = d'; is = ap based is }
  shows_fallen s (InTick name) picks f h = absurd h
  shows_fallen s Between picks f h = let (b, none, from, (d, at, is)) = h in record { disk = (model_of disk_text.kind).lost d; is = ap based is }

  -- whatever has been called, it is in a state of it
  pub shows_after : (block : Dialogue) (told : List Answer) (from : State Env) (calls : List (WholeCall Env Bool)) (to : State Env) →
      Reaches (DiskMachine disk_text) block told from calls to → Shows disk_text.kind from → Shows disk_text.kind to
  shows_after block told from [] to h s = record { disk = s.disk; is = sym h ∙ s.is }
  shows_after block told from (c ∷ calls) to (asks, step, rest) s =
      let (b, b', call, reply, e, from_is, (d, d', at, made, to_is), y, is) = step in
      shows_after block (told ++ c.answer ∷ []) c.after calls to rest (record { disk = d'; is = is ∙ ap based to_is })

-- the machine of a disk answers each of its calls
pub disk_answers : (d : DiskText) (s : State Env) (name : Name) (args : List Value) → Shows d.kind s → IsDiskCall name args →
    CanCall (DiskMachine d) s name args
disk_answers d s name args shows c =
    let m = makes d.kind shows.disk c.call in record {
      picks = m.picks;
      answer = answer_to m.reply;
      to = based (tables_in d.kind m.to);
      call = (tables_in d.kind shows.disk, tables_in d.kind m.to, c.call, m.reply, c.is, shows.is, (shows.disk, m.to, refl, m.makes, refl), refl, refl);
    }

-- and power can cut each of them
pub disk_cuts : (d : DiskText) (s : State Env) (name : Name) (args : List Value) → Shows d.kind s → IsDiskCall name args → CanFall (DiskMachine d) s name args
disk_cuts d s name args shows c =
    let m = cuts d.kind shows.disk c.call in
    record {
      picks = m.picks;
      fallen = tables_in d.kind m.to;
      falls =
          (tables_in d.kind shows.disk, c.call, c.is, shows.is, (shows.disk, m.to, refl, m.cuts, refl));
    }

-- or be lost between them
pub disk_loses : (d : DiskText) (s : State Env) → Shows d.kind s → CanLose (DiskMachine d) s
disk_loses d s shows = record {
  picks = [];
  fallen = tables_in d.kind ((model_of d.kind).lost shows.disk);
  loses =
      (tables_in d.kind shows.disk, refl, shows.is, (shows.disk, refl, refl));
}
