-- Calls of the disk's operations on a ground.
use Rattle.std.proofs.Common.{◌≡◌, ℕ, ◌<◌, ◌≤◌, ◌^◌, true, false, List, [], ◌∷◌, Some, None, Option, Result, Ok, Err, codes, ◌&&◌, refl, sym, ap, ◌∙◌, subst}
use Rattle.std.specs.Prelude.{slice_get, IfOk}
use Rattle.ygg_list.specs.declared.memory.NoMemory.{NoMemory}
use Rattle.ygg_value.specs.Number.{Number, Digits}
use Rattle.ygg_value.specs.Shapes.{IsValue, shape_of}
use Rattle.ygg_value.specs.declared.row.Value.{Value}
use Rattle.ygg_value.specs.declared.row.Value.TheVariants.{Word, Row, Table}
use Rattle.ygg_value.specs.declared.shape.Shape.{Shape}
use Rattle.ygg_value.specs.declared.shape.Shape.TheVariants as shape
use Rattle.ygg_syntax.specs.declared.tree.DiskText.{DiskText}
use Rattle.ygg_syntax.specs.declared.tree.File.{File}
use Rattle.ygg_eval.specs.ygg_type_rules.declared.scope.Signature.{Signature}
use Rattle.ygg_eval.specs.ygg_type_rules.TypeErrors.{none}
use Rattle.ygg_eval.specs.ygg_type_rules.Files.{disk_errors, type_errors_of, address, disk_row, disk_operations}
use Rattle.ygg_eval.specs.ygg_disk.Disk as disk
use Rattle.ygg_eval.specs.ygg_disk.Ground as ground
use Rattle.ygg_eval.specs.ygg_disk.declared.power.Power.{Power}
use Rattle.ygg_eval.specs.ygg_disk.declared.turn.Turn.{Turn}
use Rattle.ygg_eval.specs.ygg_disk.declared.turn.Turn.TheVariants as turn
use Rattle.ygg_eval.specs.ygg_meaning.Environments.{Name}
use Rattle.ygg_eval.specs.ygg_meaning.DiskMachine.{disk_call}
use Rattle.ygg_eval.specs.ygg_meaning.Shapes.{fits}
use Rattle.ygg_eval.specs.ygg_meaning_laws.Fitting.{fits_wanted, all_fit}
use Rattle.ygg_eval.specs.ygg_meaning_laws_proofs_Fits.{value_fits}
use Rattle.ygg_eval.specs.ygg_meaning_laws_proofs_Tests.{left, right}
use Rattle.ygg_eval.specs.ygg_meaning_laws_proofs_Disks.{disk_row_is}
use Rattle.ygg_eval.specs.Lower.{Standing, IsCallable, Called, GivesWhole, ending_of}
use Rattle.ygg_machine.specs.Grounded.{row_of, HasRows, ground_meaning}
use Rattle.ygg_machine.specs.Answered.{AnswersValue}

-- a value of the shape of the disk's rows is what a read gives
read_gives : (file : File) → none (disk_errors file.disk) ≡ true → (shape : Shape) → shape ≡ row_of file.disk →
    (v : Value) → shape_of v ≡ shape → IsValue v → fits_wanted (disk_row file.disk) v ≡ true
read_gives file typed shape rows v has is =
    ap (λ (o : Option Shape). fits_wanted o v) (disk_row_is file.disk typed).is ∙ ap (λ (s : Shape). fits s v) (sym (has ∙ rows)) ∙ value_fits v is

module _ {S : Type 0} (G : ground.Meaning S) (file : File) (from to : Standing S) (result : Result Turn NoMemory)
    (down : ground.IsDownWhereNamed from.power result) (row : G.row to.machine ≡ G.row from.machine)
    (later : G.faults from.machine ≤ G.faults to.machine) (counts : from.power.passed < 2 ^ 64) where
  module _ (name : Name) (args : List Value) (place : ℕ) (o : Signature) (call : disk.Call)
      (is : slice_get (disk_operations file.disk) place ≡ Some (name, o))
      (named : disk_call name args ≡ Some call) (turns : ground.Turns G call from.machine to.machine from.power to.power result)
      (gives : GivesWhole o (ending_of result)) where
    called : Called (ground_meaning G) file (disk_operations file.disk) place args (ending_of result) from to
    called = record {
      name = name;
      operation = o;
      is = is;
      gives = gives;
      step = record { call = call; is = named; result = result; ends = refl; turns = turns; down = down; row = row; later = later; counts = counts };
    }

  -- what is answered to a read
  row_gives : none (disk_errors file.disk) ≡ true → HasRows G file from.machine → (r : Result Turn NoMemory) → ground.AnswersRow (G.row from.machine) r →
      IfOk r AnswersValue → GivesWhole (record { arguments = address ∷ []; answers = true; answer = disk_row file.disk }) (ending_of r)
  row_gives typed rows (Ok turn.Done) a v = absurd a
  row_gives typed rows (Ok (turn.Answer x)) a v = read_gives file typed (G.row from.machine) rows x a v
  row_gives typed rows (Ok turn.Down) a v = tt
  row_gives typed rows (Ok turn.Failed) a v = tt
  row_gives typed rows (Err e) a v = tt

  -- what is answered to a call that gives nothing
  nothing_gives : (arguments : List (Option Shape)) → (r : Result Turn NoMemory) → ground.AnswersNothing r →
      GivesWhole (record { arguments = arguments; answers = false; answer = None }) (ending_of r)
  nothing_gives arguments (Ok turn.Done) a = refl
  nothing_gives arguments (Ok (turn.Answer x)) a = absurd a
  nothing_gives arguments (Ok turn.Down) a = tt
  nothing_gives arguments (Ok turn.Failed) a = tt
  nothing_gives arguments (Err e) a = tt

  pub read_called : none (disk_errors file.disk) ≡ true → HasRows G file from.machine → (at : Number) →
      ground.Turns G (disk.Read at.bits) from.machine to.machine from.power to.power result → ground.AnswersRow (G.row from.machine) result →
      IfOk result AnswersValue → Called (ground_meaning G) file (disk_operations file.disk) 0 (Word at ∷ []) (ending_of result) from to
  read_called typed rows at turns answers value =
      called (codes "read") (Word at ∷ []) 0 _ (disk.Read at.bits) refl refl turns (row_gives typed rows result answers value)

  pub write_called : (at : Number) (digits : Digits) → ground.Turns G (disk.Write at.bits digits) from.machine to.machine from.power to.power result →
      ground.AnswersNothing result → Called (ground_meaning G) file (disk_operations file.disk) 1 (Word at ∷ Row digits ∷ []) (ending_of result) from to
  write_called at digits turns answers =
      called (codes "write") (Word at ∷ Row digits ∷ []) 1 _ (disk.Write at.bits digits) refl refl turns
      (nothing_gives (address ∷ disk_row file.disk ∷ []) result answers)

  pub flush_called : ground.Turns G disk.Flush from.machine to.machine from.power to.power result → ground.AnswersNothing result →
      Called (ground_meaning G) file (disk_operations file.disk) 2 [] (ending_of result) from to
  flush_called turns answers = called (codes "flush") [] 2 _ disk.Flush refl refl turns (nothing_gives [] result answers)

-- the operation that was called, and its arguments
same_operation : (a b : Name × Signature) → Some a ≡ Some b → a.1 ≡ b.1
same_operation a b e = let same : a ≡ b = cc in ap (λ (x : Name × Signature). x.1) same

arguments_fit : (d : DiskText) (place n : ℕ) → place ≡ n → (args : List Value) (name : Name) (o : Signature) →
    slice_get (disk_operations d) n ≡ Some (name, o) → (c : IsCallable (disk_operations d) place args) → all_fit o.arguments args ≡ true
arguments_fit d place n is args name o there c =
    let same = same_operation (c.name, c.operation) (name, o) (sym c.is ∙ ap (λ (k : ℕ). slice_get (disk_operations d) k) is ∙ there) in
    subst (λ (s : Signature). all_fit s.arguments args ≡ true) same c.fit

a_word : (v : Value) → fits_wanted address v ≡ true → (w : Number) × (v ≡ Word w)
a_word (Word w) f = (w, refl)
a_word (Row r) f = absurd (cc)
a_word (Table x) f = absurd (cc)

a_row : (words width : ℕ) (v : Value) → fits (shape.Row words width) v ≡ true → (r : Digits) × (v ≡ Row r)
a_row words width (Word w) f = absurd (cc)
a_row words width (Row r) f = (r, refl)
a_row words width (Table x) f = absurd (cc)

-- a read has an address
pub one_word : (d : DiskText) (place : ℕ) → place ≡ 0 → (args : List Value) → IsCallable (disk_operations d) place args → (w : Number) × (args ≡ Word w ∷ [])
one_word d place is args c = at args (arguments_fit d place 0 is args _ _ refl c)
  where
    at : (vs : List Value) → all_fit (address ∷ []) vs ≡ true → (w : Number) × (vs ≡ Word w ∷ [])
    at [] f = absurd (cc)
    at (v ∷ x ∷ rest) f = let g = right (fits_wanted address v) _ f in absurd (cc)
    at (v ∷ []) f = let (w, v_is) = a_word v (left (fits_wanted address v) true f) in (w, ap (λ (x : Value). x ∷ []) v_is)

-- a write has an address and a row
pub word_and_row : (d : DiskText) → none (disk_errors d) ≡ true → (place : ℕ) → place ≡ 1 → (args : List Value) → IsCallable (disk_operations d) place args →
    (w : Number) × (r : Digits) × (args ≡ Word w ∷ Row r ∷ [])
word_and_row d typed place is args c = at args (arguments_fit d place 1 is args _ _ refl c)
  where
    at : (vs : List Value) → all_fit (address ∷ disk_row d ∷ []) vs ≡ true → (w : Number) × (r : Digits) × (vs ≡ Word w ∷ Row r ∷ [])
    at [] f = absurd (cc)
    at (v ∷ []) f = let g = right (fits_wanted address v) _ f in absurd (cc)
    at (v ∷ x ∷ y ∷ rest) f = let g = right (fits_wanted (disk_row d) x) _ (right (fits_wanted address v) _ f) in absurd (cc)
    at (v ∷ x ∷ []) f =
        let (w, v_is) = a_word v (left (fits_wanted address v) (fits_wanted (disk_row d) x && true) f) in
        let row_fit = left (fits_wanted (disk_row d) x) true (right (fits_wanted address v) (fits_wanted (disk_row d) x && true) f) in
        let (r, x_is) = a_row d.words.value d.width.value x (sym (ap (λ (o : Option Shape). fits_wanted o x) (disk_row_is d typed).is) ∙ row_fit) in
        (w, r, ap (λ (z : Value). z ∷ x ∷ []) v_is ∙ ap (λ (z : Value). Word w ∷ z ∷ []) x_is)

-- a flush has no argument
pub no_argument : (d : DiskText) (place : ℕ) → place ≡ 2 → (args : List Value) → IsCallable (disk_operations d) place args → args ≡ []
no_argument d place is args c = at args (arguments_fit d place 2 is args _ _ refl c)
  where
    at : (vs : List Value) → all_fit [] vs ≡ true → vs ≡ []
    at [] f = refl
    at (v ∷ rest) f = absurd (cc)

-- the same, as a ground's field and the arguments have it
module _ {S : Type 0} (G : ground.Meaning S) (file : File) (typed : none (type_errors_of file) ≡ true) (place : ℕ) (args : List Value)
    (inside self : S) (view : inside ≡ self) (new : S) (power power' : Power) (result : Result Turn NoMemory)
    (down : ground.IsDownWhereNamed power result) (row : G.row new ≡ G.row inside) (later : G.faults inside ≤ G.faults new)
    (counts : power.passed < 2 ^ 64) where
  abbrev CalledSo : ℕ → List Value → S → Type 0
  CalledSo n vs s =
      Called (ground_meaning G) file (disk_operations file.disk) n vs (ending_of result) (record { machine = s; power = power })
      (record { machine = new; power = power' })

  moved : (n : ℕ) → place ≡ n → (vs : List Value) → args ≡ vs → CalledSo n vs inside → CalledSo place args self
  moved n is vs are h =
      subst (λ (k : ℕ). CalledSo k args self) (sym is)
      (subst (λ (xs : List Value). CalledSo n xs self) (sym are) (subst (λ (s : S). CalledSo n vs s) view h))

  pub read_so : place ≡ 0 → (w at : Number) → args ≡ Word w ∷ [] → w ≡ at → HasRows G file self →
      ground.Turns G (disk.Read at.bits) inside new power power' result → ground.AnswersRow (G.row inside) result → IfOk result AnswersValue →
      CalledSo place args self
  read_so is w at are at_is rows turns answers value =
      moved 0 is (Word at ∷ []) (are ∙ ap (λ (x : Number). Word x ∷ []) at_is)
      (read_called G file (record { machine = inside; power = power }) (record { machine = new; power = power' }) result down row later counts
      (left (none (disk_errors file.disk)) _ typed) (subst (λ (s : S). HasRows G file s) (sym view) rows) at turns answers value)

  pub write_so : place ≡ 1 → (w at : Number) (r digits : Digits) → args ≡ Word w ∷ Row r ∷ [] → w ≡ at → r ≡ digits →
      ground.Turns G (disk.Write at.bits digits) inside new power power' result → ground.AnswersNothing result →
      CalledSo place args self
  write_so is w at r digits are at_is row_is turns answers =
      moved 1 is (Word at ∷ Row digits ∷ []) (are ∙ ap (λ (x : Number). Word x ∷ Row r ∷ []) at_is ∙ ap (λ (x : Digits). Word at ∷ Row x ∷ []) row_is)
      (write_called G file (record { machine = inside; power = power }) (record { machine = new; power = power' }) result down row later counts
      at digits turns answers)

  pub flush_so : place ≡ 2 → args ≡ [] → ground.Turns G disk.Flush inside new power power' result → ground.AnswersNothing result →
      CalledSo place args self
  flush_so is are turns answers =
      moved 2 is [] are
      (flush_called G file (record { machine = inside; power = power }) (record { machine = new; power = power' }) result down row later counts turns answers)
