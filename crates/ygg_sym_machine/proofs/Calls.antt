-- What calls on a disk make and leave, step by step.
use Rattle.std.proofs.Common.{
  ◌≡◌,
  ℕ,
  Some,
  List,
  [],
  ◌∷◌,
  None,
  slice_get,
  get_or,
  length,
  ◌≤◌,
  ◌⊎◌,
  inl,
  inr,
  sym,
  ap,
  ◌∙◌,
  Result,
  Ok,
  Err,
  IsErr,
  OnOk,
  arith,
}
use Rattle.ygg_base.specs.declared.geometry.DiskKind.{DiskKind}
use Rattle.ygg_base.specs.declared.geometry.DiskKind.TheVariants.{Sync, Async}
use Rattle.ygg_syntax.specs.declared.tree.DiskText.{DiskText}
use Rattle.ygg_sym_runs.specs.ygg_meaning.Stack.{tables_of_kind}
use Rattle.ygg_sym_runs.specs.ygg_rules.declared.rule.RuleKind.{RuleKind}
use Rattle.ygg_sym_runs.specs.ygg_bank.Nodes.{Extends, Stands}
use Rattle.ygg_sym_runs.specs.ygg_bank_proofs_Widths.{extends_length}
use Rattle.ygg_sym_runs.specs.ygg_bank.Makes.{Make, Out, pure, and_make}
use Rattle.ygg_sym_runs.specs.ygg_bank.Making.{made}
use Rattle.ygg_sym_runs.specs.ygg_bank.declared.node.Id.{Id}
use Rattle.ygg_sym_runs.specs.ygg_bank.declared.node.Node.{Node}
use Rattle.ygg_sym_runs.specs.ygg_bank.declared.node.Node.TheVariants.{Input}
use Rattle.ygg_sym_runs.specs.ygg_shape_cells.declared.terms.SymValue.{SymValue}
use Rattle.ygg_sym_runs.specs.Cuts.{call_cuts}
use Rattle.ygg_sym_runs.specs.Disks.{Done, Write, async_does, disk_asked, done, reads, writes, writes_where}
use Rattle.ygg_sym_runs.specs.Putting.{row_in}
use Rattle.ygg_sym_runs.specs.Lows.{LowShaped}
use Rattle.ygg_sym_machine.specs.Asking.{asked_call, second_row}
use Rattle.ygg_sym_machine.specs.declared.asking.Ask.{Ask}
use Rattle.ygg_sym_machine.specs.declared.asking.Ask.TheVariants as ask

-- where it was refused nothing holds of what was given
pub on_ok_refused : {A E : Type 0} (r : Result A E) (P : Type 0) → IsErr r → OnOk r P
on_ok_refused (Ok a) P h = absurd (cc)
on_ok_refused (Err e) P h = tt

-- what always holds
pub on_ok_always : {A E P : Type 0} (r : Result A E) → P → OnOk r P
on_ok_always (Ok a) p = p
on_ok_always (Err e) p = tt

-- what stands there stands among more nodes
pub place_stands : (old new : List Node) (a : Id) → Extends old new → Stands old a → Stands new a
place_stands old new a more here = omega (arith, here, extends_length old new more)

-- two steps, and three of which the third knows of the first
two_from : {A C D : Type 0} (first : Make A) (then : A → Make C) (give : C → D) (kept : A) (left : C) (old one new : List Node) →
    kept ≡ (first old).value → one ≡ (first old).nodes → left ≡ (then kept one).value → new ≡ (then kept one).nodes →
    (let o : Out D = record { value = give left; nodes = new } in o) ≡ and_make first (λ k. and_make (then k) (λ l. pure (give l))) old
two_from first then give kept left old one new a b c d = cc

three_from : {A B C D : Type 0} (first : Make A) (second : Make B) (third : A → Make C) (give : B → C → D) (kept : A) (seen : B) (left : C)
    (old one two new : List Node) → kept ≡ (first old).value → one ≡ (first old).nodes → seen ≡ (second one).value → two ≡ (second one).nodes →
    left ≡ (third kept two).value → new ≡ (third kept two).nodes →
    (let o : Out D = record { value = give seen left; nodes = new } in o)
    ≡ and_make first (λ k. and_make second (λ s. and_make (third k) (λ l. pure (give s l)))) old
three_from first second third give kept seen left old one two new a b c d e f = cc

module _ (kinds : List RuleKind) (d : DiskText) (number : ℕ) (at : Id) (row : List Id) (old : List Node) (kept : Id) (one : List Node)
    (keeps : kept ≡ (made kinds (Input number 1) old).value) (first : one ≡ (made kinds (Input number 1) old).nodes) where
  -- a write on an asynchronous disk
  pub async_written : (two new : List Node) (view stable seen left : SymValue) (tables : List SymValue) → LowShaped old (tables_of_kind Async d) tables →
      slice_get tables 0 ≡ Some view → slice_get tables 1 ≡ Some stable → seen ≡ (writes kinds at row view one).value →
      two ≡ (writes kinds at row view one).nodes → left ≡ (writes_where kinds kept at row stable two).value →
      new ≡ (writes_where kinds kept at row stable two).nodes →
      (let o : Out Done = record { value = done None (seen ∷ left ∷ []); nodes = new } in o) ≡ async_does kinds number (Write at row) tables old
  async_written two new view stable seen left (a ∷ b ∷ []) shaped here there e f g h =
      let v : view ≡ a = cc in
      let s : stable ≡ b = cc in
      three_from (made kinds (Input number 1)) (writes kinds at row a) (λ k. writes_where kinds k at row b) (λ x y. done None (x ∷ y ∷ [])) kept seen left
      old one two new keeps first
      (e ∙ ap (λ t. (writes kinds at row t one).value) v) (f ∙ ap (λ t. (writes kinds at row t one).nodes) v)
      (g ∙ ap (λ t. (writes_where kinds kept at row t two).value) s) (h ∙ ap (λ t. (writes_where kinds kept at row t two).nodes) s)
  async_written two new view stable seen left [] shaped here there e f g h = absurd shaped
  async_written two new view stable seen left (a ∷ []) shaped here there e f g h = absurd (shaped.1)
  async_written two new view stable seen left (a ∷ b ∷ z ∷ tables) shaped here there e f g h = let more = shaped.1 in absurd (more.1)

  -- power that fails within a write, on a synchronous disk
  pub sync_cut : (kind : DiskKind) (new : List Node) (view left : SymValue) (tables : List SymValue) → kind ≡ Sync →
      LowShaped old (tables_of_kind kind d) tables → slice_get tables 0 ≡ Some view → left ≡ (writes_where kinds kept at row view one).value →
      new ≡ (writes_where kinds kept at row view one).nodes →
      (let o : Out (List SymValue) = record { value = left ∷ []; nodes = new } in o) ≡ call_cuts kinds kind number (Some (Write at row)) tables old
  sync_cut Sync new view left (a ∷ []) is shaped here g h =
      let v : view ≡ a = cc in
      two_from (made kinds (Input number 1)) (λ k. writes_where kinds k at row a) (λ x. x ∷ []) kept left old one new keeps first
      (g ∙ ap (λ t. (writes_where kinds kept at row t one).value) v) (h ∙ ap (λ t. (writes_where kinds kept at row t one).nodes) v)
  sync_cut Sync new view left [] is shaped here g h = absurd shaped
  sync_cut Sync new view left (a ∷ b ∷ tables) is shaped here g h = absurd (shaped.1)
  sync_cut Async new view left tables is shaped here g h = absurd (cc)

  -- and on an asynchronous one
  pub async_cut : (kind : DiskKind) (new : List Node) (stable left : SymValue) (tables : List SymValue) → kind ≡ Async →
      LowShaped old (tables_of_kind kind d) tables → slice_get tables 1 ≡ Some stable → left ≡ (writes_where kinds kept at row stable one).value →
      new ≡ (writes_where kinds kept at row stable one).nodes →
      (let o : Out (List SymValue) = record { value = left ∷ left ∷ []; nodes = new } in o)
      ≡ call_cuts kinds kind number (Some (Write at row)) tables old
  async_cut Async new stable left (a ∷ b ∷ []) is shaped there g h =
      let s : stable ≡ b = cc in
      two_from (made kinds (Input number 1)) (λ k. writes_where kinds k at row b) (λ x. x ∷ x ∷ []) kept left old one new keeps first
      (g ∙ ap (λ t. (writes_where kinds kept at row t one).value) s) (h ∙ ap (λ t. (writes_where kinds kept at row t one).nodes) s)
  async_cut Async new stable left [] is shaped there g h = absurd shaped
  async_cut Async new stable left (a ∷ []) is shaped there g h = absurd (shaped.1)
  async_cut Async new stable left (a ∷ b ∷ z ∷ tables) is shaped there g h = let more = shaped.1 in absurd (more.1)
  async_cut Sync new stable left tables is shaped there g h = absurd (cc)

-- the row of the second argument is the row that was looked up
pub second_is : (args : List SymValue) (x : SymValue) (row : List Id) → 2 ≤ length args → x ≡ get_or args 1 x → row ≡ row_in x → row ≡ second_row args
second_is [] x row some here is = absurd (omega arith)
second_is (a ∷ []) x row some here is = absurd (omega arith)
second_is (a ∷ b ∷ args) x row some here is = is ∙ ap row_in here

one_from : {A C : Type 0} (first : Make A) (give : A → C) (a : A) (old new : List Node) → a ≡ (first old).value → new ≡ (first old).nodes →
    (let o : Out C = record { value = give a; nodes = new } in o) ≡ and_make first (λ x. pure (give x)) old
one_from first give a old new here there = cc

module _ (kinds : List RuleKind) (d : DiskText) (number : ℕ) (q : Ask) (args : List SymValue) (old : List Node) where
  asks : DiskKind → List SymValue → Ask → Out Done
  asks kind tables z = disk_asked kinds kind number (asked_call z args) tables old

  -- what is no call does nothing
  pub nothing_asked : (kind : DiskKind) (tables : List SymValue) → q ≡ ask.Nothing →
      (let o : Out Done = record { value = done None tables; nodes = old } in o) ≡ disk_asked kinds kind number (asked_call q args) tables old
  unfolding asks
  nothing_asked kind tables is = sym (ap (asks kind tables) is)

  -- nor does what a synchronous disk is asked to make stable
  pub still_asked : (tables : List SymValue) → (q ≡ ask.Nothing) ⊎ (q ≡ ask.Flush) →
      (let o : Out Done = record { value = done None tables; nodes = old } in o) ≡ disk_asked kinds Sync number (asked_call q args) tables old
  unfolding asks
  still_asked tables (inl is) = sym (ap (asks Sync tables) is)
  still_asked tables (inr is) = sym (ap (asks Sync tables) is)

  -- a read
  pub read_asked : (kind : DiskKind) (at : Id) (view : SymValue) (tables : List SymValue) → q ≡ ask.Read at → LowShaped old (tables_of_kind kind d) tables →
      slice_get tables 0 ≡ Some view → reads kinds at view tables old ≡ disk_asked kinds kind number (asked_call q args) tables old
  unfolding asks
  read_asked Sync at view (a ∷ []) is shaped here =
      let v : view ≡ a = cc in ap (λ x. reads kinds at x (a ∷ []) old) v ∙ sym (ap (asks Sync (a ∷ [])) is)
  read_asked Sync at view [] is shaped here = absurd shaped
  read_asked Sync at view (a ∷ b ∷ tables) is shaped here = absurd (shaped.1)
  read_asked Async at view (a ∷ b ∷ []) is shaped here =
      let v : view ≡ a = cc in ap (λ x. reads kinds at x (a ∷ b ∷ []) old) v ∙ sym (ap (asks Async (a ∷ b ∷ [])) is)
  read_asked Async at view [] is shaped here = absurd shaped
  read_asked Async at view (a ∷ []) is shaped here = absurd (shaped.1)
  read_asked Async at view (a ∷ b ∷ z ∷ tables) is shaped here = let more = shaped.1 in absurd (more.1)

  -- a write on a synchronous disk
  pub write_asked : (at : Id) (row : List Id) (view new : SymValue) (nodes : List Node) (tables : List SymValue) → q ≡ ask.Write at → row ≡ second_row args →
      LowShaped old (tables_of_kind Sync d) tables → slice_get tables 0 ≡ Some view → new ≡ (writes kinds at row view old).value →
      nodes ≡ (writes kinds at row view old).nodes →
      (let o : Out Done = record { value = done None (new ∷ []); nodes = nodes } in o) ≡ disk_asked kinds Sync number (asked_call q args) tables old
  unfolding asks
  write_asked at row view new nodes (a ∷ []) is same shaped here made left =
      let v : view ≡ a = cc in
      one_from (writes kinds at (second_row args) a) (λ x. done None (x ∷ [])) new old nodes
      (made ∙ ap (λ r. (writes kinds at r view old).value) same ∙ ap (λ x. (writes kinds at (second_row args) x old).value) v)
      (left ∙ ap (λ r. (writes kinds at r view old).nodes) same ∙ ap (λ x. (writes kinds at (second_row args) x old).nodes) v)
      ∙ sym (ap (asks Sync (a ∷ [])) is)
  write_asked at row view new nodes [] is same shaped here made left = absurd shaped
  write_asked at row view new nodes (a ∷ b ∷ tables) is same shaped here made left = absurd (shaped.1)

  -- a write on an asynchronous disk
  pub async_asked : (at : Id) (row : List Id) (tables : List SymValue) → q ≡ ask.Write at → row ≡ second_row args →
      async_does kinds number (Write at row) tables old ≡ disk_asked kinds Async number (asked_call q args) tables old
  unfolding asks
  async_asked at row tables is same = ap (λ r. async_does kinds number (Write at r) tables old) same ∙ sym (ap (asks Async tables) is)

  -- an asynchronous disk makes what it shows stable
  pub flush_asked : (view : SymValue) (tables : List SymValue) → q ≡ ask.Flush → LowShaped old (tables_of_kind Async d) tables →
      slice_get tables 0 ≡ Some view →
      (let o : Out Done = record { value = done None (view ∷ view ∷ []); nodes = old } in o)
      ≡ disk_asked kinds Async number (asked_call q args) tables old
  unfolding asks
  flush_asked view (a ∷ b ∷ []) is shaped here =
      let v : view ≡ a = cc in
      ap (λ (x : SymValue). let o : Out Done = record { value = done None (x ∷ x ∷ []); nodes = old } in o) v ∙ sym (ap (asks Async (a ∷ b ∷ [])) is)
  flush_asked view [] is shaped here = absurd shaped
  flush_asked view (a ∷ []) is shaped here = absurd (shaped.1)
  flush_asked view (a ∷ b ∷ z ∷ tables) is shaped here = let more = shaped.1 in absurd (more.1)
