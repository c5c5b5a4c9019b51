-- What a guarded write is worth, and its shape, under one valuation of the nodes at the end.
use Rattle.std.proofs.Common.{
  ◌≡◌,
  ◌<◌,
  ◌^◌,
  ◌==◌,
  ◌+◌,
  ℕ,
  zero,
  suc,
  Bool,
  true,
  false,
  ◌&&◌,
  if◌then◌else◌,
  Option,
  Some,
  None,
  List,
  [],
  ◌∷◌,
  length,
  map,
  All,
  slice_get,
  slice_set,
  refl,
  sym,
  ap,
  ◌∙◌,
  subst,
  arith,
}
use Rattle.std.specs.Prelude.{nat_lt}
use Rattle.std.proofs.lemmas.Bool.Decides.{nat_tests}
use Rattle.std.proofs.lemmas.List.Elements.{All-head, All-tail, All-cons, All-set}
use Rattle.std.proofs.Math.ListN.{length-set}
use Rattle.ygg_value.specs.Number.{Number}
use Rattle.ygg_value.specs.Words.{word, apply_to, bit_of}
use Rattle.ygg_value.specs.declared.operation.Op.TheVariants.{And}
use Rattle.ygg_shape_words.specs.ygg_rules.Views.{IsWidth}
use Rattle.ygg_shape_words.specs.ygg_rules.declared.rule.RuleKind.{RuleKind}
use Rattle.ygg_shape_words.specs.ygg_bank_proofs_Fitting.{constant_there}
use Rattle.ygg_shape_words.specs.ygg_bank_proofs_Made.{made_grows}
use Rattle.ygg_shape_words.specs.ygg_bank_proofs_Meaning.{fits_fewer}
use Rattle.ygg_shape_words.specs.ygg_bank_proofs_Widths.{wider, width_is, extends_both}
use Rattle.ygg_shape_words.specs.ygg_bank.Makes.{pure}
use Rattle.ygg_shape_words.specs.ygg_bank.Making.{known_in, made}
use Rattle.ygg_shape_words.specs.ygg_bank.Nodes.{HasWidth}
use Rattle.ygg_shape_words.specs.ygg_bank.Values.{Inputs, Values, Fits}
use Rattle.ygg_shape_words.specs.ygg_bank.declared.node.Id.{Id}
use Rattle.ygg_shape_words.specs.ygg_bank.declared.node.Node.{Node}
use Rattle.ygg_shape_words.specs.ygg_bank.declared.node.Node.TheVariants.{Const, Bin}
use Rattle.ygg_shape_cells.proofs.Wider.{row_wider, rows_wider}
use Rattle.ygg_shape_cells.specs.Making.{merged_row, written_row}
use Rattle.ygg_shape_cells.specs.Terms.{IsRow, numbers_of}
use Rattle.ygg_shape_cells.proofs.Grows.{merged_row_grows, written_row_grows, guarded_at_grows, guarded_from_grows}
use Rattle.ygg_shape_cells.proofs.Rows.{RowIs, merged_row_is, written_row_is}
use Rattle.ygg_shape_words.proofs.Compares.{same_words_is}
use Rattle.ygg_shape_words.proofs.Fit.{alike, can_and}
use Rattle.ygg_shape_words.proofs.Grows.{same_words_grows}
use Rattle.ygg_shape_words.proofs.Terms.{holds, made_is, bit_is, and_digits}
use Rattle.ygg_shape_words.specs.Same.{same_words}
use Rattle.ygg_shape_cells.proofs.Tables.{RowsAre, number}
use Rattle.ygg_shape_cells.proofs.Words.{replaced, replaced_is}
use Rattle.ygg_shape_cells.specs.Guarding.{guarded_split, guarded_at, guarded_from, guarded_known, stored_where_at}

-- the rows, numbered on from a number, with another in the stead of the one with the place's number, where the test passes
abbrev pub replaced_where : Bool → ℕ → ℕ → List (List ℕ) → List ℕ → List (List ℕ)
replaced_where c a i [] new = []
replaced_where c a i (row ∷ rows) new = (if c && (a == i) then new else row) ∷ replaced_where c a (i + 1) rows new

replaced_where_is : (c : Bool) (a i : ℕ) (rows : List (List ℕ)) (new : List ℕ) → replaced_where c a i rows new ≡ (if c then replaced a i rows new else rows)
replaced_where_is true a i [] new = refl
replaced_where_is false a i [] new = refl
replaced_where_is true a i (row ∷ rows) new = ap (λ z. (if a == i then new else row) ∷ z) (replaced_where_is true a (i + 1) rows new)
replaced_where_is false a i (row ∷ rows) new = ap (λ z. row ∷ z) (replaced_where_is false a (i + 1) rows new)

-- an item put where it stands, or past the end
set_there : {X : Type 0} (xs : List X) (k : ℕ) (x : X) → slice_get xs k ≡ Some x → slice_set xs k x ≡ xs
set_there [] k x e = refl
set_there (y ∷ xs) zero x e = let f : y ≡ x = cc in ap (λ z. z ∷ xs) (sym f)
set_there (y ∷ xs) (suc k) x e = ap (λ z. y ∷ z) (set_there xs k x e)

set_past : {X : Type 0} (xs : List X) (k : ℕ) (x : X) → slice_get xs k ≡ None → slice_set xs k x ≡ xs
set_past [] k x e = refl
set_past (y ∷ xs) zero x e = absurd (cc)
set_past (y ∷ xs) (suc k) x e = ap (λ z. y ∷ z) (set_past xs k x e)

map_get : {X Y : Type 0} (f : X → Y) (xs : List X) (k : ℕ) (x : X) → slice_get xs k ≡ Some x → slice_get (map f xs) k ≡ Some (f x)
map_get f [] k x e = absurd (cc)
map_get f (y ∷ xs) zero x e = let g : y ≡ x = cc in ap (λ z. Some (f z)) g
map_get f (y ∷ xs) (suc k) x e = map_get f xs k x e

map_past : {X Y : Type 0} (f : X → Y) (xs : List X) (k : ℕ) → slice_get xs k ≡ None → slice_get (map f xs) k ≡ None
map_past f [] k e = refl
map_past f (y ∷ xs) zero e = absurd (cc)
map_past f (y ∷ xs) (suc k) e = map_past f xs k e

map_put : {X Y : Type 0} (f : X → Y) (xs : List X) (k : ℕ) (x : X) → map f (slice_set xs k x) ≡ slice_set (map f xs) k (f x)
map_put f [] k x = refl
map_put f (y ∷ xs) zero x = refl
map_put f (y ∷ xs) (suc k) x = ap (λ z. f y ∷ z) (map_put f xs k x)

put_either : (c : Bool) (rows : List (List ℕ)) (k : ℕ) (new old : List ℕ) → slice_get rows k ≡ Some old →
    slice_set rows k (if c then new else old) ≡ (if c then slice_set rows k new else rows)
put_either true rows k new old e = refl
put_either false rows k new old e = set_there rows k old e

put_past : (c : Bool) (rows : List (List ℕ)) (k : ℕ) (new : List ℕ) → slice_get rows k ≡ None → rows ≡ (if c then slice_set rows k new else rows)
put_past true rows k new e = sym (set_past rows k new e)
put_past false rows k new e = refl

and_false : (c d : Bool) → d ≡ false → (c && d) ≡ false
and_false true d e = e
and_false false d e = refl

and_second : (c d : Bool) → (c && d) ≡ true → d ≡ true
and_second true d e = e
and_second false d e = absurd (cc)

module _ (inputs : Inputs) (v : Values) (kinds : List RuleKind) where
  abbrev pub test : Id → Bool
  test t = holds inputs v t

  abbrev pub place : Id → ℕ
  place at = number inputs v kinds at

  guarded_split_is : (n w d i : ℕ) (t at : Id) (xs ys : List Id) (nodes : List Node) → HasWidth nodes t 1 → HasWidth nodes at d → IsWidth d →
      i < 2 ^ d → IsRow nodes n w xs → IsRow nodes n w ys →
      (v t.0 ≡ word 1 (bit_of (test t))) → Fits inputs v (guarded_split kinds t at d i xs ys nodes).nodes →
      RowIs inputs v (guarded_split kinds t at d i xs ys nodes).nodes n w (if test t && (place at == i) then numbers_of v xs else numbers_of v ys)
      (guarded_split kinds t at d i xs ys nodes).value
  guarded_split_is n w d i t at xs ys nodes u a l f p q digit h =
      let k = made kinds (Const (word d i)) nodes in
      let kg = made_grows kinds (Const (word d i)) nodes in
      let e = same_words kinds at k.value k.nodes in
      let eg = same_words_grows kinds at k.value k.nodes in
      let b = made kinds (Bin And t e.value) e.nodes in
      let bg = made_grows kinds (Bin And t e.value) e.nodes in
      let m = written_row kinds b.value e.value xs ys b.nodes in
      let g = extends_both nodes k.nodes b.nodes kg (extends_both k.nodes e.nodes b.nodes eg bg) in
      let hb = fits_fewer inputs v b.nodes m.nodes (written_row_grows kinds b.value e.value xs ys b.nodes) h in
      let he = fits_fewer inputs v e.nodes b.nodes bg hb in
      let x = made_is inputs v kinds (Const (word d i)) nodes (record { least = l.least; most = l.most; fits = f })
      (fits_fewer inputs v k.nodes e.nodes eg he) in
      let y = same_words_is inputs v kinds at k.value k.nodes (alike k.nodes at k.value d (wider nodes k.nodes at d kg a) x.wide) he in
      let te = wider k.nodes e.nodes t 1 eg (wider nodes k.nodes t 1 kg u) in
      let z = made_is inputs v kinds (Bin And t e.value) e.nodes (can_and e.nodes t e.value 1 te y.wide) hb in
      let bw : HasWidth b.nodes b.value 1 = z.wide ∙ ap (λ c. Some c) (width_is e.nodes t 1 te) in
      let same : v e.value.0 ≡ word 1 (bit_of (place at == i)) = y.is ∙ ap (λ (c : Number). word 1 (bit_of (place at == c.bits))) x.is in
      let both : test b.value ≡ (test t && (place at == i)) =
      ap (λ (c : Number). c.bits == 1) (z.is ∙ ap (λ c. apply_to And c (v e.value.0)) digit ∙ ap (apply_to And (word 1 (bit_of (test t)))) same
      ∙ and_digits (test t) (place at == i))
      ∙ bit_is (test t && (place at == i)) in
      let met : test e.value ≡ (place at == i) = ap (λ (c : Number). c.bits == 1) same ∙ bit_is (place at == i) in
      let r = written_row_is inputs v kinds n w b.value e.value xs ys b.nodes bw (λ c. met ∙ and_second (test t) (place at == i) (sym both ∙ c))
      (row_wider nodes b.nodes n w xs g p) (row_wider nodes b.nodes n w ys g q) h in
      record { shaped = r.shaped; is = r.is ∙ ap (λ c. if c then numbers_of v xs else numbers_of v ys) both }

  guarded_case : (b : Bool) (n w d i : ℕ) (t at : Id) (xs ys : List Id) (nodes : List Node) → nat_lt i (2 ^ d) ≡ b → HasWidth nodes t 1 →
      HasWidth nodes at d → IsWidth d →
      IsRow nodes n w xs → IsRow nodes n w ys → (v t.0 ≡ word 1 (bit_of (test t))) →
      let o = (if b then guarded_split kinds t at d i xs ys else pure ys) nodes in
      Fits inputs v o.nodes → RowIs inputs v o.nodes n w (if test t && (place at == i) then numbers_of v xs else numbers_of v ys) o.value
  guarded_case true n w d i t at xs ys nodes e u a l p q digit h = guarded_split_is n w d i t at xs ys nodes u a l (below e) p q digit h where
    below : nat_lt i (2 ^ d) ≡ true → i < 2 ^ d
    below e = grind (arith, nat_tests)
  guarded_case false n w d i t at xs ys nodes e u a l p q digit h =
      let wd = h.words at.0 in
      let s : (v at.0).bits < 2 ^ d = subst (λ z. (v at.0).bits < 2 ^ z) (h.widths at.0 d a) wd.fits in
      record {
        shaped = q;
        is = ap (λ c. if c then numbers_of v xs else numbers_of v ys)
            (sym (and_false (test t) (place at == i) (other i (v at.0).bits (2 ^ d) e s)));
      } where
        other : (i a m : ℕ) → nat_lt i m ≡ false → a < m → (a == i) ≡ false
        other i a m e s = grind (arith, nat_tests)

  guarded_at_is : (n w d i : ℕ) (t at : Id) (xs ys : List Id) (nodes : List Node) → HasWidth nodes t 1 → HasWidth nodes at d → IsWidth d →
      IsRow nodes n w xs → IsRow nodes n w ys →
      (v t.0 ≡ word 1 (bit_of (test t))) → Fits inputs v (guarded_at kinds t at d i xs ys nodes).nodes →
      RowIs inputs v (guarded_at kinds t at d i xs ys nodes).nodes n w (if test t && (place at == i) then numbers_of v xs else numbers_of v ys)
      (guarded_at kinds t at d i xs ys nodes).value
  guarded_at_is n w d i t at xs ys nodes u a l p q digit h = guarded_case (nat_lt i (2 ^ d)) n w d i t at xs ys nodes refl u a l p q digit h

  guarded_from_is : (n w d i : ℕ) (t at : Id) (new : List Id) (rows : List (List Id)) (nodes : List Node) → HasWidth nodes t 1 → HasWidth nodes at d →
      IsWidth d → IsRow nodes n w new →
      All (IsRow nodes n w) rows → (v t.0 ≡ word 1 (bit_of (test t))) → Fits inputs v (guarded_from kinds t at d new i rows nodes).nodes →
      RowsAre inputs v (guarded_from kinds t at d new i rows nodes).nodes n w
      (replaced_where (test t) (place at) i (map (numbers_of v) rows) (numbers_of v new)) (guarded_from kinds t at d new i rows nodes).value
  guarded_from_is n w d i t at new [] nodes u a l p q digit h = record { rows_are = q; is = refl }
  guarded_from_is n w d i t at new (row ∷ rows) nodes u a l p q digit h =
      let o = guarded_at kinds t at d i new row nodes in
      let g = guarded_at_grows kinds t at d i new row nodes in
      let rest = guarded_from kinds t at d new (i + 1) rows o.nodes in
      let k = guarded_from_grows kinds t at d new (i + 1) rows o.nodes in
      let x = guarded_at_is n w d i t at new row nodes u a l p (All-head (IsRow nodes n w) row rows q) digit (fits_fewer inputs v o.nodes rest.nodes k h) in
      let r = guarded_from_is n w d (i + 1) t at new rows o.nodes (wider nodes o.nodes t 1 g u) (wider nodes o.nodes at d g a) l
      (row_wider nodes o.nodes n w new g p)
      (rows_wider nodes o.nodes n w rows g (All-tail (IsRow nodes n w) row rows q)) digit h in
      record {
        rows_are = All-cons (IsRow rest.nodes n w) o.value rest.value (row_wider o.nodes rest.nodes n w o.value k x.shaped) r.rows_are;
        is = ap (λ z. z ∷ map (numbers_of v) rest.value) x.is ∙ ap (λ z. (if test t && (place at == i) then numbers_of v new else numbers_of v row) ∷ z) r.is;
      }

  guarded_from_length : (d i : ℕ) (t at : Id) (new : List Id) (rows : List (List Id)) (nodes : List Node) →
      length (guarded_from kinds t at d new i rows nodes).value ≡ length rows
  guarded_from_length d i t at new [] nodes = refl
  guarded_from_length d i t at new (row ∷ rows) nodes =
      omega (arith, guarded_from_length d (i + 1) t at new rows (guarded_at kinds t at d i new row nodes).nodes)

  -- what the table is worth then
  abbrev pub want : Id → Id → List (List Id) → List Id → List (List ℕ)
  want t at table new = if test t then slice_set (map (numbers_of v) table) (place at) (numbers_of v new) else map (numbers_of v) table

  known_case : (n w k : ℕ) (t at : Id) (new : List Id) (table : List (List Id)) (o : Option (List Id)) (nodes : List Node) → slice_get table k ≡ o →
      (Fits inputs v nodes → place at ≡ k) → HasWidth nodes t 1 →
      IsRow nodes n w new → All (IsRow nodes n w) table → Fits inputs v (guarded_known kinds t table new k o nodes).nodes →
      RowsAre inputs v (guarded_known kinds t table new k o nodes).nodes n w (want t at table new) (guarded_known kinds t table new k o nodes).value
  known_case n w k t at new table (Some old) nodes e s u p q h =
      let m = merged_row kinds t new old nodes in
      let g = merged_row_grows kinds t new old nodes in
      let r = merged_row_is inputs v kinds n w t new old nodes u p (there nodes n w table k old e q) h in
      let rows = map (numbers_of v) table in
      let c = test t in
      record {
        rows_are = All-set (IsRow m.nodes n w) table k m.value r.shaped (rows_wider nodes m.nodes n w table g q);
        is = map_put (numbers_of v) table k m.value ∙ ap (slice_set rows k) r.is
            ∙ put_either c rows k (numbers_of v new) (numbers_of v old) (map_get (numbers_of v) table k old e)
            ∙ ap (λ z. if c then slice_set rows z (numbers_of v new) else rows) (sym (s (fits_fewer inputs v nodes m.nodes g h)));
      } where
        there : (nodes : List Node) (n w : ℕ) (rows : List (List Id)) (k : ℕ) (row : List Id) → slice_get rows k ≡ Some row →
            All (IsRow nodes n w) rows → IsRow nodes n w row
        there nodes n w [] k row e q = absurd (cc)
        there nodes n w (x ∷ xs) zero row e q = let f : x ≡ row = cc in subst (IsRow nodes n w) f (All-head (IsRow nodes n w) x xs q)
        there nodes n w (x ∷ xs) (suc k) row e q = there nodes n w xs k row e (All-tail (IsRow nodes n w) x xs q)
  known_case n w k t at new table None nodes e s u p q h =
      let rows = map (numbers_of v) table in
      record {
        rows_are = q;
        is = put_past (test t) rows k (numbers_of v new) (map_past (numbers_of v) table k e)
            ∙ ap (λ z. if test t then slice_set rows z (numbers_of v new) else rows) (sym (s h));
      }

  known_number : (nodes : List Node) (at : Id) (k : Number) → known_in (slice_get nodes at.0) ≡ Some k → Fits inputs v nodes → place at ≡ k.bits
  known_number nodes at k e h = ap (λ (z : Number). z.bits) (h.values at.0 (Const k) (constant_there nodes at k e))

  pub stored_where_is : (n w d : ℕ) (t at : Id) (new : List Id) (table : List (List Id)) (k : Option Number) (nodes : List Node) →
      known_in (slice_get nodes at.0) ≡ k → HasWidth nodes t 1 → HasWidth nodes at d →
      IsWidth d → IsRow nodes n w new → All (IsRow nodes n w) table → (v t.0 ≡ word 1 (bit_of (test t))) →
      Fits inputs v (stored_where_at kinds t table new at d k nodes).nodes →
      RowsAre inputs v (stored_where_at kinds t table new at d k nodes).nodes n w (want t at table new) (stored_where_at kinds t table new at d k nodes).value
  stored_where_is n w d t at new table (Some k) nodes e u a l p q digit h =
      known_case n w k.bits t at new table (slice_get table k.bits) nodes refl (known_number nodes at k e) u p q h
  stored_where_is n w d t at new table None nodes e u a l p q digit h =
      let r = guarded_from_is n w d 0 t at new table nodes u a l p q digit h in
      let rows = map (numbers_of v) table in
      record {
        rows_are = r.rows_are;
        is = r.is ∙ replaced_where_is (test t) (place at) 0 rows (numbers_of v new)
            ∙ ap (λ z. if test t then z else rows) (replaced_is (place at) 0 rows (numbers_of v new) (place at) (omega arith));
      }

  known_length : (k : ℕ) (t : Id) (new : List Id) (table : List (List Id)) (o : Option (List Id)) (nodes : List Node) →
      length (guarded_known kinds t table new k o nodes).value ≡ length table
  known_length k t new table (Some old) nodes = length-set table k (merged_row kinds t new old nodes).value
  known_length k t new table None nodes = refl

  pub stored_where_length : (d : ℕ) (t at : Id) (new : List Id) (table : List (List Id)) (k : Option Number) (nodes : List Node) →
      length (stored_where_at kinds t table new at d k nodes).value ≡ length table
  stored_where_length d t at new table (Some k) nodes = known_length k.bits t new table (slice_get table k.bits) nodes
  stored_where_length d t at new table None nodes = guarded_from_length d 0 t at new table nodes
