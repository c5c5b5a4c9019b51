-- What tables of terms are worth, and their shapes, under one valuation of the nodes at the end.
use Rattle.std.proofs.Common.{
  ◌≡◌,
  ◌==◌,
  ℕ,
  zero,
  suc,
  ◌+◌,
  if◌then◌else◌,
  Option,
  Some,
  None,
  List,
  [],
  ◌∷◌,
  map,
  length,
  replicate,
  All,
  slice_get,
  slice_set,
  unwrap_or,
  refl,
  sym,
  ap,
  ◌∙◌,
  subst,
  arith,
}
use Rattle.std.specs.Option.{option_map}
use Rattle.std.proofs.lemmas.List.{map-set, length-set}
use Rattle.std.proofs.lemmas.List.Elements.{All-head, All-tail, All-cons, All-set}
use Rattle.std.proofs.lemmas.Option.{slice_get-map}
use Rattle.ygg_value.specs.Number.{Number}
use Rattle.ygg_shape_words.specs.ygg_rules.Views.{IsWidth}
use Rattle.ygg_shape_words.specs.ygg_rules.declared.rule.RuleKind.{RuleKind}
use Rattle.ygg_shape_words.specs.ygg_bank_proofs_Meaning.{fits_fewer}
use Rattle.ygg_shape_words.specs.ygg_bank_proofs_Widths.{wider}
use Rattle.ygg_shape_words.specs.ygg_bank.Making.{known_in}
use Rattle.ygg_shape_words.specs.ygg_bank.Nodes.{HasWidth, Extends}
use Rattle.ygg_shape_words.specs.ygg_bank.Values.{Inputs, Values, Fits}
use Rattle.ygg_shape_words.specs.ygg_bank.declared.node.Id.{Id}
use Rattle.ygg_shape_words.specs.ygg_bank.declared.node.Node.{Node}
use Rattle.ygg_shape_words.specs.ygg_bank.declared.node.Node.TheVariants.{Input, Const, Bin, Not, Resize, Pick}
use Rattle.ygg_shape_words.proofs.Terms.{holds, either}
use Rattle.ygg_shape_cells.proofs.Grows.{merged_row_grows, merged_rows_grows, where_at_grows, zeros_grows, chosen_grows, stored_from_grows}
use Rattle.ygg_shape_cells.proofs.Rows.{RowIs, merged_row_is, zeros_is, where_at_is}
use Rattle.ygg_shape_cells.proofs.Wider.{row_wider, rows_wider}
use Rattle.ygg_shape_cells.proofs.Words.{row_if, among, among_is, replaced, replaced_is}
use Rattle.ygg_shape_cells.specs.Making.{merged_row, merged_rows, where_at, zeros, chosen, stored_from, row_or_zeros, selected_at, stored_at}
use Rattle.ygg_shape_cells.specs.Terms.{IsRow, numbers_of, words_in}

module _ (inputs : Inputs) (v : Values) where
  -- rows of this shape whose words have these numbers
  pub record RowsAre (nodes : List Node) (n w : ℕ) (want : List (List ℕ)) (rows : List (List Id)) : Type 0 where
    pub rows_are : All (IsRow nodes n w) rows
    pub is : map (numbers_of v) rows ≡ want

module _ (inputs : Inputs) (v : Values) (kinds : List RuleKind) where
  -- rows without the first one
  pub rows_tail : (old new : List Node) (n w : ℕ) (x : List Id) (xs : List (List Id)) → Extends old new → All (IsRow old n w) (x ∷ xs) → All (IsRow new n w) xs
  rows_tail old new n w x xs g h = rows_wider old new n w xs g (All-tail (IsRow old n w) x xs h)

  pub merged_rows_is : (n w : ℕ) (t : Id) (xs ys : List (List Id)) (nodes : List Node) → HasWidth nodes t 1 → All (IsRow nodes n w) xs →
      All (IsRow nodes n w) ys →
      length xs ≡ length ys → Fits inputs v (merged_rows kinds t xs ys nodes).nodes →
      RowsAre inputs v (merged_rows kinds t xs ys nodes).nodes n w (if holds inputs v t then map (numbers_of v) xs else map (numbers_of v) ys)
      (merged_rows kinds t xs ys nodes).value
  merged_rows_is n w t [] [] nodes d p q e h = record { rows_are = p; is = either (holds inputs v t) [] }
  merged_rows_is n w t [] (y ∷ ys) nodes d p q e h = absurd (omega (arith, e))
  merged_rows_is n w t (x ∷ xs) [] nodes d p q e h = absurd (omega (arith, e))
  merged_rows_is n w t (x ∷ xs) (y ∷ ys) nodes d p q e h =
      let o = merged_row kinds t x y nodes in
      let g = merged_row_grows kinds t x y nodes in
      let rest = merged_rows kinds t xs ys o.nodes in
      let k = merged_rows_grows kinds t xs ys o.nodes in
      let c = holds inputs v t in
      let a = merged_row_is inputs v kinds n w t x y nodes d (All-head (IsRow nodes n w) x xs p) (All-head (IsRow nodes n w) y ys q)
      (fits_fewer inputs v o.nodes rest.nodes k h) in
      let r = merged_rows_is n w t xs ys o.nodes (wider nodes o.nodes t 1 g d) (rows_tail nodes o.nodes n w x xs g p)
      (rows_tail nodes o.nodes n w y ys g q) (omega (arith, e)) h in
      record {
        rows_are = All-cons (IsRow rest.nodes n w) o.value rest.value (row_wider o.nodes rest.nodes n w o.value k a.shaped) r.rows_are;
        is = ap (λ z. z ∷ map (numbers_of v) rest.value) a.is ∙ ap (λ z. (if c then numbers_of v x else numbers_of v y) ∷ z) r.is
            ∙ row_if c (numbers_of v x) (numbers_of v y) (map (numbers_of v) xs) (map (numbers_of v) ys);
      }

  pub merged_rows_length : (t : Id) (xs ys : List (List Id)) (nodes : List Node) → length xs ≡ length ys →
      length (merged_rows kinds t xs ys nodes).value ≡ length xs
  merged_rows_length t [] [] nodes e = refl
  merged_rows_length t [] (y ∷ ys) nodes e = absurd (omega (arith, e))
  merged_rows_length t (x ∷ xs) [] nodes e = absurd (omega (arith, e))
  merged_rows_length t (x ∷ xs) (y ∷ ys) nodes e = omega (arith, merged_rows_length t xs ys (merged_row kinds t x y nodes).nodes (omega (arith, e)))

  -- the number of a place
  abbrev pub number : Id → ℕ
  number at = (v at.0).bits

  pub chosen_is : (n w d i : ℕ) (at : Id) (past : List Id) (rows : List (List Id)) (nodes : List Node) → HasWidth nodes at d → IsWidth d →
      IsRow nodes n w past → All (IsRow nodes n w) rows →
      Fits inputs v (chosen kinds at d past i rows nodes).nodes →
      RowIs inputs v (chosen kinds at d past i rows nodes).nodes n w (among (number at) (numbers_of v past) i (map (numbers_of v) rows))
      (chosen kinds at d past i rows nodes).value
  chosen_is n w d i at past [] nodes a l p q h = record { shaped = p; is = refl }
  chosen_is n w d i at past (row ∷ rows) nodes a l p q h =
      let o = where_at kinds at d i row past nodes in
      let g = where_at_grows kinds at d i row past nodes in
      let rest = chosen kinds at d o.value (i + 1) rows o.nodes in
      let x = where_at_is inputs v kinds n w d i at row past nodes a l (All-head (IsRow nodes n w) row rows q) p
      (fits_fewer inputs v o.nodes rest.nodes (chosen_grows kinds at d o.value (i + 1) rows o.nodes) h) in
      let r = chosen_is n w d (i + 1) at o.value rows o.nodes (wider nodes o.nodes at d g a) l x.shaped (rows_tail nodes o.nodes n w row rows g q) h in
      record { shaped = r.shaped; is = r.is ∙ ap (λ z. among (number at) z (i + 1) (map (numbers_of v) rows)) x.is }

  pub stored_from_is : (n w d i : ℕ) (at : Id) (new : List Id) (rows : List (List Id)) (nodes : List Node) → HasWidth nodes at d → IsWidth d →
      IsRow nodes n w new → All (IsRow nodes n w) rows →
      Fits inputs v (stored_from kinds at d new i rows nodes).nodes →
      RowsAre inputs v (stored_from kinds at d new i rows nodes).nodes n w (replaced (number at) i (map (numbers_of v) rows) (numbers_of v new))
      (stored_from kinds at d new i rows nodes).value
  stored_from_is n w d i at new [] nodes a l p q h = record { rows_are = q; is = refl }
  stored_from_is n w d i at new (row ∷ rows) nodes a l p q h =
      let o = where_at kinds at d i new row nodes in
      let g = where_at_grows kinds at d i new row nodes in
      let rest = stored_from kinds at d new (i + 1) rows o.nodes in
      let k = stored_from_grows kinds at d new (i + 1) rows o.nodes in
      let x = where_at_is inputs v kinds n w d i at new row nodes a l p (All-head (IsRow nodes n w) row rows q) (fits_fewer inputs v o.nodes rest.nodes k h) in
      let r = stored_from_is n w d (i + 1) at new rows o.nodes (wider nodes o.nodes at d g a) l (row_wider nodes o.nodes n w new g p)
      (rows_tail nodes o.nodes n w row rows g q) h in
      record {
        rows_are = All-cons (IsRow rest.nodes n w) o.value rest.value (row_wider o.nodes rest.nodes n w o.value k x.shaped) r.rows_are;
        is = ap (λ z. z ∷ map (numbers_of v) rest.value) x.is ∙ ap (λ z. (if number at == i then numbers_of v new else numbers_of v row) ∷ z) r.is;
      }

  pub stored_from_length : (d i : ℕ) (at : Id) (new : List Id) (rows : List (List Id)) (nodes : List Node) →
      length (stored_from kinds at d new i rows nodes).value ≡ length rows
  stored_from_length d i at new [] nodes = refl
  stored_from_length d i at new (row ∷ rows) nodes = omega (arith, stored_from_length d (i + 1) at new rows (where_at kinds at d i new row nodes).nodes)

  -- the row at a known place
  row_case : (n w : ℕ) (rows : List (List Id)) (k : ℕ) (o : Option (List Id)) (nodes : List Node) → slice_get rows k ≡ o → All (IsRow nodes n w) rows
      → IsWidth w →
      Fits inputs v (row_or_zeros kinds n w o nodes).nodes →
      RowIs inputs v (row_or_zeros kinds n w o nodes).nodes n w (unwrap_or (slice_get (map (numbers_of v) rows) k) (replicate n 0))
      (row_or_zeros kinds n w o nodes).value
  row_case n w rows k (Some row) nodes e q l h = record {
    shaped = there rows k row e q;
    is = ap (λ z. unwrap_or z (replicate n 0)) (sym (slice_get-map (numbers_of v) rows k ∙ ap (option_map (numbers_of v)) e));
  } where
    there : (rows : List (List Id)) (k : ℕ) (row : List Id) → slice_get rows k ≡ Some row → All (IsRow nodes n w) rows → IsRow nodes n w row
    there [] k row e q = absurd (cc)
    there (x ∷ xs) zero row e q = let f : x ≡ row = cc in subst (IsRow nodes n w) f (All-head (IsRow nodes n w) x xs q)
    there (x ∷ xs) (suc k) row e q = there xs k row e (All-tail (IsRow nodes n w) x xs q)
  row_case n w rows k None nodes e q l h =
      let z = zeros_is inputs v kinds n w nodes l h in
      record {
        shaped = z.shaped;
        is = z.is ∙ ap (λ z. unwrap_or z (replicate n 0))
            (sym (slice_get-map (numbers_of v) rows k ∙ ap (option_map (numbers_of v)) e));
      }

  -- a place that is a constant has its number
  known_number : (nodes : List Node) (at : Id) (k : Number) (o : Option Node) → slice_get nodes at.0 ≡ o → known_in o ≡ Some k → Fits inputs v nodes →
      v at.0 ≡ k
  known_number nodes at k (Some (Const x)) e f h = let g : x ≡ k = cc in h.values at.0 (Const x) e ∙ g
  known_number nodes at k (Some (Input m w)) e f h = absurd (cc)
  known_number nodes at k (Some (Bin o a b)) e f h = absurd (cc)
  known_number nodes at k (Some (Not a)) e f h = absurd (cc)
  known_number nodes at k (Some (Resize a w)) e f h = absurd (cc)
  known_number nodes at k (Some (Pick t a b)) e f h = absurd (cc)
  known_number nodes at k None e f h = absurd (cc)

  row_or_zeros_fits : (n w : ℕ) (o : Option (List Id)) (nodes : List Node) → Fits inputs v (row_or_zeros kinds n w o nodes).nodes → Fits inputs v nodes
  row_or_zeros_fits n w (Some row) nodes h = h
  row_or_zeros_fits n w None nodes h = fits_fewer inputs v nodes (zeros kinds n w nodes).nodes (zeros_grows kinds n w nodes) h

  -- reading, where the place is known or not
  pub selected_is : (n w d : ℕ) (at : Id) (table : List (List Id)) (k : Option Number) (nodes : List Node) → known_in (slice_get nodes at.0) ≡ k →
      HasWidth nodes at d → IsWidth d →
      IsWidth w → words_in table ≡ n → All (IsRow nodes n w) table → Fits inputs v (selected_at kinds table w at d k nodes).nodes →
      RowIs inputs v (selected_at kinds table w at d k nodes).nodes n w
      (unwrap_or (slice_get (map (numbers_of v) table) (number at)) (replicate n 0)) (selected_at kinds table w at d k nodes).value
  selected_is n w d at table (Some k) nodes e a l m c q h =
      subst (λ z. Fits inputs v (row_or_zeros kinds z w (slice_get table k.bits) nodes).nodes →
      RowIs inputs v (row_or_zeros kinds z w (slice_get table k.bits) nodes).nodes n w
      (unwrap_or (slice_get (map (numbers_of v) table) (number at)) (replicate n 0))
      (row_or_zeros kinds z w (slice_get table k.bits) nodes).value) (sym c) (λ g.
      let f = row_or_zeros_fits n w (slice_get table k.bits) nodes g in
      let same : number at ≡ k.bits = ap (λ (z : Number). z.bits) (known_number nodes at k (slice_get nodes at.0) refl e f) in
      let r = row_case n w table k.bits (slice_get table k.bits) nodes refl q m g in
      record { shaped = r.shaped; is = r.is ∙ ap (λ z. unwrap_or (slice_get (map (numbers_of v) table) z) (replicate n 0)) (sym same) }) h
  selected_is n w d at table None nodes e a l m c q h =
      subst (λ y. Fits inputs v (chosen kinds at d (zeros kinds y w nodes).value 0 table (zeros kinds y w nodes).nodes).nodes →
      RowIs inputs v (chosen kinds at d (zeros kinds y w nodes).value 0 table (zeros kinds y w nodes).nodes).nodes n w
      (unwrap_or (slice_get (map (numbers_of v) table) (number at)) (replicate n 0))
      (chosen kinds at d (zeros kinds y w nodes).value 0 table (zeros kinds y w nodes).nodes).value) (sym c) (λ u.
      let o = zeros kinds n w nodes in
      let g = zeros_grows kinds n w nodes in
      let f = fits_fewer inputs v o.nodes (chosen kinds at d o.value 0 table o.nodes).nodes (chosen_grows kinds at d o.value 0 table o.nodes) u in
      let z = zeros_is inputs v kinds n w nodes m f in
      let r = chosen_is n w d 0 at o.value table o.nodes (wider nodes o.nodes at d g a) l z.shaped (rows_wider nodes o.nodes n w table g q) u in
      record {
        shaped = r.shaped;
        is = r.is ∙ ap (λ y. among (number at) y 0 (map (numbers_of v) table)) z.is
            ∙ among_is (number at) (replicate n 0) 0 (map (numbers_of v) table) (number at) (omega arith);
      }) h

  -- writing, where the place is known or not
  pub stored_is : (n w d : ℕ) (at : Id) (new : List Id) (table : List (List Id)) (k : Option Number) (nodes : List Node) →
      known_in (slice_get nodes at.0) ≡ k → HasWidth nodes at d → IsWidth d →
      IsRow nodes n w new → All (IsRow nodes n w) table → Fits inputs v (stored_at kinds table new at d k nodes).nodes →
      RowsAre inputs v (stored_at kinds table new at d k nodes).nodes n w (slice_set (map (numbers_of v) table) (number at) (numbers_of v new))
      (stored_at kinds table new at d k nodes).value
  stored_is n w d at new table (Some k) nodes e a l p q h =
      let same : number at ≡ k.bits = ap (λ (z : Number). z.bits) (known_number nodes at k (slice_get nodes at.0) refl e h) in
      record {
        rows_are = All-set (IsRow nodes n w) table k.bits new p q;
        is = map-set (numbers_of v) table k.bits new ∙ ap (λ z. slice_set (map (numbers_of v) table) z (numbers_of v new)) (sym same);
      }
  stored_is n w d at new table None nodes e a l p q h =
      let r = stored_from_is n w d 0 at new table nodes a l p q h in
      record { rows_are = r.rows_are; is = r.is ∙ replaced_is (number at) 0 (map (numbers_of v) table) (numbers_of v new) (number at) (omega arith) }

  pub stored_length : (d : ℕ) (at : Id) (new : List Id) (table : List (List Id)) (k : Option Number) (nodes : List Node) →
      length (stored_at kinds table new at d k nodes).value ≡ length table
  stored_length d at new table (Some k) nodes = length-set table k.bits new
  stored_length d at new table None nodes = stored_from_length d 0 at new table nodes
