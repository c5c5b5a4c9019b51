-- A value with a part written anew, under one valuation of the nodes at the end.
use Rattle.std.proofs.Common.{◌≡◌, ℕ, zero, suc, List, [], ◌∷◌, map, length, refl, sym, ap, ◌∙◌, subst, true}
use Rattle.ygg_value.specs.Number.{Number}
use Rattle.ygg_value.specs.Values as values
use Rattle.ygg_value.specs.Values.{word_in, row_write, table_read, table_write, with_part}
use Rattle.ygg_value.specs.Shapes.{shape_of}
use Rattle.ygg_value.specs.declared.row.Value.{Value}
use Rattle.ygg_value.specs.declared.row.Value.TheVariants as value
use Rattle.ygg_value.specs.declared.shape.Shape.{Shape}
use Rattle.ygg_value.specs.declared.shape.Shape.TheVariants as shape
use Rattle.ygg_meaning_laws.specs.ygg_type_rules.Shapes.{is_word, width_of}
use Rattle.ygg_meaning_laws.proofs.Fits.{word_wide}
use Rattle.ygg_sym_runs.specs.ygg_rules.declared.rule.RuleKind.{RuleKind}
use Rattle.ygg_sym_runs.specs.ygg_bank_proofs_Meaning.{fits_fewer}
use Rattle.ygg_sym_runs.specs.ygg_bank_proofs_Widths.{wider, stands, extends_self, extends_both}
use Rattle.ygg_sym_runs.specs.ygg_bank.Nodes.{HasWidth, Extends}
use Rattle.ygg_sym_runs.specs.ygg_bank.Values.{Inputs, Values}
use Rattle.ygg_sym_runs.specs.ygg_bank.declared.node.Id.{Id}
use Rattle.ygg_sym_runs.specs.ygg_bank.declared.node.Node.{Node}
use Rattle.ygg_sym_runs.specs.ygg_shape_cells_proofs_Grows.{stored_grows, selected_grows}
use Rattle.ygg_sym_runs.specs.ygg_shape_cells_proofs_Makers.{selected_gives, stored_gives, word_stored_gives}
use Rattle.ygg_sym_runs.specs.ygg_shape_cells_proofs_Wider.{rows_wider}
use Rattle.ygg_sym_runs.specs.ygg_shape_cells.Making.{selected, stored}
use Rattle.ygg_sym_runs.specs.ygg_shape_cells.Terms.{IsRow, IsTable, worth, row_of, table_of}
use Rattle.ygg_sym_runs.specs.ygg_shape_cells.declared.terms.SymValue.{SymValue}
use Rattle.ygg_sym_runs.specs.ygg_shape_cells.declared.terms.SymValue.TheVariants.{Word, Row, Table}
use Rattle.ygg_sym_runs.specs.ygg_shape.RowPlaces.{single, singles, word_stored}
use Rattle.ygg_sym_runs.specs.Exprs.{id_in}
use Rattle.ygg_sym_runs.specs.ygg_shape_cells.Terms.{IsShaped}
use Rattle.ygg_sym_runs.specs.ExpressionMeaning.{Grows, Gives, IsWorth}
use Rattle.ygg_sym_runs.proofs.Shaped.{worth_shape, is_term}
use Rattle.ygg_sym_runs.specs.ygg_shape_words_proofs_Keeps.{grows_stays}
use Rattle.ygg_sym_runs.proofs.Below.{put_keeps}
use Rattle.ygg_sym_runs.specs.Putting.{row_in, put_made, led_to}

-- a word stays one
pub led_word : (w n : ℕ) → led_to (shape.Word w) n ≡ shape.Word w
led_word w zero = refl
led_word w (suc n) = led_word w n

module _ (kinds : List RuleKind) where
  pub put_grows : (old : SymValue) (places : List Id) (new : SymValue) → Grows (put_made kinds old places new)
  put_grows old places new nodes = put_keeps (Extends nodes) kinds (grows_stays kinds nodes) old places new nodes (extends_self nodes)

module _ (inputs : Inputs) (v : Values) (kinds : List RuleKind) where
  -- a term of some width
  pub record IsPlace (p : Value) (nodes : List Node) (a : Id) : Type 0 where
    pub width : ℕ
    pub wide : HasWidth nodes a width
    pub is : v a.0 ≡ word_in p

  abbrev pub ArePlaces : List Value → List Node → List Id → Type 0
  ArePlaces [] nodes [] = Unit {0}
  ArePlaces (p ∷ ps) nodes (a ∷ places) = IsPlace p nodes a × ArePlaces ps nodes places
  ArePlaces _ nodes _ = ⊥

  abbrev numbers : List Value → List ℕ
  numbers = map (λ p. (word_in p).bits)

  -- a value that is a row
  record IsRowTerm (n w : ℕ) (want : Value) (nodes : List Node) (x : SymValue) : Type 0 where
    shaped : IsRow nodes n w (row_in x)
    is : row_of v (row_in x) ≡ values.row_in want

  row_term : (n w : ℕ) (s : Shape) (want : Value) (nodes : List Node) (x : SymValue) → IsShaped nodes s x → s ≡ shape.Row n w → worth v x ≡ want →
      IsRowTerm n w want nodes x
  row_term n w s want nodes x f e i = cases x (subst (λ z. IsShaped nodes z x) e f) i
    where
      cases : (x : SymValue) → IsShaped nodes (shape.Row n w) x → worth v x ≡ want → IsRowTerm n w want nodes x
      cases (Row row) f i = record { shaped = f.has; is = ap values.row_in i }
      cases (Word a) f i = absurd (f.has)
      cases (Table t) f i = absurd (f.has)

  word_width : (want : Value) (w : ℕ) → shape_of want ≡ shape.Word w → (is_word (shape_of want) ≡ true) × ((word_in want).width ≡ w)
  word_width want w e =
      let word = ap is_word e in
      (word, sym (word_wide want word) ∙ ap width_of e)

  put_worth : (x new : SymValue) (s : Shape) (n : Value) (ps : List Value) (places : List Id) (nodes : List Node) → IsShaped nodes s x → IsWorth v n nodes new →
      ArePlaces ps nodes places → shape_of n ≡ led_to s (length ps) →
      Gives inputs v (put_made kinds x places new) nodes (IsWorth v (with_part (worth v x) (numbers ps) n))
  put_worth x new s n [] [] nodes f p a e h = p
  put_worth x new s n [] (i ∷ places) nodes f p a e h = absurd a
  put_worth x new s n (q ∷ ps) [] nodes f p a e h = absurd a
  put_worth (Word b) new s n (q ∷ ps) (i ∷ places) nodes f p a e h = record { shaped = record { shape = s; stands = f }; is = refl }
  put_worth (Row row) new (shape.Row m w) n (q ∷ ps) (i ∷ places) nodes f p a e h =
      let l = f.limits in
      let fit = fits_fewer inputs v nodes (put_made kinds (Row row) (i ∷ places) new nodes).nodes (put_grows kinds (Row row) (i ∷ places) new nodes) h in
      let u = word_width n w (e ∙ led_word w (length ps)) in
      let t = is_term inputs v n nodes new fit p u.0 in
      let d = a.0 in
      let r = word_stored_gives inputs v kinds m w row i (id_in new) nodes l f.has (subst (HasWidth nodes (id_in new)) u.1 t.wide)
      (stands nodes i d.width d.wide) h in
      record {
        shaped = record { shape = shape.Row m w; stands = r.shaped };
        is = r.is ∙ ap (λ (k : Number). value.Row (row_write (row_of v row) k.bits (v (id_in new).0))) d.is
            ∙ ap (λ k. value.Row (row_write (row_of v row) (word_in q).bits k)) t.worth;
      }
  put_worth (Table t) new (shape.Table k m w) n (q ∷ []) (i ∷ []) nodes f p a e h =
      let l = f.limits in
      let fit = fits_fewer inputs v nodes (put_made kinds (Table t) (i ∷ []) new nodes).nodes (put_grows kinds (Table t) (i ∷ []) new nodes) h in
      let s = p.shaped in
      let su : s.shape ≡ shape.Row m w = sym (worth_shape inputs v nodes s.shape new fit s.stands) ∙ ap shape_of p.is ∙ e in
      let row = row_term m w s.shape n nodes new s.stands su p.is in
      let d = a.0 in
      let has = f.has in
      let r = stored_gives inputs v kinds m w t i (row_in new) nodes has.1 row.shaped (stands nodes i d.width d.wide) h in
      let there = (r.shaped).has in
      record {
        shaped = record { shape = shape.Table k m w; stands = record { limits = l; has = (there.0 ∙ has.0, there.1) } };
        is = r.is ∙ ap (λ (z : Number). value.Table (table_write (table_of v t) z.bits (row_of v (row_in new)))) d.is
            ∙ ap (λ z. value.Table (table_write (table_of v t) (word_in q).bits z)) row.is;
      }
  put_worth (Table t) new (shape.Table k m w) n (q ∷ b ∷ ps) (i ∷ j ∷ places) nodes f p a e h =
      let l = f.limits in
      let has = f.has in
      let r = selected kinds t i nodes in
      let part = word_stored kinds r.value j (id_in new) r.nodes in
      let o = stored kinds t i part.value part.nodes in
      let gr = selected_grows kinds t i nodes in
      let gp = stored_grows kinds (singles r.value) j (single (id_in new)) r.nodes in
      let go = stored_grows kinds t i part.value part.nodes in
      let hp = fits_fewer inputs v part.nodes o.nodes go h in
      let hr = fits_fewer inputs v r.nodes part.nodes gp hp in
      let fit = fits_fewer inputs v nodes r.nodes gr hr in
      let u = word_width n w (e ∙ led_word w (length ps)) in
      let term = is_term inputs v n nodes new fit p u.0 in
      let d = a.0 in
      let others = a.1 in
      let c = others.0 in
      let x = selected_gives inputs v kinds m w t i nodes has.1 (stands nodes i d.width d.wide) hr in
      let y = word_stored_gives inputs v kinds m w r.value j (id_in new) r.nodes (l.1, l.2) (x.shaped).has
      (wider nodes r.nodes (id_in new) w gr (subst (HasWidth nodes (id_in new)) u.1 term.wide))
      (stands r.nodes j c.width (wider nodes r.nodes j c.width gr c.wide)) hp in
      let both = extends_both nodes r.nodes part.nodes gr gp in
      let is_table = has.1 in
      let t_there : IsTable part.nodes m w t = record { limits = is_table.limits; rows = rows_wider nodes part.nodes m w t both is_table.rows } in
      let z = stored_gives inputs v kinds m w t i part.value part.nodes t_there (y.shaped).has
      (stands part.nodes i d.width (wider nodes part.nodes i d.width both d.wide)) h in
      let there = (z.shaped).has in
      let written : row_of v part.value ≡ row_write (table_read (table_of v t) (word_in q).bits) (word_in b).bits (word_in n) =
      ap values.row_in y.is ∙ ap (λ row. row_write (values.row_in row) (v j.0).bits (v (id_in new).0)) x.is
      ∙ ap (λ (k : Number). row_write (table_read (table_of v t) k.bits) (v j.0).bits (v (id_in new).0)) d.is
      ∙ ap (λ (k : Number). row_write (table_read (table_of v t) (word_in q).bits) k.bits (v (id_in new).0)) c.is
      ∙ ap (row_write (table_read (table_of v t) (word_in q).bits) (word_in b).bits) term.worth in
      record {
        shaped = record { shape = shape.Table k m w; stands = record { limits = l; has = (there.0 ∙ has.0, there.1) } };
        is = z.is ∙ ap (λ (k : Number). value.Table (table_write (table_of v t) k.bits (row_of v part.value))) d.is
            ∙ ap (λ row. value.Table (table_write (table_of v t) (word_in q).bits row)) written;
      }
  put_worth (Table t) new (shape.Table k m w) n (q ∷ []) (i ∷ j ∷ places) nodes f p a e h = absurd (a.1)
  put_worth (Table t) new (shape.Table k m w) n (q ∷ b ∷ ps) (i ∷ []) nodes f p a e h = absurd (a.1)
  put_worth (Row row) new (shape.Word w) n (q ∷ ps) (i ∷ places) nodes f p a e h = absurd (f.has)
  put_worth (Row row) new (shape.Table k m w) n (q ∷ ps) (i ∷ places) nodes f p a e h = absurd (f.has)
  put_worth (Table t) new (shape.Word w) n (q ∷ ps) (i ∷ places) nodes f p a e h = absurd (f.has)
  put_worth (Table t) new (shape.Row m w) n (q ∷ ps) (i ∷ places) nodes f p a e h = absurd (f.has)

  -- a value with a part written anew that has the part's shape
  pub put_gives : (x new : SymValue) (o n : Value) (ps : List Value) (places : List Id) (nodes : List Node) → IsWorth v o nodes x → IsWorth v n nodes new →
      ArePlaces ps nodes places → shape_of n ≡ led_to (shape_of o) (length ps) →
      Gives inputs v (put_made kinds x places new) nodes (IsWorth v (with_part o (numbers ps) n))
  put_gives x new o n ps places nodes q p a e h =
      let fit = fits_fewer inputs v nodes (put_made kinds x places new nodes).nodes (put_grows kinds x places new nodes) h in
      let s = q.shaped in
      let so : shape_of o ≡ s.shape = sym (ap shape_of q.is) ∙ worth_shape inputs v nodes s.shape x fit s.stands in
      let r = put_worth x new s.shape n ps places nodes s.stands p a (e ∙ ap (λ z. led_to z (length ps)) so) h in
      record { shaped = r.shaped; is = r.is ∙ ap (λ z. with_part z (numbers ps) n) q.is }
