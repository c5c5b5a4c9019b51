-- What inputs of a shape are worth.
use Rattle.std.proofs.Common.{◌≡◌, ◌+◌, ◌*◌, ℕ, zero, suc, Result, Ok, Err, OnOk, IfOk, List, ◌∷◌, length, map, replicate, refl, sym, ap, ◌∙◌, subst, arith}
use Rattle.std.proofs.lemmas.List.Elements.{All-cons, All-nil}
use Rattle.ygg_value.specs.Shapes.{IsShape}
use Rattle.ygg_value.specs.Number.{Number}
use Rattle.ygg_value.specs.declared.row.Value.TheVariants as value
use Rattle.ygg_value.specs.declared.shape.Shape.{Shape}
use Rattle.ygg_value.specs.declared.shape.Shape.TheVariants as shape
use Rattle.ygg_shape_words.specs.ygg_rules.Views.{IsWidth}
use Rattle.ygg_shape_words.specs.ygg_rules.declared.rule.RuleKind.{RuleKind}
use Rattle.ygg_shape_words.specs.ygg_bank_proofs_Exist.{values_fit}
use Rattle.ygg_shape_words.specs.ygg_bank_proofs_Inputs.{made_inputs, fresh_width}
use Rattle.ygg_shape_words.specs.ygg_bank_proofs_Made.{made_grows}
use Rattle.ygg_shape_words.specs.ygg_bank_proofs_Meaning.{fits_fewer}
use Rattle.ygg_shape_words.specs.ygg_bank_proofs_Widths.{wider, extends_self, extends_both}
use Rattle.ygg_shape_words.specs.ygg_bank.Inputs.{InputsBelow, next_after}
use Rattle.ygg_shape_words.specs.ygg_bank.Makes.{Make}
use Rattle.ygg_shape_words.specs.ygg_bank.Making.{made}
use Rattle.ygg_shape_words.specs.ygg_bank.Nodes.{HasWidth, CanMake, IsBank, Extends}
use Rattle.ygg_shape_words.specs.ygg_bank.Values.{Inputs, Values, Fits, value_of}
use Rattle.ygg_shape_words.specs.ygg_bank.declared.node.Id.{Id}
use Rattle.ygg_shape_words.specs.ygg_bank.declared.node.Node.{Node}
use Rattle.ygg_shape_words.specs.ygg_bank.declared.node.Node.TheVariants.{Input}
use Rattle.ygg_shape_words.proofs.Terms.{made_is}
use Rattle.ygg_shape_cells.proofs.Wider.{row_wider}
use Rattle.ygg_shape_cells.specs.Lists.{each_from}
use Rattle.ygg_shape_cells.specs.Terms.{IsRow, IsTable, IsShaped, numbers_of}
use Rattle.ygg_shape_cells.specs.declared.terms.SymValue.{SymValue}
use Rattle.ygg_shape_cells.proofs.Answered.{no_inputs, some_fit}
use Rattle.ygg_shape_cells.proofs.Keeps.{each_from_keeps}
use Rattle.ygg_shape_cells.proofs.Makers.{ValueIs}
use Rattle.ygg_shape_cells.proofs.Rows.{RowIs}
use Rattle.ygg_shape_cells.proofs.Tables.{RowsAre}
use Rattle.ygg_shape_cells.proofs.Worth.{digits, grid, row_worth, table_worth}
use Rattle.ygg_shape_cells.specs.Fresh.{fresh_row, fresh_rows, fresh_made, words_of, numbers_from, rows_from, given_value, IsGiven}

-- more in the stead of an equal number
pub below_as : (a b : ℕ) (nodes : List Node) → a ≡ b → InputsBelow a nodes → InputsBelow b nodes
below_as a b nodes e h = subst (λ z. InputsBelow z nodes) e h

module _ (kinds : List RuleKind) where
  -- the inputs of a row from a place on, and the rows of a table from a place on
  abbrev pub row_on : ℕ → ℕ → ℕ → ℕ → Make (List Id)
  row_on number w i k = each_from (λ i (x : ℕ). made kinds (Input (number + i) w)) i (replicate k 0)

  abbrev pub rows_on : ℕ → ℕ → ℕ → ℕ → ℕ → Make (List (List Id))
  rows_on number n w i k = each_from (λ i (x : ℕ). fresh_row kinds (number + i * n) n w) i (replicate k 0)

  row_on_grows : (number w i k : ℕ) (nodes : List Node) → Extends nodes (row_on number w i k nodes).nodes
  row_on_grows number w i k nodes =
      each_from_keeps (Extends nodes) (λ i (x : ℕ). made kinds (Input (number + i) w))
      (λ i x now g. extends_both nodes now (made kinds (Input (number + i) w) now).nodes g (made_grows kinds (Input (number + i) w) now))
      i (replicate k 0) nodes (extends_self nodes)

  rows_on_grows : (number n w i k : ℕ) (nodes : List Node) → Extends nodes (rows_on number n w i k nodes).nodes
  rows_on_grows number n w i k nodes =
      each_from_keeps (Extends nodes) (λ i (x : ℕ). fresh_row kinds (number + i * n) n w)
      (λ i x now g. extends_both nodes now (fresh_row kinds (number + i * n) n w now).nodes g (row_on_grows (number + i * n) w 0 n now))
      i (replicate k 0) nodes (extends_self nodes)

  pub fresh_grows : (number : ℕ) (s : Shape) (nodes : List Node) → Extends nodes (fresh_made kinds number s nodes).nodes
  fresh_grows number (shape.Word w) nodes = made_grows kinds (Input number w) nodes
  fresh_grows number (shape.Row n w) nodes = row_on_grows number w 0 n nodes
  fresh_grows number (shape.Table m n w) nodes = rows_on_grows number n w 0 m nodes

  -- the numbers that the inputs are below then
  one_below : (number w i : ℕ) (nodes : List Node) → InputsBelow (number + i) nodes →
      InputsBelow (number + (i + 1)) (made kinds (Input (number + i) w) nodes).nodes
  one_below number w i nodes h =
      below_as (next_after (number + i) (Input (number + i) w)) (number + (i + 1)) (made kinds (Input (number + i) w) nodes).nodes (omega arith)
      (made_inputs kinds (Input (number + i) w) nodes (number + i) h)

  row_on_below : (number w i k : ℕ) (nodes : List Node) → InputsBelow (number + i) nodes → InputsBelow (number + (i + k)) (row_on number w i k nodes).nodes
  row_on_below number w i zero nodes h = below_as (number + i) (number + (i + 0)) nodes (omega arith) h
  row_on_below number w i (suc k) nodes h =
      let o = made kinds (Input (number + i) w) nodes in
      below_as (number + (i + 1 + k)) (number + (i + suc k)) (row_on number w (i + 1) k o.nodes).nodes (omega arith)
      (row_on_below number w (i + 1) k o.nodes (one_below number w i nodes h))

  pub row_below : (number w n : ℕ) (nodes : List Node) → InputsBelow number nodes → InputsBelow (number + n) (fresh_row kinds number n w nodes).nodes
  row_below number w n nodes h =
      below_as (number + (0 + n)) (number + n) (fresh_row kinds number n w nodes).nodes (omega arith)
      (row_on_below number w 0 n nodes (below_as number (number + 0) nodes (omega arith) h))

  rows_on_below : (number n w i k : ℕ) (nodes : List Node) → InputsBelow (number + i * n) nodes →
      InputsBelow (number + (i + k) * n) (rows_on number n w i k nodes).nodes
  rows_on_below number n w i zero nodes h = below_as (number + i * n) (number + (i + 0) * n) nodes (omega arith) h
  rows_on_below number n w i (suc k) nodes h =
      let o = fresh_row kinds (number + i * n) n w nodes in
      below_as (number + (i + 1 + k) * n) (number + (i + suc k) * n) (rows_on number n w (i + 1) k o.nodes).nodes (omega arith)
      (rows_on_below number n w (i + 1) k o.nodes
      (below_as (number + i * n + n) (number + (i + 1) * n) o.nodes (omega arith) (row_below (number + i * n) w n nodes h)))

  pub fresh_below : (number : ℕ) (s : Shape) (nodes : List Node) → InputsBelow number nodes →
      InputsBelow (number + words_of s) (fresh_made kinds number s nodes).nodes
  fresh_below number (shape.Word w) nodes h =
      let o = made kinds (Input number w) nodes in
      below_as (next_after number (Input number w)) (number + 1) o.nodes (omega arith) (made_inputs kinds (Input number w) nodes number h)
  fresh_below number (shape.Row n w) nodes h = row_below number w n nodes h
  fresh_below number (shape.Table m n w) nodes h =
      below_as (number + (0 + m) * n) (number + m * n) (rows_on number n w 0 m nodes).nodes (omega arith)
      (rows_on_below number n w 0 m nodes (below_as number (number + 0 * n) nodes (omega arith) h))

-- an input above all others can be made
pub can_input : (nodes : List Node) (number w : ℕ) → IsWidth w → InputsBelow number nodes → CanMake nodes (Input number w)
can_input nodes number w l h = (l, fresh_width nodes number number w h (omega arith))

module _ (inputs : Inputs) (v : Values) (kinds : List RuleKind) where
  row_on_is : (number w i k : ℕ) (nodes : List Node) → IsWidth w → InputsBelow (number + i) nodes → Fits inputs v (row_on kinds number w i k nodes).nodes →
      RowIs inputs v (row_on kinds number w i k nodes).nodes k w (numbers_from inputs (number + i) k) (row_on kinds number w i k nodes).value
  row_on_is number w i zero nodes l b h = record { shaped = record { count = refl; wide = All-nil (λ (a : Id). HasWidth nodes a w) }; is = refl }
  row_on_is number w i (suc k) nodes l b h =
      let o = made kinds (Input (number + i) w) nodes in
      let rest = row_on kinds number w (i + 1) k o.nodes in
      let g = row_on_grows kinds number w (i + 1) k o.nodes in
      let m = made_is inputs v kinds (Input (number + i) w) nodes (can_input nodes (number + i) w l b) (fits_fewer inputs v o.nodes rest.nodes g h) in
      let r = row_on_is number w (i + 1) k o.nodes l (one_below kinds number w i nodes b) h in
      let tail = r.shaped in
      let next : number + (i + 1) ≡ number + i + 1 = omega arith in
      record {
        shaped = record {
          count = omega (arith, tail.count);
          wide = All-cons (λ (a : Id). HasWidth rest.nodes a w) o.value rest.value (wider o.nodes rest.nodes o.value w g m.wide) tail.wide;
        };
        is = ap (λ z. z ∷ numbers_of v rest.value) (ap (λ (z : Number). z.bits) m.is)
            ∙ ap (λ z. inputs (number + i) ∷ z) (r.is ∙ ap (λ z. numbers_from inputs z k) next);
      }

  row_is : (number n w : ℕ) (nodes : List Node) → IsWidth w → InputsBelow number nodes → Fits inputs v (fresh_row kinds number n w nodes).nodes →
      RowIs inputs v (fresh_row kinds number n w nodes).nodes n w (numbers_from inputs number n) (fresh_row kinds number n w nodes).value
  row_is number n w nodes l b h =
      let r = row_on_is number w 0 n nodes l (below_as number (number + 0) nodes (omega arith) b) h in
      let e : number + 0 ≡ number = omega arith in
      record { shaped = r.shaped; is = r.is ∙ ap (λ z. numbers_from inputs z n) e }

  rows_on_is : (number n w i k : ℕ) (nodes : List Node) → IsWidth w → InputsBelow (number + i * n) nodes →
      Fits inputs v (rows_on kinds number n w i k nodes).nodes →
      RowsAre inputs v (rows_on kinds number n w i k nodes).nodes n w (rows_from inputs (number + i * n) k n) (rows_on kinds number n w i k nodes).value
  rows_on_is number n w i zero nodes l b h = record { rows_are = All-nil (IsRow nodes n w); is = refl }
  rows_on_is number n w i (suc k) nodes l b h =
      let o = fresh_row kinds (number + i * n) n w nodes in
      let rest = rows_on kinds number n w (i + 1) k o.nodes in
      let g = rows_on_grows kinds number n w (i + 1) k o.nodes in
      let m = row_is (number + i * n) n w nodes l b (fits_fewer inputs v o.nodes rest.nodes g h) in
      let next : number + (i + 1) * n ≡ number + i * n + n = omega arith in
      let r = rows_on_is number n w (i + 1) k o.nodes l (below_as (number + i * n + n) (number + (i + 1) * n) o.nodes (sym next)
      (row_below kinds (number + i * n) w n nodes b)) h in
      record {
        rows_are = All-cons (IsRow rest.nodes n w) o.value rest.value (row_wider o.nodes rest.nodes n w o.value g m.shaped) r.rows_are;
        is = ap (λ z. z ∷ map (numbers_of v) rest.value) m.is
            ∙ ap (λ z. numbers_from inputs (number + i * n) n ∷ z) (r.is ∙ ap (λ z. rows_from inputs z k n) next);
      }

  rows_length : (number n w i k : ℕ) (nodes : List Node) → length (rows_on kinds number n w i k nodes).value ≡ k
  rows_length number n w i zero nodes = refl
  rows_length number n w i (suc k) nodes = omega (arith, rows_length number n w (i + 1) k (fresh_row kinds (number + i * n) n w nodes).nodes)

  pub fresh_gives : (number : ℕ) (s : Shape) (nodes : List Node) → IsShape s → InputsBelow number nodes →
      Fits inputs v (fresh_made kinds number s nodes).nodes →
      ValueIs inputs v (fresh_made kinds number s nodes).nodes s (given_value inputs number s) (fresh_made kinds number s nodes).value
  fresh_gives number (shape.Word w) nodes l b h =
      let m = made_is inputs v kinds (Input number w) nodes (can_input nodes number w (record { least = l.0; most = l.1 }) b) h in
      record { shaped = record { limits = l; has = m.wide }; is = ap value.Word m.is }
  fresh_gives number (shape.Row n w) nodes l b h =
      let o = fresh_row kinds number n w nodes in
      let m = row_is number n w nodes (record { least = l.1.0; most = l.1.1 }) b h in
      record {
        shaped = record { limits = l; has = m.shaped };
        is = ap value.Row (row_worth inputs v kinds o.nodes n w o.value h m.shaped l.0.0 ∙ ap (digits w) m.is);
      }
  fresh_gives number (shape.Table k n w) nodes l b h =
      let o = fresh_rows kinds number k n w nodes in
      let m = rows_on_is number n w 0 k nodes (record { least = l.2.0; most = l.2.1 }) (below_as number (number + 0 * n) nodes (omega arith) b) h in
      let size = rows_length number n w 0 k nodes in
      let e : number + 0 * n ≡ number = omega arith in
      let is : IsTable o.nodes n w o.value = record { limits = subst (λ z. IsShape (shape.Table z n w)) (sym size) l; rows = m.rows_are } in
      record {
        shaped = record { limits = l; has = (size, is) };
        is = ap value.Table (table_worth inputs v kinds o.nodes n w o.value h is
            ∙ ap (grid w n) (m.is ∙ ap (λ z. rows_from inputs z k n) e));
      }

-- what the call says of its answer
pub fresh_value : {E : Type 0} (kinds : List RuleKind) (number : ℕ) (s : Shape) (old new : List Node) (r : Result SymValue E) → IsBank new → IsShape s →
    InputsBelow number old → OnOk r (new ≡ (fresh_made kinds number s old).nodes) → IfOk r (λ answer. answer ≡ (fresh_made kinds number s old).value) →
    IfOk r (IsGiven new number s)
fresh_value kinds number s old new (Ok answer) b l i e g =
    let o = fresh_made kinds number s old in
    let c = subst IsBank e b in
    subst (λ z. IsGiven z number s answer) (sym e) (subst (IsGiven o.nodes number s) (sym g) (λ inputs fit.
    let m = fresh_gives inputs (value_of inputs o.nodes) kinds number s old l i (values_fit inputs o.nodes c.ordered fit) in m.is))
fresh_value kinds number s old new (Err x) b l i e g = tt

pub fresh_shaped : {E : Type 0} (kinds : List RuleKind) (number : ℕ) (s : Shape) (old new : List Node) (r : Result SymValue E) → IsBank new → IsShape s →
    InputsBelow number old → OnOk r (new ≡ (fresh_made kinds number s old).nodes) → IfOk r (λ answer. answer ≡ (fresh_made kinds number s old).value) →
    IfOk r (IsShaped new s)
fresh_shaped kinds number s old new (Ok answer) b l i e g =
    let o = fresh_made kinds number s old in
    let m = fresh_gives no_inputs (value_of no_inputs o.nodes) kinds number s old l i (some_fit o.nodes (subst IsBank e b)) in
    subst (λ z. IsShaped z s answer) (sym e) (subst (IsShaped o.nodes s) (sym g) m.shaped)
fresh_shaped kinds number s old new (Err x) b l i e g = tt

pub fresh_inputs : {E : Type 0} (kinds : List RuleKind) (number : ℕ) (s : Shape) (old new : List Node) (r : Result SymValue E) → InputsBelow number old →
    OnOk r (new ≡ (fresh_made kinds number s old).nodes) → OnOk r (InputsBelow (number + words_of s) new)
fresh_inputs kinds number s old new (Ok answer) i e = subst (InputsBelow (number + words_of s)) (sym e) (fresh_below kinds number s old i)
fresh_inputs kinds number s old new (Err x) i e = tt
