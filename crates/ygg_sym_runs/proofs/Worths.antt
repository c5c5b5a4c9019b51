-- What terms are worth keeps the limits, and values of names that follow one another are merged name by name.
use Rattle.std.proofs.Common.{◌≡◌, ◌<◌, ◌≤◌, ◌*◌, ◌^◌, ℕ, Bool, true, false, if◌then◌else◌, List, [], ◌∷◌, map, length, All, refl, sym, ap, ◌∙◌, subst, arith}
use Rattle.std.proofs.lemmas.List.{length-map}
use Rattle.std.proofs.lemmas.List.Elements.{All-head, All-tail, All-cons, All-nil}
use Rattle.ygg_value.specs.Number.{IsRow, IsTable}
use Rattle.ygg_value.specs.Shapes.{IsValue}
use Rattle.ygg_value.specs.declared.row.Value.{Value}
use Rattle.ygg_value.specs.declared.shape.Shape.{Shape}
use Rattle.ygg_value.specs.declared.shape.Shape.TheVariants as shape
use Rattle.ygg_meaning_laws.specs.ygg_meaning.Environments.{Name, Env}
use Rattle.ygg_meaning_laws.specs.ygg_meaning.Shapes.{fits}
use Rattle.ygg_meaning_laws.proofs.Fits.{value_fits}
use Rattle.ygg_meaning_laws.specs.Questions.{Follows}
use Rattle.ygg_meaning_laws.proofs.ProgressFits.{one_shape}
use Rattle.ygg_sym_runs.specs.ygg_rules.declared.rule.RuleKind.{RuleKind}
use Rattle.ygg_sym_runs.specs.ygg_bank_proofs_Meaning.{fits_fewer}
use Rattle.ygg_sym_runs.specs.ygg_bank_proofs_Widths.{wider, extends_self, extends_both}
use Rattle.ygg_sym_runs.specs.ygg_bank.Nodes.{HasWidth}
use Rattle.ygg_sym_runs.specs.ygg_bank.Values.{Inputs, Values, Fits}
use Rattle.ygg_sym_runs.specs.ygg_bank.declared.node.Id.{Id}
use Rattle.ygg_sym_runs.specs.ygg_bank.declared.node.Node.{Node}
use Rattle.ygg_sym_runs.specs.ygg_shape_cells_proofs_Makers.{merged_gives}
use Rattle.ygg_sym_runs.specs.ygg_shape_cells_proofs_Worth.{digits, grid, row_worth, table_worth}
use Rattle.ygg_sym_runs.specs.ygg_shape_cells.Making.{merged}
use Rattle.ygg_sym_runs.specs.ygg_shape_cells.Terms.{worth, numbers_of}
use Rattle.ygg_sym_runs.specs.ygg_shape_cells.Terms as cells
use Rattle.ygg_sym_runs.specs.ygg_shape_cells.declared.terms.SymValue.{SymValue}
use Rattle.ygg_sym_runs.specs.ygg_shape_cells.declared.terms.SymValue.TheVariants.{Word, Row, Table}
use Rattle.ygg_sym_runs.specs.Names.{SymEnv}
use Rattle.ygg_sym_runs.specs.Exprs.{SymFunctions}
use Rattle.ygg_sym_runs.specs.ygg_shape_cells.Terms.{IsShaped}
use Rattle.ygg_sym_runs.specs.ExpressionMeaning.{SomeShape, EnvShaped, Grows, Gives, worths}
use Rattle.ygg_sym_runs.proofs.Shaped.{worth_shape, some_wider, env_wider}
use Rattle.ygg_sym_runs.specs.ygg_shape_cells_proofs_Grows.{merged_grows}
use Rattle.ygg_sym_runs.specs.Runs.{SymMachine, merge_env}
use Rattle.ygg_sym_runs.specs.Meaning.{is_set}

-- a name with a value that has some shape
abbrev pub NameShaped : List Node → Name × SymValue → Type 0
NameShaped nodes b = SomeShape nodes b.1

if_same : {X Y : Type 0} (f : X → Y) (c : Bool) (a b : X) → f (if c then a else b) ≡ (if c then f a else f b)
if_same f true a b = refl
if_same f false a b = refl

pair_if : (c : Bool) (p q : Name) (a b : Value) (xs ys : Env) → p ≡ q →
    (p, (if c then a else b)) ∷ (if c then xs else ys) ≡ (if c then (p, a) ∷ xs else (q, b) ∷ ys)
pair_if true p q a b xs ys e = refl
pair_if false p q a b xs ys e = ap (λ n. (n, b) ∷ ys) e

same_if : (c : Bool) (e : Env) → e ≡ (if c then e else e)
same_if true e = refl
same_if false e = refl

module _ (inputs : Inputs) (v : Values) where
  bits_below : (nodes : List Node) (w : ℕ) (row : List Id) → Fits inputs v nodes → All (λ a. HasWidth nodes a w) row → All (λ n. n < 2 ^ w) (numbers_of v row)
  bits_below nodes w [] h p = All-nil (λ n. n < 2 ^ w)
  bits_below nodes w (a ∷ row) h p =
      let i = h.words a.0 in
      let wide = h.widths a.0 w (All-head (λ a. HasWidth nodes a w) a row p) in
      All-cons (λ n. n < 2 ^ w) (v a.0).bits (numbers_of v row) (subst (λ k. (v a.0).bits < 2 ^ k) wide i.fits)
      (bits_below nodes w row h (All-tail (λ a. HasWidth nodes a w) a row p))

  rows_even : (nodes : List Node) (n w : ℕ) (rows : List (List Id)) → All (cells.IsRow nodes n w) rows →
      All (λ (row : List ℕ). length row ≡ n) (map (numbers_of v) rows)
  rows_even nodes n w [] p = All-nil (λ (row : List ℕ). length row ≡ n)
  rows_even nodes n w (row ∷ rows) p =
      let i = All-head (cells.IsRow nodes n w) row rows p in
      All-cons (λ (row : List ℕ). length row ≡ n) (numbers_of v row) (map (numbers_of v) rows) (length-map row (λ (a : Id). (v a.0).bits) ∙ i.count)
      (rows_even nodes n w rows (All-tail (cells.IsRow nodes n w) row rows p))

  rows_below : (nodes : List Node) (n w : ℕ) (rows : List (List Id)) → Fits inputs v nodes → All (cells.IsRow nodes n w) rows →
      All (λ (row : List ℕ). All (λ n. n < 2 ^ w) row) (map (numbers_of v) rows)
  rows_below nodes n w [] h p = All-nil (λ (row : List ℕ). All (λ n. n < 2 ^ w) row)
  rows_below nodes n w (row ∷ rows) h p =
      let i = All-head (cells.IsRow nodes n w) row rows p in
      All-cons (λ (row : List ℕ). All (λ n. n < 2 ^ w) row) (numbers_of v row) (map (numbers_of v) rows) (bits_below nodes w row h i.wide)
      (rows_below nodes n w rows h (All-tail (cells.IsRow nodes n w) row rows p))

  -- what a value of a shape is worth keeps the limits
  pub worth_value : (nodes : List Node) (s : Shape) (x : SymValue) → Fits inputs v nodes → IsShaped nodes s x → IsValue (worth v x)
  worth_value nodes (shape.Word w) (Word a) h f = h.words a.0
  worth_value nodes (shape.Row n w) (Row row) h f =
      let l = f.limits in
      let p = f.has in
      let size = length-map row (λ (a : Id). (v a.0).bits) ∙ p.count in
      let m = l.0 in
      let u = l.1 in
      let is : IsRow (digits w (numbers_of v row)) = record {
        least = u.0;
        most = u.1;
        some = omega (arith, size, m.0);
        few = omega (arith, size, m.1);
        fits = bits_below nodes w row h p.wide;
      } in
      subst IsRow (sym (row_worth inputs v [] nodes n w row h p m.0)) is
  worth_value nodes (shape.Table k n w) (Table t) h f =
      let l = f.limits in
      let p = f.has in
      let i = p.1 in
      let size = length-map t (numbers_of v) ∙ p.0 in
      let a = l.0 in
      let b = l.1 in
      let c = l.2 in
      let is : IsTable (grid w n (map (numbers_of v) t)) = record {
        least = c.0;
        most = c.1;
        some = b.0;
        few = b.1;
        rows_some = omega (arith, size, a.0);
        rows_few = omega (arith, size, a.1);
        bounded = subst (λ z. z * n ≤ 4096) (sym size) l.3;
        even = rows_even nodes n w t i.rows;
        fits = rows_below nodes n w t h i.rows;
      } in
      subst IsTable (sym (table_worth inputs v [] nodes n w t h i)) is
  worth_value nodes (shape.Word w) (Row row) h f = absurd (f.has)
  worth_value nodes (shape.Word w) (Table t) h f = absurd (f.has)
  worth_value nodes (shape.Row n w) (Word a) h f = absurd (f.has)
  worth_value nodes (shape.Row n w) (Table t) h f = absurd (f.has)
  worth_value nodes (shape.Table m n w) (Word a) h f = absurd (f.has)
  worth_value nodes (shape.Table m n w) (Row row) h f = absurd (f.has)

  pub shaped_value : (nodes : List Node) (x : SymValue) → Fits inputs v nodes → SomeShape nodes x → IsValue (worth v x)
  shaped_value nodes x h s = worth_value nodes s.shape x h s.stands

  pub shape_fits : (nodes : List Node) (s : Shape) (x : SymValue) → Fits inputs v nodes → IsShaped nodes s x → fits s (worth v x) ≡ true
  shape_fits nodes s x h f = subst (λ k. fits k (worth v x) ≡ true) (worth_shape inputs v nodes s x h f) (value_fits (worth v x) (worth_value nodes s x h f))

  -- each value fits some shape
  pub record FitsSome (b : Name × Value) : Type 0 where
    pub shape : Shape
    pub fit : fits shape b.1 ≡ true

  pub env_fits_some : (nodes : List Node) (env : SymEnv) → Fits inputs v nodes → EnvShaped nodes env → All FitsSome (worths v env)
  env_fits_some nodes [] h s = All-nil FitsSome
  env_fits_some nodes (b ∷ env) h s =
      let i = All-head (NameShaped nodes) b env s in
      All-cons FitsSome (b.0, worth v b.1) (worths v env) (record { shape = i.shape; fit = shape_fits nodes i.shape b.1 h i.stands })
      (env_fits_some nodes env h (All-tail (NameShaped nodes) b env s))

  -- names with values of some shapes that are worth these
  pub record EnvIs (want : Env) (nodes : List Node) (env : SymEnv) : Type 0 where
    pub shaped : EnvShaped nodes env
    pub is : worths v env ≡ want

  module _ {S : Type 0} (kinds : List RuleKind) (terms : SymFunctions) (M : SymMachine S) where
    pub merge_env_grows : (t : Id) (a b : SymEnv) → Grows (merge_env kinds terms M t a b)
    merge_env_grows t [] b nodes = extends_self nodes
    merge_env_grows t (x ∷ a) [] nodes = extends_self nodes
    merge_env_grows t (x ∷ a) (y ∷ b) nodes =
        let o = merged kinds t x.1 y.1 nodes in
        extends_both nodes o.nodes (merge_env kinds terms M t a b o.nodes).nodes (merged_grows kinds t x.1 y.1 nodes) (merge_env_grows t a b o.nodes)

    pub merge_env_gives : (t : Id) (start : Env) (a b : SymEnv) (nodes : List Node) → HasWidth nodes t 1 → All FitsSome start →
        Follows start (worths v a) → Follows start (worths v b) → length a ≡ length start → length b ≡ length start → EnvShaped nodes a → EnvShaped nodes b →
        Gives inputs v (merge_env kinds terms M t a b) nodes (EnvIs (if is_set v t then worths v a else worths v b))
    merge_env_gives t start [] [] nodes d some f g i j p q h = record { shaped = All-nil (NameShaped nodes); is = same_if (is_set v t) [] }
    merge_env_gives t start [] (y ∷ b) nodes d some f g i j p q h = absurd (omega (arith, i, j))
    merge_env_gives t start (x ∷ a) [] nodes d some f g i j p q h = absurd (omega (arith, i, j))
    merge_env_gives t [] (x ∷ a) (y ∷ b) nodes d some f g i j p q h = absurd (omega (arith, i))
    merge_env_gives t (c ∷ start) (x ∷ a) (y ∷ b) nodes d some (n, k, f) (m, l, g) i j p q h =
        let o = merged kinds t x.1 y.1 nodes in
        let r = merge_env kinds terms M t a b o.nodes in
        let e = merged_grows kinds t x.1 y.1 nodes in
        let u = merge_env_grows t a b o.nodes in
        let ho = fits_fewer inputs v o.nodes r.nodes u h in
        let hn = fits_fewer inputs v nodes o.nodes e ho in
        let px = All-head (NameShaped nodes) x a p in
        let qy = All-head (NameShaped nodes) y b q in
        let s = All-head FitsSome c start some in
        let sx = one_shape s.shape px.shape (worth v x.1) (k s.shape s.fit) (shape_fits nodes px.shape x.1 hn px.stands) in
        let sy = one_shape s.shape qy.shape (worth v y.1) (l s.shape s.fit) (shape_fits nodes qy.shape y.1 hn qy.stands) in
        let fx = subst (λ z. IsShaped nodes z x.1) (sym sx) px.stands in
        let fy = subst (λ z. IsShaped nodes z y.1) (sym sy) qy.stands in
        let z = merged_gives inputs v kinds s.shape t x.1 y.1 nodes d fx fy ho in
        let shaped : SomeShape o.nodes o.value = record { shape = s.shape; stands = z.shaped } in
        let rest = merge_env_gives t start a b o.nodes (wider nodes o.nodes t 1 e d) (All-tail FitsSome c start some) f g (omega (arith, i)) (omega (arith, j))
        (env_wider nodes o.nodes a e (All-tail (NameShaped nodes) x a p)) (env_wider nodes o.nodes b e (All-tail (NameShaped nodes) y b q)) h in
        record {
          shaped = All-cons (NameShaped r.nodes) (x.0, o.value) r.value (some_wider o.nodes r.nodes o.value u shaped) rest.shaped;
          is = ap (λ w. (x.0, w) ∷ worths v r.value) z.is
              ∙ ap (λ ws. (x.0, (if is_set v t then worth v x.1 else worth v y.1)) ∷ ws) rest.is
              ∙ pair_if (is_set v t) x.0 y.0 (worth v x.1) (worth v y.1) (worths v a) (worths v b) (n ∙ sym m);
        }
