-- Which states of a file that is made are related: those whose disk and whose specification have one table.
use Rattle.std.proofs.Common.{◌≡◌, ℕ, zero, suc, Bool, true, false, ◌&&◌, if◌then◌else◌, List, [], ◌∷◌, replicate, codes, refl, sym, ap, ◌∙◌, subst}
use Rattle.std.specs.List.{list_all}
use Rattle.std.specs.Str.{bytes_eq}
use Rattle.std.proofs.lemmas.Bool.{and_from}
use Rattle.std.proofs.lemmas.List.{length-replicate}
use Rattle.ygg_value.specs.Number.{Grid, Digits}
use Rattle.ygg_value.specs.Values.{same_value, digit, table_write}
use Rattle.ygg_value.specs.declared.operation.Op.TheVariants as op
use Rattle.ygg_value.specs.declared.row.Value.{Value}
use Rattle.ygg_value.specs.declared.row.Value.TheVariants.{Word, Row, Table}
use Rattle.ygg_value.specs.declared.shape.Shape.TheVariants as shape
use Rattle.ygg_value.proofs.Equality.{same_value-iff}
use Rattle.ygg_syntax.specs.declared.tree.Declared.{Declared}
use Rattle.ygg_syntax.specs.declared.tree.Expr.TheVariants as expr
use Rattle.ygg_syntax.specs.declared.tree.Layer.{Layer}
use Rattle.ygg_meaning_laws.specs.ygg_meaning.Environments.{Env, look_up}
use Rattle.ygg_meaning_laws.specs.ygg_meaning.Meaning.{Scope, functions_of, value_with, is_one}
use Rattle.ygg_meaning_laws.specs.ygg_meaning.Shapes.{shape_in, words_fit, fits, env_fits}
use Rattle.ygg_meaning_laws.specs.ygg_meaning.Layer.{ClosedLayer}
use Rattle.ygg_meaning_laws.specs.ygg_meaning.Related.{holds, shaped, all_true, relates, related, settled}
use Rattle.ygg_meaning_laws.specs.ygg_meaning.Stack.{table_named, tables_of}
use Rattle.ygg_meaning_laws.proofs.Tests.{left, right, bytes_same, bytes_equal}
use Rattle.ygg_meaning_laws.proofs.ProgressFits.{zeros_fit, table_parts, table_whole, row_written}
use Rattle.ygg_yard.specs.Trees.{Places, name_at, disk_made, table_made, relation_made, layer_made}
use Rattle.ygg_yard.proofs.Disk.{view_of}
use Rattle.ygg_yard.proofs.Values.{worth_binary, worth_low, worth_variable}

-- the one variable of the specification
abbrev pub vars_of : Grid → Env
vars_of g = (codes "t", Table g) ∷ []

-- one name with a value of its shape
pub record OneFits (d : Declared) (env : Env) : Type 0 where
  pub value : Value
  pub is : env ≡ (d.name.text, value) ∷ []
  pub fit : fits (shape_in d.shape) value ≡ true

pub one_fits : (d : Declared) (env : Env) → env_fits (d ∷ []) env ≡ true → OneFits d env
one_fits d [] h = absurd (cc)
one_fits d (b ∷ []) h =
    let first = left (bytes_eq d.name.text b.0 && fits (shape_in d.shape) b.1) true h in record {
      value = b.1;
      is = ap (λ (n : List ℕ). (n, b.1) ∷ []) (sym (bytes_same d.name.text b.0 (left (bytes_eq d.name.text b.0) (fits (shape_in d.shape) b.1) first)));
      fit = right (bytes_eq d.name.text b.0) (fits (shape_in d.shape) b.1) first;
    }
one_fits d (b ∷ c ∷ env) h =
    let last : false ≡ true = right (bytes_eq d.name.text b.0 && fits (shape_in d.shape) b.1) false h in absurd (cc)

pub no_fits : (env : Env) → env_fits [] env ≡ true → env ≡ []
no_fits [] h = refl
no_fits (b ∷ env) h = absurd (cc)

-- a name fits its value
fits_one : (d : Declared) (v : Value) → fits (shape_in d.shape) v ≡ true → env_fits (d ∷ []) ((d.name.text, v) ∷ []) ≡ true
fits_one d v h =
    and_from (bytes_eq d.name.text d.name.text && fits (shape_in d.shape) v) true
    (and_from (bytes_eq d.name.text d.name.text) (fits (shape_in d.shape) v) (bytes_equal d.name.text) h) refl

table_of : (n m w : ℕ) (v : Value) → fits (shape.Table n m w) v ≡ true → (g : Grid) × (v ≡ Table g)
table_of n m w (Table g) h = (g, refl)
table_of n m w (Word x) h = absurd (cc)
table_of n m w (Row x) h = absurd (cc)

list_replicate : {X : Type 0} (test : X → Bool) (n : ℕ) (x : X) → test x ≡ true → list_all test (replicate n x) ≡ true
list_replicate test zero x e = refl
list_replicate test (suc n) x e = and_from (test x) (list_all test (replicate n x)) e (list_replicate test n x e)

digit_one : (b : Bool) → is_one (digit b) ≡ b
digit_one true = refl
digit_one false = refl

module _ (p : Places) (count : ℕ) where
  abbrev pub l : Layer
  l = layer_made p count

  abbrev pub L : ClosedLayer
  L = record { functions = functions_of []; layer = l; low = tables_of (disk_made p count) }

  -- a table of the file's size
  abbrev pub Sized : Grid → Type 0
  Sized g = fits (shape.Table count 1 8) (Table g) ≡ true

  -- a table of zeros
  pub zeros_sized : Sized (record { width = 8; words = 1; rows = replicate count (replicate 1 0) })
  zeros_sized = table_whole count 1 8 (record { width = 8; words = 1; rows = replicate count (replicate 1 0) }) (record {
    width = refl;
    words = refl;
    rows = length-replicate count (replicate 1 0);
    all = list_replicate (words_fit 8 1) count (replicate 1 0) (zeros_fit 8 1);
  })

  -- a table with a row of the right width written anew
  pub written_sized : (g : Grid) (at : ℕ) (row : Digits) → Sized g → words_fit 8 1 row.words ≡ true → Sized (table_write g at row)
  written_sized g at row h r = table_whole count 1 8 (table_write g at row) (row_written count 1 8 g at row (table_parts count 1 8 g h) r)

  -- the relation compares the tables
  relation : (g h : Grid) → holds L (vars_of h) [] (view_of g) (relation_made p count) ≡ same_value (Table g) (Table h)
  relation g h =
      let s : Scope = record { own = vars_of h; low = view_of g } in
      ap is_one (worth_binary L.functions s (p.tail 1) (expr.Low (p.tail 2) (name_at (codes "view") (p.tail 4))) op.Eq (p.tail 5)
      (expr.Variable (name_at (codes "t") (p.tail 6))))
      ∙ ap (λ (v : Value). is_one (digit (same_value v (value_with L.functions (expr.Variable (name_at (codes "t") (p.tail 6))) s))))
      (worth_low L.functions s (p.tail 2) (name_at (codes "view") (p.tail 4))
      ∙ ap (λ b. if b then Table g else look_up (codes "view") []) (bytes_equal (codes "view")))
      ∙ ap (λ (v : Value). is_one (digit (same_value (Table g) v)))
      (worth_variable L.functions s (name_at (codes "t") (p.tail 6)) ∙ ap (λ b. if b then Table h else look_up (codes "t") []) (bytes_equal (codes "t")))
      ∙ digit_one (same_value (Table g) (Table h))

  abbrev seen : Declared
  seen = table_named (codes "view") (disk_made p count)

  abbrev kept : Declared
  kept = table_made p count

  view_fits : (g : Grid) → Sized g → env_fits L.low (view_of g) ≡ true
  view_fits g h = fits_one seen (Table g) h

  shapes : (g : Grid) → Sized g → shaped L (vars_of g) [] (view_of g) ≡ true
  shapes g h =
      and_from (env_fits l.state (vars_of g) && env_fits l.memory []) (env_fits L.low (view_of g))
      (and_from (env_fits l.state (vars_of g)) (env_fits l.memory []) (fits_one kept (Table g) h) refl) (view_fits g h)

  -- one table on both sides is related
  pub is_related : (g : Grid) → Sized g → related L (vars_of g) [] (view_of g) ≡ true
  is_related g h =
      and_from (shaped L (vars_of g) [] (view_of g)) (all_true (relates L (vars_of g) [] (view_of g))) (shapes g h)
      (and_from (holds L (vars_of g) [] (view_of g) (relation_made p count)) true (relation g g ∙ (same_value-iff (Table g) (Table g)).1 refl) refl)

  -- and each is settled
  pub is_settled : (g : Grid) → Sized g → settled L (view_of g) ≡ true
  is_settled g h = and_from (env_fits L.low (view_of g)) true (view_fits g h) refl

  -- the base of the right shape
  pub record Lows (low : Env) : Type 0 where
    pub table : Grid
    pub is : low ≡ view_of table
    pub sized : Sized table

  pub low_is : (low : Env) → env_fits L.low low ≡ true → Lows low
  low_is low h =
      let one = one_fits seen low h in
      let t = table_of count 1 8 one.value one.fit in
      record {
        table = t.0;
        is = one.is ∙ ap (λ (v : Value). (codes "view", v) ∷ []) t.1;
        sized = subst (λ (v : Value). fits (shape.Table count 1 8) v ≡ true) t.1 one.fit;
      }

  -- related states are such
  pub record States (vars memory low : Env) : Type 0 where
    pub table : Grid
    pub vars_is : vars ≡ vars_of table
    pub memory_is : memory ≡ []
    pub low_is : low ≡ view_of table
    pub sized : Sized table

  pub states_are : (vars memory low : Env) → shaped L vars memory low ≡ true → all_true (relates L vars memory low) ≡ true → States vars memory low
  states_are vars memory low h r =
      let own = left (env_fits l.state vars && env_fits l.memory memory) (env_fits L.low low) h in
      let one = one_fits kept vars (left (env_fits l.state vars) (env_fits l.memory memory) own) in
      let t = table_of count 1 8 one.value one.fit in
      let m = no_fits memory (right (env_fits l.state vars) (env_fits l.memory memory) own) in
      let b = low_is low (right (env_fits l.state vars && env_fits l.memory memory) (env_fits L.low low) h) in
      let v = one.is ∙ ap (λ (v : Value). (codes "t", v) ∷ []) t.1 in
      let holding = left (holds L vars memory low (relation_made p count)) true r in
      let shown : holds L (vars_of t.0) [] (view_of b.table) (relation_made p count) ≡ true =
      subst (λ (e : Env). holds L e [] (view_of b.table) (relation_made p count) ≡ true) v
      (subst (λ (e : Env). holds L vars e (view_of b.table) (relation_made p count) ≡ true) m
      (subst (λ (e : Env). holds L vars memory e (relation_made p count) ≡ true) b.is holding)) in
      let same : Table b.table ≡ Table t.0 = (same_value-iff (Table b.table) (Table t.0)).0 (sym (relation b.table t.0) ∙ shown) in
      record {
        table = b.table;
        vars_is = v ∙ ap (λ (v : Value). (codes "t", v) ∷ []) (sym same);
        memory_is = m;
        low_is = b.is;
        sized = b.sized;
      }
