-- The steps of the evaluator over terms, over plain variables: what each call asks, and what each construct makes.
use Rattle.std.proofs.Common.{◌≡◌, ℕ, ◌<◌, ◌≤◌, List, map, replicate, length, get_or, All, refl, sym, ap, ◌∙◌, subst}
use Rattle.ygg_value.specs.Shapes.{Within}
use Rattle.ygg_value.specs.declared.operation.Op.{Op}
use Rattle.ygg_eval_expr.specs.ygg_meaning_laws_proofs_Rules.{ConstantParts}
use Rattle.ygg_syntax.specs.declared.tree.Def.{Def}
use Rattle.ygg_syntax.specs.declared.tree.Place.{Place}
use Rattle.ygg_syntax.specs.declared.tree.Name.{Name}
use Rattle.ygg_syntax.specs.declared.tree.Numeral.{Numeral}
use Rattle.ygg_syntax.specs.declared.tree.Quantifier.{Quantifier}
use Rattle.ygg_syntax.specs.declared.tree.Expr.{Expr}
use Rattle.ygg_syntax.specs.declared.tree.Expr.TheVariants as tree
use Rattle.ygg_shape.specs.ygg_rules.declared.rule.RuleKind.{RuleKind}
use Rattle.ygg_shape.specs.ygg_bank.Makes.{Make, pure, and_make}
use Rattle.ygg_shape.specs.ygg_bank.Nodes.{Stands, HasWidth, IsBank, Extends}
use Rattle.ygg_shape.specs.ygg_bank.declared.node.Id.{Id}
use Rattle.ygg_shape.specs.ygg_bank.declared.node.Node.{Node}
use Rattle.ygg_shape.specs.ygg_bank.declared.node.Node.TheVariants as node
use Rattle.ygg_shape.specs.ygg_shape_cells.Making.{merged}
use Rattle.ygg_shape.specs.ygg_shape_cells.Terms.{AreAlike}
use Rattle.ygg_shape.specs.ygg_shape_cells.declared.terms.SymValue.{SymValue}
use Rattle.ygg_shape.specs.ygg_shape_cells.declared.terms.SymValue.TheVariants.{Word, Row}
use Rattle.ygg_sym_runs.specs.Names.{SymEnv}
use Rattle.ygg_sym_runs.specs.Exprs.{id_in, all_made, small_made, applied, part_made, joined}
use Rattle.ygg_sym_runs.specs.ExpressionMeaning.{SomeShape}
use Rattle.ygg_sym_runs.specs.Seen.{SymKnown, CanTerm, CanCall, CanQuantify, CanOperate, terms_called, terms_in, joining, start_of, test_at}
use Rattle.ygg_sym_runs.proofs.Constructs.{
  makings,
  one_then,
  two_at,
  three_at,
  apply_made,
  binary_made,
  not_made,
  at_made,
  pick_made,
  resize_made,
  fill_made,
  row_made,
  quantified_is_made,
}
use Rattle.ygg_sym_runs.proofs.Ready.{
  constant_ready,
  quantified_parts,
  binary_ready,
  operate_ready,
  not_ready,
  not_stands,
  resize_ready,
  resize_stands,
  fill_ready,
  at_ready,
  at_stands,
  pick_ready,
  merge_ready,
  row_ready,
  apply_ready,
  call_ready,
}
use Rattle.ygg_sym_runs.proofs.Terms.{can_later}

-- these definitions and names
abbrev pub seeing : List Def → SymEnv → SymEnv → SymKnown
seeing defs own low = record { defs = defs; scope = record { own = own; low = low } }

-- one of several expressions that have terms
pub item_can : (k : SymKnown) (nodes : List Node) (es : List Expr) (i : ℕ) (x : Expr) → i < length es → x ≡ get_or es i x →
    All (CanTerm k nodes) es →
    CanTerm k nodes x
item_can k nodes es i x l is all = subst (CanTerm k nodes) (sym is) (all i x l)

module _ (kinds : List RuleKind) (k : SymKnown) where
  abbrev T : Expr → Make SymValue
  T = terms_in kinds k

  -- what a call of the evaluator left and answered
  pub record Gave (e : Expr) (old new : List Node) (x : SymValue) : Type 0 where
    pub nodes : new ≡ (T e old).nodes
    pub value : x ≡ (T e old).value

  pub gave : {e : Expr} {old new : List Node} {x : SymValue} → new ≡ (T e old).nodes → x ≡ (T e old).value → Gave e old new x
  gave nodes value = record { nodes = nodes; value = value }

  -- the same of an equal expression
  other : (e f : Expr) (old new : List Node) (x : SymValue) → e ≡ f → Gave e old new x → Gave f old new x
  other e f old new x is h = subst (λ z. Gave z old new x) is h

  opened : (old : List Node) (e f : Expr) → CanTerm k old e → e ≡ f → CanTerm k old f
  opened old e f can is = subst (CanTerm k old) is can

  pub constant_fits : (e : Expr) (n w : Numeral) (old : List Node) → CanTerm k old e → e ≡ tree.Constant n w → ConstantParts n w
  constant_fits e n w old can is = constant_ready kinds k n w old (opened old e (tree.Constant n w) can is)

  -- operators

  pub left_asks : (e : Expr) (first : Place) (a : Expr) (o : Op) (at : Place) (b x : Expr) (old : List Node) → IsBank old → CanTerm k old e →
      e ≡ tree.Binary first a o at b → x ≡ a → CanTerm k old x
  left_asks e first a o at b x old bank can is here =
      let w = tree.Binary first a o at b in opened old a x (binary_ready kinds k first a o at b old bank (opened old e w can is)).0 (sym here)

  pub right_asks : (e : Expr) (first : Place) (a : Expr) (o : Op) (at : Place) (b x : Expr) (old mid : List Node) → IsBank old → CanTerm k old e →
      e ≡ tree.Binary first a o at b → x ≡ b → Extends old mid → CanTerm k mid x
  right_asks e first a o at b x old mid bank can is here g =
      let w = tree.Binary first a o at b in
      can_later k old mid x g (opened old b x (binary_ready kinds k first a o at b old bank (opened old e w can is)).1 (sym here))

  pub operated_asks : (e : Expr) (first : Place) (a : Expr) (o : Op) (at : Place) (b c d : Expr) (old mid last : List Node) (x y : SymValue) →
      IsBank old → CanTerm k old e → e ≡ tree.Binary first a o at b → c ≡ a → d ≡ b → Gave c old mid x → Gave d mid last y → IsBank last →
      CanOperate last o x y
  operated_asks e first a o at b c d old mid last x y bank can is ca db p q there =
      let w = tree.Binary first a o at b in
      let u = other c a old mid x ca p in
      let z = other d b mid last y db q in
      two_at (λ l i j. IsBank l → CanOperate l o i j) (T a) (T b) old mid last x y u.nodes u.value z.nodes z.value
      (operate_ready kinds k first a o at b old bank (opened old e w can is)) there

  pub operated_gives : (e : Expr) (first : Place) (a : Expr) (o : Op) (at : Place) (b c d : Expr) (old mid last : List Node) (x y : SymValue) →
      e ≡ tree.Binary first a o at b → c ≡ a → d ≡ b → Gave c old mid x → Gave d mid last y → applied kinds o x y last ≡ T e old
  operated_gives e first a o at b c d old mid last x y is ca db p q =
      let u = other c a old mid x ca p in
      let z = other d b mid last y db q in
      two_at (λ l i j. applied kinds o i j l ≡ and_make (T a) (λ x. and_make (T b) (applied kinds o x)) old) (T a) (T b) old mid last x y
      u.nodes u.value z.nodes z.value refl
      ∙ binary_made kinds k e first a o at b old is

  -- `~e`

  pub not_asks : (e : Expr) (first : Place) (a x : Expr) (old : List Node) → IsBank old → CanTerm k old e → e ≡ tree.Not first a → x ≡ a → CanTerm k old x
  not_asks e first a x old bank can is here = opened old a x (not_ready kinds k first a old bank (opened old e (tree.Not first a) can is)) (sym here)

  one_at : (P : List Node → SymValue → Type 0) (a : Expr) (old mid : List Node) (x : SymValue) → Gave a old mid x → P (T a old).nodes (T a old).value → P mid x
  one_at P a old mid x u p = subst (λ z. P z x) (sym u.nodes) (subst (P (T a old).nodes) (sym u.value) p)

  pub complement_asks : (e : Expr) (first : Place) (a c : Expr) (old mid : List Node) (x : SymValue) → IsBank old → CanTerm k old e → e ≡ tree.Not first a →
      c ≡ a → Gave c old mid x → IsBank mid → Stands mid (id_in x)
  complement_asks e first a c old mid x bank can is ca p there =
      one_at (λ l i. IsBank l → Stands l (id_in i)) a old mid x (other c a old mid x ca p)
      (not_stands kinds k first a old bank (opened old e (tree.Not first a) can is)) there

  pub complement_gives : (e : Expr) (first : Place) (a c : Expr) (old mid : List Node) (x : SymValue) → e ≡ tree.Not first a → c ≡ a → Gave c old mid x →
      small_made kinds (node.Not (id_in x)) mid ≡ T e old
  complement_gives e first a c old mid x is ca p =
      let u = other c a old mid x ca p in
      one_then (T a) (λ x. small_made kinds (node.Not (id_in x))) old mid x u.nodes u.value ∙ not_made kinds k e first a old is

  -- `resize`

  pub resize_asks : (e : Expr) (first : Place) (a : Expr) (w : Numeral) (x : Expr) (old : List Node) → IsBank old → CanTerm k old e →
      e ≡ tree.Resize first a w → x ≡ a → CanTerm k old x
  resize_asks e first a w x old bank can is here =
      opened old a x (resize_ready kinds k first a w old bank (opened old e (tree.Resize first a w) can is)).0 (sym here)

  pub resize_width : (e : Expr) (first : Place) (a : Expr) (w : Numeral) (old : List Node) → IsBank old → CanTerm k old e →
      e ≡ tree.Resize first a w → Within 64 w.value
  resize_width e first a w old bank can is = (resize_ready kinds k first a w old bank (opened old e (tree.Resize first a w) can is)).1

  pub resized_asks : (e : Expr) (first : Place) (a : Expr) (w : Numeral) (c : Expr) (old mid : List Node) (x : SymValue) → IsBank old → CanTerm k old e →
      e ≡ tree.Resize first a w → c ≡ a → Gave c old mid x → IsBank mid → Stands mid (id_in x)
  resized_asks e first a w c old mid x bank can is ca p there =
      one_at (λ l i. IsBank l → Stands l (id_in i)) a old mid x (other c a old mid x ca p)
      (resize_stands kinds k first a w old bank (opened old e (tree.Resize first a w) can is)) there

  pub resized_gives : (e : Expr) (first : Place) (a : Expr) (w : Numeral) (c : Expr) (old mid : List Node) (x : SymValue) → e ≡ tree.Resize first a w →
      c ≡ a → Gave c old mid x → small_made kinds (node.Resize (id_in x) w.value) mid ≡ T e old
  resized_gives e first a w c old mid x is ca p =
      let u = other c a old mid x ca p in
      one_then (T a) (λ x. small_made kinds (node.Resize (id_in x) w.value)) old mid x u.nodes u.value ∙ resize_made kinds k e first a w old is

  -- `fill`

  pub fill_asks : (e : Expr) (first : Place) (m : Numeral) (a x : Expr) (old : List Node) → IsBank old → CanTerm k old e → e ≡ tree.Fill first m a →
      x ≡ a → CanTerm k old x
  fill_asks e first m a x old bank can is here =
      opened old a x (fill_ready kinds k first m a old bank (opened old e (tree.Fill first m a) can is)) (sym here)

  pub filled_gives : (e : Expr) (first : Place) (m : Numeral) (a c : Expr) (old mid : List Node) (x : SymValue) → e ≡ tree.Fill first m a →
      c ≡ a → Gave c old mid x → pure (Row (replicate m.value (id_in x))) mid ≡ T e old
  filled_gives e first m a c old mid x is ca p =
      let u = other c a old mid x ca p in
      one_then (T a) (λ x. pure (Row (replicate m.value (id_in x)))) old mid x u.nodes u.value ∙ fill_made kinds k e first m a old is

  -- parts of rows and tables

  pub whole_asks : (e : Expr) (a : Expr) (bracket : Place) (i x : Expr) (old : List Node) → IsBank old → CanTerm k old e → e ≡ tree.At a bracket i →
      x ≡ a → CanTerm k old x
  whole_asks e a bracket i x old bank can is here =
      opened old a x (at_ready kinds k a bracket i old bank (opened old e (tree.At a bracket i) can is)).0 (sym here)

  pub index_asks : (e : Expr) (a : Expr) (bracket : Place) (i x : Expr) (old mid : List Node) → IsBank old → CanTerm k old e → e ≡ tree.At a bracket i →
      x ≡ i → Extends old mid → CanTerm k mid x
  index_asks e a bracket i x old mid bank can is here g =
      can_later k old mid x g (opened old i x (at_ready kinds k a bracket i old bank (opened old e (tree.At a bracket i) can is)).1 (sym here))

  pub part_asks : (e : Expr) (a : Expr) (bracket : Place) (i c d : Expr) (old mid last : List Node) (x y : SymValue) → IsBank old → CanTerm k old e →
      e ≡ tree.At a bracket i → c ≡ a → d ≡ i → Gave c old mid x → Gave d mid last y → IsBank last → SomeShape last x × Stands last (id_in y)
  part_asks e a bracket i c d old mid last x y bank can is ca di p q there =
      let u = other c a old mid x ca p in
      let z = other d i mid last y di q in
      two_at (λ l m n. IsBank l → SomeShape l m × Stands l (id_in n)) (T a) (T i) old mid last x y u.nodes u.value z.nodes z.value
      (at_stands kinds k a bracket i old bank (opened old e (tree.At a bracket i) can is)) there

  pub part_gives : (e : Expr) (a : Expr) (bracket : Place) (i c d : Expr) (old mid last : List Node) (x y : SymValue) →
      e ≡ tree.At a bracket i → c ≡ a → d ≡ i → Gave c old mid x → Gave d mid last y → part_made kinds x (id_in y) last ≡ T e old
  part_gives e a bracket i c d old mid last x y is ca di p q =
      let u = other c a old mid x ca p in
      let z = other d i mid last y di q in
      two_at (λ l m n. part_made kinds m (id_in n) l ≡ and_make (T a) (λ x. and_make (T i) (λ y. part_made kinds x (id_in y))) old) (T a) (T i)
      old mid last x y u.nodes u.value z.nodes z.value refl
      ∙ at_made kinds k e a bracket i old is

  -- `pick`

  pub test_asks : (e : Expr) (first : Place) (c a b x : Expr) (old : List Node) → IsBank old → CanTerm k old e → e ≡ tree.Pick first c a b →
      x ≡ c → CanTerm k old x
  test_asks e first c a b x old bank can is here =
      opened old c x (pick_ready kinds k first c a b old bank (opened old e (tree.Pick first c a b) can is)).0 (sym here)

  pub first_asks : (e : Expr) (first : Place) (c a b x : Expr) (old mid : List Node) → IsBank old → CanTerm k old e → e ≡ tree.Pick first c a b →
      x ≡ a → Extends old mid → CanTerm k mid x
  first_asks e first c a b x old mid bank can is here g =
      can_later k old mid x g (opened old a x (pick_ready kinds k first c a b old bank (opened old e (tree.Pick first c a b) can is)).1 (sym here))

  pub second_asks : (e : Expr) (first : Place) (c a b x : Expr) (old mid : List Node) → IsBank old → CanTerm k old e → e ≡ tree.Pick first c a b →
      x ≡ b → Extends old mid → CanTerm k mid x
  second_asks e first c a b x old mid bank can is here g =
      can_later k old mid x g (opened old b x (pick_ready kinds k first c a b old bank (opened old e (tree.Pick first c a b) can is)).2 (sym here))

  pub merge_asks : (e : Expr) (first : Place) (c a b t f s : Expr) (old mid late last : List Node) (x y z : SymValue) → IsBank old → CanTerm k old e →
      e ≡ tree.Pick first c a b → t ≡ c → f ≡ a → s ≡ b → Gave t old mid x → Gave f mid late y → Gave s late last z → IsBank last →
      HasWidth last (id_in x) 1 × AreAlike last y z
  merge_asks e first c a b t f s old mid late last x y z bank can is tc fa sb p q r there =
      let u = other t c old mid x tc p in
      let v = other f a mid late y fa q in
      let w = other s b late last z sb r in
      three_at (λ l i m n. IsBank l → HasWidth l (id_in i) 1 × AreAlike l m n) (T c) (T a) (T b) old mid late last x y z u.nodes u.value v.nodes v.value
      w.nodes w.value (merge_ready kinds k first c a b old bank (opened old e (tree.Pick first c a b) can is)) there

  pub merge_gives : (e : Expr) (first : Place) (c a b t f s : Expr) (old mid late last : List Node) (x y z : SymValue) →
      e ≡ tree.Pick first c a b → t ≡ c → f ≡ a → s ≡ b → Gave t old mid x → Gave f mid late y → Gave s late last z →
      merged kinds (id_in x) y z last ≡ T e old
  merge_gives e first c a b t f s old mid late last x y z is tc fa sb p q r =
      let u = other t c old mid x tc p in
      let v = other f a mid late y fa q in
      let w = other s b late last z sb r in
      three_at (λ l i m n. merged kinds (id_in i) m n l
      ≡ and_make (T c) (λ t. and_make (T a) (λ x. and_make (T b) (merged kinds (id_in t) x))) old) (T c) (T a) (T b) old mid late last x y z
      u.nodes u.value v.nodes v.value w.nodes w.value refl
      ∙ pick_made kinds k e first c a b old is

  -- several expressions

  pub row_asks : (e : Expr) (first : Place) (es xs : List Expr) (old : List Node) → IsBank old → CanTerm k old e → e ≡ tree.Row first es → xs ≡ es →
      All (CanTerm k old) xs
  row_asks e first es xs old bank can is here =
      subst (λ ys. All (CanTerm k old) ys) (sym here) (row_ready kinds k first es old bank (opened old e (tree.Row first es) can is))

  pub apply_asks : (e : Expr) (f : Name) (es xs : List Expr) (old : List Node) → IsBank old → CanTerm k old e → e ≡ tree.Apply f es → xs ≡ es →
      All (CanTerm k old) xs
  apply_asks e f es xs old bank can is here =
      subst (λ ys. All (CanTerm k old) ys) (sym here) (apply_ready kinds k f es old bank (opened old e (tree.Apply f es) can is))

  -- what a call for several expressions left and answered
  pub record GaveAll (es : List Expr) (old new : List Node) (xs : List SymValue) : Type 0 where
    pub nodes : new ≡ (all_made (makings kinds k es) k.scope old).nodes
    pub value : xs ≡ (all_made (makings kinds k es) k.scope old).value

  pub gave_all : {es : List Expr} {old new : List Node} {xs : List SymValue} → new ≡ (all_made (makings kinds k es) k.scope old).nodes →
      xs ≡ (all_made (makings kinds k es) k.scope old).value → GaveAll es old new xs
  gave_all nodes value = record { nodes = nodes; value = value }

  others : (es fs : List Expr) (old new : List Node) (xs : List SymValue) → es ≡ fs → GaveAll es old new xs → GaveAll fs old new xs
  others es fs old new xs is h = subst (λ z. GaveAll z old new xs) is h

  pub row_gives : (e : Expr) (first : Place) (es fs : List Expr) (old mid : List Node) (xs ys : List SymValue) → e ≡ tree.Row first es → fs ≡ es →
      ys ≡ xs → GaveAll fs old mid xs → pure (Row (map id_in ys)) mid ≡ T e old
  row_gives e first es fs old mid xs ys is at same p =
      let u = others fs es old mid xs at p in
      one_then (all_made (makings kinds k es) k.scope) (λ xs. pure (Row (map id_in xs))) old mid ys u.nodes (same ∙ u.value)
      ∙ row_made kinds k e first es old is

  pub call_asks : (e : Expr) (f : Name) (es fs : List Expr) (name : List ℕ) (old mid : List Node) (xs ys : List SymValue) → IsBank old → CanTerm k old e →
      e ≡ tree.Apply f es → fs ≡ es → name ≡ f.text → ys ≡ xs → GaveAll fs old mid xs → IsBank mid → CanCall k.defs mid name ys
  call_asks e f es fs name old mid xs ys bank can is at named same p there =
      let u = others fs es old mid xs at p in
      let m = all_made (makings kinds k es) k.scope old in
      let base = call_ready kinds k f es old bank (opened old e (tree.Apply f es) can is) (subst IsBank u.nodes there) in
      subst (λ n. CanCall k.defs mid n ys) (sym named)
      (subst (λ l. CanCall k.defs l f.text ys) (sym u.nodes) (subst (CanCall k.defs m.nodes f.text) (sym (same ∙ u.value)) base))

  pub call_gives : (e : Expr) (f : Name) (es fs : List Expr) (name : List ℕ) (old mid : List Node) (xs ys : List SymValue) →
      e ≡ tree.Apply f es → fs ≡ es → name ≡ f.text → ys ≡ xs → GaveAll fs old mid xs → terms_called kinds k.defs name ys mid ≡ T e old
  call_gives e f es fs name old mid xs ys is at named same p =
      let u = others fs es old mid xs at p in
      ap (λ n. terms_called kinds k.defs n ys mid) named
      ∙ one_then (all_made (makings kinds k es) k.scope) (terms_called kinds k.defs f.text) old mid ys u.nodes (same ∙ u.value)
      ∙ apply_made kinds k e f es old is

  -- `all` and `any`

  pub quantified_asks : (e : Expr) (first : Place) (which : Quantifier) (x : Name) (w n : Numeral) (a b : Expr) (old : List Node) → CanTerm k old e →
      e ≡ tree.Quantified first which x w n a → b ≡ a → CanQuantify k old which x w n b
  quantified_asks e first which x w n a b old can is at =
      subst (λ z. CanQuantify k old which x w n z) (sym at)
      (record { first = first; can = opened old e (tree.Quantified first which x w n a) can is })

  pub quantified_some : (e : Expr) (first : Place) (which : Quantifier) (x : Name) (w n : Numeral) (a : Expr) (old : List Node) → IsBank old →
      CanTerm k old e → e ≡ tree.Quantified first which x w n a → 1 ≤ n.value
  quantified_some e first which x w n a old bank can is =
      let p = quantified_parts kinds k first which x w n a old bank (opened old e (tree.Quantified first which x w n a) can is) in p.some

  pub quantified_gives : (e : Expr) (first : Place) (which : Quantifier) (x : Name) (w n : Numeral) (a b : Expr) (old mid : List Node) (answer : Id) →
      e ≡ tree.Quantified first which x w n a → b ≡ a → mid ≡ (joined kinds (joining which) (start_of which) n.value (test_at kinds k x w b) old).nodes →
      answer ≡ (joined kinds (joining which) (start_of which) n.value (test_at kinds k x w b) old).value → pure (Word answer) mid ≡ T e old
  quantified_gives e first which x w n a b old mid answer is at nodes value =
      let m : Expr → Make Id = λ z. joined kinds (joining which) (start_of which) n.value (test_at kinds k x w z) in
      one_then (m a) (λ y. pure (Word y)) old mid answer (nodes ∙ ap (λ z. (m z old).nodes) at) (value ∙ ap (λ z. (m z old).value) at)
      ∙ quantified_is_made kinds k e first which x w n a old is
