-- The steps of the evaluator, over plain variables: what each call asks, and what each construct gives.
use Rattle.std.proofs.Common.{◌≡◌, ℕ, ◌≤◌, Bool, cond, List, [], map, take, replicate, get_or, All, sym, ap, ◌∙◌, subst}
use Rattle.ygg_syntax.specs.declared.tree.Place.{Place}
use Rattle.ygg_syntax.specs.declared.tree.Name.{Name}
use Rattle.ygg_syntax.specs.declared.tree.Numeral.{Numeral}
use Rattle.ygg_syntax.specs.declared.tree.Quantifier.{Quantifier}
use Rattle.ygg_syntax.specs.declared.tree.Def.{Def}
use Rattle.ygg_syntax.specs.declared.tree.Expr.{Expr}
use Rattle.ygg_syntax.specs.declared.tree.Expr.TheVariants as tree
use Rattle.ygg_value.specs.declared.operation.Op.{Op}
use Rattle.ygg_value.specs.Number.{Number, Digits}
use Rattle.ygg_value.specs.Words.{word, not_of, resized}
use Rattle.ygg_value.specs.Values.{word_in, digit, apply_value, part_of}
use Rattle.ygg_value.specs.Shapes.{Within}
use Rattle.ygg_value.specs.declared.row.Value.{Value}
use Rattle.ygg_value.specs.declared.row.Value.TheVariants as value
use Rattle.ygg_meaning_laws.specs.Environments.{Env, bind, look_up}
use Rattle.ygg_meaning_laws.specs.Meaning.{functions_of, is_one, quantified}
use Rattle.ygg_eval_expr.specs.Words.{row_from, AreOfRow, CanOperate}
use Rattle.ygg_eval_expr.specs.Known.{Known, value_in, with_number, CanEvaluate, CanCall, CanQuantify, IsDefinition}
use Rattle.ygg_eval_expr.proofs.Called.{body_parts}
use Rattle.ygg_eval_expr.proofs.Knowing.{
  binary_can,
  not_can,
  at_can,
  pick_can,
  resize_can,
  fill_can,
  equal_words,
  filled_is,
  row_can,
  apply_can,
  quantified_can,
}
use Rattle.ygg_eval_expr.proofs.Valued.{
  valued_constant,
  valued_low,
  valued_variable,
  valued_apply,
  valued_binary,
  valued_not,
  valued_at,
  valued_pick,
  valued_resize,
  valued_fill,
  valued_row,
  valued_quantified,
}

-- an expression that may be evaluated, under another name
opened : (k : Known) (e f : Expr) → CanEvaluate k e → e ≡ f → CanEvaluate k f
opened k e f can is = subst (λ x. CanEvaluate k x) is can

-- numbers and names
pub gives_constant : (k : Known) (e : Expr) (v w : Numeral) → e ≡ tree.Constant v w → value.Word (word w.value v.value) ≡ value_in k e
gives_constant k e v w is = sym (ap (value_in k) is ∙ valued_constant k v w)

pub gives_low : (k : Known) (e : Expr) (at : Place) (x : Name) (name : List ℕ) (own : Env) (v : Value) → e ≡ tree.Low at x → name ≡ x.text →
    own ≡ k.low → v ≡ look_up name own → v ≡ value_in k e
gives_low k e at x name own v is named seen gives =
    gives ∙ ap (λ n. look_up n own) named ∙ ap (look_up x.text) seen ∙ sym (ap (value_in k) is ∙ valued_low k at x)

pub gives_variable : (k : Known) (e : Expr) (x : Name) (name : List ℕ) (v : Value) → e ≡ tree.Variable x → name ≡ x.text → v ≡ look_up name k.own →
    v ≡ value_in k e
gives_variable k e x name v is named gives = gives ∙ ap (λ n. look_up n k.own) named ∙ sym (ap (value_in k) is ∙ valued_variable k x)

-- a definition at its arguments
pub ready_values : (k : Known) (e : Expr) (f : Name) (es xs : List Expr) → CanEvaluate k e → e ≡ tree.Apply f es → xs ≡ es → All (CanEvaluate k) xs
ready_values k e f es xs can is at = subst (λ ys. All (CanEvaluate k) ys) (sym at) (apply_can k f es (opened k e (tree.Apply f es) can is)).each

pub ready_call : (k : Known) (e : Expr) (f : Name) (es : List Expr) (name : List ℕ) (args : List Value) → CanEvaluate k e → e ≡ tree.Apply f es →
    name ≡ f.text → args ≡ map (value_in k) es → CanCall k.defs name args
ready_call k e f es name args can is named got =
    subst (λ n. CanCall k.defs n args) (sym named)
    (subst (λ vs. CanCall k.defs f.text vs) (sym got) (apply_can k f es (opened k e (tree.Apply f es) can is)).call)

pub gives_call : (k : Known) (e : Expr) (f : Name) (es : List Expr) (name : List ℕ) (args : List Value) (v : Value) → e ≡ tree.Apply f es →
    name ≡ f.text → args ≡ map (value_in k) es
    → v ≡ functions_of k.defs name args → v ≡ value_in k e
gives_call k e f es name args v is named got gives =
    gives ∙ ap (λ n. functions_of k.defs n args) named ∙ ap (functions_of k.defs f.text) got ∙ sym (valued_apply k f es) ∙ ap (value_in k) (sym is)

-- the expression of a definition
abbrev seeing : List Def → Env → Env → Known
seeing defs own low = record { defs = defs; own = own; low = low }

seen : (defs : List Def) (args : List Value) (place : ℕ) (d : Def) (own low : Env) → own ≡ bind d.parameters args → low ≡ [] →
    seeing (take place defs) own low ≡ seeing (take place defs) (bind d.parameters args) []
seen defs args place d own low bound none = ap (λ x. seeing (take place defs) x low) bound ∙ ap (seeing (take place defs) (bind d.parameters args)) none

pub ready_body : (defs : List Def) (name : List ℕ) (args : List Value) (place : ℕ) (d : Def) (k : Known) (own low : Env) → CanCall defs name args →
    IsDefinition defs name place → d ≡ get_or defs place d
    → k ≡ record { defs = take place defs; own = own; low = low } → own ≡ bind d.parameters args → low ≡ [] → CanEvaluate k d.body
ready_body defs name args place d k own low can is e known bound none =
    subst (λ (l : Known). CanEvaluate l d.body) (sym (known ∙ seen defs args place d own low bound none)) (body_parts defs name args place d can is e).can

pub gives_body : (defs : List Def) (name : List ℕ) (args : List Value) (place : ℕ) (d : Def) (k : Known) (own low : Env) (v : Value) →
    CanCall defs name args → IsDefinition defs name place → d ≡ get_or defs place d
    → k ≡ record { defs = take place defs; own = own; low = low } → own ≡ bind d.parameters args → low ≡ [] → v ≡ value_in k d.body →
    v ≡ functions_of defs name args
gives_body defs name args place d k own low v can is e known bound none gives =
    gives ∙ ap (λ (l : Known). value_in l d.body) (known ∙ seen defs args place d own low bound none) ∙ sym (body_parts defs name args place d can is e).calls

-- operators
pub ready_left : (k : Known) (e : Expr) (first : Place) (a : Expr) (op : Op) (sign : Place) (b : Expr) (x : Expr) → CanEvaluate k e →
    e ≡ tree.Binary first a op sign b → x ≡ a → CanEvaluate k x
ready_left k e first a op sign b x can is at = opened k a x (binary_can k first a op sign b (opened k e (tree.Binary first a op sign b) can is)).left (sym at)

pub ready_right : (k : Known) (e : Expr) (first : Place) (a : Expr) (op : Op) (sign : Place) (b : Expr) (x : Expr) → CanEvaluate k e →
    e ≡ tree.Binary first a op sign b → x ≡ b → CanEvaluate k x
ready_right k e first a op sign b x can is at = opened k b x (binary_can k first a op sign b (opened k e (tree.Binary first a op sign b) can is)).right (sym at)

pub ready_operated : (k : Known) (e : Expr) (first : Place) (a : Expr) (op : Op) (at : Place) (b : Expr) (v w : Value) → CanEvaluate k e →
    e ≡ tree.Binary first a op at b → v ≡ value_in k a → w ≡ value_in k b → CanOperate op v w
ready_operated k e first a op at b v w can is x y =
    subst (λ u. CanOperate op u w) (sym x) (subst (λ u. CanOperate op (value_in k a) u) (sym y)
    (binary_can k first a op at b (opened k e (tree.Binary first a op at b) can is)).operate)

pub gives_operated : (k : Known) (e : Expr) (first : Place) (a : Expr) (op : Op) (at : Place) (b : Expr) (v w : Value) →
    e ≡ tree.Binary first a op at b → v ≡ value_in k a → w ≡ value_in k b → apply_value op v w ≡ value_in k e
gives_operated k e first a op at b v w is x y =
    ap (λ u. apply_value op u w) x ∙ ap (apply_value op (value_in k a)) y ∙ sym (valued_binary k first a op at b) ∙ ap (value_in k) (sym is)

-- `!`
pub ready_denied : (k : Known) (e : Expr) (first : Place) (a : Expr) (x : Expr) → CanEvaluate k e → e ≡ tree.Not first a → x ≡ a → CanEvaluate k x
ready_denied k e first a x can is at = opened k a x (not_can k first a (opened k e (tree.Not first a) can is)) (sym at)

pub gives_denied : (k : Known) (e : Expr) (first : Place) (a x : Expr) (v n : Number) → e ≡ tree.Not first a → x ≡ a → v ≡ word_in (value_in k x) →
    n ≡ not_of v → value.Word n ≡ value_in k e
gives_denied k e first a x v n is at got gives =
    ap value.Word (gives ∙ ap not_of (got ∙ ap (λ (e : Expr). word_in (value_in k e)) at)) ∙ sym (ap (value_in k) is ∙ valued_not k first a)

-- parts
pub ready_whole : (k : Known) (e : Expr) (a : Expr) (bracket : Place) (i : Expr) (x : Expr) → CanEvaluate k e → e ≡ tree.At a bracket i → x ≡ a →
    CanEvaluate k x
ready_whole k e a bracket i x can is at = opened k a x (at_can k a bracket i (opened k e (tree.At a bracket i) can is)).0 (sym at)

pub ready_index : (k : Known) (e : Expr) (a : Expr) (bracket : Place) (i j : Expr) → CanEvaluate k e → e ≡ tree.At a bracket i → j ≡ i → CanEvaluate k j
ready_index k e a bracket i j can is at = opened k i j (at_can k a bracket i (opened k e (tree.At a bracket i) can is)).1 (sym at)

pub gives_part : (k : Known) (e : Expr) (a : Expr) (bracket : Place) (i : Expr) (v part : Value) (w : Number) → e ≡ tree.At a bracket i →
    v ≡ value_in k a → w ≡ word_in (value_in k i) → part ≡ part_of v w.bits → part ≡ value_in k e
gives_part k e a bracket i v part w is x y gives =
    gives ∙ ap (λ u. part_of u w.bits) x ∙ ap (λ (n : Number). part_of (value_in k a) n.bits) y ∙ sym (valued_at k a bracket i) ∙ ap (value_in k) (sym is)

-- `pick`
pub ready_test : (k : Known) (e : Expr) (first : Place) (c a b : Expr) (x : Expr) → CanEvaluate k e → e ≡ tree.Pick first c a b → x ≡ c → CanEvaluate k x
ready_test k e first c a b x can is at = opened k c x (pick_can k first c a b (opened k e (tree.Pick first c a b) can is)).0 (sym at)

pub ready_first : (k : Known) (e : Expr) (first : Place) (c a b x : Expr) → CanEvaluate k e → e ≡ tree.Pick first c a b → x ≡ a → CanEvaluate k x
ready_first k e first c a b x can is at = opened k a x (pick_can k first c a b (opened k e (tree.Pick first c a b) can is)).1 (sym at)

pub ready_second : (k : Known) (e : Expr) (first : Place) (c a b x : Expr) → CanEvaluate k e → e ≡ tree.Pick first c a b → x ≡ b → CanEvaluate k x
ready_second k e first c a b x can is at = opened k b x (pick_can k first c a b (opened k e (tree.Pick first c a b) can is)).2 (sym at)

pub gives_picked : (k : Known) (e : Expr) (first : Place) (c a b : Expr) (t : Number) (one : Bool) → e ≡ tree.Pick first c a b →
    t ≡ word_in (value_in k c) → is_one (value.Word t) ≡ one → cond one (value_in k a) (value_in k b) ≡ value_in k e
gives_picked k e first c a b t one is x test =
    ap (λ b'. cond b' (value_in k a) (value_in k b)) (sym test ∙ ap (λ (n : Number). is_one (value.Word n)) x) ∙ sym (valued_pick k first c a b)
    ∙ ap (value_in k) (sym is)

-- `resize`
pub ready_resized : (k : Known) (e : Expr) (first : Place) (a : Expr) (w : Numeral) (x : Expr) → CanEvaluate k e → e ≡ tree.Resize first a w → x ≡ a →
    CanEvaluate k x
ready_resized k e first a w x can is at = opened k a x (resize_can k first a w (opened k e (tree.Resize first a w) can is)).0 (sym at)

pub gives_resized : (k : Known) (e : Expr) (first : Place) (a : Expr) (w : Numeral) (x : Expr) (v n : Number) → e ≡ tree.Resize first a w → x ≡ a →
    v ≡ word_in (value_in k x) → n ≡ resized v w.value → value.Word n ≡ value_in k e
gives_resized k e first a w x v n is at got gives =
    ap value.Word (gives ∙ ap (λ u. resized u w.value) (got ∙ ap (λ (e : Expr). word_in (value_in k e)) at))
    ∙ sym (ap (value_in k) is ∙ valued_resize k first a w)

pub ready_width : (k : Known) (e : Expr) (first : Place) (a : Expr) (w : Numeral) → CanEvaluate k e → e ≡ tree.Resize first a w → Within 64 w.value
ready_width k e first a w can is = (resize_can k first a w (opened k e (tree.Resize first a w) can is)).1

-- `fill`
pub ready_filled : (k : Known) (e : Expr) (first : Place) (m : Numeral) (a : Expr) (x : Expr) → CanEvaluate k e → e ≡ tree.Fill first m a → x ≡ a →
    CanEvaluate k x
ready_filled k e first m a x can is at = opened k a x (fill_can k first m a (opened k e (tree.Fill first m a) can is)).0 (sym at)

pub ready_equal : (k : Known) (e : Expr) (first : Place) (m : Numeral) (a : Expr) (w : Number) (ws : List Number) → CanEvaluate k e →
    e ≡ tree.Fill first m a → ws ≡ replicate m.value w → AreOfRow ws
ready_equal k e first m a w ws can is at = subst AreOfRow (sym at) (equal_words m.value w (fill_can k first m a (opened k e (tree.Fill first m a) can is)).1)

pub gives_filled : (k : Known) (e : Expr) (first : Place) (m : Numeral) (a : Expr) (w : Number) (ws : List Number) (row : Digits) → CanEvaluate k e →
    e ≡ tree.Fill first m a → ws ≡ replicate m.value w → w ≡ word_in (value_in k a) → row ≡ row_from ws
    → value.Row row ≡ value_in k e
gives_filled k e first m a w ws row can is at x gives =
    let within = (fill_can k first m a (opened k e (tree.Fill first m a) can is)).1 in
    ap (λ r. value.Row r) (gives ∙ ap row_from at ∙ ap (λ n. row_from (replicate m.value n)) x ∙ filled_is m.value (value_in k a) within)
    ∙ sym (valued_fill k first m a) ∙ ap (value_in k) (sym is)

-- `row`
pub ready_words : (k : Known) (e : Expr) (first : Place) (es xs : List Expr) → CanEvaluate k e → e ≡ tree.Row first es → xs ≡ es → All (CanEvaluate k) xs
ready_words k e first es xs can is at = subst (λ ys. All (CanEvaluate k) ys) (sym at) (row_can k first es (opened k e (tree.Row first es) can is)).each

pub ready_row : (k : Known) (e : Expr) (first : Place) (es xs : List Expr) (ws : List Number) → CanEvaluate k e → e ≡ tree.Row first es → xs ≡ es →
    ws ≡ map (λ (e : Expr). word_in (value_in k e)) xs → AreOfRow ws
ready_row k e first es xs ws can is at got =
    subst AreOfRow (sym (got ∙ ap (map (λ (e : Expr). word_in (value_in k e))) at)) (row_can k first es (opened k e (tree.Row first es) can is)).words

pub gives_row : (k : Known) (e : Expr) (first : Place) (es xs : List Expr) (ws : List Number) (row : Digits) → CanEvaluate k e → e ≡ tree.Row first es
    → xs ≡ es → ws ≡ map (λ (e : Expr). word_in (value_in k e)) xs → row ≡ row_from ws
    → value.Row row ≡ value_in k e
gives_row k e first es xs ws row can is at got gives =
    ap (λ r. value.Row r) (gives ∙ ap row_from (got ∙ ap (map (λ (e : Expr). word_in (value_in k e))) at)
    ∙ (row_can k first es (opened k e (tree.Row first es) can is)).is)
    ∙ sym (valued_row k first es) ∙ ap (value_in k) (sym is)

-- `all` and `any`
pub ready_quantified : (k : Known) (e : Expr) (first : Place) (which : Quantifier) (x : Name) (w n : Numeral) (a b : Expr) → CanEvaluate k e →
    e ≡ tree.Quantified first which x w n a → b ≡ a → CanQuantify k x.text w n b
ready_quantified k e first which x w n a b can is at =
    subst (λ f. CanQuantify k x.text w n f) (sym at) (quantified_can k first which x w n a (opened k e (tree.Quantified first which x w n a) can is)).can

pub some_quantified : (k : Known) (e : Expr) (first : Place) (which : Quantifier) (x : Name) (w n : Numeral) (a : Expr) → CanEvaluate k e →
    e ≡ tree.Quantified first which x w n a → 1 ≤ n.value
some_quantified k e first which x w n a can is = (quantified_can k first which x w n a (opened k e (tree.Quantified first which x w n a) can is)).some

pub gives_quantified : (k : Known) (e : Expr) (first : Place) (which : Quantifier) (x : Name) (w n : Numeral) (a b : Expr) (holds : Bool) (v : Value)
    → e ≡ tree.Quantified first which x w n a → b ≡ a
    → holds ≡ quantified which n.value (λ i. is_one (value_in (with_number k x.text w.value i) b)) → v ≡ digit holds → v ≡ value_in k e
gives_quantified k e first which x w n a b holds v is at got gives =
    gives ∙ ap digit (got ∙ ap (λ f. quantified which n.value (λ i. is_one (value_in (with_number k x.text w.value i) f))) at)
    ∙ sym (valued_quantified k first which x w n a) ∙ ap (value_in k) (sym is)
