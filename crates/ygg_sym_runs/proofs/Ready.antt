-- What the calls of the evaluator over terms ask.
use Rattle.std.proofs.Common.{
  ◌≡◌,
  ◌<◌,
  ◌≤◌,
  ◌^◌,
  ℕ,
  true,
  false,
  List,
  [],
  ◌∷◌,
  ◌++◌,
  map,
  All,
  None,
  refl,
  sym,
  ap,
  ◌∙◌,
  subst,
  arith,
}
use Rattle.std.proofs.lemmas.List.{map-append}
use Rattle.std.proofs.lemmas.List.Elements.{All-head, All-tail, All-cons, All-nil, All-append}
use Rattle.ygg_value.specs.Number.{IsWord}
use Rattle.ygg_value.specs.Words.{word}
use Rattle.ygg_value.specs.Values.{word_in}
use Rattle.ygg_value.specs.Shapes.{Within, shape_of}
use Rattle.ygg_value.specs.declared.operation.Op.{Op}
use Rattle.ygg_value.specs.declared.operation.Op.TheVariants as op
use Rattle.ygg_value.specs.declared.row.Value.{Value}
use Rattle.ygg_value.specs.declared.row.Value.TheVariants as value
use Rattle.ygg_value.specs.declared.shape.Shape.TheVariants as shape
use Rattle.ygg_syntax.specs.declared.tree.Place.{Place}
use Rattle.ygg_syntax.specs.declared.tree.Name as tree_name
use Rattle.ygg_syntax.specs.declared.tree.Numeral.{Numeral}
use Rattle.ygg_syntax.specs.declared.tree.Quantifier.{Quantifier}
use Rattle.ygg_syntax.specs.declared.tree.Quantifier.TheVariants as quantifier
use Rattle.ygg_syntax.specs.declared.tree.Expr.{Expr}
use Rattle.ygg_syntax.specs.declared.tree.Expr.TheVariants as tree
use Rattle.ygg_eval_expr.specs.ygg_type_rules.Names.{look_up}
use Rattle.ygg_eval_expr.specs.ygg_meaning_laws.Signature.{Signature}
use Rattle.ygg_eval_expr.specs.ygg_meaning_laws.TypeErrors.{none}
use Rattle.ygg_eval_expr.specs.ygg_meaning_laws.Scopes.{Scope, is_taken}
use Rattle.ygg_eval_expr.specs.ygg_meaning_laws.Shapes.{is_word, width_of, word_shape}
use Rattle.ygg_eval_expr.specs.ygg_meaning_laws.Comparisons.{operator_error}
use Rattle.ygg_eval_expr.specs.ygg_meaning_laws.Expressions.{typing, with_number, operator_rule}
use Rattle.ygg_eval_expr.specs.ygg_meaning_laws.Environments.{Name}
use Rattle.ygg_eval_expr.specs.ygg_meaning_laws.Meaning.{Functions, functions_of, value_with}
use Rattle.ygg_eval_expr.specs.ygg_meaning_laws.Meaning as meaning
use Rattle.ygg_eval_expr.specs.ygg_meaning_laws.Agrees.{Agrees}
use Rattle.ygg_eval_expr.specs.ygg_meaning_laws.Fitting.{all_fit}
use Rattle.ygg_eval_expr.specs.ygg_meaning_laws_proofs_Tests.{wanted_is}
use Rattle.ygg_eval_expr.specs.ygg_meaning_laws_proofs_Fits.{word_wide}
use Rattle.ygg_eval_expr.specs.ygg_meaning_laws_proofs_Rules.{ConstantParts, NumberParts, operands, operator_without_errors}
use Rattle.ygg_eval_expr.specs.ygg_meaning_laws_proofs_Sounds.{two_none}
use Rattle.ygg_eval_expr.specs.ygg_meaning_laws_proofs_Parts.{
  QuantifiedTyped,
  values_in,
  typed_binary,
  constant_typed,
  apply_typed,
  binary_typed,
  not_typed,
  at_typed,
  pick_typed,
  resize_typed,
  fill_typed,
  row_typed,
  quantified_typed,
}
use Rattle.ygg_shape.specs.ygg_rules.declared.rule.RuleKind.{RuleKind}
use Rattle.ygg_shape.proofs.of_ygg_bank.Makes.{made_bank}
use Rattle.ygg_shape.specs.ygg_bank_proofs_Meaning.{fits_fewer}
use Rattle.ygg_shape.specs.ygg_bank_proofs_Widths.{stands}
use Rattle.ygg_shape.specs.ygg_bank.Makes.{Make}
use Rattle.ygg_shape.specs.ygg_bank.Nodes.{Stands, HasWidth, CanBin, IsBank}
use Rattle.ygg_shape.specs.ygg_bank.Values.{Inputs, Values, Fits, value_of}
use Rattle.ygg_shape.specs.ygg_bank.declared.node.Id.{Id}
use Rattle.ygg_shape.specs.ygg_bank.declared.node.Node.{Node}
use Rattle.ygg_shape.specs.ygg_bank.declared.node.Node.TheVariants as node
use Rattle.ygg_shape.specs.ygg_shape_words_proofs_Fit.{can_and}
use Rattle.ygg_shape.specs.ygg_shape_cells.Terms.{AreAlike, worth}
use Rattle.ygg_shape.specs.ygg_shape_cells.declared.terms.SymValue.{SymValue}
use Rattle.ygg_shape.proofs.Answered.{no_inputs, some_fit}
use Rattle.ygg_sym_runs.specs.Exprs.{id_in, all_made, number_made, with_name}
use Rattle.ygg_sym_runs.specs.ExpressionMeaning.{SomeShape, worths, scope_worth, IsWorth}
use Rattle.ygg_sym_runs.specs.Seen.{SymKnown, CanTerm, CanCall, CanOperate, terms_called, terms_in, joining, test_at}
use Rattle.ygg_sym_runs.proofs.Constructs.{makings}
use Rattle.ygg_sym_runs.proofs.Grows.{functions_grow, word_grows, all_grow}
use Rattle.ygg_sym_runs.proofs.ExpressionParts.{number_gives, plain_can, alike_values}
use Rattle.ygg_sym_runs.proofs.Shaped.{some_wider, scope_wider, is_term}
use Rattle.ygg_sym_runs.proofs.Terms.{can_later, can_other, terms_grow, terms_worth}
use Rattle.ygg_sym_runs.proofs.Values.{same_defs, can_or, worth_wider}

-- operations

module _ (inputs : Inputs) (v : Values) (kinds : List RuleKind) where
  pub can_operate : (o : Op) (x y : SymValue) (a b : Value) (nodes : List Node) → Fits inputs v nodes → IsWorth v a nodes x → IsWorth v b nodes y →
      operator_error o (shape_of a) (shape_of b) ≡ None → CanOperate nodes o x y
  can_operate op.Eq x y a b nodes f p q e = alike_values inputs v kinds x y a b nodes f p q (wanted_is (shape_of a) (shape_of b) e)
  can_operate op.Ne x y a b nodes f p q e = alike_values inputs v kinds x y a b nodes f p q (wanted_is (shape_of a) (shape_of b) e)
  can_operate op.Add x y a b nodes f p q e = plain_can inputs v kinds op.Add x y a b nodes f p q (operands op.Add a b e refl)
  can_operate op.Sub x y a b nodes f p q e = plain_can inputs v kinds op.Sub x y a b nodes f p q (operands op.Sub a b e refl)
  can_operate op.Mul x y a b nodes f p q e = plain_can inputs v kinds op.Mul x y a b nodes f p q (operands op.Mul a b e refl)
  can_operate op.And x y a b nodes f p q e = plain_can inputs v kinds op.And x y a b nodes f p q (operands op.And a b e refl)
  can_operate op.Or x y a b nodes f p q e = plain_can inputs v kinds op.Or x y a b nodes f p q (operands op.Or a b e refl)
  can_operate op.Xor x y a b nodes f p q e = plain_can inputs v kinds op.Xor x y a b nodes f p q (operands op.Xor a b e refl)
  can_operate op.Shl x y a b nodes f p q e = plain_can inputs v kinds op.Shl x y a b nodes f p q (operands op.Shl a b e refl)
  can_operate op.Shr x y a b nodes f p q e = plain_can inputs v kinds op.Shr x y a b nodes f p q (operands op.Shr a b e refl)
  can_operate op.Lt x y a b nodes f p q e = plain_can inputs v kinds op.Lt x y a b nodes f p q (operands op.Lt a b e refl)
  can_operate op.Le x y a b nodes f p q e = plain_can inputs v kinds op.Le x y a b nodes f p q (operands op.Le a b e refl)
  can_operate op.Gt x y a b nodes f p q e = plain_can inputs v kinds op.Gt x y a b nodes f p q (operands op.Gt a b e refl)
  can_operate op.Ge x y a b nodes f p q e = plain_can inputs v kinds op.Ge x y a b nodes f p q (operands op.Ge a b e refl)
  can_operate op.Imp x y a b nodes f p q e = plain_can inputs v kinds op.Imp x y a b nodes f p q (operands op.Imp a b e refl)

-- two digits can be joined
pub can_join : (which : Quantifier) (nodes : List Node) (a b : Id) → HasWidth nodes a 1 → HasWidth nodes b 1 → CanBin nodes (joining which) a b
can_join quantifier.All nodes a b p q = can_and nodes a b 1 p q
can_join quantifier.Any nodes a b p q = can_or nodes a b p q

-- with one more name
abbrev pub with_term : List RuleKind → SymKnown → Name → SymValue → SymKnown
with_term kinds k name x = record { defs = k.defs; scope = with_name kinds k.scope name x }

module _ (kinds : List RuleKind) (k : SymKnown) where
  abbrev T : Expr → Make SymValue
  T = terms_in kinds k

  abbrev F : Functions
  F = functions_of k.defs

  -- the environment of zeros
  abbrev zeros : List Node → Values
  zeros nodes = value_of no_inputs nodes

  abbrev env : List Node → meaning.Scope
  env nodes = scope_worth (zeros nodes) k.scope

  agrees : (nodes : List Node) (e : Expr) (can : CanTerm k nodes e) → IsBank nodes → Agrees F can.scope (env nodes)
  agrees nodes e can bank = can.agrees no_inputs (zeros nodes) (some_fit nodes bank)

  -- constants

  pub constant_ready : (n w : Numeral) (nodes : List Node) → CanTerm k nodes (tree.Constant n w) → ConstantParts n w
  constant_ready n w nodes can = constant_typed n w can.scope can.without_errors

  -- operators

  pub binary_ready : (first : Place) (a : Expr) (o : Op) (at : Place) (b : Expr) (nodes : List Node) → IsBank nodes →
      CanTerm k nodes (tree.Binary first a o at b) → CanTerm k nodes a × CanTerm k nodes b
  binary_ready first a o at b nodes bank can =
      let e = tree.Binary first a o at b in
      let t = binary_typed F can.scope (env nodes) first a o at b (agrees nodes e can bank) can.without_errors in
      let l = t.left in
      let r = t.right in
      (can_other k nodes e a can l.without_errors, can_other k nodes e b can r.without_errors)

  pub operate_ready : (first : Place) (a : Expr) (o : Op) (at : Place) (b : Expr) (nodes : List Node) → IsBank nodes →
      CanTerm k nodes (tree.Binary first a o at b) → IsBank (T b (T a nodes).nodes).nodes →
      CanOperate (T b (T a nodes).nodes).nodes o (T a nodes).value (T b (T a nodes).nodes).value
  operate_ready first a o at b nodes before can bank =
      let e = tree.Binary first a o at b in
      let x = T a nodes in
      let y = T b x.nodes in
      let v = zeros y.nodes in
      let gx = terms_grow kinds k a nodes in
      let gy = terms_grow kinds k b x.nodes in
      let hy = some_fit y.nodes bank in
      let hx = fits_fewer no_inputs v x.nodes y.nodes gy hy in
      let parts = binary_ready first a o at b nodes before can in
      let p = terms_worth kinds k a nodes no_inputs v parts.0 hx in
      let q = terms_worth kinds k b x.nodes no_inputs v (can_later k nodes x.nodes b gx parts.1) hy in
      let here = scope_worth v k.scope in
      let one = typing a can.scope in
      let two = typing b can.scope in
      let t = binary_typed F can.scope here first a o at b (can.agrees no_inputs v (fits_fewer no_inputs v nodes x.nodes gx hx)) can.without_errors in
      let l = t.left in
      let r = t.right in
      let n = two_none one.type_errors two.type_errors (operator_rule o at one.part two.part).type_errors
      (subst (λ (u : Scope → _). none (u can.scope).type_errors ≡ true) (typed_binary first a o at b) can.without_errors) in
      can_operate no_inputs v kinds o x.value y.value (value_with F a here) (value_with F b here) y.nodes hy
      (worth_wider no_inputs v x.nodes y.nodes (value_with F a here) x.value gy p) q
      (operator_without_errors o at one.part two.part (value_with F a here) (value_with F b here) l.has r.has n.2)

  pub not_ready : (first : Place) (a : Expr) (nodes : List Node) → IsBank nodes → CanTerm k nodes (tree.Not first a) → CanTerm k nodes a
  not_ready first a nodes bank can =
      let e = tree.Not first a in
      let t = not_typed F can.scope (env nodes) first a (agrees nodes e can bank) can.without_errors in
      let l = t.operand in
      can_other k nodes e a can l.without_errors

  -- the terms of an expression whose value is a word are one that stands
  word_stands : (a : Expr) (nodes : List Node) → CanTerm k nodes a → IsBank (T a nodes).nodes →
      is_word (shape_of (value_with F a (scope_worth (zeros (T a nodes).nodes) k.scope))) ≡ true → Stands (T a nodes).nodes (id_in (T a nodes).value)
  word_stands a nodes can bank e =
      let x = T a nodes in
      let v = zeros x.nodes in
      let h = some_fit x.nodes bank in
      let want = value_with F a (scope_worth v k.scope) in
      let t = is_term no_inputs v want x.nodes x.value h (terms_worth kinds k a nodes no_inputs v can h) e in
      stands x.nodes (id_in x.value) (word_in want).width t.wide

  pub not_stands : (first : Place) (a : Expr) (nodes : List Node) → IsBank nodes → CanTerm k nodes (tree.Not first a) → IsBank (T a nodes).nodes →
      Stands (T a nodes).nodes (id_in (T a nodes).value)
  not_stands first a nodes before can bank =
      let x = T a nodes in
      let later = can_later k nodes x.nodes (tree.Not first a) (terms_grow kinds k a nodes) can in
      let t = not_typed F later.scope (env x.nodes) first a (agrees x.nodes (tree.Not first a) later bank) later.without_errors in
      word_stands a nodes (not_ready first a nodes before can) bank t.word

  pub resize_ready : (first : Place) (a : Expr) (w : Numeral) (nodes : List Node) → IsBank nodes → CanTerm k nodes (tree.Resize first a w) →
      CanTerm k nodes a × Within 64 w.value
  resize_ready first a w nodes bank can =
      let e = tree.Resize first a w in
      let t = resize_typed F can.scope (env nodes) first a w (agrees nodes e can bank) can.without_errors in
      let l = t.operand in
      let p = t.parts in
      (can_other k nodes e a can l.without_errors, p.width)

  pub resize_stands : (first : Place) (a : Expr) (w : Numeral) (nodes : List Node) → IsBank nodes → CanTerm k nodes (tree.Resize first a w) →
      IsBank (T a nodes).nodes → Stands (T a nodes).nodes (id_in (T a nodes).value)
  resize_stands first a w nodes before can bank =
      let e = tree.Resize first a w in
      let x = T a nodes in
      let later = can_later k nodes x.nodes e (terms_grow kinds k a nodes) can in
      let t = resize_typed F later.scope (env x.nodes) first a w (agrees x.nodes e later bank) later.without_errors in
      let p = t.parts in
      word_stands a nodes (resize_ready first a w nodes before can).0 bank p.word

  pub fill_ready : (first : Place) (m : Numeral) (a : Expr) (nodes : List Node) → IsBank nodes → CanTerm k nodes (tree.Fill first m a) → CanTerm k nodes a
  fill_ready first m a nodes bank can =
      let e = tree.Fill first m a in
      let t = fill_typed F can.scope (env nodes) first m a (agrees nodes e can bank) can.without_errors in
      let l = t.operand in
      can_other k nodes e a can l.without_errors

  -- parts of rows and tables

  pub at_ready : (a : Expr) (bracket : Place) (i : Expr) (nodes : List Node) → IsBank nodes → CanTerm k nodes (tree.At a bracket i) →
      CanTerm k nodes a × CanTerm k nodes i
  at_ready a bracket i nodes bank can =
      let e = tree.At a bracket i in
      let t = at_typed F can.scope (env nodes) a bracket i (agrees nodes e can bank) can.without_errors in
      let l = t.whole in
      let r = t.index in
      (can_other k nodes e a can l.without_errors, can_other k nodes e i can r.without_errors)

  pub at_stands : (a : Expr) (bracket : Place) (i : Expr) (nodes : List Node) → IsBank nodes → CanTerm k nodes (tree.At a bracket i) →
      IsBank (T i (T a nodes).nodes).nodes →
      SomeShape (T i (T a nodes).nodes).nodes (T a nodes).value × Stands (T i (T a nodes).nodes).nodes (id_in (T i (T a nodes).nodes).value)
  at_stands a bracket i nodes before can bank =
      let e = tree.At a bracket i in
      let x = T a nodes in
      let y = T i x.nodes in
      let v = zeros y.nodes in
      let gx = terms_grow kinds k a nodes in
      let gy = terms_grow kinds k i x.nodes in
      let hy = some_fit y.nodes bank in
      let hx = fits_fewer no_inputs v x.nodes y.nodes gy hy in
      let parts = at_ready a bracket i nodes before can in
      let p = terms_worth kinds k a nodes no_inputs v parts.0 hx in
      let t = at_typed F can.scope (scope_worth v k.scope) a bracket i (can.agrees no_inputs v (fits_fewer no_inputs v nodes x.nodes gx hx))
      can.without_errors in
      let u = t.parts in
      (some_wider x.nodes y.nodes x.value gy p.shaped, word_stands i x.nodes (can_later k nodes x.nodes i gx parts.1) bank u.place)

  -- `pick`

  pub pick_ready : (first : Place) (c a b : Expr) (nodes : List Node) → IsBank nodes → CanTerm k nodes (tree.Pick first c a b) →
      CanTerm k nodes c × CanTerm k nodes a × CanTerm k nodes b
  pick_ready first c a b nodes bank can =
      let e = tree.Pick first c a b in
      let t = pick_typed F can.scope (env nodes) first c a b (agrees nodes e can bank) can.without_errors in
      let p = t.test in
      let l = t.first in
      let r = t.second in
      (can_other k nodes e c can p.without_errors, can_other k nodes e a can l.without_errors, can_other k nodes e b can r.without_errors)

  pub merge_ready : (first : Place) (c a b : Expr) (nodes : List Node) → IsBank nodes → CanTerm k nodes (tree.Pick first c a b) →
      IsBank (T b (T a (T c nodes).nodes).nodes).nodes →
      HasWidth (T b (T a (T c nodes).nodes).nodes).nodes (id_in (T c nodes).value) 1
      × AreAlike (T b (T a (T c nodes).nodes).nodes).nodes (T a (T c nodes).nodes).value (T b (T a (T c nodes).nodes).nodes).value
  merge_ready first c a b nodes before can bank =
      let z = T c nodes in
      let x = T a z.nodes in
      let y = T b x.nodes in
      let v = zeros y.nodes in
      let gz = terms_grow kinds k c nodes in
      let gx = terms_grow kinds k a z.nodes in
      let gy = terms_grow kinds k b x.nodes in
      let hy = some_fit y.nodes bank in
      let hx = fits_fewer no_inputs v x.nodes y.nodes gy hy in
      let hz = fits_fewer no_inputs v z.nodes x.nodes gx hx in
      let parts = pick_ready first c a b nodes before can in
      let here = scope_worth v k.scope in
      let o = terms_worth kinds k c nodes no_inputs v parts.0 hz in
      let p = terms_worth kinds k a z.nodes no_inputs v (can_later k nodes z.nodes a gz parts.1) hx in
      let q = terms_worth kinds k b x.nodes no_inputs v (can_later k z.nodes x.nodes b gx (can_later k nodes z.nodes b gz parts.2)) hy in
      let t = pick_typed F can.scope here first c a b (can.agrees no_inputs v (fits_fewer no_inputs v nodes z.nodes gz hz)) can.without_errors in
      let u = t.parts in
      let test = value_with F c here in
      let plain : is_word (shape_of test) ≡ true = ap is_word u.test in
      let last = worth_wider no_inputs v x.nodes y.nodes test z.value gy (worth_wider no_inputs v z.nodes x.nodes test z.value gx o) in
      let w = is_term no_inputs v test y.nodes z.value hy last plain in
      let one : (word_in test).width ≡ 1 = sym (word_wide test plain) ∙ ap width_of u.test in (
        subst (HasWidth y.nodes (id_in z.value)) one w.wide,
        alike_values no_inputs v kinds x.value y.value (value_with F a here) (value_with F b here) y.nodes hy
            (worth_wider no_inputs v x.nodes y.nodes (value_with F a here) x.value gy p) q (sym u.alike),
      )

  -- several expressions

  pub row_ready : (first : Place) (es : List Expr) (nodes : List Node) → IsBank nodes → CanTerm k nodes (tree.Row first es) → All (CanTerm k nodes) es
  row_ready first es nodes bank can =
      let e = tree.Row first es in
      let t = row_typed F can.scope (env nodes) first es (agrees nodes e can bank) can.without_errors in
      λ i d l. let h = t.each i d l in can_other k nodes e _ can h.without_errors

  pub apply_ready : (f : tree_name.Name) (es : List Expr) (nodes : List Node) → IsBank nodes → CanTerm k nodes (tree.Apply f es) → All (CanTerm k nodes) es
  apply_ready f es nodes bank can =
      let e = tree.Apply f es in
      let t = apply_typed F can.scope (env nodes) f es (agrees nodes e can bank) can.without_errors in
      λ i d l. let h = t.each i d l in can_other k nodes e _ can h.without_errors

  record AllTerms (v : Values) (es : List Expr) (nodes : List Node) (xs : List SymValue) : Type 0 where
    shaped : All (SomeShape nodes) xs
    is : map (worth v) xs ≡ values_in F es (scope_worth v k.scope)

  all_terms : (inputs : Inputs) (v : Values) (es : List Expr) (nodes : List Node) → All (CanTerm k nodes) es →
      Fits inputs v (all_made (makings kinds k es) k.scope nodes).nodes →
      AllTerms v es (all_made (makings kinds k es) k.scope nodes).nodes (all_made (makings kinds k es) k.scope nodes).value
  all_terms inputs v [] nodes can h = record { shaped = All-nil (SomeShape nodes); is = refl }
  all_terms inputs v (e ∷ es) nodes can h =
      let o = T e nodes in
      let r = all_made (makings kinds k es) k.scope o.nodes in
      let g = terms_grow kinds k e nodes in
      let gr = all_grow kinds (terms_called kinds k.defs) (functions_grow kinds _) es k.scope o.nodes in
      let p = terms_worth kinds k e nodes inputs v (All-head (CanTerm k nodes) e es can) (fits_fewer inputs v o.nodes r.nodes gr h) in
      let others = All-tail (CanTerm k nodes) e es can in
      let q = all_terms inputs v es o.nodes (λ i d l. can_later k nodes o.nodes _ g (others i d l)) h in
      record {
        shaped = All-cons (SomeShape r.nodes) o.value r.value (some_wider o.nodes r.nodes o.value gr p.shaped) q.shaped;
        is = ap (λ w. w ∷ map (worth v) r.value) p.is ∙ ap (λ ws. value_with F e (scope_worth v k.scope) ∷ ws) q.is;
      }

  -- a definition at its arguments
  pub call_ready : (f : tree_name.Name) (es : List Expr) (nodes : List Node) → IsBank nodes → CanTerm k nodes (tree.Apply f es) →
      IsBank (all_made (makings kinds k es) k.scope nodes).nodes →
      CanCall k.defs (all_made (makings kinds k es) k.scope nodes).nodes f.text (all_made (makings kinds k es) k.scope nodes).value
  call_ready f es nodes before can bank =
      let e = tree.Apply f es in
      let o = all_made (makings kinds k es) k.scope nodes in
      let g = all_grow kinds (terms_called kinds k.defs) (functions_grow kinds _) es k.scope nodes in
      let each = apply_ready f es nodes before can in
      let zero = all_terms no_inputs (zeros o.nodes) es nodes each (some_fit o.nodes bank) in
      record {
        sound = can.sound;
        shaped = zero.shaped;
        fit = λ inputs v d h found.
            let t = apply_typed F can.scope (scope_worth v k.scope) f es (can.agrees inputs v (fits_fewer inputs v nodes o.nodes g h)) can.without_errors in
            let p = t.parts in
            let xs = all_terms inputs v es nodes each h in
            let there = ap (look_up f.text) can.defs ∙ found in
            let p_found = p.found in
            let same : p.definition ≡ d = cc in
            subst (λ ws. all_fit d.arguments ws ≡ true) (sym xs.is)
            (subst (λ (s : Signature). all_fit s.arguments (values_in F es (scope_worth v k.scope)) ≡ true) same p.fit);
      }

  -- quantifiers

  pub quantified_parts : (first : Place) (which : Quantifier) (x : tree_name.Name) (w n : Numeral) (e : Expr) (nodes : List Node) → IsBank nodes →
      (can : CanTerm k nodes (tree.Quantified first which x w n e)) → NumberParts (is_taken x.text (can.scope)) w n
  quantified_parts first which x w n e nodes bank can =
      let t = quantified_typed F can.scope (env nodes) first which x w n e (agrees nodes (tree.Quantified first which x w n e) can bank)
      can.without_errors in
      t.number

  below : (i : ℕ) (w n : Numeral) → n.value ≤ 2 ^ w.value → i < n.value → i < 2 ^ w.value
  below i w n q l = omega (arith, q, l)

  pub number_word : (first : Place) (which : Quantifier) (x : tree_name.Name) (w n : Numeral) (e : Expr) (i : ℕ) (nodes : List Node) → IsBank nodes →
      CanTerm k nodes (tree.Quantified first which x w n e) → i < n.value → IsWord (word w.value i)
  number_word first which x w n e i nodes bank can l =
      let q = quantified_parts first which x w n e nodes bank can in
      let u = q.width in
      record { least = u.0; most = u.1; fits = below i w n q.bound l }

  -- the scope with the term of a number is worth the scope with the number
  grown_worth : (v : Values) (x : tree_name.Name) (w : Numeral) (i : ℕ) (y : SymValue) → worth v y ≡ value.Word (word w.value i) →
      scope_worth v (with_name kinds k.scope x.text y) ≡ meaning.with_number (scope_worth v k.scope) x.text w.value i
  grown_worth v x w i y e =
      let seen = k.scope in
      ap (λ own. record { own = own; low = worths v seen.low })
      (map-append (λ (b : Name × SymValue). (b.0, worth v b.1)) seen.own ((x.text, y) ∷ []) ∙ ap (λ z. worths v seen.own ++ (x.text, z) ∷ []) e)

  number_shaped : (w : Numeral) (i : ℕ) (nodes : List Node) → IsWord (word w.value i) → IsBank nodes →
      SomeShape (number_made kinds w.value i nodes).nodes (number_made kinds w.value i nodes).value
  number_shaped w i nodes c bank =
      let o = number_made kinds w.value i nodes in
      let made = made_bank kinds (node.Const (word w.value i)) nodes bank c in
      let p = number_gives no_inputs (zeros o.nodes) kinds w.value i nodes c (some_fit o.nodes made) in
      p.shaped

  pub number_can : (first : Place) (which : Quantifier) (x : tree_name.Name) (w n : Numeral) (e : Expr) (i : ℕ) (nodes : List Node) → IsBank nodes →
      CanTerm k nodes (tree.Quantified first which x w n e) → i < n.value →
      CanTerm (with_term kinds k x.text (number_made kinds w.value i nodes).value) (number_made kinds w.value i nodes).nodes e
  number_can first which x w n e i nodes bank can l =
      let o = number_made kinds w.value i nodes in
      let g = word_grows kinds (node.Const (word w.value i)) nodes in
      let is_word_there = number_word first which x w n e i nodes bank can l in
      let seen = k.scope in
      let wide = scope_wider nodes o.nodes seen g can.shaped in
      let q = quantified_parts first which x w n e nodes bank can in
      let less = below i w n q.bound l in
      let typed : (inputs : Inputs) (v : Values) → Fits inputs v o.nodes → QuantifiedTyped F can.scope (scope_worth v seen) x w n e =
      λ inputs v h. quantified_typed F can.scope (scope_worth v seen) first which x w n e
      (can.agrees inputs v (fits_fewer inputs v nodes o.nodes g h)) can.without_errors in
      let t0 = quantified_typed F can.scope (env nodes) first which x w n e (agrees nodes (tree.Quantified first which x w n e) can bank)
      can.without_errors in
      let stands_there = number_shaped w i nodes is_word_there bank in
      record {
        scope = with_number x w can.scope;
        defs = same_defs x.text (word_shape w.value) false can.scope ∙ can.defs;
        sound = can.sound;
        without_errors = t0.without_errors;
        shaped = record {
          own = All-append (λ (b : Name × SymValue). SomeShape o.nodes b.1) seen.own ((x.text, o.value) ∷ []) wide.own
              (All-cons (λ (b : Name × SymValue). SomeShape o.nodes b.1) (x.text, o.value) [] stands_there
              (All-nil (λ (b : Name × SymValue). SomeShape o.nodes b.1)));
          low = wide.low;
        };
        agrees = λ inputs v h.
            let p = number_gives inputs v kinds w.value i nodes is_word_there h in
            let t = typed inputs v h in
            subst (Agrees F (with_number x w can.scope)) (sym (grown_worth v x w i o.value p.is)) (t.agrees i less);
      }

  pub test_wide : (first : Place) (which : Quantifier) (x : tree_name.Name) (w n : Numeral) (e : Expr) (i : ℕ) (nodes : List Node) → IsBank nodes →
      CanTerm k nodes (tree.Quantified first which x w n e) → i < n.value → IsBank (test_at kinds k x w e i nodes).nodes →
      HasWidth (test_at kinds k x w e i nodes).nodes (id_in (test_at kinds k x w e i nodes).value) 1
  test_wide first which x w n e i nodes before can l bank =
      let o = number_made kinds w.value i nodes in
      let inner = with_term kinds k x.text o.value in
      let z = test_at kinds k x w e i nodes in
      let v = zeros z.nodes in
      let h = some_fit z.nodes bank in
      let g = word_grows kinds (node.Const (word w.value i)) nodes in
      let ho = fits_fewer no_inputs v o.nodes z.nodes (terms_grow kinds inner e o.nodes) h in
      let m = terms_worth kinds inner e o.nodes no_inputs v (number_can first which x w n e i nodes before can l) h in
      let p = number_gives no_inputs v kinds w.value i nodes (number_word first which x w n e i nodes before can l) ho in
      let t = quantified_typed F can.scope (scope_worth v k.scope) first which x w n e
      (can.agrees no_inputs v (fits_fewer no_inputs v nodes o.nodes g ho)) can.without_errors in
      let q = quantified_parts first which x w n e nodes before can in
      let want = value_with F e (scope_worth v inner.scope) in
      let single : shape_of want ≡ shape.Word 1 =
      ap (λ y. shape_of (value_with F e y)) (grown_worth v x w i o.value p.is) ∙ t.single i (below i w n q.bound l) in
      let plain : is_word (shape_of want) ≡ true = ap is_word single in
      let y = is_term no_inputs v want z.nodes z.value h m plain in
      let one : (word_in want).width ≡ 1 = sym (word_wide want plain) ∙ ap width_of single in
      subst (HasWidth z.nodes (id_in z.value)) one y.wide
