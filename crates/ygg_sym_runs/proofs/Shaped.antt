-- Shapes of values of terms and of what they are worth.
use Rattle.std.proofs.Common.{◌≡◌, ℕ, true, List, [], refl, sym, ap, ◌∙◌, subst}
use Rattle.std.proofs.lemmas.List.{length-map}
use Rattle.ygg_value.specs.Number.{Number}
use Rattle.ygg_value.specs.Values.{word_in}
use Rattle.ygg_value.specs.Shapes.{shape_of}
use Rattle.ygg_value.specs.declared.row.Value.{Value}
use Rattle.ygg_value.specs.declared.row.Value.TheVariants as value
use Rattle.ygg_value.specs.declared.shape.Shape.{Shape}
use Rattle.ygg_value.specs.declared.shape.Shape.TheVariants as shape
use Rattle.ygg_eval_expr.specs.ygg_meaning_laws.Shapes.{is_word}
use Rattle.ygg_shape.specs.ygg_bank_proofs_Widths.{width_fits}
use Rattle.ygg_shape.specs.ygg_bank.Nodes.{HasWidth, Extends}
use Rattle.ygg_shape.specs.ygg_bank.Values.{Inputs, Values, Fits}
use Rattle.ygg_shape.specs.ygg_bank.declared.node.Id.{Id}
use Rattle.ygg_shape.specs.ygg_bank.declared.node.Node.{Node}
use Rattle.ygg_shape.specs.ygg_shape_words_proofs_Terms.{TermIs}
use Rattle.ygg_shape.specs.ygg_shape_cells_proofs_Worth.{row_worth, table_worth}
use Rattle.ygg_shape.specs.ygg_shape_cells_proofs_Wider.{shaped_wider}
use Rattle.ygg_shape.specs.ygg_shape_cells.Terms.{IsShaped, worth, numbers_of}
use Rattle.ygg_shape.specs.ygg_shape_cells.declared.terms.SymValue.{SymValue}
use Rattle.ygg_shape.specs.ygg_shape_cells.declared.terms.SymValue.TheVariants.{Word, Row, Table}
use Rattle.ygg_sym_runs.specs.Names.{SymEnv, SymScope}
use Rattle.ygg_sym_runs.specs.Exprs.{id_in}
use Rattle.ygg_sym_runs.specs.ExpressionMeaning.{SomeShape, EnvShaped, ScopeShaped, IsWorth}

-- among more nodes
pub some_wider : (old new : List Node) (x : SymValue) → Extends old new → SomeShape old x → SomeShape new x
some_wider old new x g h = record { shape = h.shape; stands = shaped_wider old new h.shape x g h.stands }

pub env_wider : (old new : List Node) (env : SymEnv) → Extends old new → EnvShaped old env → EnvShaped new env
env_wider old new env g h = λ k d l. some_wider old new _ g (h k d l)

pub scope_wider : (old new : List Node) (scope : SymScope) → Extends old new → ScopeShaped old scope → ScopeShaped new scope
scope_wider old new scope g h = record { own = env_wider old new scope.own g h.own; low = env_wider old new scope.low g h.low }

module _ (inputs : Inputs) (v : Values) where
  -- a value of a shape is worth one of this shape
  pub worth_shape : (nodes : List Node) (s : Shape) (x : SymValue) → Fits inputs v nodes → IsShaped nodes s x → shape_of (worth v x) ≡ s
  worth_shape nodes (shape.Word w) (Word a) h f = ap shape.Word (h.widths a.0 w f.has)
  worth_shape nodes (shape.Row n w) (Row row) h f =
      let l = f.limits in
      let p = f.has in
      ap (λ z. shape_of (value.Row z)) (row_worth inputs v [] nodes n w row h p l.0.0)
      ∙ ap (λ k. shape.Row k w) (length-map row (λ (a : Id). (v a.0).bits) ∙ p.count)
  worth_shape nodes (shape.Table m n w) (Table t) h f =
      let p = f.has in
      ap (λ z. shape_of (value.Table z)) (table_worth inputs v [] nodes n w t h p.1)
      ∙ ap (λ k. shape.Table k n w) (length-map t (numbers_of v) ∙ p.0)
  worth_shape nodes (shape.Word w) (Row row) h f = absurd (f.has)
  worth_shape nodes (shape.Word w) (Table t) h f = absurd (f.has)
  worth_shape nodes (shape.Row n w) (Word a) h f = absurd (f.has)
  worth_shape nodes (shape.Row n w) (Table t) h f = absurd (f.has)
  worth_shape nodes (shape.Table m n w) (Word a) h f = absurd (f.has)
  worth_shape nodes (shape.Table m n w) (Row row) h f = absurd (f.has)

  -- a value that is a word
  pub record IsTerm (want : Value) (nodes : List Node) (x : SymValue) : Type 0 where
    pub is : x ≡ Word (id_in x)
    pub wide : HasWidth nodes (id_in x) (word_in want).width
    pub worth : v (id_in x).0 ≡ word_in want

  term_of : (nodes : List Node) (s : Shape) (x : SymValue) → Fits inputs v nodes → IsShaped nodes s x → is_word (shape_of (worth v x)) ≡ true →
      IsTerm (worth v x) nodes x
  term_of nodes (shape.Word w) (Word a) h f e = record { is = refl; wide = subst (HasWidth nodes a) (sym (h.widths a.0 w f.has)) f.has; worth = refl }
  term_of nodes s (Row row) h f e = absurd (cc)
  term_of nodes s (Table t) h f e = absurd (cc)
  term_of nodes (shape.Row n w) (Word a) h f e = absurd (f.has)
  term_of nodes (shape.Table m n w) (Word a) h f e = absurd (f.has)

  pub is_term : (want : Value) (nodes : List Node) (x : SymValue) → Fits inputs v nodes → IsWorth v want nodes x → is_word (shape_of want) ≡ true →
      IsTerm want nodes x
  is_term want nodes x h i e =
      let s = i.shaped in
      subst (λ w. is_word (shape_of w) ≡ true → IsTerm w nodes x) i.is (term_of nodes s.shape x h s.stands) e

  -- a word that was made
  pub word_worth : (nodes : List Node) (w : ℕ) (want : Number) (a : Id) → Fits inputs v nodes → TermIs inputs v nodes w want a →
      IsWorth v (value.Word want) nodes (Word a)
  word_worth nodes w want a h t =
      let l = width_fits nodes a w h.ordered t.wide in
      record { shaped = record { shape = shape.Word w; stands = record { limits = (l.least, l.most); has = t.wide } }; is = ap value.Word t.is }
