-- Indices and statements that are read one after another.
use Rattle.std.proofs.Common.{◌≡◌, ◌<◌, ◌≤◌, List, [], ◌∷◌, ◌++◌, length, refl, sym, ap, ◌∙◌, arith, append_assoc, append-nil}
use Rattle.ygg_base.specs.declared.token.Symbol.TheVariants as sign
use Rattle.ygg_base.specs.declared.token.Mark.TheVariants as mark
use Rattle.ygg_base.specs.declared.token.Token.{Token}
use Rattle.ygg_syntax.specs.declared.grammar.BlockKind.{BlockKind}
use Rattle.ygg_syntax.specs.declared.tree.Place.{Place}
use Rattle.ygg_syntax.specs.declared.tree.Index.{Index}
use Rattle.ygg_syntax.specs.declared.tree.Stmt.{Stmt}
use Rattle.ygg_syntax.specs.Reading.{Reading, token, in_turn}
use Rattle.ygg_syntax.specs.Expressions.{expr, symbol}
use Rattle.ygg_syntax.specs.Blocks.{statement, indices_of}
use Rattle.ygg_syntax.specs.Pending.{Pending, expression, sign_of, indices, outcome}
use Rattle.ygg_read.specs.ExpressionSteps.{Reads, Goes}
use Rattle.ygg_read.proofs.ExpressionBegins.{begins_index}
use Rattle.ygg_read.proofs.ExpressionPhrases.{reads_token}
use Rattle.ygg_read.specs.Steps.{statements_of, GoesAsStatement}

-- indices, where others may follow
pub record IndicesRead (from : List Token) (is : List Index) (now : List Token) : Type 0 where
  pub reads : (js : List Index) (qs : List Reading) → in_turn (indices_of (is ++ js) ++ qs) from ≡ in_turn (indices_of js ++ qs) now
  pub goes : (qs : List Pending) → outcome (indices ∷ qs) from ≡ outcome (indices ∷ qs) now
  pub shorter : length now ≤ length from

pub no_index : (from : List Token) → IndicesRead from [] from
no_index from = record { reads = λ js qs. refl; goes = λ qs. refl; shorter = omega arith }

-- one index more
pub index_more : (from s t now : List Token) (is js : List Index) (i : Index) (bracket : Place) → IndicesRead from is s →
    s ≡ token (mark.Symbol sign.SquareOpen) bracket ∷ t → i.bracket ≡ bracket
    → Reads (expr i.at ∷ symbol sign.SquareClose ∷ []) t now → Goes (expression ∷ sign_of sign.SquareClose ∷ []) t now → length now < length t →
    js ≡ is ++ i ∷ [] → IndicesRead from js now
index_more from s t now is js i bracket h e place reads goes shorter all = record {
  reads = λ ks qs. ap (λ xs. in_turn (indices_of xs ++ qs) from) (ap (λ xs. xs ++ ks) all ∙ append_assoc is (i ∷ []) ks) ∙ h.reads (i ∷ ks) qs
      ∙ reads_token (mark.Symbol sign.SquareOpen) i.bracket s t (e ∙ ap (λ (at : Place). token (mark.Symbol sign.SquareOpen) at ∷ t) (sym place))
      (expr i.at ∷ symbol sign.SquareClose ∷ indices_of ks ++ qs)
      ∙ reads (indices_of ks ++ qs);
  goes = λ qs. h.goes qs ∙ ap (outcome (indices ∷ qs)) e ∙ begins_index bracket t qs ∙ goes (indices ∷ qs);
  shorter = omega (arith, h.shorter, ap length e);
}

-- no other follows
pub all_indices : (from now : List Token) (is : List Index) → IndicesRead from is now → (qs : List Reading) →
    in_turn (indices_of is ++ qs) from ≡ in_turn qs now
all_indices from now is h qs = ap (λ xs. in_turn (indices_of xs ++ qs) from) (sym (append-nil is)) ∙ h.reads [] qs

-- statements, where others may follow
pub record StatementsRead (kind : BlockKind) (from : List Token) (ss : List Stmt) (now : List Token) : Type 0 where
  pub reads : (others : List Stmt) (qs : List Reading) → in_turn (statements_of kind (ss ++ others) ++ qs) from ≡ in_turn (statements_of kind others ++ qs) now
  pub goes : GoesAsStatement kind from now
  pub shorter : length now ≤ length from

pub nothing_read : (kind : BlockKind) (from : List Token) → StatementsRead kind from [] from
nothing_read kind from = record { reads = λ others qs. refl; goes = λ qs. refl; shorter = omega arith }

-- one statement more
pub statement_more : (kind : BlockKind) (from s now : List Token) (ss more : List Stmt) (one : Stmt) → StatementsRead kind from ss s →
    Reads (statement one kind ∷ []) s now → GoesAsStatement kind s now
    → length now < length s → more ≡ ss ++ one ∷ [] → StatementsRead kind from more now
statement_more kind from s now ss more one h reads goes shorter all = record {
  reads = λ others qs. ap (λ xs. in_turn (statements_of kind xs ++ qs) from) (ap (λ xs. xs ++ others) all ∙ append_assoc ss (one ∷ []) others)
      ∙ h.reads (one ∷ others) qs
      ∙ reads (statements_of kind others ++ qs);
  goes = λ qs. h.goes qs ∙ goes qs;
  shorter = omega (arith, h.shorter);
}

-- no other follows
pub all_statements : (kind : BlockKind) (from now : List Token) (ss : List Stmt) → StatementsRead kind from ss now → (qs : List Reading) →
    in_turn (statements_of kind ss ++ qs) from ≡ in_turn qs now
all_statements kind from now ss h qs = ap (λ xs. in_turn (statements_of kind xs ++ qs) from) (sym (append-nil ss)) ∙ h.reads [] qs
