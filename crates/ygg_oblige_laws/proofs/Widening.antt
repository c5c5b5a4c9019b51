-- A block that makes neither choices nor calls is one of a specification too.
use Rattle.std.proofs.Common.{◌≡◌, Bool, true, List, [], ◌∷◌, map, refl, sym, subst}
use Rattle.std.proofs.lemmas.Bool.{and_from as both_of}
use Rattle.ygg_syntax.specs.declared.grammar.BlockKind.{BlockKind}
use Rattle.ygg_syntax.specs.declared.grammar.BlockKind.TheVariants.{Plain, Spec}
use Rattle.ygg_syntax.specs.declared.tree.Source.{Source}
use Rattle.ygg_syntax.specs.declared.tree.Source.TheVariants as source
use Rattle.ygg_syntax.specs.declared.tree.Stmt.{Stmt, map-Stmt}
use Rattle.ygg_syntax.specs.declared.tree.Block.{Block, map-Block, fold-Block}
use Rattle.ygg_syntax.specs.declared.tree.Stmt.TheOpen.{Stmt-F, Block-F}
use Rattle.ygg_syntax.specs.declared.tree.Stmt.TheFolds.{ind-Stmt, fold-roll-Stmt, fold-roll-Block}
use Rattle.ygg_oblige_laws.specs.ygg_meaning_laws_proofs_Tests.{left as first_of, right as second_of}
use Rattle.ygg_oblige_laws.specs.ygg_meaning_laws.Kinds.{source_keeps, all_keep, node_keeps, node_all_keep, stmt_keeps, keeps}

-- what keeps the one kind keeps the other
record Widens (k : BlockKind → Bool) : Type 0 where
  pub widens : k Plain ≡ true → k Spec ≡ true

abbrev Keep : Type 0
Keep = BlockKind → Bool

abbrev K' : Block → Keep
K' = fold-Block Keep Keep node_keeps node_all_keep

abbrev S : Type 0
S = (s : Stmt) × Widens (stmt_keeps s)

abbrev B : Type 0
B = (b : Block) × Widens (K' b)

source_widens : (s : Source) → source_keeps Plain s ≡ true → source_keeps Spec s ≡ true
source_widens (source.Value e) k = refl
source_widens (source.Choose at) k = refl
source_widens (source.Call at f es) k = k

stmt_case : (y : Stmt-F S B) → Widens (node_keeps (map-Stmt Stmt Block Keep Keep stmt_keeps K' (map-Stmt S B Stmt Block (λ e. e.0) (λ e. e.0) y)))
stmt_case (Stmt-F.Let x s) = record { widens = source_widens s }
stmt_case (Stmt-F.Assign x is s) = record { widens = source_widens s }
stmt_case (Stmt-F.If test first second) = record {
  widens = λ k.
      both_of (K' first.0 Spec) (K' second.0 Spec) (first.1.widens (first_of (K' first.0 Plain) (K' second.0 Plain) k))
      (second.1.widens (second_of (K' first.0 Plain) (K' second.0 Plain) k));
}
stmt_case (Stmt-F.For x w n each) = record { widens = each.1.widens }
stmt_case (Stmt-F.Call f es) = record { widens = λ k. k }

all_widen : (ss : List S) → Widens (all_keep (map stmt_keeps (map (λ e. e.0) ss)))
all_widen [] = record { widens = λ k. refl }
all_widen (s ∷ ss) = record {
  widens = λ k.
      both_of (stmt_keeps s.0 Spec) (all_keep (map stmt_keeps (map (λ e. e.0) ss)) Spec) (s.1.widens (first_of (stmt_keeps s.0 Plain) _ k))
      ((all_widen ss).widens (second_of (stmt_keeps s.0 Plain) _ k));
}

block_case : (y : Block-F S B) → Widens (node_all_keep (map-Block Stmt Block Keep Keep stmt_keeps K' (map-Block S B Stmt Block (λ e. e.0) (λ e. e.0) y)))
block_case y = record { widens = λ k. (all_widen y.statements).widens k }

stmt_widens : (s : Stmt) → Widens (stmt_keeps s)
stmt_widens =
    ind-Stmt (λ s. Widens (stmt_keeps s)) (λ b. Widens (K' b))
    (λ x y is. subst Widens (sym (fold-roll-Stmt Keep Keep node_keeps node_all_keep x))
    (subst (λ z. Widens (node_keeps (map-Stmt Stmt Block Keep Keep stmt_keeps K' z))) is (stmt_case y)))
    (λ x y is. subst Widens (sym (fold-roll-Block Keep Keep node_keeps node_all_keep x))
    (subst (λ z. Widens (node_all_keep (map-Block Stmt Block Keep Keep stmt_keeps K' z))) is (block_case y)))

statements_widen : (ss : List Stmt) → all_keep (map stmt_keeps ss) Plain ≡ true → all_keep (map stmt_keeps ss) Spec ≡ true
statements_widen [] k = refl
statements_widen (s ∷ ss) k =
    both_of (stmt_keeps s Spec) (all_keep (map stmt_keeps ss) Spec) ((stmt_widens s).widens (first_of (stmt_keeps s Plain) _ k))
    (statements_widen ss (second_of (stmt_keeps s Plain) _ k))

pub plain_keeps : (b : Block) → keeps Plain b ≡ true → keeps Spec b ≡ true
plain_keeps b k = statements_widen b.statements k
