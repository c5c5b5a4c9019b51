-- The loops over places and joins make what the definitions say.
use Rattle.std.proofs.Common.{◌≡◌, ◌<◌, ◌≤◌, ◌+◌, ℕ, suc, Bool, List, [], ◌∷◌, ◌++◌}
use Rattle.std.proofs.Common.{length, drop, get_or, append_assoc, refl, sym, ap, ◌∙◌, arith}
use Rattle.std.proofs.lemmas.List.{append-nil, drop_all}
use Rattle.ygg_shape_cells.specs.ygg_rules.declared.rule.RuleKind.{RuleKind}
use Rattle.ygg_shape_cells.specs.ygg_bank.declared.node.Id.{Id}
use Rattle.ygg_shape_cells.specs.ygg_bank.declared.node.Node.{Node}
use Rattle.ygg_shape_cells.proofs.Steps.{rest_is}
use Rattle.ygg_shape.specs.Conjuncts.{conjuncts_below, marked_at, marks_after}
use Rattle.ygg_shape.specs.Joins.{join_made, joins_made}
use Rattle.ygg_shape.specs.declared.joins.Join.{Join}
use Rattle.ygg_shape.specs.declared.replacing.Replacement.{Replacement}

-- marked places, from the last one down
pub walk_goes : (nodes : List Node) (p q : ℕ) (found more : List Id) (marks next : List Bool) (whole : List Id) → q ≡ p + 1 →
    more ≡ found ++ marked_at marks p → next ≡ marks_after nodes p marks → found ++ conjuncts_below nodes q marks ≡ whole →
    more ++ conjuncts_below nodes p next ≡ whole
walk_goes nodes p q found more marks next whole e f g h =
    let s : q ≡ suc p = omega arith in
    ap (λ z. z ++ conjuncts_below nodes p next) f ∙ ap (λ z. (found ++ marked_at marks p) ++ conjuncts_below nodes p z) g
    ∙ append_assoc found (marked_at marks p) (conjuncts_below nodes p (marks_after nodes p marks))
    ∙ ap (λ z. found ++ conjuncts_below nodes z marks) (sym s) ∙ h

-- the picks that are made so far, and those that the rest will make
pub record MadeSoFar (kinds : List RuleKind) (js : List Join) (first : List Replacement) (old : List Node) (i : ℕ) (facts : List Replacement)
    (now : List Node) : Type 0 where
  pub value : facts ++ (joins_made kinds (drop i js) now).value ≡ first ++ (joins_made kinds js old).value
  pub nodes : (joins_made kinds (drop i js) now).nodes ≡ (joins_made kinds js old).nodes

pub made_goes : (kinds : List RuleKind) (js : List Join) (first : List Replacement) (old : List Node) (i : ℕ) (d : Join) (facts : List Replacement)
    (now next : List Node) (r : Replacement) → i < length js → next ≡ (join_made kinds (get_or js i d) now).nodes →
    r ≡ (join_made kinds (get_or js i d) now).value → MadeSoFar kinds js first old i facts now →
    MadeSoFar kinds js first old (i + 1) (facts ++ r ∷ []) next
made_goes kinds js first old i d facts now next r l e f s =
    let j = get_or js i d in
    let rest = drop (i + 1) js in
    let here = rest_is js i j d l refl in
    let o = join_made kinds j now in
    record {
      value = append_assoc facts (r ∷ []) (joins_made kinds rest next).value ∙ ap (λ z. facts ++ (z ∷ (joins_made kinds rest next).value)) f
          ∙ ap (λ z. facts ++ (o.value ∷ (joins_made kinds rest z).value)) e ∙ ap (λ z. facts ++ (joins_made kinds z now).value) (sym here) ∙ s.value;
      nodes = ap (λ z. (joins_made kinds rest z).nodes) e ∙ ap (λ z. (joins_made kinds z now).nodes) (sym here) ∙ s.nodes;
    }

pub made_value : (kinds : List RuleKind) (js : List Join) (first : List Replacement) (old : List Node) (i : ℕ) (facts : List Replacement)
    (now : List Node) → length js ≤ i → MadeSoFar kinds js first old i facts now → facts ≡ first ++ (joins_made kinds js old).value
made_value kinds js first old i facts now l s =
    sym (append-nil facts) ∙ ap (λ z. facts ++ (joins_made kinds z now).value) (sym (drop_all i js l)) ∙ s.value

pub made_nodes : (kinds : List RuleKind) (js : List Join) (first : List Replacement) (old : List Node) (i : ℕ) (facts : List Replacement)
    (now : List Node) → length js ≤ i → MadeSoFar kinds js first old i facts now → now ≡ (joins_made kinds js old).nodes
made_nodes kinds js first old i facts now l s = ap (λ z. (joins_made kinds z now).nodes) (sym (drop_all i js l)) ∙ s.nodes
