use Rattle.std.proofs.Common.{◌≡◌, ◌≤◌, ◌+◌, ◌*◌, ◌++◌, drop, map}
use Rattle.ygg_value.specs.Values.{word_in}
use Rattle.ygg_meaning_laws.specs.ygg_syntax.Weights.{weights_of, weight_at, expr_weight, exprs_weight}
use Rattle.ygg_meaning_laws.specs.Meaning.{quantified, is_one}
use Rattle.ygg_eval_expr.specs.Held.{env_of, held_values}
use Rattle.ygg_eval_expr.specs.Known.{known_of, value_in, with_number, is_all}
use Rattle.ygg_eval_expr.proofs.Walking.{EndsIn}
use Rattle.ygg_eval_expr.proofs.evaluator.Evaluator.+value.Given as goal

abbrev pub decreases-called : goal.decreases-called
decreases-called l = 4 * weight_at (weights_of l.self.now.defs.now) l.name.now + 1

abbrev pub decreases-quantified : goal.decreases-quantified
decreases-quantified l = 4 * expr_weight (weights_of l.self.now.defs.now) l.e.now + 3

abbrev pub decreases-test : goal.decreases-test
decreases-test l = 4 * expr_weight (weights_of l.self.now.defs.now) l.e.now + 2

abbrev pub decreases-value : goal.decreases-value
decreases-value l = 4 * expr_weight (weights_of l.self.now.defs.now) l.e.now

abbrev pub decreases-values : goal.decreases-values
decreases-values l = 4 * exprs_weight (weights_of l.self.now.defs.now) l.es.now + 1

abbrev pub decreases-word : goal.decreases-word
decreases-word l = 4 * expr_weight (weights_of l.self.now.defs.now) l.e.now + 1

abbrev pub decreases-words : goal.decreases-words
decreases-words l = 4 * exprs_weight (weights_of l.self.now.defs.now) l.es.now + 2

-- all numbers so far let it go on
abbrev pub invariant-quantified-loop-i : goal.invariant-quantified-loop-i
invariant-quantified-loop-i l = record {
  so_far : is_all l.fn.which ≡ quantified l.fn.which l.i (λ i. is_one (value_in (with_number (known_of l.self) l.x.text l.w.value i) l.e));
  all : l.all ≡ is_all l.fn.which;
  ends : EndsIn (env_of l.self.numbers.now) (env_of l.numbers.items);
}

-- what was found so far and what is left
abbrev pub invariant-values-loop-e : goal.invariant-values-loop-e
invariant-values-loop-e l = record {
  values : held_values l.values.items ++ map (value_in (known_of l.self)) (drop l.e-index l.es) ≡ map (value_in (known_of l.self)) l.es;
  part : exprs_weight (weights_of l.self.defs.now) (drop l.e-index l.es) ≤ exprs_weight (weights_of l.self.defs.now) l.es;
}

abbrev pub invariant-words-loop-e : goal.invariant-words-loop-e
invariant-words-loop-e l = record {
  words : l.words.items ++ map (λ e. word_in (value_in (known_of l.self) e)) (drop l.e-index l.es) ≡ map (λ e. word_in (value_in (known_of l.self) e)) l.es;
  part : exprs_weight (weights_of l.self.defs.now) (drop l.e-index l.es) ≤ exprs_weight (weights_of l.self.defs.now) l.es;
}
