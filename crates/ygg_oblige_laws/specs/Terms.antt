-- The terms of obligations.
use Rattle.std.specs.Prelude.{ℕ, ◌+◌, List, [], ◌∷◌, ◌++◌, Option}
use Rattle.ygg_value.specs.Words.{word}
use Rattle.ygg_value.specs.declared.operation.Op.TheVariants.{And}
use Rattle.ygg_syntax.specs.declared.tree.Block.{Block}
use Rattle.ygg_syntax.specs.declared.tree.Declared.{Declared}
use Rattle.ygg_syntax.specs.declared.tree.DiskText.{DiskText}
use Rattle.ygg_syntax.specs.declared.tree.File.{File}
use Rattle.ygg_sym_laws.specs.ygg_meaning.Machine.{Picks}
use Rattle.ygg_sym_laws.specs.ygg_meaning.Layer.{ClosedLayer}
use Rattle.ygg_sym_laws.specs.ygg_meaning.Obligations.{Obligation, Init, CallOf, CutOf, TickOf, CutTickOf, Idle, Again, obligations_of}
use Rattle.ygg_sym_laws.specs.ygg_meaning.Refines.{Below}
use Rattle.ygg_sym_laws.specs.ygg_meaning.Violates.{most}
use Rattle.ygg_sym_laws.specs.ygg_meaning.Stack.{Layers, below_of, layers_of}
use Rattle.ygg_sym_laws.specs.ygg_rules.declared.rule.RuleKind.{RuleKind}
use Rattle.ygg_sym_laws.specs.ygg_bank.Makes.{Make, pure, and_make}
use Rattle.ygg_sym_laws.specs.ygg_bank.Making.{made}
use Rattle.ygg_sym_laws.specs.ygg_bank.declared.node.Id.{Id}
use Rattle.ygg_sym_laws.specs.ygg_bank.declared.node.Node.TheVariants.{Const, Bin}
use Rattle.ygg_sym_laws.specs.ygg_shape_cells.declared.terms.SymValue.{SymValue}
use Rattle.ygg_sym_laws.specs.Names.{sym_bind}
use Rattle.ygg_sym_laws.specs.Exprs.{SymFunctions}
use Rattle.ygg_sym_laws.specs.StopTerms.{SymFallen}
use Rattle.ygg_sym_laws.specs.Wholes.{SymFinish}
use Rattle.ygg_sym_laws.specs.Below.{zeros_made, lows_at_start, run_made, cut_made, lost_made}
use Rattle.ygg_sym_laws.specs.Means.{terms_of, values_in}
use Rattle.ygg_oblige_laws.specs.Implied.{implied_made}
use Rattle.ygg_oblige_laws.specs.TermStates.{Starting, starting, state_words, fresh_all, all_compared, related_made, settled_made}
use Rattle.ygg_oblige_laws.specs.Outcomes.{any_picks, answers_compared, outcome_made}
use Rattle.ygg_oblige_laws.specs.Numbers.{Numbers, numbers_of, arguments_of}

-- how a whole run ends: an answer, the memory, and the state below
abbrev pub Finish : Type 0
Finish = SymFinish (List SymValue)

module _ (kinds : List RuleKind) where
  -- whether the answers are the same, for the one obligation that speaks of an answer
  abbrev pub same_answers_made : Obligation → Option SymValue → Option SymValue → Make Id
  same_answers_made (CallOf o) y z = answers_compared kinds y z
  same_answers_made o y z = made kinds (Const (word 1 1))

module _ (kinds : List RuleKind) (terms : SymFunctions) (L : ClosedLayer) where
  -- whether the specification's step with these picks gives variables that are related to this end, and its answer where one is spoken of
  abbrev pub passes_made : Obligation → List SymValue → List SymValue → Finish → Picks → Make Id
  passes_made o vars args end picks =
      and_make (outcome_made kinds terms L o vars args picks) (λ out.
      and_make (same_answers_made kinds o end.answer out.answer) (λ same.
      and_make (related_made kinds terms L (record { vars = out.to; memory = values_in end.vars; low = end.to })) (λ related.
      made kinds (Bin And same related))))

  -- whether some step of the specification passes
  abbrev pub some_passes : Obligation → List SymValue → List SymValue → Finish → Make Id
  some_passes o vars args end = any_picks kinds (most L o) [] (passes_made o vars args end)

  module _ (G : Below) where
    -- a whole run of a block over a memory and a state below, its picks' inputs numbered on from a number
    abbrev pub ran : ℕ → Block → List SymValue → List Declared → List SymValue → List SymValue → Make Finish
    ran first b memory declared args low = run_made kinds terms G first b (sym_bind L.layer.memory memory) (sym_bind declared args) low

    -- one whole recovery from a state below
    abbrev pub recovered : ℕ → List SymValue → Make Finish
    recovered first low = and_make (zeros_made kinds L.layer.memory) (λ zeros. ran first L.layer.recover zeros [] [] low)

    -- a run of a block that power cuts
    abbrev pub cut_short : Numbers → Block → List SymValue → List Declared → List SymValue → List SymValue → Make (SymFallen (List SymValue))
    cut_short n b memory declared args low =
        cut_made kinds terms G n.run n.stop n.last b (sym_bind L.layer.memory memory) (sym_bind declared args) low

    -- after power has failed and left this, where the hypothesis is this: the base is settled, and a recovery ends in a state that passes
    abbrev pub recovers : Obligation → Numbers → Id → List SymValue → List SymValue → List SymValue → Make Id
    recovers o n hypothesis vars args fallen =
        and_make (recovered n.wake fallen) (λ end.
        and_make (settled_made kinds terms L fallen) (λ side.
        and_make (some_passes o vars args end) (λ some.
        and_make (made kinds (Bin And side some)) (λ conclusion. implied_made kinds hypothesis conclusion))))

    -- a whole run of a block ends in a state that passes
    abbrev pub runs_through : Obligation → Numbers → Starting → Block → List SymValue → Make Id
    runs_through o n S b args =
        and_make (ran n.run b S.from.memory (arguments_of o) args S.from.low) (λ end.
        and_make (some_passes o S.from.vars args end) (λ some. implied_made kinds S.related some))

    -- a run of a block that power cuts, and a recovery
    abbrev pub falls_through : Obligation → Numbers → Starting → Block → List SymValue → Make Id
    falls_through o n S b args =
        and_make (cut_short n b S.from.memory (arguments_of o) args S.from.low) (λ left.
        and_make (made kinds (Bin And S.related left.reached)) (λ hypothesis. recovers o n hypothesis S.from.vars args left.fallen))

    -- a recovery that power cuts, another after it, and one whole recovery from the first base
    abbrev pub recovers_again : Numbers → Starting → Make Id
    recovers_again n S =
        and_make (zeros_made kinds L.layer.memory) (λ zeros.
        and_make (cut_short n L.layer.recover zeros [] [] S.settled_low) (λ left.
        and_make (recovered n.wake left.fallen) (λ end.
        and_make (recovered n.other S.settled_low) (λ other.
        and_make (settled_made kinds terms L left.fallen) (λ side.
        and_make (all_compared kinds (values_in end.vars) (values_in other.vars)) (λ memories.
        and_make (all_compared kinds end.to other.to) (λ bases.
        and_make (made kinds (Bin And memories bases)) (λ same.
        and_make (made kinds (Bin And side same)) (λ conclusion.
        and_make (made kinds (Bin And S.settled left.reached)) (λ hypothesis. implied_made kinds hypothesis conclusion))))))))))

    -- formatting ends in a state that passes
    abbrev pub formats : Numbers → Make Id
    formats n =
        and_make (lows_at_start kinds terms G) (λ low.
        and_make (zeros_made kinds L.layer.memory) (λ zeros.
        and_make (ran n.run L.layer.format zeros [] [] low) (λ end. some_passes Init [] [] end)))

    -- the term of an obligation
    abbrev pub term_made : Starting → Obligation → Numbers → Make Id
    term_made S Init n = formats n
    term_made S (CallOf o) n = and_make (fresh_all kinds n.args o.arguments) (λ args. runs_through (CallOf o) n S o.implementation args)
    term_made S (CutOf o) n = and_make (fresh_all kinds n.args o.arguments) (λ args. falls_through (CutOf o) n S o.implementation args)
    term_made S (TickOf t) n = runs_through (TickOf t) n S t.body []
    term_made S (CutTickOf t) n = falls_through (CutTickOf t) n S t.body []
    term_made S Idle n =
        and_make (lost_made kinds terms G n.last S.from.low) (λ fallen. recovers Idle n S.related S.from.vars [] fallen)
    term_made S Again n = recovers_again n S

    -- the terms of obligations in order, their inputs numbered on from a number
    abbrev pub terms_made : Starting → List Obligation → ℕ → Make (List Id)
    terms_made S [] number = pure []
    terms_made S (o ∷ os) number =
        let n = numbers_of G L o number in and_make (term_made S o n) (λ t. and_make (terms_made S os n.next) (λ ts. pure (t ∷ ts)))

    -- the number after the inputs of obligations
    abbrev pub after_all : List Obligation → ℕ → ℕ
    after_all [] number = number
    after_all (o ∷ os) number = after_all os (numbers_of G L o number).next

    -- the terms of a layer's obligations: the states that they begin with are made once
    abbrev pub layer_made : ℕ → Make (List Id)
    layer_made number = and_make (starting kinds terms L number) (λ S. terms_made S (obligations_of L.layer) (number + state_words L))

    -- the number after a layer's inputs
    abbrev pub after_layer : ℕ → ℕ
    after_layer number = after_all (obligations_of L.layer) (number + state_words L)

module _ (kinds : List RuleKind) (terms : SymFunctions) (disk : DiskText) where
  -- the number after the inputs of layers
  abbrev pub after_layers : Layers → ℕ
  after_layers [] = 0
  after_layers (L ∷ lower) = after_layer kinds terms L (below_of disk lower) (after_layers lower)

  -- the terms of layers' obligations, those of the lowest layer first
  abbrev pub layers_made : Layers → Make (List Id)
  layers_made [] = pure []
  layers_made (L ∷ lower) =
      and_make (layers_made lower) (λ before.
      and_make (layer_made kinds terms L (below_of disk lower) (after_layers lower)) (λ ts. pure (before ++ ts)))

-- the nodes and terms of a file's obligations, made in a bank without nodes
abbrev pub file_made : List RuleKind → File → Make (List Id)
file_made kinds f = layers_made kinds (terms_of kinds f.defs) f.disk (layers_of f)
