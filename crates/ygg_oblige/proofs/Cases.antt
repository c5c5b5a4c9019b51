-- An obligation's term, kind by kind.
use Rattle.std.proofs.Common.{◌≡◌, ◌≤◌, ℕ, List, [], sym, subst, arith}
use Rattle.std.proofs.lemmas.List.Elements.{All-nil}
use Rattle.ygg_value.specs.Shapes.{IsShape}
use Rattle.ygg_syntax.specs.declared.tree.Declared.{Declared}
use Rattle.ygg_syntax.specs.declared.tree.Def.{Def}
use Rattle.ygg_oblige_parts.specs.ygg_meaning.Shapes.{shape_in}
use Rattle.ygg_oblige_parts.specs.ygg_meaning.Layer.{ClosedLayer}
use Rattle.ygg_oblige_parts.specs.ygg_meaning.Obligations.{Obligation, Init, CallOf, CutOf, TickOf, CutTickOf, Idle, Again}
use Rattle.ygg_oblige_parts.specs.ygg_meaning.Refines.{Below}
use Rattle.ygg_oblige_parts.specs.ygg_rules.declared.rule.RuleKind.{RuleKind}
use Rattle.ygg_oblige_parts.specs.ygg_bank.Inputs.{InputsBelow}
use Rattle.ygg_oblige_parts.specs.ygg_bank.Makes.{Make}
use Rattle.ygg_oblige_parts.specs.ygg_bank.declared.node.Id.{Id}
use Rattle.ygg_oblige_parts.specs.ygg_bank.declared.node.Node.{Node}
use Rattle.ygg_oblige_parts.specs.ygg_sym_runs.Lower.{SingleFrom}
use Rattle.ygg_oblige_parts.specs.Layers.{closed, terms_in}
use Rattle.ygg_oblige_parts.specs.SymLayer.{SymLayer}
use Rattle.ygg_oblige_parts.specs.Sites.{below_in}
use Rattle.ygg_sym.specs.ygg_sym_spec.declared.below.SymBelow.{SymBelow}
use Rattle.ygg_oblige_parts.specs.ygg_oblige_laws.Numbers.{Numbers, arguments_of, numbers_of}
use Rattle.ygg_oblige_parts.specs.ygg_oblige_laws.LayerTerms.{ShapesKept}
use Rattle.ygg_oblige_parts.specs.ygg_oblige_laws.TermStates.{Starting}
use Rattle.ygg_oblige_parts.specs.ygg_oblige_laws.Terms.{term_made}
use Rattle.ygg_oblige_parts.specs.ObligePiecesSteps.{HasStep, ObligationTyped, variables_of}
use Rattle.ygg_oblige_parts.specs.Makers.{StartingShaped}
use Rattle.ygg_oblige_list.specs.InCode.{obligation_of}
use Rattle.ygg_oblige_list.specs.declared.obligation.SymObligation.{SymObligation}
use Rattle.ygg_oblige.specs.Making.{CanBegin, SiteFits, TickFits}
use Rattle.ygg_oblige.specs.Parts.{cut_term, whole_term}
use Rattle.ygg_oblige.proofs.KindsBegun.{can_begin, run_single}

-- what is made of an obligation that is this one
case_is : (X T : Obligation → Make Id) (o d : SymObligation) → o ≡ d → X (obligation_of d) ≡ T (obligation_of d) → X (obligation_of o) ≡ T (obligation_of o)
case_is X T o d e same = subst (λ z. X (obligation_of z) ≡ T (obligation_of z)) (sym e) same

-- a whole run over fresh arguments is the term of an obligation that is this one
pub whole_is : (kinds : List RuleKind) (l : SymLayer) (g : SymBelow) (o d : SymObligation) (n : Numbers) (S : Starting) → o ≡ d →
    whole_term kinds l g (obligation_of d) n S ≡ term_made kinds (terms_in kinds l) (closed l) (below_in g) S (obligation_of d) n →
    whole_term kinds l g (obligation_of o) n S ≡ term_made kinds (terms_in kinds l) (closed l) (below_in g) S (obligation_of o) n
whole_is kinds l g o d n S =
    case_is (λ o. whole_term kinds l g o n S) (λ o. term_made kinds (terms_in kinds l) (closed l) (below_in g) S o n) o d

-- a run that power cuts over fresh arguments is the term of an obligation that is this one
pub cut_is : (kinds : List RuleKind) (l : SymLayer) (g : SymBelow) (o d : SymObligation) (n : Numbers) (S : Starting) → o ≡ d →
    cut_term kinds l g (obligation_of d) n S ≡ term_made kinds (terms_in kinds l) (closed l) (below_in g) S (obligation_of d) n →
    cut_term kinds l g (obligation_of o) n S ≡ term_made kinds (terms_in kinds l) (closed l) (below_in g) S (obligation_of o) n
cut_is kinds l g o d n S =
    case_is (λ o. cut_term kinds l g o n S) (λ o. term_made kinds (terms_in kinds l) (closed l) (below_in g) S o n) o d

-- what holds of an obligation that is this one
pub case_has : (P : Obligation → Type 0) (o d : SymObligation) → o ≡ d → P (obligation_of d) → P (obligation_of o)
case_has P o d e p = subst (λ z. P (obligation_of z)) (sym e) p

none_kept : ShapesKept []
none_kept = All-nil (λ (d : Declared). IsShape (shape_in d.shape))

arguments_kept : (defs : List Def) (G : Below) (L : ClosedLayer) (o : Obligation) → ObligationTyped defs G L o → ShapesKept (arguments_of o)
arguments_kept defs G L Init t = none_kept
arguments_kept defs G L (CallOf o) t = t.shapes
arguments_kept defs G L (CutOf o) t = t.shapes
arguments_kept defs G L (TickOf o) t = none_kept
arguments_kept defs G L (CutTickOf o) t = none_kept
arguments_kept defs G L Idle t = none_kept
arguments_kept defs G L Again t = none_kept

start_before : (G : Below) (L : ClosedLayer) (o : Obligation) (start : ℕ) (n : Numbers) → n ≡ numbers_of G L o start → start ≤ n.run
start_before G L o start n e = subst (λ (n : Numbers). start ≤ n.run) (sym e) (omega arith)

pub single_begun : (G : Below) (L : ClosedLayer) (o : Obligation) (start : ℕ) (n : Numbers) (nodes : List Node) → n ≡ numbers_of G L o start →
    InputsBelow start nodes → SingleFrom n.run nodes
single_begun G L o start n nodes e b = run_single G L o start n nodes e (start_before G L o start n e) b

-- an obligation of an operation or a background step can begin
pub begun : (l : SymLayer) (g : SymBelow) (nodes : List Node) (o d : SymObligation) (n : Numbers) (S : Starting) (start : ℕ) → o ≡ d →
    HasStep (obligation_of d) → variables_of (closed l) (obligation_of d) ≡ (l.layer.now).state → SiteFits l g →
    ObligationTyped l.defs.now (below_in g) (closed l) (obligation_of o) → TickFits l g (obligation_of o) → StartingShaped (closed l) nodes S →
    n ≡ numbers_of (below_in g) (closed l) (obligation_of o) start → InputsBelow start nodes → CanBegin l g nodes (obligation_of o) n S
begun l g nodes o d n S start e has variables site typed tick starting numbers free =
    can_begin l g nodes (obligation_of o) n S start site typed tick starting numbers free (case_has HasStep o d e has)
    (case_has (λ o. variables_of (closed l) o ≡ (l.layer.now).state) o d e variables) (arguments_kept l.defs.now (below_in g) (closed l) (obligation_of o)
    typed)
