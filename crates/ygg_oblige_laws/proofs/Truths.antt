-- Whether formulas hold of what terms are worth: a layer's relation, and its settled states.
use Rattle.std.proofs.Common.{◌≡◌, ◌&&◌, ◌==◌, true, List, [], ◌∷◌, ◌++◌, map, reverse, All, Some, refl, sym, ap, ◌∙◌, subst}
use Rattle.std.specs.Str.{bytes_eq}
use Rattle.std.proofs.lemmas.Bool.{and_from as both_of}
use Rattle.std.proofs.lemmas.List.{map-append}
use Rattle.std.proofs.lemmas.List.Elements.{All-head, All-tail, All-append, All-nil}
use Rattle.ygg_value.specs.Number.{Number}
use Rattle.ygg_value.specs.Shapes.{shape_of}
use Rattle.ygg_value.specs.Values.{word_in}
use Rattle.ygg_value.specs.Words.{word}
use Rattle.ygg_value.specs.declared.operation.Op.TheVariants.{And}
use Rattle.ygg_value.specs.declared.row.Value.{Value}
use Rattle.ygg_value.specs.declared.row.Value.TheVariants as value
use Rattle.ygg_value.specs.declared.shape.Shape.TheVariants as shape
use Rattle.ygg_syntax.specs.declared.tree.Declared.{Declared}
use Rattle.ygg_syntax.specs.declared.tree.Def.{Def}
use Rattle.ygg_syntax.specs.declared.tree.Expr.{Expr}
use Rattle.ygg_sym_laws.specs.ygg_type_rules.Definitions.{with_definitions}
use Rattle.ygg_sym_laws.specs.ygg_type_rules.Shapes.{is_word}
use Rattle.ygg_sym_laws.specs.ygg_meaning.Environments.{Name, Env}
use Rattle.ygg_sym_laws.specs.ygg_meaning.Layer.{ClosedLayer}
use Rattle.ygg_sym_laws.specs.ygg_meaning.Meaning.{Functions, value_with, is_one, functions_of}
use Rattle.ygg_sym_laws.specs.ygg_meaning.Meaning as meaning
use Rattle.ygg_sym_laws.specs.ygg_meaning.Refines.{Below}
use Rattle.ygg_sym_laws.specs.ygg_meaning.Related.{shaped, all_true, relations, relates, settles}
use Rattle.ygg_sym_laws.specs.ygg_meaning.Shapes.{shape_in, fits, env_fits}
use Rattle.ygg_sym_laws.specs.ygg_meaning_laws.Fitting.{HasShape}
use Rattle.ygg_sym_laws.specs.ygg_meaning_laws_proofs_Sounds.{sound}
use Rattle.ygg_sym_laws.specs.ygg_meaning_laws_proofs_Tests.{left as first_of, right as second_of}
use Rattle.ygg_sym_laws.specs.ygg_rules.declared.rule.RuleKind.{RuleKind}
use Rattle.ygg_sym_laws.specs.ygg_bank_proofs_Made.{made_grows}
use Rattle.ygg_sym_laws.specs.ygg_bank_proofs_Meaning.{fits_fewer}
use Rattle.ygg_sym_laws.specs.ygg_bank.Making.{made}
use Rattle.ygg_sym_laws.specs.ygg_bank.Nodes.{HasWidth}
use Rattle.ygg_sym_laws.specs.ygg_bank.Values.{Inputs, Values}
use Rattle.ygg_sym_laws.specs.ygg_bank.declared.node.Node.{Node}
use Rattle.ygg_sym_laws.specs.ygg_bank.declared.node.Node.TheVariants.{Const, Bin}
use Rattle.ygg_sym_laws.specs.ygg_shape_words_proofs_Keeps.{Stays}
use Rattle.ygg_sym_laws.specs.ygg_shape_cells.Terms.{worth}
use Rattle.ygg_sym_laws.specs.ygg_shape_cells.declared.terms.SymValue.{SymValue}
use Rattle.ygg_sym_laws.specs.ygg_sym_runs.Exprs.{SymFunctions, id_in, sym_value}
use Rattle.ygg_sym_laws.specs.ygg_sym_runs.ExpressionMeaning.{ScopeShaped, Grows, Gives, worths, scope_worth}
use Rattle.ygg_sym_laws.specs.ygg_sym_runs.Names.{SymScope, sym_bind}
use Rattle.ygg_sym_laws.specs.ygg_sym_runs_proofs_Definitions.{functions_mean}
use Rattle.ygg_sym_laws.specs.ygg_sym_runs_proofs_Grows.{FunctionsGrow, functions_grow, value_grows}
use Rattle.ygg_sym_laws.specs.ygg_sym_runs_proofs_Keeps.{Keeps, FunctionsKeep, functions_keep, value_keeps}
use Rattle.ygg_sym_laws.specs.ygg_sym_runs_proofs_Shaped.{is_term, scope_wider}
use Rattle.ygg_sym_laws.specs.ygg_sym_runs_proofs_Values.{FunctionsMean, value_means}
use Rattle.ygg_sym_laws.proofs.Worths.{NameShaped}
use Rattle.ygg_sym_laws.proofs.Lows.{low_fits}
use Rattle.ygg_sym_laws.proofs.Specs.{bound_worth, low_shaped}
use Rattle.ygg_sym_laws.specs.Lows.{LowShaped, low_worth}
use Rattle.ygg_sym_laws.specs.Means.{terms_of}
use Rattle.ygg_oblige_laws.specs.LayerTerms.{FormulaTyped, LayerTyped}
use Rattle.ygg_oblige_laws.specs.TermStates.{Trio, truths_made, trio_scope, related_made, settled_made}
use Rattle.ygg_oblige_laws.proofs.Truth.{adds, truth_wider, one_gives, and_gives}
use Rattle.ygg_oblige_laws.specs.States.{RelatedIs, SettledIs}
use Rattle.ygg_oblige_laws.specs.Worth.{IsTruth, TrioShaped, trio_worth}

-- names and others after them
pub both_fit : (ds es : List Declared) (a b : Env) → env_fits ds a ≡ true → env_fits es b ≡ true → env_fits (ds ++ es) (a ++ b) ≡ true
both_fit [] es [] b p q = q
both_fit [] es (x ∷ a) b p q = absurd (cc)
both_fit (d ∷ ds) es [] b p q = absurd (cc)
both_fit (d ∷ ds) es (x ∷ a) b p q =
    let here = bytes_eq d.name.text x.0 && fits (shape_in d.shape) x.1 in
    both_of here (env_fits (ds ++ es) (a ++ b)) (first_of here (env_fits ds a) p) (both_fit ds es a b (second_of here (env_fits ds a) p) q)

-- a digit's value is a word of one digit
digit_shape : (x : Value) → HasShape (Some (shape.Word 1)) x → shape_of x ≡ shape.Word 1
digit_shape x h = let e = h.is in cc

one_wide : (x : Value) → shape_of x ≡ shape.Word 1 → (word_in x).width ≡ 1
one_wide (value.Word n) e = cc
one_wide (value.Row r) e = absurd (cc)
one_wide (value.Table t) e = absurd (cc)

module _ (kinds : List RuleKind) (P : List Node → Type 0) (stays : Stays kinds P) (terms : SymFunctions) (keep : FunctionsKeep P terms) where
  pub truths_keep : (es : List Expr) (scope : SymScope) → Keeps P (truths_made kinds terms es scope)
  truths_keep [] scope nodes p = stays (Const (word 1 1)) nodes tt p
  truths_keep (e ∷ es) scope nodes p =
      let x = sym_value kinds terms e scope nodes in
      let rest = truths_made kinds terms es scope x.nodes in
      stays (Bin And (id_in x.value) rest.value) rest.nodes tt
      (truths_keep es scope x.nodes (value_keeps kinds P stays terms keep e scope nodes p))

-- what the functions of a file's definitions keep
pub defs_keep : (kinds : List RuleKind) (defs : List Def) (P : List Node → Type 0) → Stays kinds P → FunctionsKeep P (terms_of kinds defs)
defs_keep kinds defs P stays = functions_keep kinds P stays (reverse defs)

module _ (inputs : Inputs) (v : Values) (kinds : List RuleKind) (defs : List Def) (G : Below) (L : ClosedLayer) (typed : LayerTyped defs G L) where
  abbrev pub terms : SymFunctions
  terms = terms_of kinds defs

  abbrev pub grow : FunctionsGrow (terms_of kinds defs)
  grow = functions_grow kinds (reverse defs)

  pub layer_mean : FunctionsMean inputs v kinds (with_definitions defs []) L.functions (terms_of kinds defs) grow
  layer_mean =
      subst (λ f. FunctionsMean inputs v kinds (with_definitions defs []) f (terms_of kinds defs) grow) (sym typed.functions)
      (functions_mean inputs v kinds defs typed.definitions)

  truths_grow : (es : List Expr) (scope : SymScope) → Grows (truths_made kinds terms es scope)
  truths_grow es scope =
      let a = adds kinds (truths_made kinds terms es scope) (λ P s. truths_keep kinds P s terms (defs_keep kinds defs P s) es scope) in a.grows

  -- a formula is a digit that is 1 where it holds
  formula_gives : (own low : List Declared) (e : Expr) (scope : SymScope) (nodes : List Node) → FormulaTyped defs L own low e → ScopeShaped nodes scope →
      env_fits own (worths v scope.own) ≡ true → env_fits low (worths v scope.low) ≡ true →
      Gives inputs v (sym_value kinds terms e scope) nodes (λ new x. IsTruth v (is_one (value_with L.functions e (scope_worth v scope))) new (id_in x))
  formula_gives own low e scope nodes t s f g h =
      let x = sym_value kinds terms e scope nodes in
      let want = value_with L.functions e (scope_worth v scope) in
      let agrees = t.agrees (worths v scope.own) (worths v scope.low) f g in
      let m = value_means inputs v kinds (with_definitions defs []) L.functions terms grow layer_mean e in
      let w = m.gives t.scope scope nodes t.defs_is agrees t.without_errors s h in
      let o = sound L.functions e in
      let has = subst (λ k. HasShape k want) t.digit (o.gives t.scope (scope_worth v scope) agrees t.without_errors) in
      let shape = digit_shape want has in
      let i = is_term inputs v want x.nodes x.value h w (ap is_word shape) in
      record {
        wide = subst (HasWidth x.nodes (id_in x.value)) (one_wide want shape) i.wide;
        is = ap (λ (n : Number). n.bits == 1) i.worth;
      }

  pub truths_give : (own low : List Declared) (es : List Expr) (scope : SymScope) (nodes : List Node) → All (FormulaTyped defs L own low) es →
      ScopeShaped nodes scope → env_fits own (worths v scope.own) ≡ true → env_fits low (worths v scope.low) ≡ true →
      Gives inputs v (truths_made kinds terms es scope) nodes
      (IsTruth v (all_true (map (λ e. is_one (value_with L.functions e (scope_worth v scope))) es)))
  truths_give own low [] scope nodes t s f g h = one_gives inputs v kinds nodes h
  truths_give own low (e ∷ es) scope nodes t s f g h =
      let x = sym_value kinds terms e scope nodes in
      let rest = truths_made kinds terms es scope x.nodes in
      let o = made kinds (Bin And (id_in x.value) rest.value) rest.nodes in
      let gx = value_grows kinds terms grow e scope nodes in
      let gr = truths_grow es scope x.nodes in
      let hr = fits_fewer inputs v rest.nodes o.nodes (made_grows kinds (Bin And (id_in x.value) rest.value) rest.nodes) h in
      let hx = fits_fewer inputs v x.nodes rest.nodes gr hr in
      let here = is_one (value_with L.functions e (scope_worth v scope)) in
      let others = all_true (map (λ e. is_one (value_with L.functions e (scope_worth v scope))) es) in
      let a = formula_gives own low e scope nodes (All-head (FormulaTyped defs L own low) e es t) s f g hx in
      let b = truths_give own low es scope x.nodes (All-tail (FormulaTyped defs L own low) e es t) (scope_wider nodes x.nodes scope gx s) f g hr in
      and_gives inputs v kinds (id_in x.value) rest.value here others rest.nodes (truth_wider v x.nodes rest.nodes here (id_in x.value) gr a) b h

  pub related_gives : (x : Trio) (nodes : List Node) → TrioShaped L nodes x →
      Gives inputs v (related_made kinds terms L x) nodes (RelatedIs v L (trio_worth v L x))
  related_gives x nodes s h =
      let o = related_made kinds terms L x nodes in
      let sv = sym_bind L.layer.state x.vars in
      let sm = sym_bind L.layer.memory x.memory in
      let sl = sym_bind L.low x.low in
      let vars = low_worth v L.layer.state x.vars in
      let memory = low_worth v L.layer.memory x.memory in
      let low = low_worth v L.low x.low in
      let hn = fits_fewer inputs v nodes o.nodes (truths_grow (relations L) (trio_scope kinds terms L x) nodes) h in
      let own_is : worths v (sv ++ sm) ≡ vars ++ memory =
      map-append (λ (b : Name × SymValue). (b.0, worth v b.1)) sv sm ∙ ap (λ e. e ++ worths v sm) (bound_worth inputs v kinds L.layer.state x.vars)
      ∙ ap (λ e. vars ++ e) (bound_worth inputs v kinds L.layer.memory x.memory) in
      let low_is : worths v sl ≡ low = bound_worth inputs v kinds L.low x.low in
      let fv = low_fits inputs v nodes L.layer.state x.vars hn s.vars in
      let fm = low_fits inputs v nodes L.layer.memory x.memory hn s.memory in
      let fl = low_fits inputs v nodes L.low x.low hn s.low in
      let fo = both_fit L.layer.state L.layer.memory vars memory fv fm in
      let scoped : ScopeShaped nodes (trio_scope kinds terms L x) = record {
        own = All-append (NameShaped nodes) sv sm (low_shaped inputs v kinds L.layer.state x.vars nodes s.vars)
            (low_shaped inputs v kinds L.layer.memory x.memory nodes s.memory);
        low = low_shaped inputs v kinds L.low x.low nodes s.low;
      } in
      let t = truths_give (L.layer.state ++ L.layer.memory) L.low (relations L) (trio_scope kinds terms L x) nodes typed.relations_typed scoped
      (subst (λ e. env_fits (L.layer.state ++ L.layer.memory) e ≡ true) (sym own_is) fo)
      (subst (λ e. env_fits L.low e ≡ true) (sym low_is) fl) h in
      let same : all_true (map (λ e. is_one (value_with L.functions e (scope_worth v (trio_scope kinds terms L x)))) (relations L)) ≡
      all_true (relates L vars memory low) =
      ap (λ own. all_true (map (λ e. is_one (value_with L.functions e (let s : meaning.Scope = record { own = own; low = worths v sl } in s))) (relations L)))
      own_is
      ∙ ap (λ low. all_true (map (λ e. is_one (value_with L.functions e (let s : meaning.Scope = record { own = vars ++ memory; low = low } in s)))
      (relations L))) low_is in
      let all_fit : shaped L vars memory low ≡ true =
      both_of (env_fits L.layer.state vars && env_fits L.layer.memory memory) (env_fits L.low low)
      (both_of (env_fits L.layer.state vars) (env_fits L.layer.memory memory) fv fm) fl in
      record {
        wide = t.wide;
        relates = t.is ∙ same;
        related = t.is ∙ same ∙ ap (λ c. c && all_true (relates L vars memory low)) (sym all_fit);
      }

  pub settled_gives : (low : List SymValue) (nodes : List Node) → LowShaped nodes L.low low →
      Gives inputs v (settled_made kinds terms L low) nodes (SettledIs v L (low_worth v L.low low))
  settled_gives low nodes s h =
      let from : SymScope = record { own = []; low = sym_bind L.low low } in
      let o = settled_made kinds terms L low nodes in
      let want = low_worth v L.low low in
      let hn = fits_fewer inputs v nodes o.nodes (truths_grow L.layer.settled from nodes) h in
      let low_is = bound_worth inputs v kinds L.low low in
      let fl = low_fits inputs v nodes L.low low hn s in
      let scoped : ScopeShaped nodes from = record {
        own = All-nil (NameShaped nodes);
        low = low_shaped inputs v kinds L.low low nodes s;
      } in
      let t = truths_give [] L.low L.layer.settled from nodes typed.settled_typed scoped refl (subst (λ e. env_fits L.low e ≡ true) (sym low_is) fl) h in
      let same : all_true (map (λ e. is_one (value_with L.functions e (scope_worth v from))) L.layer.settled) ≡ all_true (settles L want) =
      ap (λ low. all_true (map (λ e. is_one (value_with L.functions e (let s : meaning.Scope = record { own = []; low = low } in s)))
      L.layer.settled)) low_is in
      record { wide = t.wide; settles = t.is ∙ same; settled = t.is ∙ same ∙ ap (λ c. c && all_true (settles L want)) (sym fl) }
