-- What lets an assignment be run over terms.
use Rattle.std.proofs.Common.{◌≡◌, ℕ, suc, Bool, true, false, ◌&&◌, if◌then◌else◌, List, [], ◌∷◌, map, length, All, Some, refl, sym, ap, ◌∙◌, subst}
use Rattle.std.proofs.lemmas.List.Elements.{All-head, All-tail, All-cons, All-nil}
use Rattle.std.specs.Str.{bytes_eq}
use Rattle.ygg_value.specs.Shapes.{shape_of}
use Rattle.ygg_value.specs.declared.row.Value.{Value}
use Rattle.ygg_syntax.specs.declared.tree.Def.{Def}
use Rattle.ygg_syntax.specs.declared.tree.Index.{Index}
use Rattle.ygg_syntax.specs.declared.tree.Name as tree_name
use Rattle.ygg_syntax.specs.declared.tree.Source.{Source}
use Rattle.ygg_meaning_laws.specs.ygg_type_rules.Names.{Named, look_up}
use Rattle.ygg_meaning_laws.specs.ygg_type_rules.declared.scope.Signature.{Signature}
use Rattle.ygg_meaning_laws.specs.ygg_type_rules.TypeErrors.{none}
use Rattle.ygg_meaning_laws.specs.ygg_type_rules.Scopes.{Scope}
use Rattle.ygg_meaning_laws.specs.ygg_type_rules.Expressions.{wanted}
use Rattle.ygg_meaning_laws.specs.ygg_type_rules.Statements.{source_typing, place_rule}
use Rattle.ygg_meaning_laws.proofs.Tests.{left as first_of, right as second_of}
use Rattle.ygg_meaning_laws.specs.Blocks.{eval_with}
use Rattle.ygg_meaning_laws.specs.ygg_meaning.Environments.{Name}
use Rattle.ygg_meaning_laws.specs.ygg_meaning.Meaning.{Functions}
use Rattle.ygg_meaning_laws.specs.ygg_meaning.Progress.{values_of}
use Rattle.ygg_sym_runs.specs.ygg_rules.declared.rule.RuleKind.{RuleKind}
use Rattle.ygg_sym_runs.specs.ygg_bank_proofs_Meaning.{fits_fewer}
use Rattle.ygg_sym_runs.specs.ygg_bank_proofs_Widths.{stands, extends_both}
use Rattle.ygg_sym_runs.specs.ygg_bank.Nodes.{IsBank, Stands}
use Rattle.ygg_sym_runs.specs.ygg_bank.Values.{Inputs, Values}
use Rattle.ygg_sym_runs.specs.ygg_bank.declared.node.Id.{Id}
use Rattle.ygg_sym_runs.specs.ygg_bank.declared.node.Node.{Node}
use Rattle.ygg_sym_runs.specs.ygg_shape_cells.Terms.{IsShaped, worth}
use Rattle.ygg_sym_runs.specs.ygg_shape_cells.declared.terms.SymValue.{SymValue}
use Rattle.ygg_meaning_laws.specs.Direct.{source_got}
use Rattle.ygg_sym_runs.specs.Names.{SymEnv, sym_look_up}
use Rattle.ygg_sym_runs.specs.Exprs.{SymFunctions, id_in}
use Rattle.ygg_sym_runs.specs.ExpressionMeaning.{EnvShaped, IsWorth, worths}
use Rattle.ygg_sym_runs.specs.Seen.{CanTerm}
use Rattle.ygg_sym_runs.proofs.Grows.{FunctionsGrow}
use Rattle.ygg_sym_runs.proofs.Shaped.{worth_shape, env_wider}
use Rattle.ygg_sym_runs.specs.Lower.{SymMeaning, IsLower}
use Rattle.ygg_sym_runs.specs.Putting.{led_to}
use Rattle.ygg_sym_runs.specs.Ready.{known_with, CanPut, CanGet, CanAssign}
use Rattle.ygg_sym_runs.specs.Runs.{SymMachine, places_of, sym_source, sym_values}
use Rattle.ygg_sym_runs.proofs.Agreement.{assigned_so, place_typed, places_wider}
use Rattle.ygg_sym_runs.proofs.Parts.{values_grow, values_give, source_grows, source_gives, places_worth}
use Rattle.ygg_sym_runs.proofs.Putting.{ArePlaces}
use Rattle.ygg_sym_runs.proofs.Walking.{ds, functions, terms, grow, mean, laws, in_scope, can_terms, N}
use Rattle.ygg_sym_runs.proofs.Worths.{NameShaped}
use Rattle.ygg_sym_runs.proofs.Zeros.{zeros, zero_values, zeros_fit}

module _ (inputs : Inputs) (v : Values) where
  -- the value of the first of a name is worth what the name is
  pub found_worth : (name : Name) (old : Value) (env : SymEnv) (nodes : List Node) → look_up name (worths v env) ≡ Some old → EnvShaped nodes env →
      IsWorth v old nodes (sym_look_up name env)
  found_worth name old [] nodes e s = absurd (cc)
  found_worth name old (x ∷ env) nodes e s =
      cases (bytes_eq x.0 name) e (λ i. found_worth name old env nodes i (All-tail (NameShaped nodes) x env s))
    where
      cases : (c : Bool) → (if c then Some (worth v x.1) else look_up name (worths v env)) ≡ Some old →
          (look_up name (worths v env) ≡ Some old → IsWorth v old nodes (sym_look_up name env)) →
          IsWorth v old nodes (if c then x.1 else sym_look_up name env)
      cases true e later = let i : worth v x.1 ≡ old = cc in record { shaped = All-head (NameShaped nodes) x env s; is = i }
      cases false e later = later e

  module _ (kinds : List RuleKind) where
    pub places_count : (ps : List Value) (nodes : List Node) (ids : List Id) → ArePlaces inputs v kinds ps nodes ids → length ps ≡ length ids
    places_count [] nodes [] h = refl
    places_count [] nodes (a ∷ ids) h = absurd h
    places_count (p ∷ ps) nodes [] h = absurd h
    places_count (p ∷ ps) nodes (a ∷ ids) h = ap suc (places_count ps nodes ids h.1)

    pub places_stand : (ps : List Value) (nodes : List Node) (ids : List Id) → ArePlaces inputs v kinds ps nodes ids → All (Stands nodes) ids
    places_stand [] nodes [] h = All-nil (Stands nodes)
    places_stand [] nodes (a ∷ ids) h = absurd h
    places_stand (p ∷ ps) nodes [] h = absurd h
    places_stand (p ∷ ps) nodes (a ∷ ids) h =
        let d = h.0 in All-cons (Stands nodes) a ids (stands nodes a d.width d.wide) (places_stand ps nodes ids h.1)

module _ {S : Type 0} (M : SymMeaning S) (law : IsLower M) (kinds : List RuleKind) (defs : List Def) where
  abbrev D : Named Signature
  D = ds M law kinds defs

  abbrev F : Functions
  F = functions M law kinds defs

  abbrev T : SymFunctions
  T = terms M law kinds defs

  abbrev G : FunctionsGrow (terms M law kinds defs)
  G = grow M law kinds defs

  abbrev K : SymMachine S
  K = N M law kinds defs

  module _ (x : tree_name.Name) (is : List Index) (from : Source) (nodes : List Node) (env : SymEnv) (s : S)
      (can : CanAssign M defs x is from nodes env s) where
    abbrev sc : Scope
    sc = can.scope

    abbrev place_fine : Bool
    place_fine = none (place_rule x is sc).type_errors

    abbrev source_fine : Bool
    source_fine = none (source_typing from sc).type_errors

    abbrev shape_fine : Bool
    shape_fine = none (wanted (source_typing from sc).part (place_rule x is sc).shape)

    ep : place_fine ≡ true
    ep = first_of place_fine (source_fine && shape_fine) can.without_errors

    es : source_fine ≡ true
    es = first_of source_fine shape_fine (second_of place_fine (source_fine && shape_fine) can.without_errors)

    ew : shape_fine ≡ true
    ew = second_of source_fine shape_fine (second_of place_fine (source_fine && shape_fine) can.without_errors)

    -- its right side may be run
    pub assign_get : CanGet M defs from nodes env s
    assign_get = record { scope = sc; names = can.names; stands = can.stands; without_errors = es; keeps = can.keeps }

    -- its indices have terms
    pub assign_places : IsBank nodes → All (CanTerm (known_with defs env) nodes) (places_of is)
    assign_places bank =
        let n = can.names in
        let st = can.stands in
        let v = zero_values nodes in
        let g = in_scope M law kinds defs sc nodes env n zeros v (zeros_fit nodes bank) in
        let t = place_typed zeros v kinds D F T G (mean M law kinds defs n.sound zeros v) M.low M.kind M.lower K (M.direct zeros v)
        (laws M law kinds defs st.serves zeros v) x is sc (worths v env) g ep in
        let ix = t.indices in
        can_terms M law kinds defs sc nodes env (places_of is) n ix.without_errors

    change_made : (i : ℕ) → let p = sym_values kinds T K (places_of is) env nodes in let o = sym_source kinds T K from i env s p.nodes in
        IsBank o.nodes → CanPut o.nodes (sym_look_up x.text env) (map id_in p.value) o.value.value
    change_made i bank =
        let n = can.names in
        let st = can.stands in
        let p = sym_values kinds T K (places_of is) env nodes in
        let o = sym_source kinds T K from i env s p.nodes in
        let v = zero_values o.nodes in
        let ho = zeros_fit o.nodes bank in
        let m = mean M law kinds defs n.sound zeros v in
        let l = laws M law kinds defs st.serves zeros v in
        let d = M.direct zeros v in
        let gp = values_grow zeros v kinds D F T G m M.low M.kind M.lower K d l (places_of is) env nodes in
        let go = source_grows zeros v kinds D F T G m M.low M.kind M.lower K d l from i env s p.nodes in
        let hp = fits_fewer zeros v p.nodes o.nodes go ho in
        let hn = fits_fewer zeros v nodes p.nodes gp hp in
        let g = in_scope M law kinds defs sc nodes env n zeros v hn in
        let eval = eval_with F in
        let typed = place_typed zeros v kinds D F T G m M.low M.kind M.lower K d l x is sc (worths v env) g ep in
        let ix = typed.indices in
        let wants = values_of eval (places_of is) (worths v env) in
        let a = values_give zeros v kinds D F T G m M.low M.kind M.lower K d l (places_of is) sc env nodes g ix.without_errors n.shaped hp in
        let b = source_gives zeros v kinds D F T G m M.low M.kind M.lower K d l from i sc env s p.nodes g es can.keeps
        (env_wider nodes p.nodes env gp n.shaped) (M.low.wider nodes p.nodes s gp st.has) ho in
        let want = source_got eval K.space d from i (worths v env) (M.low.value v s) in
        let there = places_wider zeros v kinds D F T G m M.low M.kind M.lower K d l p.nodes o.nodes wants (map id_in p.value) go
        (places_worth zeros v kinds p.value wants p.nodes hp a ix.words) in
        let so = assigned_so zeros v kinds D F T G m M.low M.kind M.lower K d l x is from sc (worths v env) want.value g b.has_shape ew typed in
        let both = extends_both nodes p.nodes o.nodes gp go in
        let old = found_worth zeros v x.text so.old env o.nodes so.found (env_wider nodes o.nodes env both n.shaped) in
        let os = old.shaped in
        let new = b.value in
        let ns = new.shaped in
        let old_shape : shape_of so.old ≡ os.shape =
        sym (ap shape_of old.is) ∙ worth_shape zeros v o.nodes os.shape (sym_look_up x.text env) ho os.stands in
        let new_shape : ns.shape ≡ led_to os.shape (length (map id_in p.value)) =
        sym (worth_shape zeros v o.nodes ns.shape o.value.value ho ns.stands) ∙ ap shape_of new.is ∙ so.led
        ∙ ap (λ k. led_to k (length wants)) old_shape
        ∙ ap (led_to os.shape) (places_count zeros v kinds wants o.nodes (map id_in p.value) there) in
        record {
          shape = os.shape;
          old_is = os.stands;
          new_is = subst (λ k. IsShaped o.nodes k o.value.value) new_shape ns.stands;
          at = places_stand zeros v kinds wants o.nodes (map id_in p.value) there;
        }

    -- the part that it names may be written anew
    pub change_can : (i : ℕ) (mid last : List Node) (ids : List Id) (y : SymValue) → mid ≡ (sym_values kinds T K (places_of is) env nodes).nodes →
        ids ≡ map id_in (sym_values kinds T K (places_of is) env nodes).value → last ≡ (sym_source kinds T K from i env s mid).nodes →
        y ≡ (sym_source kinds T K from i env s mid).value.value → IsBank last → CanPut last (sym_look_up x.text env) ids y
    change_can i mid last ids y e f g h bank =
        let p = sym_values kinds T K (places_of is) env nodes in
        let o = sym_source kinds T K from i env s p.nodes in
        let last_is : last ≡ o.nodes = g ∙ ap (λ ns. (sym_source kinds T K from i env s ns).nodes) e in
        let y_is : y ≡ o.value.value = h ∙ ap (λ ns. (sym_source kinds T K from i env s ns).value.value) e in
        subst (λ ns. CanPut ns (sym_look_up x.text env) ids y) (sym last_is)
        (subst (λ z. CanPut o.nodes (sym_look_up x.text env) z y) (sym f)
        (subst (λ z. CanPut o.nodes (sym_look_up x.text env) (map id_in p.value) z) (sym y_is) (change_made i (subst IsBank last_is bank))))
