-- What a script asks is what a tower may be asked.
use Rattle.std.proofs.Common.{◌≡◌, ℕ, suc, true, ◌-◌, ◌<◌, List, [], ◌∷◌, length, slice_get, Option, Some, None, option_map, refl, sym, ap, ◌∙◌, subst, arith}
use Rattle.std.proofs.lemmas.Bool.{and_from}
use Rattle.std.proofs.lemmas.Option.{slice_get-map, slice_get_within}
use Rattle.ygg_value.specs.declared.row.Value.{Value}
use Rattle.ygg_value.specs.declared.shape.Shape.{Shape}
use Rattle.ygg_syntax.specs.declared.tree.Declared.{Declared}
use Rattle.ygg_syntax.specs.declared.tree.Layer.{Layer}
use Rattle.ygg_syntax.specs.declared.tree.Operation.{Operation}
use Rattle.ygg_syntax.specs.declared.tree.Tick.{Tick}
use Rattle.ygg_syntax.specs.declared.tree.File.{File}
use Rattle.ygg_machine.specs.ygg_type_rules.Names.{Named}
use Rattle.ygg_machine.specs.ygg_type_rules.declared.scope.Signature.{Signature}
use Rattle.ygg_machine.specs.ygg_type_rules.Shapes.{shape_of}
use Rattle.ygg_machine.specs.ygg_type_rules.Definitions.{parameter_shapes}
use Rattle.ygg_machine.specs.ygg_type_rules.Layers.{operation_signature}
use Rattle.ygg_machine.specs.ygg_type.Typed.{operations_at}
use Rattle.ygg_machine.specs.ygg_meaning.Environments.{Name}
use Rattle.ygg_machine.specs.ygg_meaning_laws.Fitting.{fits_wanted, all_fit}
use Rattle.ygg_machine.specs.ygg_meaning_laws_proofs_Fits.{value_fits}
use Rattle.ygg_machine.specs.ygg_eval.Layers.{signatures_at, signatures_of}
use Rattle.ygg_machine.specs.ygg_eval.Lower.{IsCallable}
use Rattle.ygg_run_play.specs.ygg_sched.Fitting.{AreOfTypes}
use Rattle.ygg_run_play.specs.ygg_script.Places.{top_operations}
use Rattle.ygg_run_play.specs.ygg_script.Fitting.{IsCallOf, IsTickOf}
use Rattle.ygg_machine.specs.Commands.{IsTickAt, HasTick}
use Rattle.ygg_run_play.specs.Named.{operation_name, tick_name}

-- values of their types fit where these are wanted
types_fit : (ds : List Declared) (vs : List Value) → AreOfTypes ds vs → all_fit (parameter_shapes ds) vs ≡ true
types_fit [] [] h = refl
types_fit [] (v ∷ vs) h = absurd h
types_fit (d ∷ ds) [] h = absurd h
types_fit (d ∷ ds) (v ∷ vs) (is, rest) =
    and_from (fits_wanted (shape_of d.shape) v) (all_fit (parameter_shapes ds) vs)
    (ap (λ (o : Option Shape). fits_wanted o v) is.shape ∙ value_fits v is.value) (types_fit ds vs rest)

module _ (f : File) (n : ℕ) (height : suc n ≡ length f.layers) (op : ℕ) (args : List Value) (c : IsCallOf f op args) where
  abbrev signed : Operation → Name × Signature
  signed o = (o.name.text, operation_signature o)

  signatures_there : signatures_at f (suc n) ≡ signatures_of (operations_at f.layers n)
  signatures_there = at (slice_get f.layers n)
    where
      at : (o : Option Layer) →
          elim o as (λ o. Named Signature) [ None ↦ [] | Some l ↦ signatures_of l.operations ] ≡
          signatures_of (elim o as (λ o. List Operation) [ None ↦ [] | Some l ↦ l.operations ])
      at None = refl
      at (Some l) = refl

  top_is : operations_at f.layers n ≡ top_operations f
  top_is = ap (λ (k : ℕ). operations_at f.layers k) (below n (length f.layers) height)
    where
      below : (n k : ℕ) → suc n ≡ k → n ≡ k - 1
      below n k h = omega arith

  -- the operation's signature stands at its place
  pub signature_there : slice_get (signatures_at f (suc n)) op ≡ Some (operation_name f op, operation_signature c.operation)
  signature_there =
      ap (λ (ss : Named Signature). slice_get ss op) (signatures_there ∙ ap (λ (os : List Operation). signatures_of os) top_is)
      ∙ slice_get-map signed (top_operations f) op ∙ ap (option_map signed) c.there
      ∙ ap (λ (name : Name). Some (name, operation_signature c.operation)) (sym named)
    where
      named : operation_name f op ≡ c.operation.name.text
      named = ap (λ (o : Option Operation). elim o as (λ o. Name) [ None ↦ [] | Some o ↦ o.name.text ]) c.there

  -- it may be called
  pub callable : IsCallable (signatures_at f (suc n)) op args
  callable = record {
    name = operation_name f op;
    operation = operation_signature c.operation;
    is = signature_there;
    fit = types_fit c.operation.arguments args c.fits;
  }

module _ (f : File) (layer number : ℕ) (t : IsTickOf f layer number) where
  -- the background step is there
  pub tick_there : HasTick f layer number
  tick_there = (t.own, t.layer_there, slice_get_within t.own.ticks number t.tick t.tick_there)

  -- and has its name
  pub tick_named : IsTickAt f layer number (tick_name f layer number)
  tick_named = record {
    layer = t.own;
    there = t.layer_there;
    tick = t.tick;
    is = t.tick_there;
    named =
        ap (λ (o : Option Layer). record {
          layer = elim o as (λ o. Name) [ None ↦ [] | Some l ↦ l.name.text ];
          name =
              elim (slice_get (elim o as (λ o. List Tick) [ None ↦ [] | Some l ↦ l.ticks ]) number) as (λ o. Name) [ None ↦ [] | Some t ↦ t.name.text ];
        }) t.layer_there
        ∙ ap (λ (o : Option Tick). record {
          layer = t.own.name.text;
          name = elim o as (λ o. Name) [ None ↦ [] | Some t ↦ t.name.text ];
        }) t.tick_there;
  }

  -- its layer is one of those that are there
  pub layer_there : (n : ℕ) → n ≡ length f.layers → layer < n
  layer_there n h = subst (λ (k : ℕ). layer < k) (sym h) (slice_get_within f.layers layer t.own t.layer_there)
