-- The specification of a layer: its blocks, run with bits by place, do what it does by place.
use Rattle.std.proofs.Common.{
  ◌≡◌,
  ℕ,
  suc,
  ◌-◌,
  ◌<◌,
  Bool,
  true,
  false,
  if◌then◌else◌,
  List,
  [],
  ◌∷◌,
  ◌++◌,
  Option,
  Some,
  None,
  is_some,
  refl,
  sym,
  ap,
  ◌∙◌,
  subst,
  append_assoc,
  length,
}
use Rattle.std.specs.Prelude.{slice_get, option_and_then}
use Rattle.std.proofs.lemmas.Option.{slice_get_within}
use Rattle.ygg_value.specs.declared.row.Value.{Value}
use Rattle.ygg_syntax.specs.declared.grammar.BlockKind.TheVariants as kind
use Rattle.ygg_syntax.specs.declared.grammar.BlockKind.TheVariants.{Impl}
use Rattle.ygg_syntax.specs.declared.tree.Block.{Block}
use Rattle.ygg_syntax.specs.declared.tree.Declared.{Declared}
use Rattle.ygg_syntax.specs.declared.tree.File.{File}
use Rattle.ygg_syntax.specs.declared.tree.Layer.{Layer}
use Rattle.ygg_syntax.specs.declared.tree.Operation.{Operation}
use Rattle.ygg_eval.specs.ygg_type_rules.TypeErrors.{none}
use Rattle.ygg_eval.specs.ygg_type_rules.Files.{type_errors_of}
use Rattle.ygg_eval.specs.ygg_type_rules.Layers.{operation_signature}
use Rattle.ygg_eval.specs.ygg_type_rules.declared.scope.Signature.{Signature}
use Rattle.ygg_eval.specs.ygg_meaning.Environments.{Name, Env, bind}
use Rattle.ygg_eval.specs.ygg_meaning.Layer.{ClosedLayer, operation_in, operation_of}
use Rattle.ygg_eval.specs.ygg_meaning.Machine.{Picks, based}
use Rattle.ygg_eval.specs.ygg_meaning.Progress.{Answer, Call}
use Rattle.ygg_eval.specs.ygg_meaning.Refines.{Below, OnDisk, OnSpec}
use Rattle.ygg_eval.specs.ygg_meaning.Shapes.{values_fit}
use Rattle.ygg_eval.specs.ygg_meaning.Stack.{tables_of}
use Rattle.ygg_eval.specs.ygg_meaning_laws.Questions.{question_fits}
use Rattle.ygg_eval.specs.ygg_meaning_laws.Places.{Result}
use Rattle.ygg_eval_places.specs.ygg_sym_runs_proofs_Chosen.{room, block_end}
use Rattle.ygg_eval_places.specs.ygg_sym_runs_proofs_SpecFalls.{bits_after, crash_end, then_end, fall_end, drop_end}
use Rattle.ygg_eval_places.specs.ygg_sym_runs_proofs_SpecMeans.{spec_ended}
use Rattle.ygg_eval_places.specs.ygg_sym_laws.Fronts.{handle_on, takes_on, cut_on, cut_takes_on, lose_on, lose_takes_on}
use Rattle.ygg_eval_places.specs.ygg_sym_laws.Taking.{block_takes, operation_takes, crash_takes, then_takes, fall_takes, drop_takes}
use Rattle.ygg_eval.specs.Bodies.{IsBlock, IsRunnable, arguments_at, arguments_in, block_in, kind_of, variables_in}
use Rattle.ygg_eval.specs.Layers.{below_at, closed_at, signatures_at, variables_at}
use Rattle.ygg_eval.specs.declared.body.Body.{Body}
use Rattle.ygg_eval.specs.declared.body.Part.{Part}
use Rattle.ygg_eval.specs.declared.body.Part.TheVariants as part
use Rattle.ygg_eval.specs.Ready.{IsPlace}
use Rattle.ygg_eval.proofs.OnSpec.{AsksSpec, asks_spec, fits_at, layer_variables}
use Rattle.ygg_eval_places.specs.Chosen.{Chose}
use Rattle.ygg_eval_places.specs.Steps.{Answered, CrashedOf, FellBetween, FellWithin, ThenCrashed}
use Rattle.ygg_eval_places.proofs.Calls.{callable, number_is}

-- what holds of a layer's specification and its variables holds of the machine of its number
pub at_spec : (file : File) (place : ℕ) (l : Layer) → slice_get file.layers place ≡ Some l → (P : Below → List Declared → Type 0) →
    P (OnSpec (closed_at file place l)) l.state → P (below_at file (suc place)) (variables_at file (suc place))
at_spec file place l here P p =
    subst (λ (ds : List Declared). P (below_at file (suc place)) ds) (sym (layer_variables (tables_of file.disk) file.layers place l here))
    (subst (λ (G : Below). P G l.state)
    (sym (ap (λ (o : Option Layer). elim o as (λ o. Below) [ None ↦ OnDisk file.disk | Some l ↦ OnSpec (closed_at file place l) ]) here)) p)

-- the variables of blocks of a specification
pub spec_variables : (l : Layer) (p : Part) → kind_of p ≡ kind.Spec → variables_in l p ≡ l.state
spec_variables l part.Start e = absurd (cc)
spec_variables l part.Spec e = refl
spec_variables l part.OnCrash e = refl
spec_variables l part.Crash e = refl
spec_variables l part.Format e = absurd (cc)
spec_variables l part.Impl e = absurd (cc)
spec_variables l part.Tick e = absurd (cc)
spec_variables l part.Recover e = absurd (cc)

-- a block of a specification, of the layer's variables
pub record ChoseState (file : File) (body : Body) (l : Layer) (b : Block) (bits : ℕ → Bool) (args values : List Value) (answer : Answer)
    (values' : List Value) (picks picks' : Picks) : Type 0 where
  pub ended : record { vars = bind l.state values'; answer = answer }
      ≡ block_end (closed_at file body.layer l) bits b (bind l.state values) (bind (arguments_in l body.part body.number) args)
  pub fit : values_fit l.state values' ≡ true
  pub taken : picks' ≡ picks
      ++ block_takes (closed_at file body.layer l) bits b (bind l.state values) (bind (arguments_in l body.part body.number) args)

pub chose_state : (file : File) (body : Body) (l : Layer) (b : Block) (bits : ℕ → Bool) (args values : List Value) (answer : Answer)
    (values' : List Value) (picks picks' : Picks) → kind_of body.part ≡ kind.Spec →
    Chose (closed_at file body.layer l) body b bits args values answer values' picks picks' →
    ChoseState file body l b bits args values answer values' picks picks'
chose_state file body l b bits args values answer values' picks picks' spec_kind c =
    let m = closed_at file body.layer l in
    let given = bind (arguments_in l body.part body.number) args in
    let vars = spec_variables l body.part spec_kind in
    record {
      ended = subst (λ (ds : List Declared). record { vars = bind ds values'; answer = answer } ≡ block_end m bits b (bind ds values) given) vars c.ended;
      fit = subst (λ (ds : List Declared). values_fit ds values' ≡ true) vars c.fit;
      taken = subst (λ (ds : List Declared). picks' ≡ picks ++ block_takes m bits b (bind ds values) given) vars c.taken;
    }

-- the `crash` block
pub crashed : (file : File) (place : ℕ) (l : Layer) (bits : ℕ → Bool) (args low low' : List Value) (answer : Answer) (picks picks' : Picks) →
    Chose (closed_at file place l) (record { layer = place; part = part.Crash; number = 0 }) l.crash bits args low answer low' picks picks' →
    CrashedOf (closed_at file place l) bits low low' picks picks'
crashed file place l bits args low low' answer picks picks' c = record {
  left = ap (λ (r : Result). r.vars) c.ended;
  fit = c.fit;
  taken = c.taken;
}

pub is_crash : (file : File) (place : ℕ) (l : Layer) → slice_get file.layers place ≡ Some l →
    IsBlock file (record { layer = place; part = part.Crash; number = 0 }) l l.crash
is_crash file place l here = record { layer = here; block = refl }

-- a block that may be run is there, in a layer of the file
pub runnable_block : (file : File) (body : Body) (args values : List Value) → IsRunnable file body args values →
    (l : Layer) × (b : Block) × IsBlock file body l b
runnable_block file body args values r = (r.layer, r.block, r.is)

pub layer_within : (file : File) (body : Body) (args values : List Value) → IsRunnable file body args values → body.layer < length file.layers
layer_within file body args values r = slice_get_within file.layers body.layer r.layer r.is.layer

-- what a block of a specification leaves fits
pub spec_left : (file : File) (body : Body) (args values : List Value) → IsRunnable file body args values → kind_of body.part ≡ kind.Spec →
    (bits : ℕ → Bool) (answer : Answer) (values' : List Value) (picks picks' : Picks) →
    ((l : Layer) (b : Block) → IsBlock file body l b → Chose (closed_at file body.layer l) body b bits args values answer values' picks picks') →
    values_fit (variables_at file (suc body.layer)) values' ≡ true
spec_left file body args values r spec_kind bits answer values' picks picks' chose =
    let c = chose r.layer r.block r.is in
    fits_at file body.layer r.layer values' r.is.layer
    (subst (λ (ds : List Declared). values_fit ds values' ≡ true) (spec_variables r.layer body.part spec_kind) c.fit)

-- whether the operation has an `on crash` block
pub own_block : (file : File) (place number : ℕ) (args : List Value) (a : AsksSpec file place number args) (own : Bool) →
    ((l : Layer) → slice_get file.layers place ≡ Some l → own ≡ is_some (block_in l part.OnCrash number)) → own ≡ is_some a.operation.on_crash
own_block file place number args a own h =
    h a.layer a.here ∙ ap (λ (o : Option Operation). is_some (option_and_then (λ (o : Operation). o.on_crash) o)) a.is

-- power fails between calls
pub lost : (file : File) (place : ℕ) (l : Layer) → slice_get file.layers place ≡ Some l → (bits : ℕ → Bool) (low low' : List Value) (picks picks' : Picks) →
    CrashedOf (closed_at file place l) bits low low' picks picks' → FellBetween file (suc place) bits low low' picks picks'
lost file place l here bits low low' picks picks' c = record {
  base = at_spec file place l here (λ G ds. bind ds low' ≡ lose_on G bits (based (bind ds low))) c.left;
  fit = fits_at file place l low' here c.fit;
  taken = at_spec file place l here (λ G ds. picks' ≡ picks ++ lose_takes_on G bits (based (bind ds low))) c.taken;
}

-- a block and then the `crash` block
pub then_crashed : (file : File) (body : Body) (l : Layer) (b : Block) (bits after : ℕ → Bool) (args low mid low' : List Value) (answer : Answer)
    (picks between picks' : Picks) → kind_of body.part ≡ kind.Spec → after ≡ bits_after (room b) bits →
    Chose (closed_at file body.layer l) body b bits args low answer mid picks between →
    CrashedOf (closed_at file body.layer l) after mid low' between picks' → ThenCrashed file l body b bits args low low' picks picks'
then_crashed file body l b bits after args low mid low' answer picks between picks' spec_kind same c d =
    let m = closed_at file body.layer l in
    let given = bind (arguments_in l body.part body.number) args in
    let s = chose_state file body l b bits args low answer mid picks between spec_kind c in
    let vars : bind l.state mid ≡ (block_end m bits b (bind l.state low) given).vars = ap (λ (r : Result). r.vars) s.ended in
    let first = block_takes m bits b (bind l.state low) given in
    record {
      left = d.left ∙ ap (crash_end m after) vars ∙ ap (λ (f : ℕ → Bool). crash_end m f (block_end m bits b (bind l.state low) given).vars) same;
      fit = d.fit;
      taken = d.taken ∙ ap (λ ps. ps ++ crash_takes m after (bind l.state mid)) s.taken
          ∙ append_assoc picks first (crash_takes m after (bind l.state mid))
          ∙ ap (λ (e : Env). picks ++ (first ++ crash_takes m after e)) vars
          ∙ ap (λ (f : ℕ → Bool). picks ++ (first ++ crash_takes m f (block_end m bits b (bind l.state low) given).vars)) same;
    }

operation_is : (a b : Name × Signature) → Some a ≡ Some b → a ≡ b
operation_is a b h = cc

-- the arguments of an operation
arguments_are : (l : Layer) (number : ℕ) (o : Operation) → slice_get l.operations number ≡ Some o → arguments_at l number ≡ o.arguments
arguments_are l number o h = ap (λ (x : Option Operation). elim x as (λ x. List Declared) [ None ↦ [] | Some o ↦ o.arguments ]) h

module _ (file : File) (typed : none (type_errors_of file) ≡ true) (place : ℕ) (name : Name) (args : List Value)
    (asks : question_fits Impl (signatures_at file (suc place)) (Call name args) ≡ true) (number : ℕ)
    (there : IsPlace (signatures_at file (suc place)) name number) where
  -- the operation that is called is the one of its name
  record Operated : Type 0 where
    pub a : AsksSpec file place number args
    pub found : operation_of (closed_at file place a.layer) name ≡ Some a.operation

  operated : Operated
  operated =
      let a = asks_spec file typed place number args (callable (signatures_at file (suc place)) name args asks number there) in
      let same : a.operation.name.text ≡ name =
      ap (λ (x : Name × Signature). x.0) (operation_is (a.operation.name.text, operation_signature a.operation) (name, there.operation)
      (sym a.signature ∙ there.is)) in
      record { a = a; found = ap (operation_in a.layer.operations) (sym same) ∙ a.found }

-- a call of the machine with a number, from values that fit
pub record CalledAt (file : File) (number : ℕ) (name : Name) (args low : List Value) (op : ℕ) : Type 0 where
  pub is : suc (number - 1) ≡ number
  pub a : AsksSpec file (number - 1) op args
  pub found : operation_of (closed_at file (number - 1) a.layer) name ≡ Some a.operation
  pub fit : values_fit (variables_at file (suc (number - 1))) low ≡ true

pub called_at : (file : File) → none (type_errors_of file) ≡ true → (number : ℕ) → 0 < number → (name : Name) (args low : List Value) →
    question_fits Impl (signatures_at file number) (Call name args) ≡ true → values_fit (variables_at file number) low ≡ true →
    (op : ℕ) → IsPlace (signatures_at file number) name op → CalledAt file number name args low op
called_at file typed number more name args low asks fit op there =
    let is = number_is number more in
    let o = operated file typed (number - 1) name args
    (subst (λ n. question_fits Impl (signatures_at file n) (Call name args) ≡ true) (sym is) asks) op
    (subst (λ n. IsPlace (signatures_at file n) name op) (sym is) there) in
    record { is = is; a = o.a; found = o.found; fit = subst (λ n. values_fit (variables_at file n) low ≡ true) (sym is) fit }

module _ (file : File) (place : ℕ) (name : Name) (args : List Value) (number : ℕ) (a : AsksSpec file place number args)
    (found : operation_of (closed_at file place a.layer) name ≡ Some a.operation) (bits : ℕ → Bool) (low low' : List Value) (picks picks' : Picks) where
  abbrev m : ClosedLayer
  m = closed_at file place a.layer

  abbrev vars : Env
  vars = bind a.layer.state low

  abbrev given : Env
  given = bind a.operation.arguments args

  same_arguments : arguments_at a.layer number ≡ a.operation.arguments
  same_arguments = arguments_are a.layer number a.operation a.is

  -- a whole call at a place
  pub answered : (at : ℕ) (answer : Answer) →
      Chose (closed_at file place a.layer) (record { layer = place; part = part.Spec; number = number }) a.operation.spec (bits_after at bits) args low
      answer low' picks picks' → Answered file (suc place) bits at (Call name args) low answer low' picks picks'
  answered at answer c =
      let ended = c.ended ∙ ap (λ (ds : List Declared). block_end m (bits_after at bits) a.operation.spec vars (bind ds args)) same_arguments in
      record {
        answer = at_spec file place a.layer a.here (λ G ds. answer ≡ (handle_on G bits at (Call name args) (based (bind ds low))).answer)
            (ap (λ (r : Result). r.answer) ended
            ∙ ap (λ (o : Option Operation). (spec_ended m (bits_after at bits) o args (based vars)).answer) (sym found));
        to = at_spec file place a.layer a.here (λ G ds. based (bind ds low') ≡ (handle_on G bits at (Call name args) (based (bind ds low))).to)
            (ap (λ (r : Result). based r.vars) ended
            ∙ ap (λ (o : Option Operation). (spec_ended m (bits_after at bits) o args (based vars)).to) (sym found));
        fit = fits_at file place a.layer low' a.here c.fit;
        taken = at_spec file place a.layer a.here (λ G ds. picks' ≡ picks ++ takes_on G bits at (Call name args) (based (bind ds low)))
            (c.taken ∙ ap (λ (ds : List Declared). picks ++ block_takes m (bits_after at bits) a.operation.spec vars (bind ds args)) same_arguments
            ∙ ap (λ (o : Option Operation). picks ++ operation_takes m (bits_after at bits) o args (based vars)) (sym found));
      }

  -- power fails within a call
  pub fell : (crash : Option Block) → a.operation.on_crash ≡ crash → bind a.layer.state low' ≡ fall_end m bits a.operation crash vars args →
      values_fit a.layer.state low' ≡ true → picks' ≡ picks ++ fall_takes m bits a.operation crash vars args →
      FellWithin file (suc place) bits (Call name args) low low' picks picks'
  fell crash h left fit taken = record {
    base = at_spec file place a.layer a.here (λ G ds. bind ds low' ≡ cut_on G bits (Call name args) (based (bind ds low)))
        (left ∙ ap (λ (c : Option Block). fall_end m bits a.operation c vars args) (sym h)
        ∙ ap (λ (o : Option Operation). drop_end m bits o (based vars) args) (sym found));
    fit = fits_at file place a.layer low' a.here fit;
    taken = at_spec file place a.layer a.here (λ G ds. picks' ≡ picks ++ cut_takes_on G bits (Call name args) (based (bind ds low)))
        (taken ∙ ap (λ (c : Option Block). picks ++ fall_takes m bits a.operation c vars args) (sym h)
        ∙ ap (λ (o : Option Operation). picks ++ drop_takes m bits o (based vars) args) (sym found));
  }

  -- an `on crash` block ran, and then the `crash` block
  pub fell_by_block : true ≡ is_some a.operation.on_crash →
      ((b : Block) → a.operation.on_crash ≡ Some b →
      ThenCrashed file a.layer (record { layer = place; part = part.OnCrash; number = number }) b bits args low low' picks picks') →
      FellWithin file (suc place) bits (Call name args) low low' picks picks'
  fell_by_block own ran = by_block a.operation.on_crash refl own
    where
      by_block : (o : Option Block) → a.operation.on_crash ≡ o → true ≡ is_some o → FellWithin file (suc place) bits (Call name args) low low' picks picks'
      by_block None h t = absurd (cc)
      by_block (Some b) h t =
          let c = ran b h in
          fell (Some b) h (c.left ∙ ap (λ (ds : List Declared). then_end m bits b vars (bind ds args)) same_arguments) c.fit
          (c.taken ∙ ap (λ (ds : List Declared). picks ++ then_takes m bits b vars (bind ds args)) same_arguments)

  no_block : (o : Option Block) → false ≡ is_some o → o ≡ None
  no_block None h = refl
  no_block (Some b) h = absurd (cc)

  -- without one a pick says that all of the operation has happened
  pub fell_whole : false ≡ is_some a.operation.on_crash → bits 0 ≡ true → (rest : ℕ → Bool) → rest ≡ bits_after 1 bits → (noted : Picks) →
      noted ≡ picks ++ true ∷ [] →
      ThenCrashed file a.layer (record { layer = place; part = part.Spec; number = number }) a.operation.spec rest args low low' noted picks' →
      FellWithin file (suc place) bits (Call name args) low low' picks picks'
  fell_whole own happened rest same noted is c =
      let after = bits_after 1 bits in
      let spec = a.operation.spec in
      fell None (no_block a.operation.on_crash own)
      (c.left ∙ ap (λ (ds : List Declared). then_end m rest spec vars (bind ds args)) same_arguments
      ∙ ap (λ (f : ℕ → Bool). then_end m f spec vars given) same
      ∙ ap (λ (b : Bool). if b then then_end m after spec vars given else crash_end m after vars) (sym happened))
      c.fit
      (c.taken ∙ ap (λ (ds : List Declared). noted ++ then_takes m rest spec vars (bind ds args)) same_arguments
      ∙ ap (λ (f : ℕ → Bool). noted ++ then_takes m f spec vars given) same
      ∙ ap (λ ps. ps ++ then_takes m after spec vars given) is
      ∙ append_assoc picks (true ∷ []) (then_takes m after spec vars given)
      ∙ ap (λ (b : Bool). picks ++ (b ∷ (if b then then_takes m after spec vars given else crash_takes m after vars))) (sym happened))

  -- or that nothing has
  pub fell_none : false ≡ is_some a.operation.on_crash → bits 0 ≡ false → (rest : ℕ → Bool) → rest ≡ bits_after 1 bits → (noted : Picks) →
      noted ≡ picks ++ false ∷ [] → CrashedOf (closed_at file place a.layer) rest low low' noted picks' →
      FellWithin file (suc place) bits (Call name args) low low' picks picks'
  fell_none own happened rest same noted is c =
      let after = bits_after 1 bits in
      let spec = a.operation.spec in
      fell None (no_block a.operation.on_crash own)
      (c.left ∙ ap (λ (f : ℕ → Bool). crash_end m f vars) same
      ∙ ap (λ (b : Bool). if b then then_end m after spec vars given else crash_end m after vars) (sym happened))
      c.fit
      (c.taken ∙ ap (λ (f : ℕ → Bool). noted ++ crash_takes m f vars) same
      ∙ ap (λ ps. ps ++ crash_takes m after vars) is
      ∙ append_assoc picks (false ∷ []) (crash_takes m after vars)
      ∙ ap (λ (b : Bool). picks ++ (b ∷ (if b then then_takes m after spec vars given else crash_takes m after vars))) (sym happened))
