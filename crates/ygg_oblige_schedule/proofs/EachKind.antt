-- What is read of each kind of obligation is what the inputs name.
use Rattle.std.proofs.Common.{◌≡◌, ◌∙◌, ℕ, true, List, [], Option, Some, None, refl, sym, ap, subst}
use Rattle.std.specs.Option.{option_map}
use Rattle.std.specs.Prelude.{slice_get}
use Rattle.std.proofs.lemmas.Bool.{and_parts}
use Rattle.ygg_value.specs.declared.row.Value.{Value}
use Rattle.ygg_syntax.specs.declared.tree.Block as tree
use Rattle.ygg_syntax.specs.declared.tree.Declared.{Declared}
use Rattle.ygg_syntax.specs.declared.tree.Layer.{Layer}
use Rattle.ygg_syntax.specs.declared.tree.Operation.{Operation}
use Rattle.ygg_syntax.specs.declared.tree.Tick.{Tick}
use Rattle.ygg_replay.specs.ygg_meaning.Environments.{bind}
use Rattle.ygg_replay.specs.ygg_meaning.Obligations.{Obligation, CallOf, CutOf, TickOf, CutTickOf}
use Rattle.ygg_replay.specs.ygg_meaning.Obligations as meaning
use Rattle.ygg_replay.specs.ygg_meaning.Shapes.{values_fit}
use Rattle.ygg_replay.specs.ygg_meaning.Violates.{shapes_fit}
use Rattle.ygg_oblige_schedule.specs.ygg_eval.Bodies.{IsBlock, arguments_at, arguments_in}
use Rattle.ygg_oblige_schedule.specs.ygg_eval.declared.body.Part.TheVariants as part
use Rattle.ygg_oblige_given.specs.ygg_oblige_laws.LayerTerms.{ShapesKept}
use Rattle.ygg_oblige_given.specs.ygg_oblige_laws.Numbers.{Numbers, arguments_of}
use Rattle.ygg_oblige_given.specs.Tables.{given_values}
use Rattle.ygg_oblige_schedule.specs.Schedules.{StandsIn}
use Rattle.ygg_oblige_given.specs.ygg_oblige_laws.Schedules.{stop_of, cut_from, schedule_from, whole_from}
use Rattle.ygg_replay.specs.ygg_sched.declared.schedule.Schedule.{Schedule}
use Rattle.ygg_oblige_schedule.specs.Here.{below_of, body_of, file_of, inputs_of, layer_of, numbers_of, obligation_of, IsHere}
use Rattle.ygg_oblige_schedule.specs.Runs.{stand_fits}
use Rattle.ygg_oblige_schedule.specs.Schedules.{given_here, named_here, HasBlock, IsRead, NamedShaped, OfBlock, StandsHere}
use Rattle.ygg_oblige_schedule.specs.declared.reader.FirstBlock.{FirstBlock}
use Rattle.ygg_oblige_schedule.specs.declared.reader.EnvironmentReader.{EnvironmentReader}

-- the arguments of an operation
arguments_are : (l : Layer) (number : ℕ) (o : Operation) → slice_get l.operations number ≡ Some o → arguments_at l number ≡ o.arguments
arguments_are l number o h = ap (λ (x : Option Operation). elim x as (λ x. List Declared) [ None ↦ [] | Some o ↦ o.arguments ]) h

module _ (r : EnvironmentReader) where
  abbrev l : Layer
  l = r.site.layer.now

  -- the values of the arguments that an obligation speaks of
  abbrev given : Obligation → List Value
  given o = given_values (inputs_of r) (numbers_of r).args (arguments_of o)

  abbrev from_here : Obligation → List Value → meaning.Schedule
  from_here o args = schedule_from (below_of r) (layer_of r) (inputs_of r) (numbers_of r) o (given_here r) args

  -- a whole run of a block with arguments of these names
  abbrev whole_here : tree.Block → List Declared → List Value → meaning.Schedule
  whole_here b ds args = whole_from (below_of r) (layer_of r) (inputs_of r) (numbers_of r) b (given_here r) (bind ds args) args

  -- a run of it that power cuts
  abbrev cut_here : tree.Block → List Declared → List Value → meaning.Schedule
  cut_here b ds args =
      cut_from (below_of r) (layer_of r) (inputs_of r) (numbers_of r) b (given_here r) (bind ds args) args
      (stop_of (below_of r) (layer_of r) (inputs_of r) (numbers_of r) b (given_here r).memory (bind ds args) (given_here r).low)

  abbrev implementation : FirstBlock
  implementation = record { part = part.Impl; number = r.site.number }

  abbrev background : FirstBlock
  background = record { part = part.Tick; number = r.site.number }

  pub has_implementation : (o : Operation) (args : List Value) → slice_get l.operations r.site.number ≡ Some o → values_fit o.arguments args ≡ true →
      HasBlock r implementation args
  has_implementation o args there h = record {
    kind = refl;
    body = o.implementation;
    there = ap (option_map (λ (x : Operation). x.implementation)) there;
    fit = ap (λ (ds : List Declared). values_fit ds args) (arguments_are l r.site.number o there) ∙ h;
  }

  pub has_background : (t : Tick) (args : List Value) → slice_get l.ticks r.site.number ≡ Some t → args ≡ [] → HasBlock r background args
  has_background t args there h = record {
    kind = refl;
    body = t.body;
    there = ap (option_map (λ (x : Tick). x.body)) there;
    fit = ap (values_fit []) h;
  }

  module _ (stands : StandsHere r) (o : Obligation) (e : obligation_of r ≡ o) where
    pub stands_at : StandsIn l.operations l.ticks o r.site.number
    stands_at = subst (λ (q : Obligation). StandsIn l.operations l.ticks q r.site.number) e stands.stands

    pub kept_at : ShapesKept (arguments_of o)
    kept_at = subst (λ (q : Obligation). ShapesKept (arguments_of q)) e stands.kept

    pub named_at : from_here o (given o) ≡ named_here r
    named_at =
        ap (λ (q : Obligation). from_here q (given q)) (sym e)
        ∙ ap (λ (n : Numbers). schedule_from (below_of r) (layer_of r) (inputs_of r) n (obligation_of r) (given_here r) (given (obligation_of r)))
        stands.numbers

    pub shaped_at : NamedShaped r → shapes_fit (layer_of r) o (from_here o (given o)) ≡ true
    shaped_at h = ap (shapes_fit (layer_of r) o) named_at ∙ ap (λ (q : Obligation). shapes_fit (layer_of r) q (named_here r)) (sym e) ∙ h

    -- what is read is what is named
    pub read_at : (x : Schedule) → IsRead r (from_here o (given o)) x → IsRead r (named_here r) x
    read_at x h = subst (λ (w : meaning.Schedule). IsRead r w x) named_at h

  module _ (stands : StandsHere r) (h : NamedShaped r) where
    -- the states and the arguments of an operation's obligations have the declared shapes
    pub call_fits : (o : Operation) → obligation_of r ≡ CallOf o →
        (stand_fits (layer_of r) (given_here r) ≡ true) × (values_fit o.arguments (given (CallOf o)) ≡ true)
    call_fits o e = and_parts (stand_fits (layer_of r) (given_here r)) (values_fit o.arguments (given (CallOf o))) (shaped_at stands (CallOf o) e h)

    pub cut_fits : (o : Operation) → obligation_of r ≡ CutOf o →
        (stand_fits (layer_of r) (given_here r) ≡ true) × (values_fit o.arguments (given (CutOf o)) ≡ true)
    cut_fits o e = and_parts (stand_fits (layer_of r) (given_here r)) (values_fit o.arguments (given (CutOf o))) (shaped_at stands (CutOf o) e h)

  module _ (here : IsHere r) (stands : StandsHere r) (x : Schedule) where
    pub call_read : (o : Operation) (args : List Value) → obligation_of r ≡ CallOf o → args ≡ given (CallOf o) →
        OfBlock r implementation (λ b. IsRead r (whole_here b (arguments_in l part.Impl r.site.number) args) x) → IsRead r (named_here r) x
    call_read o args e a h =
        let there = stands_at stands (CallOf o) e in
        let block : IsBlock (file_of r) (body_of r implementation) l o.implementation =
        record { layer = here.here; block = ap (option_map (λ (q : Operation). q.implementation)) there } in
        let same : whole_here o.implementation (arguments_in l part.Impl r.site.number) args ≡ from_here (CallOf o) (given (CallOf o)) =
        ap (λ (ds : List Declared). whole_here o.implementation ds args) (arguments_are l r.site.number o there)
        ∙ ap (λ (vs : List Value). whole_here o.implementation o.arguments vs) a in
        read_at stands (CallOf o) e x (subst (λ (w : meaning.Schedule). IsRead r w x) same (h o.implementation block))

    pub cut_read : (o : Operation) (args : List Value) → obligation_of r ≡ CutOf o → args ≡ given (CutOf o) →
        OfBlock r implementation (λ b. IsRead r (cut_here b (arguments_in l part.Impl r.site.number) args) x) → IsRead r (named_here r) x
    cut_read o args e a h =
        let there = stands_at stands (CutOf o) e in
        let block : IsBlock (file_of r) (body_of r implementation) l o.implementation =
        record { layer = here.here; block = ap (option_map (λ (q : Operation). q.implementation)) there } in
        let same : cut_here o.implementation (arguments_in l part.Impl r.site.number) args ≡ from_here (CutOf o) (given (CutOf o)) =
        ap (λ (ds : List Declared). cut_here o.implementation ds args) (arguments_are l r.site.number o there)
        ∙ ap (λ (vs : List Value). cut_here o.implementation o.arguments vs) a in
        read_at stands (CutOf o) e x (subst (λ (w : meaning.Schedule). IsRead r w x) same (h o.implementation block))

    pub tick_read : (t : Tick) (args : List Value) → obligation_of r ≡ TickOf t → args ≡ [] →
        OfBlock r background (λ b. IsRead r (whole_here b (arguments_in l part.Tick r.site.number) args) x) → IsRead r (named_here r) x
    tick_read t args e a h =
        let there = stands_at stands (TickOf t) e in
        let block : IsBlock (file_of r) (body_of r background) l t.body =
        record { layer = here.here; block = ap (option_map (λ (q : Tick). q.body)) there } in
        read_at stands (TickOf t) e x
        (subst (λ (vs : List Value). IsRead r (whole_here t.body [] vs) x) a (h t.body block))

    pub cut_tick_read : (t : Tick) (args : List Value) → obligation_of r ≡ CutTickOf t → args ≡ [] →
        OfBlock r background (λ b. IsRead r (cut_here b (arguments_in l part.Tick r.site.number) args) x) → IsRead r (named_here r) x
    cut_tick_read t args e a h =
        let there = stands_at stands (CutTickOf t) e in
        let block : IsBlock (file_of r) (body_of r background) l t.body =
        record { layer = here.here; block = ap (option_map (λ (q : Tick). q.body)) there } in
        read_at stands (CutTickOf t) e x
        (subst (λ (vs : List Value). IsRead r (cut_here t.body [] vs) x) a (h t.body block))
