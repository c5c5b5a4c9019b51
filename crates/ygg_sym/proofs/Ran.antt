-- What runs of a layer's blocks are made of, and what they leave.
use Rattle.std.proofs.Common.{◌≡◌, ◌≤◌, ◌++◌, ℕ, suc, length, List, [], ◌∷◌, IsTrue, OnOk, IfOk, Ok, Err, Result, map, refl, sym, ap, ◌∙◌, subst, arith}
use Rattle.std.specs.Prelude.{min}
use Rattle.std.proofs.lemmas.List.{map-append}
use Rattle.std.proofs.lemmas.List.Elements.{All-append}
use Rattle.ygg_syntax.specs.declared.grammar.BlockKind.TheVariants.{Impl}
use Rattle.ygg_syntax.specs.declared.tree.Block.{Block}
use Rattle.ygg_syntax.specs.declared.tree.Declared.{Declared}
use Rattle.ygg_sym_spec.specs.ygg_meaning.Environments.{Name, bind}
use Rattle.ygg_sym_spec.specs.ygg_meaning.Meaning.{functions_of}
use Rattle.ygg_sym_spec.specs.ygg_meaning_laws.Agrees.{Agrees}
use Rattle.ygg_sym_spec.specs.ygg_meaning_laws.Blocks.{is_returned}
use Rattle.ygg_sym_spec.specs.ygg_meaning_laws.Kinds.{keeps}
use Rattle.ygg_sym_spec.specs.ygg_meaning_laws.Questions.{plain}
use Rattle.ygg_sym_spec.specs.ygg_rules.declared.rule.RuleKind.{RuleKind}
use Rattle.ygg_sym_spec.specs.ygg_bank.Makes.{Make}
use Rattle.ygg_sym_spec.specs.ygg_bank.Nodes.{HasWidth, IsBank}
use Rattle.ygg_sym_spec.specs.ygg_bank.Values.{Fits, value_of}
use Rattle.ygg_sym_spec.specs.ygg_bank.declared.node.Id.{Id}
use Rattle.ygg_sym_spec.specs.ygg_bank.declared.node.Node.{Node}
use Rattle.ygg_sym_spec.proofs.of_ygg_shape.Answered.{no_inputs, some_fit}
use Rattle.ygg_sym_spec.specs.ygg_shape_cells.Terms.{worth}
use Rattle.ygg_sym_spec.specs.ygg_shape_cells.declared.terms.SymValue.{SymValue}
use Rattle.ygg_sym_spec.specs.ygg_meaning_laws.Direct.{room_of}
use Rattle.ygg_sym_spec.specs.ygg_sym_runs.Names.{SymEnv, sym_bind}
use Rattle.ygg_sym_spec.specs.ygg_sym_runs.ExpressionMeaning.{worths}
use Rattle.ygg_sym_spec.specs.ygg_sym_runs.Lower.{SymMeaning, Stands}
use Rattle.ygg_sym_spec.specs.ygg_sym_runs.Meaning.{AnswerShaped, answer_worth}
use Rattle.ygg_sym_spec.specs.ygg_sym_runs.Runs.{SymMachine}
use Rattle.ygg_sym_spec.proofs.of_ygg_sym_runs.Worths.{NameShaped}
use Rattle.ygg_sym_machine.specs.ygg_sym_runs.Lows.{LowShaped}
use Rattle.ygg_sym_machine.specs.ygg_sym_runs.StopTerms.{Stops, SymFallen, stop_whole}
use Rattle.ygg_sym_machine.specs.ygg_sym_runs.Wholes.{sym_whole}
use Rattle.ygg_sym_machine.proofs.of_ygg_sym_runs.Blocks.{values_worth}
use Rattle.ygg_sym_machine.proofs.of_ygg_sym_runs.Specs.{bound_worth, low_shaped}
use Rattle.ygg_sym_machine.specs.ygg_sym_runs.Below.{machine_on, signatures_on, space_on, stops_on}
use Rattle.ygg_sym_machine.specs.ygg_sym_runs.Means.{Begins, FallMeans, Values3, WholeMeans}
use Rattle.ygg_sym_machine.specs.ygg_sym_runs.Typed.{BlockTyped}
use Rattle.ygg_sym_laws.proofs.DiskFalls.{disk_falls}
use Rattle.ygg_sym_laws.proofs.DiskWhole.{disk_whole}
use Rattle.ygg_sym_laws.proofs.AnyLayer.{spec_falls, spec_whole}
use Rattle.ygg_sym.specs.Stopping as stopping
use Rattle.ygg_sym.specs.Stopping.{Power}
use Rattle.ygg_sym.specs.Falls.{IsFall}
use Rattle.ygg_sym_spec.specs.ygg_sym_runs.WholeReady.{CanWhole}
use Rattle.ygg_sym.specs.Layers.{closed, terms_in}
use Rattle.ygg_sym.specs.SymLayer.{SymLayer}
use Rattle.ygg_sym.specs.Ends.{IsRun}
use Rattle.ygg_sym.specs.declared.running.Ran.{Ran}
use Rattle.ygg_sym.specs.Running.{CanRunBlock, CutIs, EndIs, EndStands, cut_of, run_of}
use Rattle.ygg_sym.specs.Sites.{BelowFits, below_in}
use Rattle.ygg_sym_spec.specs.declared.below.SymBelow.{SymBelow}
use Rattle.ygg_sym_spec.specs.declared.below.SymBelow.TheVariants.{Disk, Layer}
use Rattle.ygg_sym.specs.declared.runs.SymBlock.{SymBlock}
use Rattle.ygg_sym.specs.declared.runs.SymCut.{SymCut}
use Rattle.ygg_sym.specs.declared.runs.SymEnd.{SymEnd}

-- the least of two numbers that aren't less than a third
pub least : (first stop last : ℕ) → first ≤ stop → first ≤ last → first ≤ min stop last
least first stop last l m = omega (arith, l, m)

-- as many names as values are bound
pub bound_many : (ds : List Declared) (xs : List SymValue) → length ds ≡ length xs → length (sym_bind ds xs) ≡ length xs
bound_many [] [] e = refl
bound_many [] (x ∷ xs) e = e
bound_many (d ∷ ds) [] e = refl
bound_many (d ∷ ds) (x ∷ xs) e = ap suc (bound_many ds xs (omega (arith, e)))

-- whole runs of a block without a type error mean what they should, whatever it is run on
whole_on : (kinds : List RuleKind) (l : SymLayer) (g : SymBelow) (b : Block) (names : List Declared) → BelowFits l g →
    (t : BlockTyped l.defs.now (closed l) Impl (signatures_on (below_in g)) b (l.layer.now).memory names) →
    WholeMeans kinds l.defs.now (below_in g) (closed l) b (l.layer.now).memory names t.shape
whole_on kinds l (Disk d) b names fits t =
    disk_whole kinds l.defs.now d (closed l) b (l.layer.now).memory names fits.sound fits.typed refl fits.low_is t
whole_on kinds l (Layer m) b names fits t =
    spec_whole kinds l.defs.now (closed m) (closed l) b (l.layer.now).memory names fits.sound fits.typed refl fits.low_is t

-- and such runs that power cuts
falls_on : (kinds : List RuleKind) (l : SymLayer) (g : SymBelow) (b : Block) (names : List Declared) → BelowFits l g →
    BlockTyped l.defs.now (closed l) Impl (signatures_on (below_in g)) b (l.layer.now).memory names →
    FallMeans kinds l.defs.now (below_in g) (closed l) b (l.layer.now).memory names
falls_on kinds l (Disk d) b names fits t =
    disk_falls kinds l.defs.now d (closed l) b (l.layer.now).memory names fits.sound fits.typed refl fits.low_is t
falls_on kinds l (Layer m) b names fits t =
    spec_falls kinds l.defs.now (closed m) (closed l) b (l.layer.now).memory names fits.sound fits.typed refl fits.low_is t

-- what is left of a run that power cuts stands among the nodes
record CutStands (at : SymBlock) (nodes : List Node) (c : SymCut) : Type 0 where
  shape : LowShaped nodes at.layer.low.now c.fallen
  width : HasWidth nodes c.reached 1

module _ (kinds : List RuleKind) (at : SymBlock) (nodes : List Node) (memory args low : List SymValue) (can : CanRunBlock at nodes memory args low) where
  -- the names of the memory, and those of the arguments
  abbrev vars_of : SymEnv
  vars_of = sym_bind (at.layer.layer.now).memory memory

  abbrev args_of : SymEnv
  args_of = sym_bind at.names.now args

  abbrev values : Values3
  values = record { vars = memory; args = args; low = low }

  begins : Begins kinds at.layer.defs.now (below_in at.below) (closed at.layer) at.block.now (at.layer.layer.now).memory at.names.now nodes values
  begins = record { vars_are = can.memory_are; args_are = can.args_are; low_are = can.low_are }

  -- what a whole run leaves stands
  end_stands : (first : ℕ) (new : List Node) (e : SymEnd) → new ≡ (run_of kinds at first memory args low nodes).nodes →
      EndIs (run_of kinds at first memory args low nodes).value e → IsBank new → EndStands at new e
  end_stands first new e same is bank =
      let out = run_of kinds at first memory args low nodes in
      let ds = (at.layer.layer.now).memory in
      let after = (whole_on kinds at.layer at.below at.block.now at.names.now can.below can.typed).after no_inputs (value_of no_inputs out.nodes) first values
      nodes begins (some_fit out.nodes (subst IsBank same bank)) in
      record {
        memory = subst (λ z. LowShaped z ds e.memory) (sym same) (subst (LowShaped out.nodes ds) (sym is.memory) after.vars_are);
        low = subst (λ z. LowShaped z at.layer.low.now e.low) (sym same) (subst (LowShaped out.nodes at.layer.low.now) (sym is.low) after.low_are);
        answer = subst (λ z. AnswerShaped z e.answer) (sym same) (subst (AnswerShaped out.nodes) (sym is.answer) after.answer_shaped);
        returned = λ inputs v typed h.
            let a = (whole_on kinds at.layer at.below at.block.now at.names.now can.below typed).after inputs v first values nodes begins
            (subst (Fits inputs v) same h) in
            subst (λ z. IsTrue (is_returned (at.block.now).answer typed.shape (answer_worth v z))) (sym is.answer) a.answer_returned;
      }

  pub run_stands : {E : Type 0} (first : ℕ) (new : List Node) (r : Result SymEnd E) → OnOk r (new ≡ (run_of kinds at first memory args low nodes).nodes) →
      IfOk r (EndIs (run_of kinds at first memory args low nodes).value) → IsBank new → IfOk r (EndStands at new)
  run_stands first new (Ok e) same is bank = end_stands first new e same is bank
  run_stands first new (Err x) same is bank = tt

  -- and so does what power leaves
  left_stands : (first stop last : ℕ) (new : List Node) (c : SymCut) → new ≡ (cut_of kinds at first stop last memory args low nodes).nodes →
      CutIs (cut_of kinds at first stop last memory args low nodes).value c → IsBank new → CutStands at new c
  left_stands first stop last new c same is bank =
      let out = cut_of kinds at first stop last memory args low nodes in
      let after = (falls_on kinds at.layer at.below at.block.now at.names.now can.below can.typed).after no_inputs (value_of no_inputs out.nodes) first stop
      last
      values nodes begins (some_fit out.nodes (subst IsBank same bank)) in
      record {
        shape = subst (λ z. LowShaped z at.layer.low.now c.fallen) (sym same) (subst (LowShaped out.nodes at.layer.low.now) (sym is.fallen) after.1);
        width = subst (λ z. HasWidth z c.reached 1) (sym same) (subst (λ t. HasWidth out.nodes t 1) (sym is.reached) after.0);
      }

  pub cut_shape : {E : Type 0} (first stop last : ℕ) (new : List Node) (r : Result SymCut E) →
      OnOk r (new ≡ (cut_of kinds at first stop last memory args low nodes).nodes) →
      IfOk r (CutIs (cut_of kinds at first stop last memory args low nodes).value) → IsBank new →
      IfOk r (λ c. LowShaped new at.layer.low.now c.fallen)
  cut_shape first stop last new (Ok c) same is bank = (left_stands first stop last new c same is bank).shape
  cut_shape first stop last new (Err x) same is bank = tt

  pub cut_width : {E : Type 0} (first stop last : ℕ) (new : List Node) (r : Result SymCut E) →
      OnOk r (new ≡ (cut_of kinds at first stop last memory args low nodes).nodes) →
      IfOk r (CutIs (cut_of kinds at first stop last memory args low nodes).value) → IsBank new → IfOk r (λ c. HasWidth new c.reached 1)
  cut_width first stop last new (Ok c) same is bank = (left_stands first stop last new c same is bank).width
  cut_width first stop last new (Err x) same is bank = tt

  -- the block may be run on a machine with the operations of what the layer is specified over
  pub can_whole : (M : SymMeaning (List SymValue)) → M.lower ≡ signatures_on (below_in at.below) → M.kind ≡ Impl → Stands M nodes low → (env : SymEnv) →
      env ≡ vars_of ++ args_of → (these : List SymValue) → these ≡ low → CanWhole M at.layer.defs.now at.block.now nodes env these
  can_whole M lower kind there env e these f =
      let typed = can.typed in
      let defs = at.layer.defs.now in
      let state = (at.layer.layer.now).memory in
      let given = at.names.now in
      subst (λ z. CanWhole M defs at.block.now nodes env z) (sym f) (subst (λ z. CanWhole M defs at.block.now nodes z low) (sym e) (record {
        scope = typed.scope;
        shape = typed.shape;
        names = record {
          sound = can.below.sound;
          defs_is = typed.defs_is;
          lower_is = typed.lower_is ∙ sym lower;
          shaped = All-append (NameShaped nodes) vars_of args_of (low_shaped no_inputs (value_of no_inputs nodes) [] state memory nodes can.memory_are)
              (low_shaped no_inputs (value_of no_inputs nodes) [] given args nodes can.args_are);
          agrees = λ inputs v h.
              let joined : worths v (vars_of ++ args_of) ≡ bind state (map (worth v) memory) ++ bind given (map (worth v) args) =
              map-append (λ (b : Name × SymValue). (b.0, worth v b.1)) vars_of args_of
              ∙ ap (λ z. z ++ worths v args_of) (bound_worth inputs v [] state memory)
              ∙ ap (λ z. bind state (map (worth v) memory) ++ z) (bound_worth inputs v [] given args) in
              subst (λ z. Agrees (functions_of defs) typed.scope (plain z)) (sym joined)
              (typed.agrees (map (worth v) memory) (map (worth v) args) (values_worth inputs v nodes state memory h can.memory_are)
              (values_worth inputs v nodes given args h can.args_are));
        };
        stands = there;
        without_errors = typed.without_errors;
        keeps = subst (λ k. IsTrue (keeps k at.block.now)) (sym kind) typed.kept;
      }))

  module _ (M : SymMeaning (List SymValue)) (first : ℕ)
      (same : M.machine kinds ≡ machine_on kinds (terms_in kinds at.layer) (below_in at.below) first) where
    -- a whole run on such a machine is the run on what the layer is specified over
    module _ (ds : List Declared) (these : List SymValue) (new : List Node) (r : Ran (List SymValue))
        (ran : IsRun M at.layer.defs.now kinds at.block.now (sym_bind ds memory) args_of these nodes r new)
        (e : ds ≡ (at.layer.layer.now).memory) (f : these ≡ low) where
      it_ran : IsRun M at.layer.defs.now kinds at.block.now vars_of args_of low nodes r new
      it_ran =
          subst (λ z. IsRun M at.layer.defs.now kinds at.block.now (sym_bind z memory) args_of low nodes r new) e
          (subst (λ z. IsRun M at.layer.defs.now kinds at.block.now (sym_bind ds memory) args_of z nodes r new) f ran)

      pub run_nodes : new ≡ (run_of kinds at first memory args low nodes).nodes
      run_nodes =
          it_ran.nodes ∙ ap (λ (z : SymMachine (List SymValue)). (sym_whole kinds (terms_in kinds at.layer) z at.block.now vars_of args_of low nodes).nodes)
          same

      pub run_end : EndIs (run_of kinds at first memory args low nodes).value (record { answer = r.answer; memory = r.vars; low = r.state })
      run_end =
          let end : SymEnd = record { answer = r.answer; memory = r.vars; low = r.state } in
          subst (λ (z : SymMachine (List SymValue)). EndIs (sym_whole kinds (terms_in kinds at.layer) z at.block.now vars_of args_of low nodes).value end) same
          (record { answer = it_ran.answer; memory = it_ran.left; low = it_ran.state })

    module _ (K : Power (List SymValue)) (stop last : ℕ) (space : (M.machine kinds).space ≡ space_on (below_in at.below))
        (stops : stopping.stops_on M K kinds ≡ stops_on kinds (terms_in kinds at.layer) (below_in at.below) stop last) where
      -- a run that power cuts is that on what the layer is specified over
      module _ (ds : List Declared) (these : List SymValue) (new : List Node) (fallen : List SymValue) (reached : Id)
          (ran : IsFall M K at.layer.defs.now kinds at.block.now (sym_bind ds memory) args_of these nodes fallen reached new)
          (e : ds ≡ (at.layer.layer.now).memory) (f : these ≡ low) where
        it_fell : IsFall M K at.layer.defs.now kinds at.block.now vars_of args_of low nodes fallen reached new
        it_fell =
            subst (λ z. IsFall M K at.layer.defs.now kinds at.block.now (sym_bind z memory) args_of low nodes fallen reached new) e
            (subst (λ z. IsFall M K at.layer.defs.now kinds at.block.now (sym_bind ds memory) args_of z nodes fallen reached new) f ran)

        abbrev fell : SymMachine (List SymValue) → Stops (List SymValue) (List SymValue) → (Name → ℕ) → Make (SymFallen (List SymValue))
        fell m s n = stop_whole kinds (terms_in kinds at.layer) m s (room_of n at.block.now) at.block.now vars_of args_of low low

        pub cut_nodes : new ≡ (cut_of kinds at first stop last memory args low nodes).nodes
        cut_nodes =
            it_fell.nodes
            ∙ ap (λ n. (fell (M.machine kinds) (stopping.stops_on M K kinds) n nodes).nodes) space
            ∙ ap (λ (z : Stops (List SymValue) (List SymValue)). (fell (M.machine kinds) z (space_on (below_in at.below)) nodes).nodes) stops
            ∙ ap (λ (z : SymMachine (List SymValue)). (fell z (stops_on kinds (terms_in kinds at.layer) (below_in at.below) stop last)
            (space_on (below_in at.below)) nodes).nodes) same

        pub cut_end : CutIs (cut_of kinds at first stop last memory args low nodes).value (record { fallen = fallen; reached = reached })
        cut_end =
            let c : SymCut = record { fallen = fallen; reached = reached } in
            subst (λ (z : SymMachine (List SymValue)). CutIs (fell z (stops_on kinds (terms_in kinds at.layer) (below_in at.below) stop last)
            (space_on (below_in at.below)) nodes).value c) same
            (subst (λ (z : Stops (List SymValue) (List SymValue)). CutIs (fell (M.machine kinds) z (space_on (below_in at.below)) nodes).value c) stops
            (subst (λ n. CutIs (fell (M.machine kinds) (stopping.stops_on M K kinds) n nodes).value c) space
            (record { fallen = it_fell.left; reached = it_fell.stop })))
