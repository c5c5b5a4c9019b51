-- Power that fails on a specification over terms leaves what it leaves with the bits of its picks.
use Rattle.std.proofs.Common.{◌≡◌, ◌==◌, ◌+◌, ℕ, Bool, true, if◌then◌else◌, List, [], map, All, Option, Some, None, option_map, refl, sym, ap, ◌∙◌, subst}
use Rattle.std.proofs.lemmas.List.Elements.{All-nil}
use Rattle.ygg_value.specs.Number.{Number}
use Rattle.ygg_value.specs.declared.operation.Op.TheVariants.{Or}
use Rattle.ygg_value.specs.declared.shape.Shape.{Shape}
use Rattle.ygg_syntax.specs.declared.grammar.BlockKind.TheVariants.{Impl}
use Rattle.ygg_syntax.specs.declared.tree.Declared.{Declared}
use Rattle.ygg_syntax.specs.declared.tree.Block.{Block}
use Rattle.ygg_syntax.specs.declared.tree.Operation.{Operation}
use Rattle.ygg_sym_runs.specs.ygg_type_rules.Names.{Named, look_up}
use Rattle.ygg_sym_runs.specs.ygg_type_rules.declared.scope.Signature.{Signature}
use Rattle.ygg_sym_runs.specs.ygg_type_rules.Layers.{operation_signature}
use Rattle.ygg_sym_runs.specs.ygg_meaning.Environments.{Name, Env, bind}
use Rattle.ygg_sym_runs.specs.ygg_meaning.Shapes.{values_fit}
use Rattle.ygg_sym_runs.specs.ygg_meaning.Machine.{based}
use Rattle.ygg_sym_runs.specs.ygg_meaning.Layer.{ClosedLayer, operation_of}
use Rattle.ygg_sym_runs.specs.ygg_meaning_laws.Fitting.{all_fit}
use Rattle.ygg_sym_runs.specs.ygg_meaning_laws.Questions.{question_fits}
use Rattle.ygg_sym_runs.specs.ygg_rules.declared.rule.RuleKind.{RuleKind}
use Rattle.ygg_sym_runs.specs.ygg_bank_proofs_Made.{made_grows}
use Rattle.ygg_sym_runs.specs.ygg_bank_proofs_Meaning.{fits_fewer}
use Rattle.ygg_sym_runs.specs.ygg_bank_proofs_Widths.{wider, extends_self, extends_both}
use Rattle.ygg_sym_runs.specs.ygg_bank.Makes.{Make}
use Rattle.ygg_sym_runs.specs.ygg_bank.Nodes.{Extends}
use Rattle.ygg_sym_runs.specs.ygg_bank.Values.{Inputs, Values}
use Rattle.ygg_sym_runs.specs.ygg_bank.declared.node.Id.{Id}
use Rattle.ygg_sym_runs.specs.ygg_bank.declared.node.Node.{Node}
use Rattle.ygg_sym_runs.specs.ygg_bank.declared.node.Node.TheVariants.{Bin}
use Rattle.ygg_sym_runs.specs.ygg_shape_words_proofs_Grows.{picked_grows}
use Rattle.ygg_sym_runs.specs.ygg_shape_cells.Terms.{worth}
use Rattle.ygg_sym_runs.specs.ygg_shape_cells.declared.terms.SymValue.{SymValue}
use Rattle.ygg_sym_runs.specs.ygg_meaning_laws.DirectLaws.{Sees}
use Rattle.ygg_sym_runs.specs.ygg_meaning_laws_proofs_DiskServes.{fitting_call}
use Rattle.ygg_sym_runs.specs.Names.{SymEnv, sym_bind}
use Rattle.ygg_sym_runs.specs.Exprs.{SymFunctions}
use Rattle.ygg_sym_runs.specs.ExpressionMeaning.{SomeShape, Grows, Gives}
use Rattle.ygg_sym_runs.proofs.Shaped.{some_wider}
use Rattle.ygg_sym_runs.proofs.Grows.{FunctionsGrow}
use Rattle.ygg_sym_runs.proofs.Values.{FunctionsMean}
use Rattle.ygg_sym_runs.specs.Runs.{SymQuestion, Choice, Call}
use Rattle.ygg_sym_runs.specs.Meaning.{Low, question_worth, is_set, QuestionShaped, IsLow}
use Rattle.ygg_sym_runs.specs.Lows.{LowShaped, low_worth, merge_lows}
use Rattle.ygg_sym_runs.specs.SpecCuts.{picks_after, block_made, crash_made, then_crash_made, fall_made, fall_asked, spec_cuts, spec_stops}
use Rattle.ygg_sym_runs.specs.Specs.{input_pick}
use Rattle.ygg_sym_runs.proofs.Blocks.{BlockOfSpec, block_made_grows, block_made_gives}
use Rattle.ygg_sym_runs.proofs.Chosen.{room}
use Rattle.ygg_sym_runs.proofs.Lows.{low_of, low_wider, merge_lows_grows, merge_worth}
use Rattle.ygg_sym_runs.proofs.JoinedLows.{join_lows_grows, join_worth}
use Rattle.ygg_sym_runs.proofs.SpecFalls.{bits_after, crash_end, then_end, fall_end, drop_end, lose_end, cut_end}
use Rattle.ygg_sym_runs.proofs.Specs.{PickMeans, input_pick_means}
use Rattle.ygg_sym_runs.proofs.StopMeaning.{StopsMean}
use Rattle.ygg_sym_runs.proofs.StopParts.{digit_set, either_is, one_is}

-- variables that power leaves, as values of terms for declared names
abbrev pub vars_of : List Declared → Low (List SymValue) Env
vars_of ds = record {
  value = λ v xs. low_worth v ds xs;
  Has = λ nodes xs. LowShaped nodes ds xs;
  wider = λ old new xs g h. low_wider old new ds xs g h;
}

-- a block without a type error, of some answer
pub record SomeBlock (defs : Named Signature) (m : ClosedLayer) (b : Block) (args : List Declared) : Type 0 where
  pub shape : Option Shape
  pub typed : BlockOfSpec defs m b shape args

-- the blocks of a specification that say what power leaves
pub record FallsTyped (defs : Named Signature) (m : ClosedLayer) : Type 0 where
  pub crash : SomeBlock defs m m.layer.crash []
  pub spec : (name : Name) (o : Operation) → operation_of m name ≡ Some o → SomeBlock defs m o.spec o.arguments
  pub on_crash : (name : Name) (o : Operation) → operation_of m name ≡ Some o → (b : Block) → o.on_crash ≡ Some b → SomeBlock defs m b o.arguments

module _ (inputs : Inputs) (v : Values) (kinds : List RuleKind) (defs : Named Signature) (m : ClosedLayer) (terms : SymFunctions) (grow : FunctionsGrow terms)
    (mean : FunctionsMean inputs v kinds defs m.functions terms grow) where
  abbrev Is : Env → List Node → List SymValue → Type 0
  Is = IsLow inputs v (vars_of m.layer.state)

  -- picks from a place on
  pub after_means : (n : ℕ) (pick : ℕ → Make Id) (bits : ℕ → Bool) → PickMeans inputs v pick bits → PickMeans inputs v (picks_after n pick) (bits_after n bits)
  after_means n pick bits p = record { grows = λ k. p.grows (n + k); wide = λ k. p.wide (n + k); is = λ k. p.is (n + k) }

  pub crash_grows : (pick : ℕ → Make Id) (bits : ℕ → Bool) → PickMeans inputs v pick bits → (vars : List SymValue) → Grows (crash_made kinds terms m pick vars)
  crash_grows pick bits picks vars nodes = block_made_grows inputs v kinds defs m terms grow mean pick bits picks m.layer.crash vars [] nodes

  pub then_grows : (pick : ℕ → Make Id) (bits : ℕ → Bool) → PickMeans inputs v pick bits → (b : Block) (vars : List SymValue) (args : SymEnv) →
      Grows (then_crash_made kinds terms m pick b vars args)
  then_grows pick bits picks b vars args nodes =
      let o = block_made kinds terms m pick b vars args nodes in
      extends_both nodes o.nodes (crash_made kinds terms m (picks_after (room b) pick) o.value.to o.nodes).nodes
      (block_made_grows inputs v kinds defs m terms grow mean pick bits picks b vars args nodes)
      (crash_grows (picks_after (room b) pick) (bits_after (room b) bits) (after_means (room b) pick bits picks) o.value.to o.nodes)

  fall_grows : (pick : ℕ → Make Id) (bits : ℕ → Bool) → PickMeans inputs v pick bits → (o : Operation) (crash : Option Block) (vars xs : List SymValue) →
      Grows (fall_made kinds terms m pick o crash vars xs)
  fall_grows pick bits picks o (Some b) vars xs nodes = then_grows pick bits picks b vars (sym_bind o.arguments xs) nodes
  fall_grows pick bits picks o None vars xs nodes =
      let rest = picks_after 1 pick in
      let means = after_means 1 pick bits picks in
      let t = pick 0 nodes in
      let a = then_crash_made kinds terms m rest o.spec vars (sym_bind o.arguments xs) t.nodes in
      let n = crash_made kinds terms m rest vars a.nodes in
      let e = merge_lows kinds t.value a.value n.value n.nodes in
      extends_both nodes t.nodes e.nodes (picks.grows 0 nodes)
      (extends_both t.nodes a.nodes e.nodes (then_grows rest (bits_after 1 bits) means o.spec vars (sym_bind o.arguments xs) t.nodes)
      (extends_both a.nodes n.nodes e.nodes (crash_grows rest (bits_after 1 bits) means vars a.nodes)
      (merge_lows_grows inputs v kinds t.value a.value n.value n.nodes)))

  asked_grows : (pick : ℕ → Make Id) (bits : ℕ → Bool) → PickMeans inputs v pick bits → (o : Option Operation) (vars xs : List SymValue) →
      Grows (fall_asked kinds terms m pick o vars xs)
  asked_grows pick bits picks None vars xs nodes = extends_self nodes
  asked_grows pick bits picks (Some o) vars xs nodes = fall_grows pick bits picks o o.on_crash vars xs nodes

  cuts_grow : (pick : ℕ → Make Id) (bits : ℕ → Bool) → PickMeans inputs v pick bits → (q : SymQuestion) (vars : List SymValue) →
      Grows (spec_cuts kinds terms m pick q vars)
  cuts_grow pick bits picks Choice vars nodes = crash_grows pick bits picks vars nodes
  cuts_grow pick bits picks (Call name xs) vars nodes = asked_grows pick bits picks (operation_of m name) vars xs nodes

  module _ (typed : FallsTyped defs m) where
    pub crash_gives : (pick : ℕ → Make Id) (bits : ℕ → Bool) → PickMeans inputs v pick bits → (vars : List SymValue) (nodes : List Node) →
        LowShaped nodes m.layer.state vars → Gives inputs v (crash_made kinds terms m pick vars) nodes (Is (crash_end m bits (low_worth v m.layer.state vars)))
    crash_gives pick bits picks vars nodes p h =
        let c = typed.crash in
        let b = block_made_gives inputs v kinds defs m terms grow mean pick bits picks m.layer.crash c.shape [] c.typed vars [] nodes refl
        (All-nil (SomeShape nodes)) p h in
        record { has = b.has; is = b.is }

    pub then_gives : (pick : ℕ → Make Id) (bits : ℕ → Bool) → PickMeans inputs v pick bits → (b : Block) (args : List Declared) → SomeBlock defs m b args →
        (vars xs : List SymValue) (nodes : List Node) → values_fit args (map (worth v) xs) ≡ true → All (SomeShape nodes) xs →
        LowShaped nodes m.layer.state vars →
        Gives inputs v (then_crash_made kinds terms m pick b vars (sym_bind args xs)) nodes
        (Is (then_end m bits b (low_worth v m.layer.state vars) (bind args (map (worth v) xs))))
    then_gives pick bits picks b args block vars xs nodes fit stand p h =
        let o = block_made kinds terms m pick b vars (sym_bind args xs) nodes in
        let rest = picks_after (room b) pick in
        let means = after_means (room b) pick bits picks in
        let c = crash_made kinds terms m rest o.value.to o.nodes in
        let g = crash_grows rest (bits_after (room b) bits) means o.value.to o.nodes in
        let first = block_made_gives inputs v kinds defs m terms grow mean pick bits picks b block.shape args block.typed vars xs nodes fit stand p
        (fits_fewer inputs v o.nodes c.nodes g h) in
        let second = crash_gives rest (bits_after (room b) bits) means o.value.to o.nodes first.has h in
        record { has = second.has; is = second.is ∙ ap (crash_end m (bits_after (room b) bits)) first.is }

    some_stand : (old new : List Node) (xs : List SymValue) → Extends old new → All (SomeShape old) xs → All (SomeShape new) xs
    some_stand old new xs g p = λ k d l. some_wider old new _ g (p k d l)

    fall_gives : (pick : ℕ → Make Id) (bits : ℕ → Bool) → PickMeans inputs v pick bits → (name : Name) (o : Operation) → operation_of m name ≡ Some o →
        (crash : Option Block) → o.on_crash ≡ crash → (vars xs : List SymValue) (nodes : List Node) → values_fit o.arguments (map (worth v) xs) ≡ true →
        All (SomeShape nodes) xs → LowShaped nodes m.layer.state vars →
        Gives inputs v (fall_made kinds terms m pick o crash vars xs) nodes
        (Is (fall_end m bits o crash (low_worth v m.layer.state vars) (map (worth v) xs)))
    fall_gives pick bits picks name o found (Some b) own vars xs nodes fit stand p h =
        then_gives pick bits picks b o.arguments (typed.on_crash name o found b own) vars xs nodes fit stand p h
    fall_gives pick bits picks name o found None own vars xs nodes fit stand p h =
        let state = m.layer.state in
        let rest = picks_after 1 pick in
        let after = bits_after 1 bits in
        let means = after_means 1 pick bits picks in
        let sa = sym_bind o.arguments xs in
        let t = pick 0 nodes in
        let a = then_crash_made kinds terms m rest o.spec vars sa t.nodes in
        let n = crash_made kinds terms m rest vars a.nodes in
        let e = merge_lows kinds t.value a.value n.value n.nodes in
        let gt = picks.grows 0 nodes in
        let ga = then_grows rest after means o.spec vars sa t.nodes in
        let gn = crash_grows rest after means vars a.nodes in
        let ge = merge_lows_grows inputs v kinds t.value a.value n.value n.nodes in
        let hn = fits_fewer inputs v n.nodes e.nodes ge h in
        let ha = fits_fewer inputs v a.nodes n.nodes gn hn in
        let ht = fits_fewer inputs v t.nodes a.nodes ga ha in
        let t_to_n = extends_both t.nodes a.nodes n.nodes ga gn in
        let to_a = extends_both nodes t.nodes a.nodes gt ga in
        let wide = picks.wide 0 nodes ht in
        let set : is_set v t.value ≡ bits 0 = ap (λ (k : Number). k.bits == 1) (picks.is 0 nodes ht) ∙ digit_set (bits 0) in
        let all = then_gives rest after means o.spec o.arguments (typed.spec name o found) vars xs t.nodes fit (some_stand nodes t.nodes xs gt stand)
        (low_wider nodes t.nodes state vars gt p) ha in
        let nothing = crash_gives rest after means vars a.nodes (low_wider nodes a.nodes state vars to_a p) hn in
        let merged = merge_worth inputs v kinds state t.value a.value n.value n.nodes (wider t.nodes n.nodes t.value 1 t_to_n wide)
        (low_wider a.nodes n.nodes state a.value gn all.has) nothing.has h in
        let low = low_worth v state vars in
        let args = bind o.arguments (map (worth v) xs) in
        record {
          has = merged.has;
          is = merged.is
              ∙ ap (λ (c : Bool). if c then low_worth v state a.value else low_worth v state n.value) set
              ∙ ap (λ (x : Env). if bits 0 then x else low_worth v state n.value) all.is
              ∙ ap (λ (x : Env). if bits 0 then then_end m after o.spec low args else x) nothing.is;
        }

    module _ (operations : Named Signature) (sees : Sees m operations) where
      signature_is : (a b : Signature) → Some a ≡ Some b → a ≡ b
      signature_is a b e = cc

      asked_gives : (pick : ℕ → Make Id) (bits : ℕ → Bool) → PickMeans inputs v pick bits → (name : Name) (xs vars : List SymValue) (nodes : List Node)
          (s : Signature) (o : Option Operation) → operation_of m name ≡ o → look_up name operations ≡ Some s →
          all_fit s.arguments (map (worth v) xs) ≡ true → All (SomeShape nodes) xs → LowShaped nodes m.layer.state vars →
          Gives inputs v (fall_asked kinds terms m pick o vars xs) nodes
          (Is (drop_end m bits o (based (low_worth v m.layer.state vars)) (map (worth v) xs)))
      asked_gives pick bits picks name xs vars nodes s None there known fit stand p h =
          let e = sym known ∙ sees.seen name ∙ ap (option_map operation_signature) there in absurd (cc)
      asked_gives pick bits picks name xs vars nodes s (Some o) there known fit stand p h =
          let e = signature_is s (operation_signature o) (sym known ∙ sees.seen name ∙ ap (option_map operation_signature) there) in
          let fits_here = sees.fit name o (map (worth v) xs) there (subst (λ (k : Signature). all_fit k.arguments (map (worth v) xs) ≡ true) e fit) in
          fall_gives pick bits picks name o there o.on_crash refl vars xs nodes fits_here stand p h

      cuts_give : (pick : ℕ → Make Id) (bits : ℕ → Bool) → PickMeans inputs v pick bits → (q : SymQuestion) (vars : List SymValue) (nodes : List Node) →
          question_fits Impl operations (question_worth v q) ≡ true → QuestionShaped nodes q → LowShaped nodes m.layer.state vars →
          Gives inputs v (spec_cuts kinds terms m pick q vars) nodes (Is (cut_end m bits (question_worth v q) (based (low_worth v m.layer.state vars))))
      cuts_give pick bits picks Choice vars nodes may shaped p h = absurd (cc)
      cuts_give pick bits picks (Call name xs) vars nodes may shaped p h =
          let f = fitting_call operations name (map (worth v) xs) may in
          asked_gives pick bits picks name xs vars nodes f.operation (operation_of m name) refl f.found f.fit shaped p h

      -- the stops of runs on a specification
      pub spec_stops_mean : (first last : ℕ) →
          StopsMean (low_of m.layer.state) (vars_of m.layer.state) inputs v Impl operations (spec_stops kinds terms m first last)
          (cut_end m (λ i. inputs (last + i) == 1)) (lose_end m (λ i. inputs (last + i) == 1)) (λ i. inputs (first + i) == 1)
      spec_stops_mean first last = record {
        bit_grows = λ n. stop.grows n;
        bit_is = λ n nodes h.
            record { wide = stop.wide n nodes h; is = ap (λ (k : Number). k.bits == 1) (stop.is n nodes h) ∙ digit_set (inputs (first + n) == 1) };
        cut_grows = λ q s nodes. cuts_grow pick bits picks q s nodes;
        cut_is = λ q s nodes may shaped p h. cuts_give pick bits picks q s nodes may shaped p h;
        lose_grows = λ s nodes. crash_grows pick bits picks s nodes;
        lose_is = λ s nodes p h. crash_gives pick bits picks s nodes p h;
        merge_grows = λ t a b nodes. join_lows_grows inputs v kinds t a b nodes;
        merge_is = λ t a b nodes w p q h.
            let r = join_worth inputs v kinds m.layer.state t a b nodes w p q h in record { has = r.has; is = r.is };
        either_grows = λ a b nodes. made_grows kinds (Bin Or a b) nodes;
        either_is = λ a b nodes p q h. either_is inputs v kinds a b nodes p q h;
        pick_grows = λ t a b nodes. picked_grows kinds t a b nodes;
        pick_is = λ t a b nodes w p q h. one_is inputs v kinds t a b nodes w p q h;
      }
        where
          stop : PickMeans inputs v (input_pick kinds first) (λ i. inputs (first + i) == 1)
          stop = input_pick_means inputs v kinds first

          pick : ℕ → Make Id
          pick = input_pick kinds last

          bits : ℕ → Bool
          bits i = inputs (last + i) == 1

          picks : PickMeans inputs v (input_pick kinds last) (λ i. inputs (last + i) == 1)
          picks = input_pick_means inputs v kinds last
