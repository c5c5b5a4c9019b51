-- The steps of the machine with stops mean what they are to mean.
use Rattle.std.proofs.Common.{◌≡◌, ◌==◌, ℕ, ◌||◌, Bool, true, false, if◌then◌else◌, List, refl, ap, ◌∙◌, arith}
use Rattle.ygg_sym_runs.specs.ygg_meaning.Progress.{Question}
use Rattle.ygg_value.specs.Number.{Number, IsWord}
use Rattle.ygg_value.specs.Words.{word}
use Rattle.ygg_sym_runs.specs.ygg_bank_proofs_Made.{made_grows}
use Rattle.ygg_sym_runs.specs.ygg_bank.Making.{made}
use Rattle.ygg_sym_runs.specs.ygg_bank.declared.node.Node.TheVariants.{Const}
use Rattle.ygg_sym_runs.specs.ygg_shape_words_proofs_Terms.{made_is}
use Rattle.ygg_sym_runs.specs.ygg_bank_proofs_Meaning.{fits_fewer}
use Rattle.ygg_sym_runs.specs.ygg_bank_proofs_Widths.{wider, extends_both}
use Rattle.ygg_sym_runs.specs.ygg_bank.Nodes.{HasWidth, Extends}
use Rattle.ygg_sym_runs.specs.ygg_bank.Values.{Inputs, Values}
use Rattle.ygg_sym_runs.specs.ygg_bank.declared.node.Id.{Id}
use Rattle.ygg_sym_runs.specs.ygg_bank.declared.node.Node.{Node}
use Rattle.ygg_sym_runs.specs.ygg_meaning_laws.Direct.{Handled}
use Rattle.ygg_sym_runs.specs.ygg_rules.declared.rule.RuleKind.{RuleKind}
use Rattle.ygg_syntax.specs.declared.grammar.BlockKind.{BlockKind}
use Rattle.ygg_sym_runs.specs.ygg_type_rules.Names.{Named}
use Rattle.ygg_sym_runs.specs.ygg_type_rules.declared.scope.Signature.{Signature}
use Rattle.ygg_sym_runs.specs.ygg_meaning_laws.Questions.{question_fits}
use Rattle.ygg_sym_runs.specs.Exprs.{SymFunctions}
use Rattle.ygg_sym_runs.specs.ExpressionMeaning.{Grows, Gives}
use Rattle.ygg_sym_runs.proofs.Shaped.{some_wider}
use Rattle.ygg_sym_runs.specs.Runs as runs
use Rattle.ygg_sym_runs.specs.Runs.{SymQuestion, SymMachine}
use Rattle.ygg_sym_runs.specs.Meaning.{Low, question_worth, is_set, QuestionShaped, IsHandled, IsLow, MachineMeans}
use Rattle.ygg_sym_runs.specs.Stops.{before_at, within_at, Halted, halted, halted_end}
use Rattle.ygg_sym_runs.specs.StopTerms.{SymHalted, Stops, sym_first, sym_leaves, sym_left, sym_halted, merge_halted, halting_machine, sym_end}
use Rattle.ygg_sym_runs.proofs.StopMeaning.{halted_low, IsTest, StopsMean}

abbrev made_of : {S B : Type 0} → S → B → Bool → Halted S B
made_of to fallen stopped = record { to = to; fallen = fallen; stopped = stopped }

joined : {S B : Type 0} (a b : S) (c d : B) (e f : Bool) → a ≡ b → c ≡ d → e ≡ f → made_of a c e ≡ made_of b d f
joined a b c d e f p q r = ap (λ z. made_of z c e) p ∙ ap (λ z. made_of b z e) q ∙ ap (λ z. made_of b d z) r

parted : {S B : Type 0} (t : Bool) (a b : S) (c d : B) (e f : Bool) →
    made_of (if t then a else b) (if t then c else d) (if t then e else f) ≡ (if t then made_of a c e else made_of b d f)
parted true a b c d e f = refl
parted false a b c d e f = refl

-- a stop counts where power hasn't failed before it
first_counts : {B : Type 0} (s h w : Bool) (old lost left : B) →
    (if (if s then false else h) then lost else (if (if s || h then false else w) then left else old))
    ≡ (if s then old else (if h then lost else (if w then left else old)))
first_counts true h w old lost left = refl
first_counts false true w old lost left = refl
first_counts false false w old lost left = refl

last_counts : {B : Type 0} (s h : Bool) (old lost : B) → (if (if s then false else h) then lost else old) ≡ (if s then old else (if h then lost else old))
last_counts true h old lost = refl
last_counts false h old lost = refl

may_wider : (old new : List Node) (q : SymQuestion) → Extends old new → QuestionShaped old q → QuestionShaped new q
may_wider old new runs.Choice g m = m
may_wider old new (runs.Call f xs) g m = λ k d l. some_wider old new _ g (m k d l)

module _ {S F L B : Type 0} (inputs : Inputs) (v : Values) (kinds : List RuleKind) (terms : SymFunctions) (low : Low S L) (base : Low F B) (kind : BlockKind)
    (lower : Named Signature) (M : SymMachine S) (machine : ℕ → Question → L → Handled L) (laws : MachineMeans inputs v low kind lower M machine)
    (K : Stops S F) (cut : Question → L → B) (lose : L → B) (bits : ℕ → Bool) (stops : StopsMean low base inputs v kind lower K cut lose bits) where
  first_grows : (other one : Id) → Grows (sym_first kinds terms M K other one)
  first_grows other one nodes =
      let k = made kinds (Const (word 1 0)) nodes in
      let o = K.pick other k.value one k.nodes in
      extends_both nodes k.nodes o.nodes (made_grows kinds (Const (word 1 0)) nodes) (stops.pick_grows other k.value one k.nodes)

  first_gives : (other one : Id) (nodes : List Node) → HasWidth nodes other 1 → HasWidth nodes one 1 →
      Gives inputs v (sym_first kinds terms M K other one) nodes (IsTest v (if is_set v other then false else is_set v one))
  first_gives other one nodes p q h =
      let k = made kinds (Const (word 1 0)) nodes in
      let o = K.pick other k.value one k.nodes in
      let g = made_grows kinds (Const (word 1 0)) nodes in
      let zero : IsWord (word 1 0) = record { least = omega arith; most = omega arith; fits = omega arith } in
      let never = made_is inputs v kinds (Const (word 1 0)) nodes zero
      (fits_fewer inputs v k.nodes o.nodes (stops.pick_grows other k.value one k.nodes) h) in
      let unset : is_set v k.value ≡ false = ap (λ (n : Number). n.bits == 1) never.is in
      let r = stops.pick_is other k.value one k.nodes (wider nodes k.nodes other 1 g p) never.wide (wider nodes k.nodes one 1 g q) h in
      record { wide = r.wide; is = r.is ∙ ap (λ b. if is_set v other then b else is_set v one) unset }

  leaves_grows : (here within : Id) (q : SymQuestion) (z : SymHalted S F) → Grows (sym_leaves kinds terms M K here within q z)
  leaves_grows here within q z nodes =
      let c = K.cut q z.to nodes in let x = K.merge within c.value z.fallen c.nodes in let l = K.lose z.to x.nodes in let y =
      K.merge here l.value x.value l.nodes in
      extends_both nodes c.nodes y.nodes (stops.cut_grows q z.to nodes)
      (extends_both c.nodes x.nodes y.nodes (stops.merge_grows within c.value z.fallen c.nodes)
      (extends_both x.nodes l.nodes y.nodes (stops.lose_grows z.to x.nodes) (stops.merge_grows here l.value x.value l.nodes)))

  leaves_gives : (here within : Id) (q : SymQuestion) (z : SymHalted S F) (nodes : List Node) → HasWidth nodes here 1 → HasWidth nodes within 1 →
      question_fits kind lower (question_worth v q) ≡ true → QuestionShaped nodes q →
      (halted_low low base).Has nodes z →
      Gives inputs v (sym_leaves kinds terms M K here within q z) nodes (IsLow inputs v base
      (if is_set v here then lose (low.value v z.to) else (if is_set v within then cut (question_worth v q) (low.value v z.to) else base.value v z.fallen)))
  leaves_gives here within q z nodes wh ww fit m p h =
      let c = K.cut q z.to nodes in let x = K.merge within c.value z.fallen c.nodes in let l = K.lose z.to x.nodes in let y =
      K.merge here l.value x.value l.nodes in
      let gc = stops.cut_grows q z.to nodes in let gx = stops.merge_grows within c.value z.fallen c.nodes in let gl = stops.lose_grows z.to x.nodes in
      let gy = stops.merge_grows here l.value x.value l.nodes in
      let h3 = fits_fewer inputs v l.nodes y.nodes gy h in
      let h2 = fits_fewer inputs v x.nodes l.nodes gl h3 in let h1 = fits_fewer inputs v c.nodes x.nodes gx h2 in
      let to_x = extends_both nodes c.nodes x.nodes gc gx in let to_l = extends_both nodes x.nodes l.nodes to_x gl in
      let pc = stops.cut_is q z.to nodes fit m p.0 h1 in
      let px = stops.merge_is within c.value z.fallen c.nodes (wider nodes c.nodes within 1 gc ww) pc.has (base.wider nodes c.nodes z.fallen gc p.1) h2 in
      let pl = stops.lose_is z.to x.nodes (low.wider nodes x.nodes z.to to_x p.0) h3 in
      let py = stops.merge_is here l.value x.value l.nodes (wider nodes l.nodes here 1 to_l wh) pl.has (base.wider x.nodes l.nodes x.value gl px.has) h in
      let H = is_set v here in let W = is_set v within in
      let old = base.value v z.fallen in let lost = lose (low.value v z.to) in
      record {
        has = py.has;
        is = py.is ∙ ap (λ k. if H then k else base.value v x.value) pl.is
            ∙ ap (λ k. if H then lost else k) px.is ∙ ap (λ k. if H then lost else (if W then k else old)) pc.is;
      }

  left_grows : (here within : Id) (q : SymQuestion) (z : SymHalted S F) → Grows (sym_left kinds terms M K here within q z)
  left_grows here within q z nodes =
      let a = sym_first kinds terms M K z.stopped here nodes in
      let b = K.either z.stopped here a.nodes in
      let d = sym_first kinds terms M K b.value within b.nodes in
      let f = sym_leaves kinds terms M K a.value d.value q z d.nodes in
      extends_both nodes a.nodes f.nodes (first_grows z.stopped here nodes)
      (extends_both a.nodes b.nodes f.nodes (stops.either_grows z.stopped here a.nodes)
      (extends_both b.nodes d.nodes f.nodes (first_grows b.value within b.nodes) (leaves_grows a.value d.value q z d.nodes)))

  left_gives : (here within : Id) (q : SymQuestion) (z : SymHalted S F) (nodes : List Node) → HasWidth nodes here 1 → HasWidth nodes within 1 →
      question_fits kind lower (question_worth v q) ≡ true → QuestionShaped nodes q →
      (halted_low low base).Has nodes z →
      Gives inputs v (sym_left kinds terms M K here within q z) nodes (IsLow inputs v base (if is_set v z.stopped then base.value v z.fallen else
      (if is_set v here then lose (low.value v z.to) else (if is_set v within then cut (question_worth v q) (low.value v z.to) else base.value v z.fallen))))
  left_gives here within q z nodes wh ww fit m p h =
      let a = sym_first kinds terms M K z.stopped here nodes in
      let b = K.either z.stopped here a.nodes in
      let d = sym_first kinds terms M K b.value within b.nodes in
      let f = sym_leaves kinds terms M K a.value d.value q z d.nodes in
      let ga = first_grows z.stopped here nodes in
      let gb = stops.either_grows z.stopped here a.nodes in
      let gd = first_grows b.value within b.nodes in
      let gf = leaves_grows a.value d.value q z d.nodes in
      let h3 = fits_fewer inputs v d.nodes f.nodes gf h in
      let h2 = fits_fewer inputs v b.nodes d.nodes gd h3 in
      let h1 = fits_fewer inputs v a.nodes b.nodes gb h2 in
      let to_b = extends_both nodes a.nodes b.nodes ga gb in
      let to_d = extends_both nodes b.nodes d.nodes to_b gd in
      let a_to_d = extends_both a.nodes b.nodes d.nodes gb gd in
      let pa = first_gives z.stopped here nodes p.2 wh h1 in
      let pb = stops.either_is z.stopped here a.nodes (wider nodes a.nodes z.stopped 1 ga p.2) (wider nodes a.nodes here 1 ga wh) h2 in
      let pd = first_gives b.value within b.nodes pb.wide (wider nodes b.nodes within 1 to_b ww) h3 in
      let pf = leaves_gives a.value d.value q z d.nodes (wider a.nodes d.nodes a.value 1 a_to_d pa.wide) pd.wide fit (may_wider nodes d.nodes q to_d m)
      ((halted_low low base).wider nodes d.nodes z to_d p) h in
      let s = is_set v z.stopped in let H = is_set v here in let W = is_set v within in
      let old = base.value v z.fallen in let lost = lose (low.value v z.to) in let left = cut (question_worth v q) (low.value v z.to) in
      record {
        has = pf.has;
        is = pf.is ∙ ap (λ k. if k then lost else (if is_set v d.value then left else old)) pa.is
            ∙ ap (λ k. if (if s then false else H) then lost else (if k then left else old)) pd.is
            ∙ ap (λ k. if (if s then false else H) then lost else (if (if k then false else W) then left else old)) pb.is ∙ first_counts s H W old lost left;
      }

  handle_grows : (i : ℕ) (q : SymQuestion) (z : SymHalted S F) → Grows (sym_halted kinds terms M K i q z)
  handle_grows i q z nodes =
      let a = K.bit (before_at i) nodes in let b = K.bit (within_at i) a.nodes in let f = sym_left kinds terms M K a.value b.value q z b.nodes in
      let c = K.either z.stopped a.value f.nodes in let d = K.either c.value b.value c.nodes in let e = M.handle i q z.to d.nodes in
      extends_both nodes a.nodes e.nodes (stops.bit_grows (before_at i) nodes) (extends_both a.nodes b.nodes e.nodes (stops.bit_grows (within_at i) a.nodes)
      (extends_both b.nodes f.nodes e.nodes (left_grows a.value b.value q z b.nodes)
      (extends_both f.nodes c.nodes e.nodes (stops.either_grows z.stopped a.value f.nodes)
      (extends_both c.nodes d.nodes e.nodes (stops.either_grows c.value b.value c.nodes) (laws.handle_grows i q z.to d.nodes)))))

  handle_gives : (i : ℕ) (q : SymQuestion) (z : SymHalted S F) (nodes : List Node) → question_fits kind lower (question_worth v q) ≡ true →
      QuestionShaped nodes q → (halted_low low base).Has nodes z →
      Gives inputs v (sym_halted kinds terms M K i q z) nodes
      (IsHandled inputs v (halted_low low base) lower (question_worth v q)
      (halted machine cut lose bits i (question_worth v q) ((halted_low low base).value v z)))
  handle_gives i q z nodes fit m p h =
      let a = K.bit (before_at i) nodes in let b = K.bit (within_at i) a.nodes in let f = sym_left kinds terms M K a.value b.value q z b.nodes in
      let c = K.either z.stopped a.value f.nodes in let d = K.either c.value b.value c.nodes in let e = M.handle i q z.to d.nodes in
      let ga = stops.bit_grows (before_at i) nodes in let gb = stops.bit_grows (within_at i) a.nodes in let gf = left_grows a.value b.value q z b.nodes in
      let gc = stops.either_grows z.stopped a.value f.nodes in let gd = stops.either_grows c.value b.value c.nodes in let ge =
      laws.handle_grows i q z.to d.nodes in
      let h5 = fits_fewer inputs v d.nodes e.nodes ge h in let h4 = fits_fewer inputs v c.nodes d.nodes gd h5 in let h3 =
      fits_fewer inputs v f.nodes c.nodes gc h4 in
      let h2 = fits_fewer inputs v b.nodes f.nodes gf h3 in let h1 = fits_fewer inputs v a.nodes b.nodes gb h2 in
      let to_b = extends_both nodes a.nodes b.nodes ga gb in let to_f = extends_both nodes b.nodes f.nodes to_b gf in
      let to_c = extends_both nodes f.nodes c.nodes to_f gc in let to_d = extends_both nodes c.nodes d.nodes to_c gd in
      let c_to_e = extends_both c.nodes d.nodes e.nodes gd ge in let f_to_e = extends_both f.nodes c.nodes e.nodes gc c_to_e in
      let a_to_f = extends_both a.nodes b.nodes f.nodes gb gf in let b_to_c = extends_both b.nodes f.nodes c.nodes gf gc in
      let pa = stops.bit_is (before_at i) nodes h1 in let pb = stops.bit_is (within_at i) a.nodes h2 in
      let pf = left_gives a.value b.value q z b.nodes (wider a.nodes b.nodes a.value 1 gb pa.wide) pb.wide fit (may_wider nodes b.nodes q to_b m)
      ((halted_low low base).wider nodes b.nodes z to_b p) h3 in
      let pc = stops.either_is z.stopped a.value f.nodes (wider nodes f.nodes z.stopped 1 to_f p.2) (wider a.nodes f.nodes a.value 1 a_to_f pa.wide) h4 in
      let pd = stops.either_is c.value b.value c.nodes pc.wide (wider b.nodes c.nodes b.value 1 b_to_c pb.wide) h5 in
      let pe = laws.handle i q z.to d.nodes fit (may_wider nodes d.nodes q to_d m) (low.wider nodes d.nodes z.to to_d p.0) h in
      let s = is_set v z.stopped in let W = is_set v b.value in let Q = question_worth v q in let old = base.value v z.fallen in let w = low.value v z.to in
      let fallen_is = pf.is ∙ ap (λ k. if s then old else (if k then lose w else (if W then cut Q w else old))) pa.is
      ∙ ap (λ k. if s then old else (if bits (before_at i) then lose w else (if k then cut Q w else old))) pb.is in
      let stopped_is = pd.is ∙ ap (λ k. k || W) pc.is ∙ ap (λ k. (s || k) || W) pa.is ∙ ap (λ k. (s || bits (before_at i)) || k) pb.is in
      record {
        shaped = pe.shaped;
        has = (pe.has, base.wider f.nodes e.nodes f.value f_to_e pf.has, wider d.nodes e.nodes d.value 1 ge pd.wide);
        answer = pe.answer;
        fits = pe.fits;
        is = joined _ _ _ _ _ _ pe.is fallen_is stopped_is;
      }

  halted_merge_grows : (t : Id) (a b : SymHalted S F) → Grows (merge_halted kinds terms M K t a b)
  halted_merge_grows t a b nodes =
      let x = M.merge t a.to b.to nodes in let y = K.merge t a.fallen b.fallen x.nodes in let z = K.pick t a.stopped b.stopped y.nodes in
      extends_both nodes x.nodes z.nodes (laws.merge_grows t a.to b.to nodes)
      (extends_both x.nodes y.nodes z.nodes (stops.merge_grows t a.fallen b.fallen x.nodes) (stops.pick_grows t a.stopped b.stopped y.nodes))

  halted_merge : (t : Id) (a b : SymHalted S F) (nodes : List Node) → HasWidth nodes t 1 → (halted_low low base).Has nodes a →
      (halted_low low base).Has nodes b →
      Gives inputs v (merge_halted kinds terms M K t a b) nodes
      (IsLow inputs v (halted_low low base) (if is_set v t then (halted_low low base).value v a else (halted_low low base).value v b))
  halted_merge t a b nodes d p q h =
      let x = M.merge t a.to b.to nodes in let y = K.merge t a.fallen b.fallen x.nodes in let z = K.pick t a.stopped b.stopped y.nodes in
      let gx = laws.merge_grows t a.to b.to nodes in let gy = stops.merge_grows t a.fallen b.fallen x.nodes in let gz =
      stops.pick_grows t a.stopped b.stopped y.nodes in
      let to_y = extends_both nodes x.nodes y.nodes gx gy in
      let h2 = fits_fewer inputs v y.nodes z.nodes gz h in let h1 = fits_fewer inputs v x.nodes y.nodes gy h2 in
      let px = laws.merge t a.to b.to nodes d p.0 q.0 h1 in
      let py = stops.merge_is t a.fallen b.fallen x.nodes (wider nodes x.nodes t 1 gx d) (base.wider nodes x.nodes a.fallen gx p.1)
      (base.wider nodes x.nodes b.fallen gx q.1) h2 in
      let pz = stops.pick_is t a.stopped b.stopped y.nodes (wider nodes y.nodes t 1 to_y d) (wider nodes y.nodes a.stopped 1 to_y p.2)
      (wider nodes y.nodes b.stopped 1 to_y q.2) h in
      record {
        has = (low.wider x.nodes z.nodes x.value (extends_both x.nodes y.nodes z.nodes gy gz) px.has, base.wider y.nodes z.nodes y.value gz py.has, pz.wide);
        is = joined _ _ _ _ _ _ px.is py.is pz.is ∙ parted (is_set v t) _ _ _ _ _ _;
      }

  pub halted_means : MachineMeans inputs v (halted_low low base) kind lower (halting_machine kinds terms M K) (halted machine cut lose bits)
  halted_means = record { merge_grows = halted_merge_grows; merge = halted_merge; handle_grows = handle_grows; handle = handle_gives }

  pub end_grows : (last : ℕ) (z : SymHalted S F) → Grows (sym_end kinds terms M K last z)
  end_grows last z nodes =
      let a = K.bit (before_at last) nodes in
      let w = sym_first kinds terms M K z.stopped a.value a.nodes in
      let l = K.lose z.to w.nodes in
      let y = K.merge w.value l.value z.fallen l.nodes in
      extends_both nodes a.nodes y.nodes (stops.bit_grows (before_at last) nodes)
      (extends_both a.nodes w.nodes y.nodes (first_grows z.stopped a.value a.nodes)
      (extends_both w.nodes l.nodes y.nodes (stops.lose_grows z.to w.nodes) (stops.merge_grows w.value l.value z.fallen l.nodes)))

  pub end_gives : (last : ℕ) (z : SymHalted S F) (nodes : List Node) → (halted_low low base).Has nodes z →
      Gives inputs v (sym_end kinds terms M K last z) nodes (IsLow inputs v base (halted_end machine cut lose bits last ((halted_low low base).value v z)))
  end_gives last z nodes p h =
      let a = K.bit (before_at last) nodes in
      let w = sym_first kinds terms M K z.stopped a.value a.nodes in
      let l = K.lose z.to w.nodes in
      let y = K.merge w.value l.value z.fallen l.nodes in
      let ga = stops.bit_grows (before_at last) nodes in
      let gw = first_grows z.stopped a.value a.nodes in
      let gl = stops.lose_grows z.to w.nodes in
      let gy = stops.merge_grows w.value l.value z.fallen l.nodes in
      let h3 = fits_fewer inputs v l.nodes y.nodes gy h in
      let h2 = fits_fewer inputs v w.nodes l.nodes gl h3 in
      let h1 = fits_fewer inputs v a.nodes w.nodes gw h2 in
      let to_w = extends_both nodes a.nodes w.nodes ga gw in
      let to_l = extends_both nodes w.nodes l.nodes to_w gl in
      let pa = stops.bit_is (before_at last) nodes h1 in
      let pw = first_gives z.stopped a.value a.nodes (wider nodes a.nodes z.stopped 1 ga p.2) pa.wide h2 in
      let pl = stops.lose_is z.to w.nodes (low.wider nodes w.nodes z.to to_w p.0) h3 in
      let py = stops.merge_is w.value l.value z.fallen l.nodes (wider w.nodes l.nodes w.value 1 gl pw.wide) pl.has
      (base.wider nodes l.nodes z.fallen to_l p.1) h in
      let s = is_set v z.stopped in let old = base.value v z.fallen in
      record {
        has = py.has;
        is = py.is ∙ ap (λ k. if k then base.value v l.value else old) pw.is
            ∙ ap (λ k. if (if s then false else k) then base.value v l.value else old) pa.is
            ∙ ap (λ k. if (if s then false else bits (before_at last)) then k else old) pl.is
            ∙ last_counts s (bits (before_at last)) old (lose (low.value v z.to));
      }
