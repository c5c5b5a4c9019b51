-- What blocks of a specification over terms run on: each choice takes the pick of its place.
use Rattle.std.proofs.Common.{◌≡◌, ◌+◌, ◌==◌, ℕ, Bool, true, false, ◌&&◌, if◌then◌else◌, List, [], ◌∷◌, map, All, Some, refl, ap, ◌∙◌, subst, arith}
use Rattle.std.proofs.lemmas.List.Elements.{All-head, All-tail}
use Rattle.ygg_value.specs.Number.{Number}
use Rattle.ygg_value.specs.Words.{word, bit_of}
use Rattle.ygg_value.specs.Values.{digit}
use Rattle.ygg_value.specs.declared.row.Value.TheVariants as value
use Rattle.ygg_value.specs.declared.shape.Shape.TheVariants as shape
use Rattle.ygg_syntax.specs.declared.grammar.BlockKind.TheVariants.{Spec}
use Rattle.ygg_syntax.specs.declared.tree.Declared.{Declared}
use Rattle.ygg_sym_runs.specs.ygg_type_rules.Names.{Named}
use Rattle.ygg_sym_runs.specs.ygg_type_rules.declared.scope.Signature.{Signature}
use Rattle.ygg_sym_runs.specs.ygg_meaning.Environments.{Name, bind}
use Rattle.ygg_sym_runs.specs.ygg_meaning.Shapes.{shape_in, fits, env_fits}
use Rattle.ygg_sym_runs.specs.ygg_meaning.Progress.{Question}
use Rattle.ygg_sym_runs.specs.ygg_meaning_laws_proofs_Tests.{left as first_of, right as second_of, bytes_same}
use Rattle.ygg_sym_runs.specs.ygg_meaning_laws_proofs_Fits.{has_fits, digit_has}
use Rattle.ygg_sym_runs.specs.ygg_meaning_laws.Questions.{question_fits}
use Rattle.ygg_sym_runs.specs.ygg_meaning_laws_proofs_ProgressFits.{one_shape}
use Rattle.ygg_sym_runs.specs.ygg_rules.declared.rule.RuleKind.{RuleKind}
use Rattle.ygg_sym_runs.specs.ygg_bank_proofs_Widths.{extends_self}
use Rattle.ygg_sym_runs.specs.ygg_bank.Makes.{Make}
use Rattle.ygg_sym_runs.specs.ygg_bank.Nodes.{HasWidth}
use Rattle.ygg_sym_runs.specs.ygg_bank.Values.{Inputs, Values, Fits}
use Rattle.ygg_sym_runs.specs.ygg_bank.declared.node.Id.{Id}
use Rattle.ygg_sym_runs.specs.ygg_bank.declared.node.Node.{Node}
use Rattle.ygg_sym_runs.specs.ygg_shape_cells.Terms.{worth}
use Rattle.ygg_sym_runs.specs.ygg_shape_cells.declared.terms.SymValue.{SymValue}
use Rattle.ygg_sym_runs.specs.ygg_meaning_laws.Direct.{Handled}
use Rattle.ygg_sym_runs.specs.Names.{SymEnv}
use Rattle.ygg_sym_runs.specs.ygg_shape_cells.Terms.{IsShaped}
use Rattle.ygg_sym_runs.specs.ExpressionMeaning.{SomeShape, EnvShaped, Grows, Gives, worths}
use Rattle.ygg_sym_runs.specs.Runs.{SymQuestion, Choice, Call}
use Rattle.ygg_sym_runs.specs.Meaning.{Low, question_worth, is_set, IsHandled, MachineMeans}
use Rattle.ygg_sym_runs.proofs.Worths.{NameShaped, shape_fits}
use Rattle.ygg_sym_runs.specs.Lows.{LowShaped, low_worth}
use Rattle.ygg_sym_runs.specs.Names.{sym_bind}
use Rattle.ygg_sym_runs.specs.Specs.{Nothing, chooses, sym_chooser, input_pick, given_pick}
use Rattle.ygg_sym_runs.specs.ygg_meaning_laws.Acts.{next_of}
use Rattle.ygg_sym_runs.specs.ygg_meaning_laws.Places.{left_after}
use Rattle.ygg_sym_runs.specs.ygg_meaning.Machine.{Picks}
use Rattle.ygg_value.specs.Number.{IsWord}
use Rattle.ygg_sym_runs.specs.ygg_bank_proofs_Made.{made_grows, added_there}
use Rattle.ygg_sym_runs.specs.ygg_bank_proofs_Widths.{own_width}
use Rattle.ygg_sym_runs.specs.ygg_bank.Making.{added}
use Rattle.ygg_sym_runs.specs.ygg_bank.declared.node.Node.TheVariants.{Input, Const}
use Rattle.ygg_sym_runs.specs.ygg_shape_words_proofs_Terms.{made_is, digit_is}
use Rattle.std.specs.Str.{bytes_eq}
use Rattle.std.proofs.lemmas.List.Elements.{All-cons, All-nil}

-- a machine that answers each choice by the pick of its place
abbrev pub choose_at : (ℕ → Bool) → ℕ → Question → Nothing → Handled Nothing
choose_at bits i q z = record { answer = Some (digit (bits i)); to = z }

abbrev pub low_nothing : Low Nothing Nothing
low_nothing = record { value = λ v s. s; Has = λ nodes s. Nothing; wider = λ old new s g h. tt }

-- a pick that is the bit of its place
pub record PickMeans (inputs : Inputs) (v : Values) (pick : ℕ → Make Id) (bits : ℕ → Bool) : Type 0 where
  pub grows : (i : ℕ) → Grows (pick i)
  pub wide : (i : ℕ) (nodes : List Node) → Gives inputs v (pick i) nodes (λ new a. HasWidth new a 1)
  pub is : (i : ℕ) (nodes : List Node) → Gives inputs v (pick i) nodes (λ new a. v a.0 ≡ word 1 (bit_of (bits i)))

one_if : (c : Bool) (a b : Nothing) → a ≡ (if c then a else b)
one_if true a b = refl
one_if false a b = refl

module _ (inputs : Inputs) (v : Values) (pick : ℕ → Make Id) (bits : ℕ → Bool) (means : PickMeans inputs v pick bits) (lower : Named Signature) where
  chooses_grow : (i : ℕ) (q : SymQuestion) (s : Nothing) → Grows (chooses pick i q s)
  chooses_grow i Choice s nodes = means.grows i nodes
  chooses_grow i (Call f xs) s nodes = extends_self nodes

  pub chooser_means : MachineMeans inputs v low_nothing Spec lower (sym_chooser pick) (choose_at bits)
  chooser_means = record {
    merge_grows = λ t a b nodes. extends_self nodes;
    merge = λ t a b nodes w p q h. record { has = tt; is = one_if (is_set v t) a b };
    handle_grows = λ i q s nodes. chooses_grow i q s nodes;
    handle = λ i q s nodes may shaped p h. handled i q s nodes may h;
  }
    where
      handled : (i : ℕ) (q : SymQuestion) (s : Nothing) (nodes : List Node) → question_fits Spec lower (question_worth v q) ≡ true →
          Gives inputs v (chooses pick i q s) nodes (IsHandled inputs v low_nothing lower (question_worth v q) (choose_at bits i (question_worth v q) s))
      handled i Choice s nodes may h =
          let o = pick i nodes in
          record {
            shaped = record { shape = shape.Word 1; stands = record { limits = (omega arith, omega arith); has = means.wide i nodes h } };
            answer = ap (λ k. Some (value.Word k)) (means.is i nodes h);
            fits = has_fits (shape.Word 1) (digit (bits i)) (digit_has (bits i));
            has = tt;
            is = refl;
          }
      handled i (Call f xs) s nodes may h = absurd (cc)

module _ (inputs : Inputs) (v : Values) (kinds : List RuleKind) where
  pub input_pick_means : (first : ℕ) → PickMeans inputs v (input_pick kinds first) (λ i. inputs (first + i) == 1)
  input_pick_means first = record {
    grows = λ i nodes. made_grows kinds (Input (first + i) 1) nodes;
    wide = λ i nodes h. let o = added (Input (first + i) 1) nodes in
        own_width o.nodes o.value.0 (Input (first + i) 1) h.ordered (added_there (Input (first + i) 1) nodes);
    is = λ i nodes h.
        let o = added (Input (first + i) 1) nodes in
        let there = added_there (Input (first + i) 1) nodes in
        let wide = own_width o.nodes o.value.0 (Input (first + i) 1) h.ordered there in
        let e = h.values o.value.0 (Input (first + i) 1) there in
        digit_is (v o.value.0) (h.words o.value.0) (h.widths o.value.0 1 wide) ∙ ap (λ (k : Number). word 1 (bit_of (k.bits == 1))) e;
  }

  digit_word : (b : Bool) → IsWord (word 1 (bit_of b))
  digit_word true = record { least = omega arith; most = omega arith; fits = omega arith }
  digit_word false = record { least = omega arith; most = omega arith; fits = omega arith }

  -- picks that were handed in
  pub given_pick_means : (picks : Picks) → PickMeans inputs v (given_pick kinds picks) (λ i. next_of false (left_after i picks))
  given_pick_means picks = record {
    grows = λ i nodes. made_grows kinds (Const (word 1 (bit_of (next_of false (left_after i picks))))) nodes;
    wide = λ i nodes h.
        let b = next_of false (left_after i picks) in let m = made_is inputs v kinds (Const (word 1 (bit_of b))) nodes (digit_word b) h in m.wide;
    is = λ i nodes h.
        let b = next_of false (left_after i picks) in let m = made_is inputs v kinds (Const (word 1 (bit_of b))) nodes (digit_word b) h in m.is;
  }

  pub bound_worth : (ps : List Declared) (xs : List SymValue) → worths v (sym_bind ps xs) ≡ bind ps (map (worth v) xs)
  bound_worth [] xs = refl
  bound_worth (p ∷ ps) [] = refl
  bound_worth (p ∷ ps) (x ∷ xs) = ap (λ env. (p.name.text, worth v x) ∷ env) (bound_worth ps xs)

  pub bound_shaped : (ps : List Declared) (xs : List SymValue) (nodes : List Node) → All (SomeShape nodes) xs → EnvShaped nodes (sym_bind ps xs)
  bound_shaped [] xs nodes h = All-nil (NameShaped nodes)
  bound_shaped (p ∷ ps) [] nodes h = All-nil (NameShaped nodes)
  bound_shaped (p ∷ ps) (x ∷ xs) nodes h =
      All-cons (NameShaped nodes) (p.name.text, x) (sym_bind ps xs) (All-head (SomeShape nodes) x xs h)
      (bound_shaped ps xs nodes (All-tail (SomeShape nodes) x xs h))

  pub low_shaped : (ds : List Declared) (xs : List SymValue) (nodes : List Node) → LowShaped nodes ds xs → EnvShaped nodes (sym_bind ds xs)
  low_shaped [] [] nodes h = All-nil (NameShaped nodes)
  low_shaped [] (x ∷ xs) nodes h = absurd h
  low_shaped (d ∷ ds) [] nodes h = absurd h
  low_shaped (d ∷ ds) (x ∷ xs) nodes h =
      All-cons (NameShaped nodes) (d.name.text, x) (sym_bind ds xs) (record { shape = shape_in d.shape; stands = h.0 }) (low_shaped ds xs nodes h.1)

  -- variables of the declared shapes are a state again
  pub record Back (ds : List Declared) (env : SymEnv) (nodes : List Node) : Type 0 where
    pub has : LowShaped nodes ds (map (λ (b : Name × SymValue). b.1) env)
    pub is : low_worth v ds (map (λ (b : Name × SymValue). b.1) env) ≡ worths v env

  pub lows_back : (ds : List Declared) (env : SymEnv) (nodes : List Node) → Fits inputs v nodes → EnvShaped nodes env → env_fits ds (worths v env) ≡ true →
      Back ds env nodes
  lows_back [] [] nodes h s e = record { has = tt; is = refl }
  lows_back [] (b ∷ env) nodes h s e = absurd (cc)
  lows_back (d ∷ ds) [] nodes h s e = absurd (cc)
  lows_back (d ∷ ds) (b ∷ env) nodes h s e =
      let name = bytes_eq d.name.text b.0 in
      let fit = fits (shape_in d.shape) (worth v b.1) in
      let rest = env_fits ds (worths v env) in
      let here = first_of (name && fit) rest e in
      let i = All-head (NameShaped nodes) b env s in
      let same = one_shape i.shape (shape_in d.shape) (worth v b.1) (shape_fits inputs v nodes i.shape b.1 h i.stands) (second_of name fit here) in
      let r = lows_back ds env nodes h (All-tail (NameShaped nodes) b env s) (second_of (name && fit) rest e) in
      record {
        has = (subst (λ z. IsShaped nodes z b.1) same i.stands, r.has);
        is = ap (λ n. (n, worth v b.1) ∷ low_worth v ds (map (λ (b : Name × SymValue). b.1) env)) (bytes_same d.name.text b.0 (first_of name fit here))
            ∙ ap (λ rest. (b.0, worth v b.1) ∷ rest) r.is;
      }
