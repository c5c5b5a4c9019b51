-- What is asked of the parts of stops.
use Rattle.std.proofs.Common.{◌≡◌, ℕ, ◌||◌, Bool, true, if◌then◌else◌, List}
use Rattle.ygg_syntax.specs.declared.grammar.BlockKind.{BlockKind}
use Rattle.ygg_sym_runs.specs.ygg_type_rules.Names.{Named}
use Rattle.ygg_sym_runs.specs.ygg_type_rules.declared.scope.Signature.{Signature}
use Rattle.ygg_sym_runs.specs.ygg_meaning.Progress.{Question}
use Rattle.ygg_sym_runs.specs.ygg_meaning_laws.Questions.{question_fits}
use Rattle.ygg_sym_runs.specs.ygg_bank_proofs_Widths.{wider}
use Rattle.ygg_sym_runs.specs.ygg_bank.Nodes.{HasWidth}
use Rattle.ygg_sym_runs.specs.ygg_bank.Values.{Inputs, Values}
use Rattle.ygg_sym_runs.specs.ygg_bank.declared.node.Id.{Id}
use Rattle.ygg_sym_runs.specs.ygg_bank.declared.node.Node.{Node}
use Rattle.ygg_sym_runs.specs.ExpressionMeaning.{Grows, Gives}
use Rattle.ygg_sym_runs.specs.Runs.{SymQuestion}
use Rattle.ygg_sym_runs.specs.Meaning.{Low, question_worth, is_set, QuestionShaped, IsLow}
use Rattle.ygg_sym_runs.specs.Stops.{Halted}
use Rattle.ygg_sym_runs.specs.StopTerms.{SymHalted, Stops}

-- a term of one digit that says whether
pub record IsTest (v : Values) (want : Bool) (nodes : List Node) (t : Id) : Type 0 where
  pub wide : HasWidth nodes t 1
  pub is : is_set v t ≡ want

module _ {S F L B : Type 0} (low : Low S L) (base : Low F B) where
  abbrev pub halted_low : Low (SymHalted S F) (Halted L B)
  halted_low = record {
    value = λ v z. record { to = low.value v z.to; fallen = base.value v z.fallen; stopped = is_set v z.stopped };
    Has = λ nodes z. low.Has nodes z.to × base.Has nodes z.fallen × HasWidth nodes z.stopped 1;
    wider = λ old new z g h. (low.wider old new z.to g h.0, base.wider old new z.fallen g h.1, wider old new z.stopped 1 g h.2);
  }

  pub record StopsMean (inputs : Inputs) (v : Values) (kind : BlockKind) (lower : Named Signature) (K : Stops S F) (cut : Question → L → B)
      (lose : L → B) (bits : ℕ → Bool) : Type 0 where
    pub bit_grows : (n : ℕ) → Grows (K.bit n)
    pub bit_is : (n : ℕ) (nodes : List Node) → Gives inputs v (K.bit n) nodes (IsTest v (bits n))
    pub cut_grows : (q : SymQuestion) (s : S) → Grows (K.cut q s)
    pub cut_is : (q : SymQuestion) (s : S) (nodes : List Node) → question_fits kind lower (question_worth v q) ≡ true → QuestionShaped nodes q →
        low.Has nodes s →
        Gives inputs v (K.cut q s) nodes (IsLow inputs v base (cut (question_worth v q) (low.value v s)))
    pub lose_grows : (s : S) → Grows (K.lose s)
    pub lose_is : (s : S) (nodes : List Node) → low.Has nodes s → Gives inputs v (K.lose s) nodes (IsLow inputs v base (lose (low.value v s)))
    pub merge_grows : (t : Id) (a b : F) → Grows (K.merge t a b)
    pub merge_is : (t : Id) (a b : F) (nodes : List Node) → HasWidth nodes t 1 → base.Has nodes a → base.Has nodes b →
        Gives inputs v (K.merge t a b) nodes (IsLow inputs v base (if is_set v t then base.value v a else base.value v b))
    pub either_grows : (a b : Id) → Grows (K.either a b)
    pub either_is : (a b : Id) (nodes : List Node) → HasWidth nodes a 1 → HasWidth nodes b 1 →
        Gives inputs v (K.either a b) nodes (IsTest v (is_set v a || is_set v b))
    pub pick_grows : (t a b : Id) → Grows (K.pick t a b)
    pub pick_is : (t a b : Id) (nodes : List Node) → HasWidth nodes t 1 → HasWidth nodes a 1 → HasWidth nodes b 1 →
        Gives inputs v (K.pick t a b) nodes (IsTest v (if is_set v t then is_set v a else is_set v b))
