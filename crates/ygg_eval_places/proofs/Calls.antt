-- Calls that a block of an implementation may make, and bits from a place on.
use Rattle.std.proofs.Common.{◌≡◌, ℕ, suc, ◌+◌, ◌-◌, ◌<◌, Bool, true, List, Some, is_some, sym, ap, ◌∙◌, subst, arith}
use mathlib.Core.Path.{fun_ext}
use Rattle.ygg_value.specs.declared.row.Value.{Value}
use Rattle.ygg_syntax.specs.declared.grammar.BlockKind.TheVariants.{Impl}
use Rattle.ygg_syntax.specs.declared.tree.Block.{Block}
use Rattle.ygg_syntax.specs.declared.tree.File.{File}
use Rattle.ygg_eval.specs.ygg_type_rules.Names.{Named, has}
use Rattle.ygg_eval.specs.ygg_type_rules.declared.scope.Signature.{Signature}
use Rattle.ygg_eval.specs.ygg_meaning.Environments.{Name}
use Rattle.ygg_eval.specs.ygg_meaning.Progress.{Call}
use Rattle.ygg_eval.specs.ygg_meaning.Shapes.{values_fit}
use Rattle.ygg_eval.specs.ygg_meaning_laws.Fitting.{all_fit}
use Rattle.ygg_eval.specs.ygg_meaning_laws.Questions.{question_fits}
use Rattle.ygg_eval.specs.ygg_meaning_laws_proofs_DiskServes.{fitting_call}
use Rattle.ygg_eval_places.specs.ygg_sym_runs_proofs_Chosen.{room}
use Rattle.ygg_eval_places.specs.ygg_sym_runs_proofs_SpecFalls.{bits_after}
use Rattle.ygg_eval.specs.Layers.{signatures_at, variables_at}
use Rattle.ygg_eval.specs.Lower.{IsCallable}
use Rattle.ygg_eval.specs.Ready.{IsPlace}
use Rattle.ygg_eval_places.specs.Bits.{bit_at, bits_in}
use Rattle.ygg_eval_places.specs.declared.bits.Choices.{Choices}

signature_is : (a b : Signature) → Some a ≡ Some b → a ≡ b
signature_is a b h = cc

module _ (operations : Named Signature) (name : Name) (args : List Value) (asks : question_fits Impl operations (Call name args) ≡ true) where
  -- the operation is there
  pub has_it : has name operations ≡ true
  has_it = ap is_some (fitting_call operations name args asks).found

  -- and may be called by its place
  pub callable : (place : ℕ) → IsPlace operations name place → IsCallable operations place args
  callable place there =
      let f = fitting_call operations name args asks in
      let same : f.operation ≡ there.operation = signature_is f.operation there.operation (sym f.found ∙ there.found) in
      record {
        name = name;
        operation = there.operation;
        is = there.is;
        fit = subst (λ (o : Signature). all_fit o.arguments args ≡ true) same f.fit;
      }

-- the bits from a place on
pub after_is : (c d : Choices) (place : ℕ) → d.bits.now ≡ c.bits.now → d.first ≡ c.first + place → bits_in d ≡ bits_after place (bits_in c)
after_is c d place b f =
    fun_ext (λ k.
    ap (λ (bits : List Bool). bit_at bits (d.first + k)) b
    ∙ ap (bit_at c.bits.now) (let e : d.first + k ≡ c.first + (place + k) = let g = f in omega (arith, g) in e))

-- those after all places of a block
pub after_room : (c d : Choices) (places : ℕ) (b : Block) → d.bits.now ≡ c.bits.now → d.first ≡ c.first + places → places ≡ room b →
    bits_in d ≡ bits_after (room b) (bits_in c)
after_room c d places b same first is = after_is c d places same first ∙ ap (λ n. bits_after n (bits_in c)) is

-- a number that isn't 0 is that of a layer
pub number_is : (number : ℕ) → 0 < number → suc (number - 1) ≡ number
number_is number more = omega (arith, more)

-- what is said of the machine with a number is said of the one with the same number
pub fits_as : (file : File) (number other : ℕ) (values : List Value) → number ≡ other → values_fit (variables_at file number) values ≡ true →
    values_fit (variables_at file other) values ≡ true
fits_as file number other values e h = subst (λ n. values_fit (variables_at file n) values ≡ true) e h

pub asks_as : (file : File) (number other : ℕ) (name : Name) (args : List Value) → number ≡ other →
    question_fits Impl (signatures_at file number) (Call name args) ≡ true → question_fits Impl (signatures_at file other) (Call name args) ≡ true
asks_as file number other name args e h = subst (λ n. question_fits Impl (signatures_at file n) (Call name args) ≡ true) e h
