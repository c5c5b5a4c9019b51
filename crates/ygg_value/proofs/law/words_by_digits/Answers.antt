use Rattle.std.proofs.lemmas.Nat.Bits.{bit_at_and, bit_at_or, bit_at_xor}
use Rattle.ygg_value.proofs.ByDigits.{same_from_digits, bit_at-not_of}
use Rattle.ygg_value.proofs.law.words_by_digits.Goals as goal

pub returns : goal.returns
returns c = record {
  words = same_from_digits;
  and = λ a b. bit_at_and a.bits b.bits;
  or = λ a b. bit_at_or a.bits b.bits;
  xor = λ a b. bit_at_xor a.bits b.bits;
  not = bit_at-not_of;
}
