-- What is made in the stead of an operation on one term twice, or on a term and a known word: 0, 1, or all ones.
use Rattle.std.specs.Prelude.{ℕ, Bool, ◌==◌, if◌then◌else◌, Option, Some, None}
use Rattle.ygg_value.specs.Number.{Number}
use Rattle.ygg_value.specs.Words.{word, not_of}
use Rattle.ygg_value.specs.declared.operation.Op.{Op}
use Rattle.ygg_value.specs.declared.operation.Op.TheVariants.{Sub, Mul, And, Or, Xor, Shl, Shr, Lt, Le, Gt, Ge, Imp}
use Rattle.ygg_shape_words.specs.ygg_bank.declared.node.Id.{Id}
use Rattle.ygg_shape_words.specs.ygg_bank.declared.node.Node.TheVariants.{Not}
use Rattle.ygg_shape_nodes.specs.declared.rules.Instead.{Instead}
use Rattle.ygg_shape_nodes.specs.declared.rules.Instead.TheVariants as instead

-- the digit 1, the digit 0, and the number 0 at a width
abbrev pub always : Instead
always = instead.Constant (word 1 1)

abbrev pub never : Instead
never = instead.Constant (word 1 0)

abbrev pub none_of : ℕ → Instead
none_of w = instead.Constant (word w 0)

-- of an operation on one term, which has this width, twice
abbrev pub twice : Op → ℕ → Id → Instead
twice And w a = instead.Term a
twice Or w a = instead.Term a
twice Sub w a = none_of w
twice Xor w a = none_of w
twice Le w a = always
twice Ge w a = always
twice Imp w a = always
twice Lt w a = never
twice Gt w a = never
twice op w a = instead.Itself

-- of an operation on a term and another, of which it is known whether they are one
abbrev pub twice_at : Bool → Op → ℕ → Id → Instead
twice_at same op w a = if same then twice op w a else instead.Itself

-- of an operation on 0 and a term
abbrev pub zero_first : Op → Id → Id → Instead
zero_first Imp a b = always
zero_first Le a b = always
zero_first Gt a b = never
zero_first Xor a b = instead.Term b
zero_first Mul a b = instead.Term a
zero_first Shl a b = instead.Term a
zero_first Shr a b = instead.Term a
zero_first op a b = instead.Itself

-- of an operation on all ones and a term
abbrev pub ones_first : Op → Id → Instead
ones_first Imp b = instead.Term b
ones_first Ge b = always
ones_first Lt b = never
ones_first op b = instead.Itself

-- of an operation on 1 and a term
abbrev pub one_first : Op → Id → Instead
one_first Mul b = instead.Term b
one_first op b = instead.Itself

-- of an operation on a term and 0
abbrev pub zero_second : Op → Id → Id → Instead
zero_second Imp a b = instead.Other (Not a)
zero_second Ge a b = always
zero_second Lt a b = never
zero_second Sub a b = instead.Term a
zero_second Xor a b = instead.Term a
zero_second Shl a b = instead.Term a
zero_second Shr a b = instead.Term a
zero_second Mul a b = instead.Term b
zero_second op a b = instead.Itself

-- of an operation on a term and all ones
abbrev pub ones_second : Op → Instead
ones_second Imp = always
ones_second Le = always
ones_second Gt = never
ones_second op = instead.Itself

-- of an operation on a term and 1
abbrev pub one_second : Op → Id → Instead
one_second Mul a = instead.Term a
one_second op a = instead.Itself

-- of an operation on a term, of which this is known, and another
abbrev pub known_first : Op → Id → Id → Option Number → Instead
known_first op a b (Some k) =
    if k.bits == 0 then zero_first op a b
    else (if (not_of k).bits == 0 then ones_first op b else (if k.bits == 1 then one_first op b else instead.Itself))
known_first op a b None = instead.Itself

-- of an operation on a term and another, of which this is known
abbrev pub known_second : Op → Id → Id → Option Number → Instead
known_second op a b (Some k) =
    if k.bits == 0 then zero_second op a b
    else (if (not_of k).bits == 0 then ones_second op else (if k.bits == 1 then one_second op a else instead.Itself))
known_second op a b None = instead.Itself
