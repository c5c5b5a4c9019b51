-- The text of the file that is made is the canonical text of its marks.
use Rattle.std.proofs.Common.{
  ◌≡◌,
  ℕ,
  zero,
  suc,
  Bool,
  false,
  if◌then◌else◌,
  List,
  [],
  ◌∷◌,
  ◌++◌,
  codes,
  Some,
  None,
  refl,
  sym,
  ap,
  ◌∙◌,
  append_assoc,
  append-nil,
  arith,
}
use Rattle.std.specs.Prelude.{not}
use Rattle.std.specs.Fmt.{decimal}
use Rattle.std.proofs.lemmas.Fmt.{decimal_digit}
use Rattle.ygg_base.specs.declared.token.Symbol.TheVariants as sign
use Rattle.ygg_base.specs.declared.token.Mark.{Mark}
use Rattle.ygg_base.specs.declared.token.Mark.TheVariants as mark
use Rattle.ygg_print.specs.Layout.{is_next, continues, line_end, previous_after, layout_from, layout}
use Rattle.ygg_yard.specs.Texts.{begun_with, operation_with, operations_text, file_ended, made}
use Rattle.ygg_yard.specs.Marks.{head_marks, operation_marks, operations_marks, tail_marks, made_marks}

-- a number with nothing behind it
bare : (digits rest : List ℕ) → (digits ++ []) ++ rest ≡ digits ++ rest
bare digits rest = ap (λ (ds : List ℕ). ds ++ rest) (append-nil digits)

one : decimal 1 ≡ 49 ∷ []
one = decimal_digit 1 (omega arith)

eight : decimal 8 ≡ 56 ∷ []
eight = decimal_digit 8 (omega arith)

-- a number of one digit
single : (n b : ℕ) → decimal n ≡ b ∷ [] → (rest : List ℕ) → (decimal n ++ []) ++ rest ≡ b ∷ rest
single n b e rest = bare (decimal n) rest ∙ ap (λ (ds : List ℕ). ds ++ rest) e

three : (a b c d e x : List ℕ) → ((((a ++ b) ++ c) ++ d) ++ e) ++ x ≡ a ++ (b ++ (c ++ (d ++ (e ++ x))))
three a b c d e x =
    append_assoc (((a ++ b) ++ c) ++ d) e x ∙ append_assoc ((a ++ b) ++ c) d (e ++ x) ∙ append_assoc (a ++ b) c (d ++ (e ++ x))
    ∙ append_assoc a b (c ++ (d ++ (e ++ x)))

five : (a b c d e f g x : List ℕ) → ((((((a ++ b) ++ c) ++ d) ++ e) ++ f) ++ g) ++ x ≡ a ++ (b ++ (c ++ (d ++ (e ++ (f ++ (g ++ x))))))
five a b c d e f g x =
    append_assoc (((((a ++ b) ++ c) ++ d) ++ e) ++ f) g x ∙ append_assoc ((((a ++ b) ++ c) ++ d) ++ e) f (g ++ x) ∙ three a b c d e (f ++ (g ++ x))

-- the end of a block after which a new line begins
closes : (rest : List Mark) → is_next continues rest ≡ false →
    line_end (mark.Symbol sign.BraceClose) rest ++ layout_from 1 (previous_after (mark.Symbol sign.BraceClose) rest) rest ≡ 10 ∷ layout_from 1 None rest
closes rest h = ap (λ (b : Bool). (if not b then 10 ∷ [] else []) ++ layout_from 1 (if not b then None else Some (mark.Symbol sign.BraceClose)) rest) h

module _ (number : ℕ) (rest : List Mark) where
  abbrev d : List ℕ
  d = decimal number

  -- what stands behind the last number of an operation
  abbrev behind_third : List ℕ
  behind_third = codes ", row(v));\n  }"
      ++ (line_end (mark.Symbol sign.BraceClose) rest ++ layout_from 1 (previous_after (mark.Symbol sign.BraceClose) rest) rest)

  abbrev from_third : List ℕ → List ℕ
  from_third x = codes "] = row(v);\n  } impl {\n    call write(" ++ ((d ++ []) ++ (codes ":" ++ x))

  abbrev from_second : List ℕ → List ℕ
  from_second x = codes ") spec {\n    t[" ++ ((d ++ []) ++ (codes ":" ++ x))

  abbrev from_first : List ℕ → List ℕ
  from_first x = codes "  op put_" ++ ((d ++ []) ++ (codes "(v : word " ++ x))

  abbrev eights : List ℕ → List ℕ
  eights x = (decimal 8 ++ []) ++ x

  laid : layout_from 1 None (operation_marks number ++ rest) ≡ from_first (eights (from_second (eights (from_third (eights behind_third)))))
  laid = refl

  spelled_operation : is_next continues rest ≡ false →
      layout_from 1 None (operation_marks number ++ rest) ≡ operation_with (decimal number) ++ layout_from 1 None rest
  spelled_operation h =
      laid
      ∙ ap (λ (x : List ℕ). from_first (eights (from_second (eights (from_third (eights (codes ", row(v));\n  }" ++ x))))))) (closes rest h)
      ∙ ap (λ (x : List ℕ). from_first (eights (from_second (eights (from_third x))))) (single 8 56 eight _)
      ∙ ap (λ (x : List ℕ). from_first (eights (from_second x))) (single 8 56 eight _)
      ∙ ap from_first (single 8 56 eight _)
      ∙ ap (λ (x : List ℕ). codes "  op put_" ++ x) (bare d _)
      ∙ ap (λ (x : List ℕ). codes "  op put_" ++ (d ++ (codes "(v : word 8) spec {\n    t[" ++ x))) (bare d _)
      ∙ ap (λ (x : List ℕ). codes "  op put_" ++ (d ++ (codes "(v : word 8) spec {\n    t["
      ++ (d ++ (codes ":8] = row(v);\n  } impl {\n    call write(" ++ x)))))
      (bare d (codes ":8, row(v));\n  }\n" ++ layout_from 1 None rest))
      ∙ sym (five (codes "  op put_") d (codes "(v : word 8) spec {\n    t[") d (codes ":8] = row(v);\n  } impl {\n    call write(") d
      (codes ":8, row(v));\n  }\n") (layout_from 1 None rest))

spelled_operations : (count : ℕ) (rest : List Mark) → is_next continues rest ≡ false →
    layout_from 1 None (operations_marks count ++ rest) ≡ operations_text count ++ layout_from 1 None rest
spelled_operations zero rest h = refl
spelled_operations (suc number) rest h =
    ap (layout_from 1 None) (append_assoc (operations_marks number) (operation_marks number) rest)
    ∙ spelled_operations number (operation_marks number ++ rest) refl
    ∙ ap (λ (x : List ℕ). operations_text number ++ x) (spelled_operation number rest h)
    ∙ sym (append_assoc (operations_text number) (operation_with (decimal number)) (layout_from 1 None rest))

spelled_head : (count : ℕ) (rest : List Mark) → layout_from 0 None (head_marks count ++ rest) ≡ begun_with (decimal count) ++ layout_from 1 None rest
spelled_head count rest =
    laid_head
    ∙ ap (λ (x : List ℕ). first (ones (second (ones (of (eights_of (third (ones (of x)))))))))
    (single 8 56 eight (codes ";\n" ++ layout_from 1 None rest))
    ∙ ap (λ (x : List ℕ). first (ones (second (ones (of (eights_of (third x))))))) (single 1 49 one _)
    ∙ ap (λ (x : List ℕ). first (ones (second (ones (of x))))) (single 8 56 eight _)
    ∙ ap (λ (x : List ℕ). first (ones (second x))) (single 1 49 one _)
    ∙ ap first (single 1 49 one _)
    ∙ ap (λ (x : List ℕ). codes "yggdrasil 1;\ndisk sync " ++ x) (bare c _)
    ∙ ap (λ (x : List ℕ). codes "yggdrasil 1;\ndisk sync " ++ (c ++ (codes " of 1 of 8;\nlayer cells {\n  state t : table " ++ x)))
    (bare c (codes " of 1 of 8;\n" ++ layout_from 1 None rest))
    ∙ sym (three (codes "yggdrasil 1;\ndisk sync ") c (codes " of 1 of 8;\nlayer cells {\n  state t : table ") c (codes " of 1 of 8;\n")
    (layout_from 1 None rest))
  where
    c : List ℕ
    c = decimal count

    ones : List ℕ → List ℕ
    ones x = (decimal 1 ++ []) ++ x

    eights_of : List ℕ → List ℕ
    eights_of x = (decimal 8 ++ []) ++ x

    of : List ℕ → List ℕ
    of x = codes " of " ++ x

    first : List ℕ → List ℕ
    first x = codes "yggdrasil " ++ x

    second : List ℕ → List ℕ
    second x = codes ";\ndisk sync " ++ ((c ++ []) ++ (codes " of " ++ x))

    third : List ℕ → List ℕ
    third x = codes ";\nlayer cells {\n  state t : table " ++ ((c ++ []) ++ (codes " of " ++ x))

    laid_head : layout_from 0 None (head_marks count ++ rest)
        ≡ first (ones (second (ones (of (eights_of (third (ones (of (eights_of (codes ";\n" ++ layout_from 1 None rest))))))))))
    laid_head = refl

pub is_canonical : (count : ℕ) → made count ≡ layout (made_marks count)
is_canonical count =
    append_assoc (begun_with (decimal count)) (operations_text count) file_ended
    ∙ ap (λ (x : List ℕ). begun_with (decimal count) ++ x) (sym (spelled_operations count tail_marks refl))
    ∙ sym (spelled_head count (operations_marks count ++ tail_marks))
