-- What the type errors of a file say of its sizes, where there are none.
use Rattle.std.proofs.Common.{◌≡◌, ℕ, ◌<◌, ◌≤◌, ◌+◌, ◌*◌, Bool, true, false, arith, List, [], ◌∷◌, length, slice_get, Some, refl, subst}
use Rattle.std.specs.Prelude.{not, ◌&&◌, ◌==◌, nat_le}
use Rattle.std.specs.List.{list_all}
use Rattle.std.proofs.lemmas.Bool.Decides.{nat_tests}
use Rattle.std.proofs.lemmas.List.Elements.{All-get_or}
use Rattle.std.proofs.lemmas.List.Sums.{AllPass-from_list_all}
use Rattle.std.proofs.lemmas.Option.{get_or_from_slice_get, slice_get_within}
use Rattle.ygg_base.specs.declared.reason.Reason.{Reason}
use Rattle.ygg_base.specs.declared.reason.Reason.TheVariants as reason
use Rattle.ygg_syntax.specs.declared.tree.Place.{Place}
use Rattle.ygg_syntax.specs.declared.tree.DiskText.{DiskText}
use Rattle.ygg_syntax.specs.declared.tree.Layer.{Layer}
use Rattle.ygg_syntax.specs.declared.tree.File.{File}
use Rattle.ygg_type.specs.ygg_syntax.Weights.{Weights, weights_of}
use Rattle.ygg_type.specs.ygg_type_rules.Names.{Named, added}
use Rattle.ygg_type.specs.ygg_type_rules.declared.scope.Signature.{Signature}
use Rattle.ygg_type.specs.ygg_type_rules.TypeErrors.{none, unless}
use Rattle.ygg_type.specs.ygg_type_rules.Limits.{width_fits, rows_fit, words_fit_in}
use Rattle.ygg_type.specs.ygg_type_rules.Definitions.{definitions_errors, with_definitions}
use Rattle.ygg_type.specs.ygg_type_rules.Layers.{Known, Below, below_of}
use Rattle.ygg_type.specs.ygg_type_rules.Files.{disk_errors, disk_below, count_error, layer_errors, layers_errors, type_errors_of}
use Rattle.ygg_type.specs.Typed.{has_few}
use Rattle.ygg_type.proofs.Least.{and_left, and_right}

-- a test passes where there is no type error unless it does
passes : (test : Bool) (why : Reason) (place : Place) → none (unless test why place) ≡ true → test ≡ true
passes true why place h = refl
passes false why place h = h

not_eight : (n : ℕ) → not (n == 8) ≡ true → n ≤ 8 → n < 8
not_eight n h k = grind (arith, nat_tests)

layers_fit : (ls : List Layer) (n : ℕ) (names : Known) (defs : Named Signature) (below : Below) (weights : Weights) → n ≤ 8 →
    none (layers_errors ls n names defs below weights) ≡ true → n + length ls ≤ 8
layers_fit [] n names defs below weights h e = omega arith
layers_fit (l ∷ ls) n names defs below weights h e =
    let rest = and_right (none (count_error n l)) _ e in
    let few : n < 8 = not_eight n (passes (not (n == 8)) reason.Limit l.place (and_left (none (count_error n l)) _ e)) h in
    let more : n + 1 ≤ 8 = omega arith in
    let others : (n + 1) + length ls ≤ 8 =
    layers_fit ls (n + 1) (added l.name.text tt names) defs (below_of l) weights more (and_right (none (layer_errors l names defs below weights)) _ rest) in
    omega arith

-- a file has 8 layers at most
pub few_layers : (file : File) → none (type_errors_of file) ≡ true → length file.layers ≤ 8
few_layers file e =
    let within : 0 + length file.layers ≤ 8 =
    layers_fit file.layers 0 [] (with_definitions file.defs []) (disk_below file.disk) (weights_of file.defs) (omega arith)
    (and_right (none (definitions_errors file.defs [] [])) _ (and_right (none (disk_errors file.disk)) _ e)) in
    omega arith

-- the numbers of a disk
pub record DiskFits (disk : DiskText) : Type 0 where
  pub some_rows : 1 ≤ disk.rows.value
  pub rows : disk.rows.value ≤ 256
  pub some_words : 1 ≤ disk.words.value
  pub words : disk.words.value ≤ 64
  pub some_width : 1 ≤ disk.width.value
  pub width : disk.width.value ≤ 64
  pub all : disk.rows.value * disk.words.value ≤ 4096

fits : (disk : DiskText) → rows_fit disk.rows.value ≡ true → words_fit_in disk.rows.value disk.words.value ≡ true → width_fits disk.width.value ≡ true
    → DiskFits disk
fits disk r m w = record {
  some_rows = grind (arith, nat_tests);
  rows = grind (arith, nat_tests);
  some_words = grind (arith, nat_tests);
  words = grind (arith, nat_tests);
  some_width = grind (arith, nat_tests);
  width = grind (arith, nat_tests);
  all = grind (arith, nat_tests);
}

pub disk_fits : (disk : DiskText) → none (disk_errors disk) ≡ true → DiskFits disk
disk_fits disk e =
    let others = and_right (none (unless (rows_fit disk.rows.value) reason.Limit disk.rows.place)) _ e in
    fits disk (passes (rows_fit disk.rows.value) reason.Limit disk.rows.place
    (and_left (none (unless (rows_fit disk.rows.value) reason.Limit disk.rows.place)) _ e))
    (passes (words_fit_in disk.rows.value disk.words.value) reason.Limit disk.words.place
    (and_left (none (unless (words_fit_in disk.rows.value disk.words.value) reason.Limit disk.words.place)) _ others))
    (passes (width_fits disk.width.value) reason.Width disk.width.place
    (and_right (none (unless (words_fit_in disk.rows.value disk.words.value) reason.Limit disk.words.place)) _ others))

-- what holds of all holds of each
pub all_get : (p : Layer → Bool) (ls : List Layer) (k : ℕ) (l : Layer) → list_all p ls ≡ true → slice_get ls k ≡ Some l → p l ≡ true
all_get p ls k l h e =
    subst (λ x. p x ≡ true) (get_or_from_slice_get ls k l l e) (All-get_or (λ x. p x ≡ true) ls k l (slice_get_within ls k l e) (AllPass-from_list_all p ls h))

few_of_both : (n m : ℕ) → (nat_le n 4294967296 && nat_le m 4294967296) ≡ true → (n ≤ 4294967296) × (m ≤ 4294967296)
few_of_both n m h = (grind (arith, nat_tests), grind (arith, nat_tests))

pub few_operations : (ls : List Layer) (k : ℕ) (l : Layer) → list_all has_few ls ≡ true → slice_get ls k ≡ Some l → length l.operations ≤ 4294967296
few_operations ls k l h e = (few_of_both (length l.operations) (length l.ticks) (all_get has_few ls k l h e)).0

pub few_ticks : (ls : List Layer) (k : ℕ) (l : Layer) → list_all has_few ls ≡ true → slice_get ls k ≡ Some l → length l.ticks ≤ 4294967296
few_ticks ls k l h e = (few_of_both (length l.operations) (length l.ticks) (all_get has_few ls k l h e)).1
