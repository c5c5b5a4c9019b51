-- A file that fewer than 2 ^ 32 tokens derive has few operations and background steps.
use Rattle.std.proofs.Common.{◌≡◌, ℕ, ◌≤◌, ◌<◌, ◌^◌, Bool, true, arith, List, [], ◌∷◌, length, Option, Some, None, refl}
use Rattle.std.specs.Prelude.{◌&&◌, nat_le, map}
use Rattle.std.specs.List.{list_all}
use Rattle.std.proofs.lemmas.Bool.Decides.{nat_tests}
use Rattle.ygg_base.specs.declared.token.Keyword.{Keyword}
use Rattle.ygg_base.specs.declared.token.Keyword.TheVariants as word
use Rattle.ygg_base.specs.declared.token.Mark.TheVariants as mark
use Rattle.ygg_base.specs.declared.token.Token.{Token}
use Rattle.ygg_syntax.specs.declared.grammar.BlockKind.TheVariants.{Plain, Spec, Impl}
use Rattle.ygg_syntax.specs.declared.grammar.Sort.{Sort}
use Rattle.ygg_syntax.specs.declared.grammar.Sort.TheVariants as sorts
use Rattle.ygg_syntax.specs.declared.tree.Place.{Place}
use Rattle.ygg_syntax.specs.declared.tree.TypeText.{TypeText}
use Rattle.ygg_syntax.specs.declared.tree.TypeText.TheVariants as shape
use Rattle.ygg_syntax.specs.declared.tree.Declared.{Declared}
use Rattle.ygg_syntax.specs.declared.tree.Expr.{Expr}
use Rattle.ygg_syntax.specs.declared.tree.Block.{Block}
use Rattle.ygg_syntax.specs.declared.tree.Def.{Def}
use Rattle.ygg_syntax.specs.declared.tree.DiskText.{DiskText}
use Rattle.ygg_syntax.specs.declared.tree.Operation.{Operation}
use Rattle.ygg_syntax.specs.declared.tree.Tick.{Tick}
use Rattle.ygg_syntax.specs.declared.tree.Layer.{Layer}
use Rattle.ygg_syntax.specs.declared.tree.File.{File}
use Rattle.ygg_syntax.specs.Reading.{Reading, starts, takes, in_turn}
use Rattle.ygg_syntax.specs.Blocks.{block, block_phrase, is_nowhere, is_unwritten}
use Rattle.ygg_syntax.specs.Files.{
  IsDerivable,
  type_in,
  declared,
  more_declared,
  any_declared,
  disk_text,
  definition,
  variable,
  claim,
  on_crash,
  operation_blocks,
  operation,
  tick,
  crash_block,
  layer,
  layers,
}
use Rattle.ygg_type.specs.Typed.{has_few}
use Rattle.ygg_type.proofs.Shorter.{
  Takes,
  Take,
  all_of,
  split,
  done,
  pass,
  here,
  some_tokens,
  one_token,
  token,
  each_takes,
  expr_taken,
  either,
  block_taken,
  answering_taken,
  optional_block_taken,
}

type_taken : (sort : Sort) (t : TypeText) → Takes 0 (type_in sort t)
type_taken sort (shape.Word w) = all_of (token _ (token _ done))
type_taken sort (shape.Row m w) = all_of (token _ (token _ (token _ (token _ done))))
type_taken sorts.All (shape.Table n m w) = all_of (token _ (token _ (token _ (token _ (token _ (token _ done))))))
type_taken sorts.Small (shape.Table n m w) = record { takes = λ from rest h. absurd (cc) }

declared_taken : (sort : Sort) (d : Declared) → Takes 0 (declared sort d)
declared_taken sort d = all_of (token _ (token _ (pass (type_taken sort d.shape) done)))

more_taken : (sort : Sort) (ds : List Declared) → Take 0 (more_declared sort ds)
more_taken sort [] = done
more_taken sort (d ∷ ds) = token _ (pass (declared_taken sort d) (more_taken sort ds))

any_taken : (sort : Sort) (ds : List Declared) → Takes 0 (any_declared sort ds)
any_taken sort [] = all_of done
any_taken sort (d ∷ ds) = all_of (pass (declared_taken sort d) (more_taken sort ds))

definition_taken : (d : Def) → Takes 1 (definition d)
definition_taken d =
    all_of (here (one_token _) (token _ (token _ (pass (any_taken sorts.All d.parameters)
    (token _ (token _ (pass (type_taken sorts.All d.shape) (token _ (pass (expr_taken d.body) (token _ done))))))))))

variable_taken : (k : Keyword) (d : Declared) → Takes 1 (variable k d)
variable_taken k d = all_of (here (one_token _) (pass (declared_taken sorts.All d) (token _ done)))

claim_taken : (k : Keyword) (e : Expr) → Takes 1 (claim k e)
claim_taken k e = all_of (here (one_token _) (pass (expr_taken e) (token _ done)))

fall_taken : (o : Option Block) → Takes 0 (on_crash o)
fall_taken None = all_of done
fall_taken (Some b) = all_of (token _ (token _ (pass (block_taken Spec b) done)))

blocks_taken : (o : Operation) (answer : Option TypeText) → Takes 0 (operation_blocks o answer)
blocks_taken o None =
    all_of (token _ (pass (block_taken Spec o.spec) (pass (fall_taken o.on_crash) (token _ (pass (block_taken Impl o.implementation) done)))))
blocks_taken o (Some t) =
    all_of (token _ (pass (type_taken sorts.Small t) (token _ (pass (answering_taken Spec o.spec)
    (pass (fall_taken o.on_crash) (token _ (pass (answering_taken Impl o.implementation) done)))))))

operation_taken : (o : Operation) → Takes 1 (operation o)
operation_taken o =
    all_of (here (one_token _) (token _ (token _ (pass (any_taken sorts.Small o.arguments) (token _ (pass (blocks_taken o o.answer) done))))))

tick_taken : (t : Tick) → Takes 1 (tick t)
tick_taken t = all_of (here (one_token _) (token _ (pass (block_taken Impl t.body) done)))

crash_taken : (at : Place) (b : Block) → Takes 0 (crash_block at b)
crash_taken at b = record {
  takes = λ from rest h.
      either (in_turn (takes (mark.Keyword word.Crash) at ∷ block Spec b ∷ [])) (starts (mark.Keyword word.Crash) from)
      (is_nowhere at && is_unwritten (block_phrase b)) from rest (all_of (token _ (pass (block_taken Spec b) done))) h;
}

disk_taken : (d : DiskText) → Takes 0 (disk_text d)
disk_taken d = all_of (token _ (token _ (token _ (token _ (token _ (token _ (token _ (token _ done))))))))

all_taken : {A : Type 0} (r : A → Reading) → ((a : A) → Takes 1 (r a)) → (all : List A) → Takes 0 (in_turn (map r all))
all_taken r one all = some_tokens (each_takes r one all)

claims_taken : (k : Keyword) (es : List Expr) → Takes 0 (in_turn (map (claim k) es))
claims_taken k = all_taken (claim k) (claim_taken k)

-- each operation of a layer takes a token
layer_operations : (l : Layer) → Takes (length l.operations) (layer l)
layer_operations l =
    all_of (token _ (token _ (token _ (pass (all_taken (variable word.State) (variable_taken word.State) l.state)
    (pass (optional_block_taken word.Start Plain l.start)
    (pass (all_taken (variable word.Memory) (variable_taken word.Memory) l.memory) (pass (optional_block_taken word.Format Impl l.format)
    (here (each_takes operation operation_taken l.operations)
    (pass (crash_taken l.crash_place l.crash) (pass (all_taken tick tick_taken l.ticks) (pass (optional_block_taken word.Recover Impl l.recover)
    (pass (some_tokens (claim_taken word.Relate l.relate))
    (pass (claims_taken word.Always l.always) (pass (claims_taken word.Settled l.settled) (pass (claims_taken word.Maybe l.maybe)
    (token _ done))))))))))))))))

-- each background step of a layer takes a token
layer_ticks : (l : Layer) → Takes (length l.ticks) (layer l)
layer_ticks l =
    all_of (token _ (token _ (token _ (pass (all_taken (variable word.State) (variable_taken word.State) l.state)
    (pass (optional_block_taken word.Start Plain l.start)
    (pass (all_taken (variable word.Memory) (variable_taken word.Memory) l.memory) (pass (optional_block_taken word.Format Impl l.format)
    (pass (all_taken operation operation_taken l.operations)
    (pass (crash_taken l.crash_place l.crash) (here (each_takes tick tick_taken l.ticks) (pass (optional_block_taken word.Recover Impl l.recover)
    (pass (some_tokens (claim_taken word.Relate l.relate))
    (pass (claims_taken word.Always l.always) (pass (claims_taken word.Settled l.settled) (pass (claims_taken word.Maybe l.maybe)
    (token _ done))))))))))))))))

both_few : (n m : ℕ) → n ≤ 4294967296 → m ≤ 4294967296 → (nat_le n 4294967296 && nat_le m 4294967296) ≡ true
both_few n m h k = grind (arith, nat_tests)

both_true : (a b : Bool) → a ≡ true → b ≡ true → (a && b) ≡ true
both_true a b h k = grind arith

layers_few : (ls : List Layer) (from rest : List Token) → in_turn (map layer ls) from ≡ Some rest → length from < 2 ^ 32 → list_all has_few ls ≡ true
layers_few [] from rest h small = refl
layers_few (l ∷ ls) from rest h small =
    let s = split (layer l) (map layer ls) from rest h in
    let operations = (layer_operations l).takes from s.mid s.first in
    let ticks = (layer_ticks l).takes from s.mid s.first in
    both_true (has_few l) (list_all has_few ls)
    (both_few (length l.operations) (length l.ticks) (omega (arith, small, operations)) (omega (arith, small, ticks)))
    (layers_few ls s.mid rest s.others (omega (arith, small, operations)))

some_layers_few : (ls : List Layer) (from rest : List Token) → layers ls from ≡ Some rest → length from < 2 ^ 32 → list_all has_few ls ≡ true
some_layers_few [] from rest h small = refl
some_layers_few (l ∷ ls) from rest h small = layers_few (l ∷ ls) from rest h small

-- each layer of a file that few tokens derive has few operations and background steps
pub few_places : (file : File) → IsDerivable file → list_all has_few file.layers ≡ true
few_places file (tokens, few, derives) =
    let a = split _ _ tokens [] derives.derives in
    let b = split _ _ a.mid [] a.others in
    let c = split _ _ b.mid [] b.others in
    let d = split _ _ c.mid [] c.others in
    let e = split _ _ d.mid [] d.others in
    let f = split _ _ e.mid [] e.others in
    let a' = (one_token _).takes tokens a.mid a.first in
    let b' = (one_token _).takes a.mid b.mid b.first in
    let c' = (one_token _).takes b.mid c.mid c.first in
    let d' = (disk_taken file.disk).takes c.mid d.mid d.first in
    let e' = (all_taken definition definition_taken file.defs).takes d.mid e.mid e.first in
    some_layers_few file.layers e.mid f.mid f.first (omega (arith, few, a', b', c', d', e'))
