-- Where a file derives, one that is the same but for places derives from all tokens with its printed marks.
use Rattle.std.proofs.Common.{
  ◌≡◌,
  Bool,
  true,
  false,
  ◌&&◌,
  if◌then◌else◌,
  List,
  [],
  ◌∷◌,
  ◌++◌,
  map,
  Option,
  Some,
  None,
  option_map,
  refl,
  sym,
  ap,
  ◌∙◌,
  subst,
  append_assoc,
}
use Rattle.std.proofs.lemmas.List.{append-nil}
use Rattle.ygg_base.specs.declared.token.Keyword.{Keyword}
use Rattle.ygg_base.specs.declared.token.Keyword.TheVariants as word
use Rattle.ygg_base.specs.declared.token.Symbol.TheVariants as sign
use Rattle.ygg_base.specs.declared.token.Mark.{Mark}
use Rattle.ygg_base.specs.declared.token.Mark.TheVariants as mark
use Rattle.ygg_base.specs.declared.token.Token.{Token}
use Rattle.ygg_syntax.specs.declared.grammar.BlockKind.TheVariants.{Plain, Spec, Impl}
use Rattle.ygg_syntax.specs.declared.grammar.Sort.{Sort}
use Rattle.ygg_syntax.specs.declared.grammar.Sort.TheVariants as sorts
use Rattle.ygg_syntax.specs.declared.tree.Place.{Place}
use Rattle.ygg_syntax.specs.declared.tree.TypeText.{TypeText}
use Rattle.ygg_syntax.specs.declared.tree.TypeText.TheVariants as shape
use Rattle.ygg_syntax.specs.declared.tree.Declared.{Declared}
use Rattle.ygg_syntax.specs.declared.tree.Expr.{Expr}
use Rattle.ygg_syntax.specs.declared.tree.Block.{Block}
use Rattle.ygg_syntax.specs.declared.tree.DiskText.{DiskText}
use Rattle.ygg_syntax.specs.declared.tree.Def.{Def}
use Rattle.ygg_syntax.specs.declared.tree.Operation.{Operation}
use Rattle.ygg_syntax.specs.declared.tree.Tick.{Tick}
use Rattle.ygg_syntax.specs.declared.tree.Layer.{Layer}
use Rattle.ygg_syntax.specs.declared.tree.File.{File}
use Rattle.ygg_syntax.specs.Reading.{Reading, same_mark, starts, takes, in_turn}
use Rattle.ygg_syntax.specs.Blocks as blocks
use Rattle.ygg_syntax.specs.Blocks.{block_phrase, is_nowhere, is_unwritten}
use Rattle.ygg_syntax.specs.Files.{
  type_in,
  declared,
  more_declared,
  any_declared,
  disk_word,
  disk_text,
  definition,
  variable,
  claim,
  on_crash,
  operation_blocks,
  operation,
  tick,
  crash_block,
  layer,
  layers,
  whole_file,
  Derives,
}
use Rattle.ygg_print.specs.Printed.{printed, list_printed, more_printed}
use Rattle.ygg_print.specs.PrintedBlocks.{all_printed, block_printed}
use Rattle.ygg_print.specs.PrintedFiles.{
  type_printed,
  declared_printed,
  disk_printed,
  definition_printed,
  variable_printed,
  claim_printed,
  optional_printed,
  on_crash_printed,
  answer_type_printed,
  bodies_printed,
  operation_printed,
  tick_printed,
  variables_printed,
  steps_printed,
  claims_printed,
  layer_printed,
  file_printed,
}
use Rattle.ygg_syntax.specs.Bare.{
  nowhere,
  bare,
  bare_type,
  bare_block,
  bare_declared,
  bare_disk,
  bare_def,
  bare_operation,
  bare_tick,
  bare_layer,
  bare_file,
}
use Rattle.ygg_read.proofs.Marks.{took}
use Rattle.ygg_read.proofs.TakenWhole.{split, empty}
use Rattle.ygg_print.specs.UniqueLaws.{LeftOut, nothing, leaves, DerivesAs}
use Rattle.ygg_print.proofs.Parser.{unwritten}
use Rattle.ygg_print.proofs.StatementMarks.{some_is}
use Rattle.ygg_print.proofs.FileMarks.{only_file}
use Rattle.ygg_print.proofs.Again.{
  marks_of,
  Read,
  Single,
  Again,
  row,
  kept,
  done,
  pass,
  take,
  part,
  turn,
  turns,
  spelled,
  never,
  last,
  begins,
  starts_is,
  Ending,
  Apart,
  ending,
}
use Rattle.ygg_print.proofs.AgainExpressions.{anew, name_at, number_at, name, number, round, close, comma}
use Rattle.ygg_print.proofs.AgainStatements.{Alike, optional_anew, block_anew, answering_again}

abbrev word_mark : Keyword → Mark
word_mark k = mark.Keyword k

abbrev semicolon : Mark
semicolon = mark.Symbol sign.Semicolon

-- what is the same but for places is read from the marks
abbrev Anew : {A : Type 0} → (A → A) → (A → Reading) → (A → List Mark) → A → Type 0
Anew {A} without r ms a = Single (r a) (ms a) (Alike without (without a)) (λ z. r z.0)

-- one after another
list_anew : {A : Type 0} (without : A → A) (r : A → Reading) (ms : A → List Mark) → ((a : A) → Anew without r ms a) → (xs : List A)
    → Again (map r xs) (all_printed (map ms xs)) (Alike (map without) (map without xs)) (λ z. map r z.0)
list_anew without r ms each [] = turns (λ z. ([], refl)) (λ z. refl) done
list_anew without r ms each (a ∷ xs) = turns (λ z. (z.0.0 ∷ z.1.0, λ i. z.0.1 i ∷ z.1.1 i)) (λ z. refl) (part (each a) (list_anew without r ms each xs))

type_anew : (sort : Sort) (t : TypeText) → Anew bare_type (type_in sort) type_printed t
type_anew sort (shape.Word w) = turn (λ z. (shape.Word (number_at w z.0), refl)) (λ z ts. refl)
    (row (pass (word_mark word.Word) (take (number w) w.place done)))
type_anew sort (shape.Row m w) = turn (λ z. (shape.Row (number_at m z.0) (number_at w z.1.0), refl)) (λ z ts. refl)
    (row (pass (word_mark word.Row) (take (number m) m.place (pass (word_mark word.Of) (take (number w) w.place done)))))
type_anew sorts.Small (shape.Table n m w) = never
type_anew sorts.All (shape.Table n m w) = turn (λ z. (shape.Table (number_at n z.0) (number_at m z.1.0) (number_at w z.1.1.0), refl)) (λ z ts. refl)
    (row (pass (word_mark word.Table) (take (number n) n.place
    (pass (word_mark word.Of) (take (number m) m.place (pass (word_mark word.Of) (take (number w) w.place done)))))))

declared_anew : (sort : Sort) (d : Declared) → Anew bare_declared (declared sort) declared_printed d
declared_anew sort d = turn (λ z. (
  record { name = name_at d.name z.0; shape = z.1.0 },
  λ i. record { name = name_at d.name nowhere; shape = z.1.1 i },
)) (λ z ts. refl)
    (row (take (name d.name) d.name.place (pass (mark.Symbol sign.Colon) (last (type_anew sort d.shape)))))

more_anew : (sort : Sort) (ds : List Declared) → Again (more_declared sort ds) (more_printed (map declared_printed ds))
    (Alike (map bare_declared) (map bare_declared ds)) (λ z. more_declared sort z.0)
more_anew sort [] = turns (λ z. ([], refl)) (λ z. refl) done
more_anew sort (d ∷ ds) = turns (λ z. (z.0.0 ∷ z.1.0, λ i. z.0.1 i ∷ z.1.1 i)) (λ z. refl) (pass comma (part (declared_anew sort d) (more_anew sort ds)))

any_anew : (sort : Sort) (ds : List Declared) → Anew (map bare_declared) (any_declared sort) (λ ds. list_printed (map declared_printed ds)) ds
any_anew sort [] = turn (λ z. ([], refl)) (λ z ts. refl) (row done)
any_anew sort (d ∷ ds) = turn (λ z. (z.0.0 ∷ z.1.0, λ i. z.0.1 i ∷ z.1.1 i)) (λ z ts. refl) (row (part (declared_anew sort d) (more_anew sort ds)))

disk_anew : (d : DiskText) → Anew bare_disk disk_text disk_printed d
disk_anew d = turn (λ z. (
  record { kind = d.kind; rows = number_at d.rows z.0; words = number_at d.words z.1.0; width = number_at d.width z.1.1.0 },
  refl,
)) (λ z ts. refl)
    (row (pass (word_mark word.Disk) (pass (word_mark (disk_word d.kind))
    (take (number d.rows) d.rows.place (pass (word_mark word.Of) (take (number d.words) d.words.place
    (pass (word_mark word.Of) (take (number d.width) d.width.place (pass semicolon done)))))))))

definition_anew : (d : Def) → Anew bare_def definition definition_printed d
definition_anew d =
    turn (λ z. (
      record { name = name_at d.name z.0; parameters = z.1.0.0; shape = z.1.1.0.0; body = z.1.1.1.0.0 },
      λ i. record { name = name_at d.name nowhere; parameters = z.1.0.1 i; shape = z.1.1.0.1 i; body = z.1.1.1.0.1.0 i },
    )) (λ z ts. refl)
    (row (spelled (ap (λ (ms : List Mark). word_mark word.Def ∷ name d.name ∷ round ∷ ms)
    (append_assoc (list_printed (map declared_printed d.parameters)) (close ∷ mark.Symbol sign.Arrow ∷ type_printed d.shape)
    (mark.Symbol sign.Assign ∷ (printed d.body ++ semicolon ∷ []))))
    (pass (word_mark word.Def) (take (name d.name) d.name.place (pass round (part (any_anew sorts.All d.parameters) (pass close (pass (mark.Symbol sign.Arrow)
    (part (type_anew sorts.All d.shape) (pass (mark.Symbol sign.Assign) (part (anew d.body) (pass semicolon done))))))))))))

variable_anew : (k : Keyword) (d : Declared) → Anew bare_declared (variable k) (variable_printed k) d
variable_anew k d = turn (λ z. z.0) (λ z ts. refl) (row (pass (word_mark k) (part (declared_anew sorts.All d) (pass semicolon done))))

claim_anew : (k : Keyword) (e : Expr) → Anew bare (claim k) (claim_printed k) e
claim_anew k e = turn (λ z. (z.0.0, z.0.1.0)) (λ z ts. refl) (row (pass (word_mark k) (part (anew e) (pass semicolon done))))

on_crash_anew : (c : Option Block) → Anew (option_map bare_block) on_crash on_crash_printed c
on_crash_anew None = turn (λ z. (None, refl)) (λ z ts. refl) (row done)
on_crash_anew (Some b) = turn (λ z. (Some z.0, λ i. Some (z.1 i))) (λ z ts. refl)
    (row (pass (word_mark word.On) (pass (word_mark word.Crash) (last ((block_anew b).again Spec)))))

-- the type of an answer and the blocks of an operation
abbrev Blocks : Operation → Option TypeText → Type 0
Blocks o answer = Alike (option_map bare_type) (option_map bare_type answer)
    × (Alike bare_block (bare_block o.spec) × (Alike (option_map bare_block) (option_map bare_block o.on_crash)
    × Alike bare_block (bare_block o.implementation)))

abbrev with_blocks : (o : Operation) (answer : Option TypeText) → Blocks o answer → Operation
with_blocks o answer z = record { name = o.name; arguments = o.arguments; answer = z.0.0; spec = z.1.0.0; on_crash = z.1.1.0.0; implementation = z.1.1.1.0 }

blocks_anew : (o : Operation) (answer : Option TypeText) →
    Single (operation_blocks o answer) (answer_type_printed answer ++ bodies_printed o) (Blocks o answer) (λ z. operation_blocks (with_blocks o answer z) z.0.0)
blocks_anew o None = turn (λ z. ((None, refl), z)) (λ z ts. refl)
    (row (pass (word_mark word.Spec) (part ((block_anew o.spec).again Spec)
    (part (on_crash_anew o.on_crash) (pass (word_mark word.Impl) (last ((block_anew o.implementation).again Impl)))))))
blocks_anew o (Some t) = turn (λ z. ((Some z.0.0, λ i. Some (z.0.1 i)), z.1)) (λ z ts. refl)
    (row (pass (mark.Symbol sign.Arrow) (part (type_anew sorts.Small t)
    (pass (word_mark word.Spec) (part (answering_again Spec o.spec) (part (on_crash_anew o.on_crash)
    (pass (word_mark word.Impl) (last (answering_again Impl o.implementation)))))))))

operation_anew : (o : Operation) → Anew bare_operation operation operation_printed o
operation_anew o =
    turn (λ z. (
      record {
        name = name_at o.name z.0;
        arguments = z.1.0.0;
        answer = z.1.1.0.0;
        spec = z.1.1.1.0.0;
        on_crash = z.1.1.1.1.0.0;
        implementation =
            z.1.1.1.1.1.0;
      },
      λ i. record {
        name = name_at o.name nowhere;
        arguments = z.1.0.1 i;
        answer = z.1.1.0.1 i;
        spec = z.1.1.1.0.1 i;
        on_crash = z.1.1.1.1.0.1 i;
        implementation = z.1.1.1.1.1.1 i;
      },
    )) (λ z ts. refl)
    (row (spelled (ap (λ (ms : List Mark). word_mark word.Op ∷ name o.name ∷ round ∷ ms)
    (append_assoc (list_printed (map declared_printed o.arguments)) (close ∷ answer_type_printed o.answer) (bodies_printed o)))
    (pass (word_mark word.Op) (take (name o.name) o.name.place
    (pass round (part (any_anew sorts.Small o.arguments) (pass close (last (blocks_anew o o.answer)))))))))

pub tick_anew : (t : Tick) → Anew bare_tick tick tick_printed t
tick_anew t = turn (λ z. (record { name = name_at t.name z.0; body = z.1.0 }, λ i. record { name = name_at t.name nowhere; body = z.1.1 i })) (λ z ts. refl)
    (row (pass (word_mark word.Tick) (take (name t.name) t.name.place (last ((block_anew t.body).again Impl)))))

-- the block `crash` with its place, or none
crash_anew : (at : Place) (b : Block)
    → Ending (word_mark word.Crash) (crash_block at b) (optional_printed word.Crash b) (Place × Alike bare_block (bare_block b)) (λ z. crash_block z.0 z.1.0)
crash_anew at b = record {
  single = λ from rest h tokens tail apart same. cases (block_printed b).empty refl from rest h tokens tail apart same;
  keeps = λ from rest h tail w. kept_so (starts (word_mark word.Crash) from) (is_nowhere at) (is_unwritten (block_phrase b)) refl
      (block_printed b).empty refl from rest h tail w;
}
  where
    absent : (ts : List Token) → starts (word_mark word.Crash) ts ≡ false → crash_block nowhere unwritten ts ≡ Some ts
    absent ts s = ap (λ (s : Bool). if s then in_turn (takes (word_mark word.Crash) nowhere ∷ blocks.block Spec unwritten ∷ []) ts
        else if is_nowhere nowhere && is_unwritten (block_phrase unwritten) then Some ts else None) s

    there : (at : Place) (b : Block) (ts rest : List Token) → starts (word_mark word.Crash) ts ≡ true →
        in_turn (takes (word_mark word.Crash) at ∷ blocks.block Spec b ∷ []) ts ≡ Some rest → crash_block at b ts ≡ Some rest
    there at b ts rest s h =
        ap (λ (s : Bool). if s then in_turn (takes (word_mark word.Crash) at ∷ blocks.block Spec b ∷ []) ts else if is_nowhere at
        && is_unwritten (block_phrase b) then Some ts else None) s ∙ h

    -- what was written may be left out, and what wasn't is
    kept_so : (s n u : Bool) → is_unwritten (block_phrase b) ≡ u → (empty : Bool) → (block_printed b).empty ≡ empty → (from rest : List Token)
        → (if s then in_turn (takes (word_mark word.Crash) at ∷ blocks.block Spec b ∷ []) from else if n && u then Some from else None) ≡ Some rest →
        (tail : List Mark) → LeftOut (marks_of rest) tail
        → LeftOut (marks_of from) ((if empty then [] else word_mark word.Crash ∷ (block_printed b).marks) ++ tail)
    kept_so true n u is true e from rest h tail w =
        let s = split (takes (word_mark word.Crash) at) (blocks.block Spec b ∷ []) from rest h in let t = split (blocks.block Spec b) [] s.mid rest s.others in
        kept (took (word_mark word.Crash) at from s.mid s.first) tail
        (subst (λ (ns : List Mark). LeftOut (word_mark word.Crash ∷ ns) tail) (sym ((block_anew b).hollow e Spec s.mid t.mid t.first))
        (leaves refl (kept (empty t.mid rest t.others) tail w)))
    kept_so true n u is false e from rest h tail w = (take (word_mark word.Crash) at (last ((block_anew b).again Spec))).keeps from rest h tail w
    kept_so false true true is true e from rest h tail w = kept (some_is from rest h) tail w
    kept_so false true true is false e from rest h tail w = absurd (let k = (block_anew b).written e in cc)
    kept_so false true false is v e from rest h tail w = absurd (cc)
    kept_so false false u is v e from rest h tail w = absurd (cc)

    derived : (s n u : Bool) → u ≡ false → (from rest : List Token)
        → (if s then in_turn (takes (word_mark word.Crash) at ∷ blocks.block Spec b ∷ []) from else if n && u then Some from else None) ≡ Some rest →
        in_turn (takes (word_mark word.Crash) at ∷ blocks.block Spec b ∷ []) from ≡ Some rest
    derived true n u e from rest h = h
    derived false n true e from rest h = absurd (cc)
    derived false true false e from rest h = absurd (cc)
    derived false false false e from rest h = absurd (cc)

    cases : (empty : Bool) → (block_printed b).empty ≡ empty → (from rest : List Token) → crash_block at b from ≡ Some rest →
        (tokens : List Token) (tail : List Mark) → begins (word_mark word.Crash) tail ≡ false
        → marks_of tokens ≡ (if empty then [] else word_mark word.Crash ∷ (block_printed b).marks) ++ tail →
        Read (Place × Alike bare_block (bare_block b)) (λ z. crash_block z.0 z.1.0) tokens tail
    cases true e from rest h tokens tail apart same = record {
      made = (nowhere, (unwritten, (block_anew b).nothing e));
      rest = tokens;
      is = absent tokens (starts_is (word_mark word.Crash) tokens ∙ ap (begins (word_mark word.Crash)) same ∙ apart);
      left = same;
    }
    cases false e from rest h tokens tail apart same =
        let a = (take (word_mark word.Crash) at (last ((block_anew b).again Spec))).single from rest
        (derived (starts (word_mark word.Crash) from) (is_nowhere at) (is_unwritten (block_phrase b)) ((block_anew b).written e) from rest h) tokens
        tail same in
        record {
          made = a.made;
          rest = a.rest;
          is = there a.made.0 a.made.1.0 tokens a.rest (starts_is (word_mark word.Crash) tokens ∙ ap (begins (word_mark word.Crash)) same) a.is;
          left = a.left;
        }

-- the first mark of a list of parts and what follows it
apart_list : {A : Type 0} (k : Mark) (ms : A → List Mark) → ((a : A) → Apart k (ms a)) → (xs : List A) (rest : List Mark) → Apart k rest →
    Apart k (all_printed (map ms xs) ++ rest)
apart_list k ms each [] rest apart = apart
apart_list k ms each (a ∷ xs) rest apart = λ tail.
    ap (begins k) (append_assoc (ms a ++ all_printed (map ms xs)) rest tail ∙ append_assoc (ms a) (all_printed (map ms xs)) (rest ++ tail))
    ∙ each a (all_printed (map ms xs) ++ (rest ++ tail))

-- the first mark of a block that may be left out and what follows it
apart_optional : (k : Mark) (w : Keyword) (b : Block) (rest : List Mark) → same_mark k (word_mark w) ≡ false → Apart k rest →
    Apart k (optional_printed w b ++ rest)
apart_optional k w b rest other apart = λ tail. cases (block_printed b).empty tail
  where
    cases : (empty : Bool) (tail : List Mark) → begins k (((if empty then [] else word_mark w ∷ (block_printed b).marks) ++ rest) ++ tail) ≡ false
    cases true tail = apart tail
    cases false tail = other

-- the marks of a layer from each part on
abbrev from_relate : Layer → List Mark
from_relate l =
    claim_printed word.Relate l.relate ++ (all_printed (map (claim_printed word.Always) l.always)
    ++ (all_printed (map (claim_printed word.Settled) l.settled) ++ (all_printed (map (claim_printed word.Maybe) l.maybe) ++ mark.Symbol sign.BraceClose ∷ [])))

abbrev from_recover : Layer → List Mark
from_recover l = optional_printed word.Recover l.recover ++ from_relate l

abbrev from_ticks : Layer → List Mark
from_ticks l = all_printed (map tick_printed l.ticks) ++ from_recover l

abbrev from_crash : Layer → List Mark
from_crash l = optional_printed word.Crash l.crash ++ from_ticks l

abbrev from_operations : Layer → List Mark
from_operations l = all_printed (map operation_printed l.operations) ++ from_crash l

abbrev from_format : Layer → List Mark
from_format l = optional_printed word.Format l.format ++ from_operations l

abbrev from_memory : Layer → List Mark
from_memory l = all_printed (map (variable_printed word.Memory) l.memory) ++ from_format l

apart_recover : (k : Mark) → same_mark k (word_mark word.Recover) ≡ false → same_mark k (word_mark word.Relate) ≡ false → (l : Layer) → Apart k (from_recover l)
apart_recover k recover relate l = apart_optional k word.Recover l.recover (from_relate l) recover (λ tail. relate)

apart_ticks : (k : Mark) → same_mark k (word_mark word.Tick) ≡ false → same_mark k (word_mark word.Recover) ≡ false →
    same_mark k (word_mark word.Relate) ≡ false → (l : Layer) → Apart k (from_ticks l)
apart_ticks k tick recover relate l = apart_list k tick_printed (λ t tail. tick) l.ticks (from_recover l) (apart_recover k recover relate l)

apart_format : (l : Layer) → Apart (word_mark word.Format) (from_operations l)
apart_format l = let k = word_mark word.Format in apart_list k operation_printed (λ o tail. refl) l.operations (from_crash l)
    (apart_optional k word.Crash l.crash (from_ticks l) refl (apart_ticks k refl refl refl l))

apart_start : (l : Layer) → Apart (word_mark word.Start) (from_memory l)
apart_start l = let k = word_mark word.Start in
    apart_list k (variable_printed word.Memory) (λ d tail. refl) l.memory (from_format l) (apart_optional k word.Format l.format (from_operations l) refl
    (apart_list k operation_printed (λ o tail. refl) l.operations (from_crash l)
    (apart_optional k word.Crash l.crash (from_ticks l) refl (apart_ticks k refl refl refl l))))

-- the marks of a layer in a row
in_a_row : (a b c d e f g h i j k m n : List Mark)
    → (a ++ (b ++ (c ++ d))) ++ ((e ++ (f ++ (g ++ h))) ++ ((i ++ (j ++ (k ++ m))) ++ n)) ≡ a
    ++ (b ++ (c ++ (d ++ (e ++ (f ++ (g ++ (h ++ (i ++ (j ++ (k ++ (m ++ n)))))))))))
in_a_row a b c d e f g h i j k m n = simp append_assoc

layer_row : (l : Layer) → variables_printed l ++ (steps_printed l ++ (claims_printed l ++ mark.Symbol sign.BraceClose ∷ []))
    ≡ all_printed (map (variable_printed word.State) l.state) ++ (optional_printed word.Start l.start ++ from_memory l)
layer_row l =
    in_a_row (all_printed (map (variable_printed word.State) l.state)) (optional_printed word.Start l.start)
    (all_printed (map (variable_printed word.Memory) l.memory)) (optional_printed word.Format l.format)
    (all_printed (map operation_printed l.operations)) (optional_printed word.Crash l.crash) (all_printed (map tick_printed l.ticks))
    (optional_printed word.Recover l.recover)
    (claim_printed word.Relate l.relate) (all_printed (map (claim_printed word.Always) l.always)) (all_printed (map (claim_printed word.Settled) l.settled))
    (all_printed (map (claim_printed word.Maybe) l.maybe)) (mark.Symbol sign.BraceClose ∷ [])

layer_anew : (l : Layer) → Anew bare_layer layer layer_printed l
layer_anew l =
    turn (λ z. (
      record {
        place = z.0;
        name = name_at l.name z.1.0;
        state = z.1.1.0.0;
        start = z.1.1.1.0.0;
        memory = z.1.1.1.1.0.0;
        format = z.1.1.1.1.1.0.0;
        operations = z.1.1.1.1.1.1.0.0;
        crash_place = z.1.1.1.1.1.1.1.0.0;
        crash = z.1.1.1.1.1.1.1.0.1.0;
        ticks = z.1.1.1.1.1.1.1.1.0.0;
        recover = z.1.1.1.1.1.1.1.1.1.0.0;
        relate = z.1.1.1.1.1.1.1.1.1.1.0.0;
        always = z.1.1.1.1.1.1.1.1.1.1.1.0.0;
        settled = z.1.1.1.1.1.1.1.1.1.1.1.1.0.0;
        maybe = z.1.1.1.1.1.1.1.1.1.1.1.1.1.0.0;
      },
      λ i. record {
        place = nowhere;
        name = name_at l.name nowhere;
        state = z.1.1.0.1 i;
        start = z.1.1.1.0.1 i;
        memory = z.1.1.1.1.0.1 i;
        format = z.1.1.1.1.1.0.1 i;
        operations = z.1.1.1.1.1.1.0.1 i;
        crash_place = nowhere;
        crash = z.1.1.1.1.1.1.1.0.1.1 i;
        ticks = z.1.1.1.1.1.1.1.1.0.1 i;
        recover = z.1.1.1.1.1.1.1.1.1.0.1 i;
        relate = z.1.1.1.1.1.1.1.1.1.1.0.1 i;
        always = z.1.1.1.1.1.1.1.1.1.1.1.0.1 i;
        settled = z.1.1.1.1.1.1.1.1.1.1.1.1.0.1 i;
        maybe = z.1.1.1.1.1.1.1.1.1.1.1.1.1.0.1 i;
      },
    )) (λ z ts. refl)
    (row (take (word_mark word.Layer) l.place (take (name l.name) l.name.place (pass (mark.Symbol sign.BraceOpen) (spelled (layer_row l)
    (part (row (list_anew bare_declared (variable word.State) (variable_printed word.State) (variable_anew word.State) l.state))
    (ending (optional_anew word.Start refl Plain (block_anew l.start)) (apart_start l)
    (part (row (list_anew bare_declared (variable word.Memory) (variable_printed word.Memory) (variable_anew word.Memory) l.memory))
    (ending (optional_anew word.Format refl Impl (block_anew l.format)) (apart_format l)
    (part (row (list_anew bare_operation operation operation_printed operation_anew l.operations))
    (ending (crash_anew l.crash_place l.crash) (apart_ticks (word_mark word.Crash) refl refl refl l)
    (part (row (list_anew bare_tick tick tick_printed tick_anew l.ticks))
    (ending (optional_anew word.Recover refl Impl (block_anew l.recover)) (λ tail. refl)
    (part (claim_anew word.Relate l.relate)
    (part (row (list_anew bare (claim word.Always) (claim_printed word.Always) (claim_anew word.Always) l.always))
    (part (row (list_anew bare (claim word.Settled) (claim_printed word.Settled) (claim_anew word.Settled) l.settled))
    (part (row (list_anew bare (claim word.Maybe) (claim_printed word.Maybe) (claim_anew word.Maybe) l.maybe))
    (pass (mark.Symbol sign.BraceClose) done))))))))))))))))))

layers_anew : (ls : List Layer) → Anew (map bare_layer) layers (λ ls. all_printed (map layer_printed ls)) ls
layers_anew [] = never
layers_anew (l ∷ ls) = turn (λ z. (z.0.0 ∷ z.1.0, λ i. z.0.1 i ∷ z.1.1 i)) (λ z ts. refl)
    (row (part (layer_anew l) (list_anew bare_layer layer layer_printed layer_anew ls)))

file_anew : (f : File) → Anew bare_file whole_file file_printed f
file_anew f = turn (λ z. (
  record { disk = z.0.0; defs = z.1.0.0; layers = z.1.1.0 },
  λ i. record { disk = z.0.1 i; defs = z.1.0.1 i; layers = z.1.1.1 i },
)) (λ z ts. refl)
    (row (pass (word_mark word.Yggdrasil) (pass (mark.Num 1) (pass semicolon (part (disk_anew f.disk)
    (part (row (list_anew bare_def definition definition_printed definition_anew f.defs)) (last (layers_anew f.layers))))))))

-- a file that is the same but for places
pub record Found (tokens : List Token) (file : File) : Type 0 where
  pub read : File
  pub derives : Derives tokens read
  pub same : bare_file read ≡ bare_file file

pub found : (tokens : List Token) (file : File) → Derives tokens file → (printed : List Token) → marks_of printed ≡ file_printed file → Found printed file
found tokens file d printed h =
    let a = (file_anew file).single tokens [] d.derives printed [] (h ∙ sym (append-nil (file_printed file))) in
    record { read = a.made.0; derives = record { derives = a.is ∙ ap (λ (ts : List Token). Some ts) (none a.rest a.left) }; same = a.made.1 }
  where
    none : (ts : List Token) → marks_of ts ≡ [] → ts ≡ []
    none [] h = refl
    none (t ∷ ts) h = absurd (cc)

-- the printed marks are those of the tokens without some empty blocks
pub left_out : (tokens : List Token) (file : File) → Derives tokens file → LeftOut (marks_of tokens) (file_printed file)
left_out tokens file d = subst (LeftOut (marks_of tokens)) (append-nil (file_printed file)) ((file_anew file).keeps tokens [] d.derives [] nothing)

-- the file derives from tokens with its printed marks, and no other does
pub derives_as : (tokens : List Token) (file : File) → Derives tokens file → (printed : List Token) → marks_of printed ≡ file_printed file →
    DerivesAs printed file
derives_as tokens file d printed h =
    let f = found tokens file d printed h in record {
      read = f.read;
      derives = f.derives;
      same = f.same;
      only =
          λ other e. only_file printed other f.read e f.derives;
    }
