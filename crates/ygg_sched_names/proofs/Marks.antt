-- The names of a file whose printed marks are marks of the language.
use Rattle.std.proofs.Common.{List, [], ◌∷◌, ◌++◌, map}
use Rattle.std.specs.List.{All}
use Rattle.std.proofs.lemmas.List.Elements.{All-nil, All-cons, All-head, All-tail}
use Rattle.ygg_base.specs.declared.token.Keyword as base
use Rattle.ygg_base.specs.declared.token.Keyword.TheVariants as word
use Rattle.ygg_base.specs.declared.token.Symbol.TheVariants as sign
use Rattle.ygg_base.specs.declared.token.Mark.{Mark}
use Rattle.ygg_base.specs.declared.token.Mark.TheVariants.{Name, Keyword, Symbol}
use Rattle.ygg_syntax.specs.declared.tree.Declared.{Declared}
use Rattle.ygg_syntax.specs.declared.tree.Operation.{Operation}
use Rattle.ygg_syntax.specs.declared.tree.Tick.{Tick}
use Rattle.ygg_syntax.specs.declared.tree.Layer.{Layer}
use Rattle.ygg_syntax.specs.declared.tree.File.{File}
use Rattle.ygg_print.specs.TreeLaws.{IsName, IsMark}
use Rattle.ygg_print.specs.Printed.{list_printed, more_printed}
use Rattle.ygg_print.specs.PrintedBlocks.{all_printed, block_printed}
use Rattle.ygg_print.specs.PrintedFiles.{
  type_printed,
  declared_printed,
  variable_printed,
  definition_printed,
  optional_printed,
  answer_type_printed,
  heading_printed,
  bodies_printed,
  operation_printed,
  tick_printed,
  variables_printed,
  steps_printed,
  claims_printed,
  layer_printed,
  head_printed,
  file_printed,
}
use Rattle.ygg_sched_names.specs.Names.{AreNamed, OperationNamed, LayerNamed, HasNames}

-- these are marks of the language
abbrev Marks : List Mark → Type 0
Marks = All IsMark

-- what stands in front is, and what follows
front : (xs ys : List Mark) → Marks (xs ++ ys) → Marks xs
front [] ys h = All-nil IsMark
front (x ∷ xs) ys h = All-cons IsMark x xs (All-head IsMark x (xs ++ ys) h) (front xs ys (All-tail IsMark x (xs ++ ys) h))

back : (xs ys : List Mark) → Marks (xs ++ ys) → Marks ys
back [] ys h = h
back (x ∷ xs) ys h = back xs ys (All-tail IsMark x (xs ++ ys) h)

-- what the marks of one of these say of it, those of all say of each
module _ {X : Type 0} (Q : X → Type 0) (print : X → List Mark) (is : (x : X) → Marks (print x) → Q x) where
  each : (xs : List X) → Marks (all_printed (map print xs)) → All Q xs
  each [] h = All-nil Q
  each (x ∷ xs) h =
      All-cons Q x xs (is x (front (print x) (all_printed (map print xs)) h)) (each xs (back (print x) (all_printed (map print xs)) h))

  more : (xs : List X) → Marks (more_printed (map print xs)) → All Q xs
  more [] h = All-nil Q
  more (x ∷ xs) h =
      let own = All-tail IsMark (Symbol sign.Comma) (print x ++ more_printed (map print xs)) h in
      All-cons Q x xs (is x (front (print x) (more_printed (map print xs)) own)) (more xs (back (print x) (more_printed (map print xs)) own))

  listed : (xs : List X) → Marks (list_printed (map print xs)) → All Q xs
  listed [] h = All-nil Q
  listed (x ∷ xs) h =
      All-cons Q x xs (is x (front (print x) (more_printed (map print xs)) h)) (more xs (back (print x) (more_printed (map print xs)) h))

-- the first mark, and the second
first : (m : Mark) (ms : List Mark) → Marks (m ∷ ms) → IsMark m
first m ms h = All-head IsMark m ms h

second : (m n : Mark) (ms : List Mark) → Marks (m ∷ n ∷ ms) → IsMark n
second m n ms h = All-head IsMark n ms (All-tail IsMark m (n ∷ ms) h)

-- those after two or three marks
after_two : (m n : Mark) (ms : List Mark) → Marks (m ∷ n ∷ ms) → Marks ms
after_two m n ms h = All-tail IsMark n ms (All-tail IsMark m (n ∷ ms) h)

after_three : (m n o : Mark) (ms : List Mark) → Marks (m ∷ n ∷ o ∷ ms) → Marks ms
after_three m n o ms h = All-tail IsMark o ms (after_two m n (o ∷ ms) h)

declared_named : (d : Declared) → Marks (declared_printed d) → IsName d.name.text
declared_named d h = first (Name d.name.text) (Symbol sign.Colon ∷ type_printed d.shape) h

variable_named : (k : base.Keyword) (d : Declared) → Marks (variable_printed k d) → IsName d.name.text
variable_named k d h =
    declared_named d (front (declared_printed d) (Symbol sign.Semicolon ∷ [])
    (All-tail IsMark (Keyword k) (declared_printed d ++ Symbol sign.Semicolon ∷ []) h))

variables_named : (k : base.Keyword) (ds : List Declared) → Marks (all_printed (map (variable_printed k) ds)) → AreNamed ds
variables_named k ds h = each (λ (d : Declared). IsName d.name.text) (variable_printed k) (variable_named k) ds h

operation_named : (o : Operation) → Marks (operation_printed o) → OperationNamed o
operation_named o h =
    let heading = front (heading_printed o) (bodies_printed o) h in
    let closing : List Mark = Symbol sign.RoundClose ∷ answer_type_printed o.answer in
    let arguments : List Mark = list_printed (map declared_printed o.arguments) in
    record {
      own = second (Keyword word.Op) (Name o.name.text) (Symbol sign.RoundOpen ∷ (arguments ++ closing)) heading;
      arguments = listed (λ (d : Declared). IsName d.name.text) declared_printed declared_named o.arguments
          (front arguments closing (after_three (Keyword word.Op) (Name o.name.text) (Symbol sign.RoundOpen) (arguments ++ closing) heading));
    }

tick_named : (t : Tick) → Marks (tick_printed t) → IsName t.name.text
tick_named t h = second (Keyword word.Tick) (Name t.name.text) (block_printed t.body).marks h

layer_named : (l : Layer) → Marks (layer_printed l) → LayerNamed l
layer_named l h =
    let claims : List Mark = claims_printed l ++ Symbol sign.BraceClose ∷ [] in
    let whole : List Mark = variables_printed l ++ (steps_printed l ++ claims) in
    let parts = after_three (Keyword word.Layer) (Name l.name.text) (Symbol sign.BraceOpen) whole h in
    let variables = front (variables_printed l) (steps_printed l ++ claims) parts in
    let steps = front (steps_printed l) claims (back (variables_printed l) (steps_printed l ++ claims) parts) in
    let state : List Mark = all_printed (map (variable_printed word.State) l.state) in
    let memory : List Mark = all_printed (map (variable_printed word.Memory) l.memory) in
    let start : List Mark = optional_printed word.Start l.start in
    let format : List Mark = optional_printed word.Format l.format in
    let operations : List Mark = all_printed (map operation_printed l.operations) in
    let ticks : List Mark = all_printed (map tick_printed l.ticks) in
    let crash : List Mark = optional_printed word.Crash l.crash in
    let recover : List Mark = optional_printed word.Recover l.recover in
    record {
      own = second (Keyword word.Layer) (Name l.name.text) (Symbol sign.BraceOpen ∷ whole) h;
      state = variables_named word.State l.state (front state (start ++ (memory ++ format)) variables);
      memory = variables_named word.Memory l.memory (front memory format (back start (memory ++ format) (back state (start ++ (memory ++ format)) variables)));
      operations = each OperationNamed operation_printed operation_named l.operations (front operations (crash ++ (ticks ++ recover)) steps);
      ticks = each (λ (t : Tick). IsName t.name.text) tick_printed tick_named l.ticks
          (front ticks recover (back crash (ticks ++ recover) (back operations (crash ++ (ticks ++ recover)) steps)));
    }

-- the names of a file whose printed marks are marks of the language have the form of a name
pub names_printed : (f : File) → Marks (file_printed f) → HasNames f
names_printed f h =
    let definitions : List Mark = all_printed (map definition_printed f.defs) in
    let layers : List Mark = all_printed (map layer_printed f.layers) in
    each LayerNamed layer_printed layer_named f.layers (back definitions layers (back (head_printed f.disk) (definitions ++ layers) h))
