-- The parser makes the file that derives from the tokens.
use Rattle.std.proofs.Common.{◌≡◌, Bool, true, false, ◌&&◌, if◌then◌else◌, List, [], ◌∷◌, ◌++◌, map, Option, Some, None, refl, sym, ap, ◌∙◌}
use Rattle.ygg_base.specs.declared.token.Keyword.{Keyword}
use Rattle.ygg_base.specs.declared.token.Keyword.TheVariants as word
use Rattle.ygg_base.specs.declared.token.Symbol.TheVariants as sign
use Rattle.ygg_base.specs.declared.token.Mark.{Mark}
use Rattle.ygg_base.specs.declared.token.Mark.TheVariants as mark
use Rattle.ygg_base.specs.declared.token.Token.{Token}
use Rattle.ygg_syntax.specs.declared.grammar.BlockKind.TheVariants.{Plain, Spec, Impl}
use Rattle.ygg_syntax.specs.declared.grammar.Sort.{Sort}
use Rattle.ygg_syntax.specs.declared.grammar.Sort.TheVariants as sorts
use Rattle.ygg_syntax.specs.declared.tree.Place.{Place}
use Rattle.ygg_syntax.specs.declared.tree.Numeral.{Numeral}
use Rattle.ygg_syntax.specs.declared.tree.TypeText.{TypeText}
use Rattle.ygg_syntax.specs.declared.tree.TypeText.TheVariants as shape
use Rattle.ygg_syntax.specs.declared.tree.Declared.{Declared}
use Rattle.ygg_syntax.specs.declared.tree.Expr.{Expr}
use Rattle.ygg_syntax.specs.declared.tree.Block.{Block}
use Rattle.ygg_base.specs.declared.geometry.DiskKind.{DiskKind}
use Rattle.ygg_base.specs.declared.geometry.DiskKind.TheVariants as disk
use Rattle.ygg_syntax.specs.declared.tree.DiskText.{DiskText}
use Rattle.ygg_syntax.specs.declared.tree.Def.{Def}
use Rattle.ygg_syntax.specs.declared.tree.Operation.{Operation}
use Rattle.ygg_syntax.specs.declared.tree.Tick.{Tick}
use Rattle.ygg_syntax.specs.declared.tree.Layer.{Layer}
use Rattle.ygg_syntax.specs.declared.tree.File.{File}
use Rattle.ygg_syntax.specs.Reading.{Reading, starts, passes, takes, in_turn}
use Rattle.ygg_syntax.specs.Expressions.{expr, numbered}
use Rattle.ygg_syntax.specs.Expressions as phrases
use Rattle.ygg_syntax.specs.Blocks as blocks
use Rattle.ygg_syntax.specs.Blocks.{block_phrase, is_nowhere, is_unwritten}
use Rattle.ygg_syntax.specs.Files as files
use Rattle.ygg_syntax.specs.Files.{disk_word, Derives}
use Rattle.ygg_read.proofs.Marks.{passed}
use Rattle.ygg_read.proofs.ExpressionPhrases.{joined}
use Rattle.ygg_read.proofs.TakenWhole.{split, empty}
use Rattle.ygg_print.proofs.Parser.{
  Parser,
  answer,
  loop,
  declarations,
  variables,
  claims,
  operations,
  ticks,
  definitions,
  layers,
  symbol,
  unwritten,
  block,
  some_type,
  type_rule,
  declared,
  declared_list,
  declared_list_rule,
  on_crash,
  on_crash_rule,
  operation_blocks,
  crash_block,
  sizes,
  disk_text,
  file,
  run,
}
use Rattle.ygg_print.proofs.Runs.{
  alike,
  does,
  absent,
  more,
  ended,
  Reads,
  Opens,
  opens_pass,
  opens_take,
  done,
  pass,
  next_name,
  next_number,
  flat,
  never,
  given,
  given_at,
  otherwise,
  Enters,
  passing,
  taking,
  all_entered,
  many,
  opens_many,
  Skips,
  opens_skips,
}
use Rattle.ygg_print.proofs.StatementMarks.{both, nowhere_is, some_is, part, next_block, block_made, next_optional, skips_optional, next_answering}

-- a type, and what follows it
type_goes : (sort : Sort) (t : TypeText) (k : TypeText → Parser) {rs : List Reading} {q : Parser} → Reads rs (k t) q →
    Reads (files.type_in sort t ∷ rs) (type_rule sort k) q
type_goes sort (shape.Word w) k r = flat _ (given (next_number w r))
type_goes sort (shape.Row m w) k r = flat _ (otherwise (opens_pass (mark.Keyword word.Row)) refl (given (next_number m (pass (next_number w r)))))
type_goes sorts.Small (shape.Table n m w) k r = never
type_goes sorts.All (shape.Table n m w) k r =
    flat _ (otherwise (opens_pass (mark.Keyword word.Table)) refl
    (otherwise (opens_pass (mark.Keyword word.Table)) refl (pass (next_number n (pass (next_number m (pass (next_number w r))))))))

does_type : (sort : Sort) (k : TypeText → Parser) (from : List Token) → run (some_type sort k) from ≡ run (type_rule sort k) from
does_type sorts.Small k = alike (some_type sorts.Small k) (type_rule sorts.Small k) refl (λ t. refl)
does_type sorts.All k = alike (some_type sorts.All k) (type_rule sorts.All k) refl (λ t. refl)

next_type : (sort : Sort) (t : TypeText) {k : TypeText → Parser} {rs : List Reading} {q : Parser} → Reads rs (k t) q →
    Reads (files.type_in sort t ∷ rs) (some_type sort k) q
next_type sort t {k} r = does (does_type sort k) (type_goes sort t k r)

-- a name and its type
next_declared : (sort : Sort) (d : Declared) (k : Declared → Parser) {rs : List Reading} {q : Parser} → Reads rs (k d) q →
    Reads (files.declared sort d ∷ rs) (declared sort k) q
next_declared sort d k r = flat _ (next_name d.name (pass (next_type sort d.shape r)))

-- further names with their types, and the bracket after them
more_declared : (sort : Sort) (ds : List Declared) (k : List Declared → Parser) {rs : List Reading} {q : Parser} → Reads rs (k ds) q
    → Reads (files.more_declared sort ds ++ phrases.symbol sign.RoundClose ∷ rs) (loop (declarations sort) (λ ds. symbol sign.RoundClose (k ds))) q
more_declared sort [] k {rs} r = record {
  reads = λ from rest h.
      ended (declarations sort) from (λ ds. symbol sign.RoundClose (k ds))
      ((opens_pass (mark.Symbol sign.RoundClose) {rs = rs}).opens from rest h (mark.Symbol sign.Comma) refl) ∙ (pass r).reads from rest h;
}
more_declared sort (d ∷ ds) k {rs} r = record {
  reads = λ from rest h.
      let s = split (phrases.symbol sign.Comma) (files.declared sort d ∷ files.more_declared sort ds ++ phrases.symbol sign.RoundClose ∷ rs) from rest h in
      let t = passed (mark.Symbol sign.Comma) from s.mid s.first in
      ap (run (loop (declarations sort) (λ ds. symbol sign.RoundClose (k ds)))) t.is ∙ more (declarations sort) t.at s.mid (λ ds. symbol sign.RoundClose (k ds))
      ∙ (next_declared sort d (λ d. loop (declarations sort) (λ ds. symbol sign.RoundClose (k (d ∷ ds))))
      (more_declared sort ds (λ ds. k (d ∷ ds)) r)).reads s.mid rest s.others;
}

opens_declared : (sort : Sort) (d : Declared) {rs : List Reading} → Opens (files.declared sort d ∷ rs) (mark.Name d.name.text ∷ [])
opens_declared sort d {rs} = record {
  opens = λ from rest h m other. let s = split (files.declared sort d) rs from rest h in
      (opens_take (mark.Name d.name.text) d.name.place).opens from s.mid s.first m other;
}

-- names with their types or none, and the bracket after them
declared_list_goes : (sort : Sort) (ds : List Declared) (k : List Declared → Parser) {rs : List Reading} {q : Parser} → Reads rs (k ds) q
    → Reads (files.any_declared sort ds ∷ phrases.symbol sign.RoundClose ∷ rs) (declared_list_rule sort k) q
declared_list_goes sort [] k r = flat [] (given r)
declared_list_goes sort (d ∷ ds) k r =
    flat _ (otherwise (opens_declared sort d) refl (next_declared sort d (λ d. loop (declarations sort) (λ ds. symbol sign.RoundClose (k (d ∷ ds))))
    (more_declared sort ds (λ ds. k (d ∷ ds)) r)))

does_declared_list : (sort : Sort) (k : List Declared → Parser) (from : List Token) → run (declared_list sort k) from ≡ run (declared_list_rule sort k) from
does_declared_list sort k = alike (declared_list sort k) (declared_list_rule sort k) refl (λ t. refl)

next_declared_list : (sort : Sort) (ds : List Declared) {k : List Declared → Parser} {rs : List Reading} {q : Parser} → Reads rs (k ds) q
    → Reads (files.any_declared sort ds ∷ phrases.symbol sign.RoundClose ∷ rs) (declared_list sort k) q
next_declared_list sort ds {k} r = does (does_declared_list sort k) (declared_list_goes sort ds k r)

-- what is repeated
variable_enters : (w : Keyword) (d : Declared) → Enters (variables w) (files.variable w d) d
variable_enters w d = passing (variables w) d (λ at k. next_declared sorts.All d (λ d. symbol sign.Semicolon (k d)) (pass done))

claim_enters : (w : Keyword) (e : Expr) → Enters (claims w) (files.claim w e) e
claim_enters w e = passing (claims w) e (λ at k. part e (opens_pass (mark.Symbol sign.Semicolon)) refl refl (pass done))

definition_enters : (d : Def) → Enters definitions (files.definition d) d
definition_enters d = passing definitions d
    (λ at k. next_name d.name (pass (next_declared_list sorts.All d.parameters
    (pass (next_type sorts.All d.shape (pass (part d.body (opens_pass (mark.Symbol sign.Semicolon)) refl refl (pass done))))))))

tick_enters : (t : Tick) → Enters ticks (files.tick t) t
tick_enters t = passing ticks t (λ at k. next_name t.name (next_block Impl (block_made t.body) done))

does_on_crash : (k : Option Block → Parser) (from : List Token) → run (on_crash k) from ≡ run (on_crash_rule k) from
does_on_crash k = alike (on_crash k) (on_crash_rule k) refl (λ t. refl)

-- the block for a crash or none, and the implementation after it
next_on_crash : (c : Option Block) {k : Option Block → Parser} {rs : List Reading} {q : Parser} → Reads (phrases.keyword word.Impl ∷ rs) (k c) q
    → Reads (files.on_crash c ∷ phrases.keyword word.Impl ∷ rs) (on_crash k) q
next_on_crash None {k} r = does (does_on_crash k) (flat [] (otherwise (opens_pass (mark.Keyword word.Impl)) refl r))
next_on_crash (Some b) {k} r = does (does_on_crash k) (flat _ (given (pass (next_block Spec (block_made b) r))))

next_operation_blocks : (o : Operation) (answer : Option TypeText) (k : Option TypeText → Block → Option Block → Block → Parser)
    → Reads (files.operation_blocks o answer ∷ []) (operation_blocks k) (k answer o.spec o.on_crash o.implementation)
next_operation_blocks o None k = flat _ (given (next_block Spec (block_made o.spec)
    (next_on_crash o.on_crash (pass (next_block Impl (block_made o.implementation) done)))))
next_operation_blocks o (Some t) k =
    flat _ (otherwise (opens_pass (mark.Symbol sign.Arrow)) refl
    (pass (next_type sorts.Small t (pass (next_answering Spec o.spec (next_on_crash o.on_crash (pass (next_answering Impl o.implementation done))))))))

operation_enters : (o : Operation) → Enters operations (files.operation o) o
operation_enters o = passing operations o (λ at k. next_name o.name (pass (next_declared_list sorts.Small o.arguments
    (next_operation_blocks o o.answer (λ t s c i. k (record
    { name = o.name; arguments = o.arguments; answer = t; spec = s; on_crash = c; implementation = i }))))))

-- the block `crash` with its place, or none
next_crash : (at : Place) (b : Block) {k : Place → Block → Parser} {rs : List Reading} {q : Parser} → Reads rs (k at b) q →
    Reads (files.crash_block at b ∷ rs) (crash_block k) q
next_crash at b {k} {rs} {q} r = record {
  reads = λ from rest h. let s = split (files.crash_block at b) rs from rest h in
      cases from s.mid (starts (mark.Keyword word.Crash) from) refl (is_nowhere at && is_unwritten (block_phrase b)) refl s.first ∙ r.reads s.mid rest s.others;
}
  where
    cases : (from mid : List Token) (s : Bool) → starts (mark.Keyword word.Crash) from ≡ s → (u : Bool) → is_nowhere at && is_unwritten (block_phrase b) ≡ u
        → (if s then in_turn (takes (mark.Keyword word.Crash) at ∷ blocks.block Spec b ∷ []) from else if u then Some from else None) ≡ Some mid →
        run (crash_block k) from ≡ run (k at b) mid
    cases from mid true e u is h = (given_at at {k = λ at. block Spec (k at)} {p = k (record { line = 0; column = 0 }) unwritten}
        (next_block Spec (block_made b) {k = k at} done)).reads from mid h
    cases from mid false e true is h =
        let c = both (is_nowhere at) (is_unwritten (block_phrase b)) is in
        absent (mark.Keyword word.Crash) from (λ at. block Spec (k at)) (k (record { line = 0; column = 0 }) unwritten) e
        ∙ ap (λ at. run (k at unwritten) from) (sym (nowhere_is at c.0)) ∙ ap (λ b. run (k at b) from) (sym ((block_made b).is c.1))
        ∙ ap (run (k at b)) (some_is from mid h)
    cases from mid false e false is h = absurd (cc)

skips_crash : (at : Place) (b : Block) → Skips (files.crash_block at b) (mark.Keyword word.Crash)
skips_crash at b = record {
  skips = λ from rest h e. cases from rest (starts (mark.Keyword word.Crash) from) e
      (is_nowhere at && is_unwritten (block_phrase b)) h;
}
  where
    cases : (from mid : List Token) (s : Bool) → s ≡ false → (u : Bool)
        → (if s then in_turn (takes (mark.Keyword word.Crash) at ∷ blocks.block Spec b ∷ []) from else if u then Some from else None) ≡ Some mid → from ≡ mid
    cases from mid true e u h = absurd (cc)
    cases from mid false e true h = cc
    cases from mid false e false h = absurd (cc)

-- what comes in a layer, from its end to its front, with the tokens that each part may begin with
abbrev closing : List Reading
closing = phrases.symbol sign.BraceClose ∷ []

abbrev after_settled : Layer → List Reading
after_settled l = in_turn (map (files.claim word.Maybe) l.maybe) ∷ closing

abbrev after_always : Layer → List Reading
after_always l = in_turn (map (files.claim word.Settled) l.settled) ∷ after_settled l

abbrev after_relate : Layer → List Reading
after_relate l = in_turn (map (files.claim word.Always) l.always) ∷ after_always l

abbrev after_recover : Layer → List Reading
after_recover l = files.claim word.Relate l.relate ∷ after_relate l

abbrev after_ticks : Layer → List Reading
after_ticks l = blocks.optional word.Recover Impl l.recover ∷ after_recover l

abbrev after_crash : Layer → List Reading
after_crash l = in_turn (map files.tick l.ticks) ∷ after_ticks l

abbrev after_operations : Layer → List Reading
after_operations l = files.crash_block l.crash_place l.crash ∷ after_crash l

abbrev after_format : Layer → List Reading
after_format l = in_turn (map files.operation l.operations) ∷ after_operations l

abbrev after_memory : Layer → List Reading
after_memory l = blocks.optional word.Format Impl l.format ∷ after_format l

abbrev after_start : Layer → List Reading
after_start l = in_turn (map (files.variable word.Memory) l.memory) ∷ after_memory l

abbrev after_state : Layer → List Reading
after_state l = blocks.optional word.Start Plain l.start ∷ after_start l

abbrev word_mark : Keyword → Mark
word_mark k = mark.Keyword k

abbrev closes : List Mark
closes = mark.Symbol sign.BraceClose ∷ []

opens_maybe : (l : Layer) → Opens (after_settled l) (word_mark word.Maybe ∷ closes)
opens_maybe l = opens_many (claims word.Maybe) (files.claim word.Maybe) (claim_enters word.Maybe) l.maybe (opens_pass (mark.Symbol sign.BraceClose))

opens_settled : (l : Layer) → Opens (after_always l) (word_mark word.Settled ∷ word_mark word.Maybe ∷ closes)
opens_settled l = opens_many (claims word.Settled) (files.claim word.Settled) (claim_enters word.Settled) l.settled (opens_maybe l)

opens_relate : (l : Layer) → Opens (after_recover l) (word_mark word.Relate ∷ [])
opens_relate l = record {
  opens = λ from rest h m other. let s = split (files.claim word.Relate l.relate) (after_relate l) from rest h in
      (opens_pass (word_mark word.Relate)).opens from s.mid s.first m other;
}

opens_recover : (l : Layer) → Opens (after_ticks l) (word_mark word.Recover ∷ word_mark word.Relate ∷ [])
opens_recover l = opens_skips (skips_optional word.Recover Impl (block_phrase l.recover)) (opens_relate l)

opens_ticks : (l : Layer) → Opens (after_crash l) (word_mark word.Tick ∷ word_mark word.Recover ∷ word_mark word.Relate ∷ [])
opens_ticks l = opens_many ticks files.tick tick_enters l.ticks (opens_recover l)

opens_crash : (l : Layer) → Opens (after_operations l) (word_mark word.Crash ∷ word_mark word.Tick ∷ word_mark word.Recover ∷ word_mark word.Relate ∷ [])
opens_crash l = opens_skips (skips_crash l.crash_place l.crash) (opens_ticks l)

opens_operations : (l : Layer) → Opens (after_format l)
    (word_mark word.Op ∷ word_mark word.Crash ∷ word_mark word.Tick ∷ word_mark word.Recover ∷ word_mark word.Relate ∷ [])
opens_operations l = opens_many operations files.operation operation_enters l.operations (opens_crash l)

opens_format : (l : Layer) → Opens (after_memory l)
    (word_mark word.Format ∷ word_mark word.Op ∷ word_mark word.Crash ∷ word_mark word.Tick ∷ word_mark word.Recover ∷ word_mark word.Relate ∷ [])
opens_format l = opens_skips (skips_optional word.Format Impl (block_phrase l.format)) (opens_operations l)

opens_memory : (l : Layer)
    → Opens (after_start l) (word_mark word.Memory ∷ word_mark word.Format ∷ word_mark word.Op ∷ word_mark word.Crash ∷ word_mark word.Tick
    ∷ word_mark word.Recover ∷ word_mark word.Relate ∷ [])
opens_memory l = opens_many (variables word.Memory) (files.variable word.Memory) (variable_enters word.Memory) l.memory (opens_format l)

opens_start : (l : Layer)
    → Opens (after_state l) (word_mark word.Start ∷ word_mark word.Memory ∷ word_mark word.Format ∷ word_mark word.Op ∷ word_mark word.Crash
    ∷ word_mark word.Tick ∷ word_mark word.Recover ∷ word_mark word.Relate ∷ [])
opens_start l = opens_skips (skips_optional word.Start Plain (block_phrase l.start)) (opens_memory l)

layer_enters : (l : Layer) → Enters layers (files.layer l) l
layer_enters l = taking layers l l.place (λ k. next_name l.name (pass
    (many (variables word.State) (files.variable word.State) (variable_enters word.State) l.state (opens_start l) refl
    (next_optional word.Start Plain (block_made l.start)
    (many (variables word.Memory) (files.variable word.Memory) (variable_enters word.Memory) l.memory (opens_format l) refl
    (next_optional word.Format Impl (block_made l.format)
    (many operations files.operation operation_enters l.operations (opens_crash l) refl
    (next_crash l.crash_place l.crash
    (many ticks files.tick tick_enters l.ticks (opens_recover l) refl
    (next_optional word.Recover Impl (block_made l.recover)
    (flat _ (pass (part l.relate (opens_pass (mark.Symbol sign.Semicolon)) refl refl (pass
    (many (claims word.Always) (files.claim word.Always) (claim_enters word.Always) l.always (opens_settled l) refl
    (many (claims word.Settled) (files.claim word.Settled) (claim_enters word.Settled) l.settled (opens_maybe l) refl
    (many (claims word.Maybe) (files.claim word.Maybe) (claim_enters word.Maybe) l.maybe (opens_pass (mark.Symbol sign.BraceClose)) refl
    (pass done))))))))))))))))))

-- the disk
sizes_made : (kind : DiskKind) (rows words width : Numeral) (k : DiskText → Parser)
    → Reads (numbered rows ∷ phrases.keyword word.Of ∷ numbered words ∷ phrases.keyword word.Of ∷ numbered width ∷ phrases.symbol sign.Semicolon ∷ [])
    (sizes kind k) (k (record { kind = kind; rows = rows; words = words; width = width }))
sizes_made kind rows words width k = next_number rows (pass (next_number words (pass (next_number width (pass done)))))

disk_made : (kind : DiskKind) (rows words width : Numeral) (k : DiskText → Parser)
    → Reads (files.disk_text (record { kind = kind; rows = rows; words = words; width = width }) ∷ []) (disk_text k)
    (k (record { kind = kind; rows = rows; words = words; width = width }))
disk_made disk.Sync rows words width k = flat _ (pass (given (sizes_made disk.Sync rows words width k)))
disk_made disk.Async rows words width k = flat _ (pass (otherwise (opens_pass (word_mark word.Async)) refl (pass (sizes_made disk.Async rows words width k))))

-- one layer or more
layers_made : (ls : List Layer) (k : List Layer → Parser) (from mid : List Token) → files.layers ls from ≡ Some mid →
    starts (word_mark word.Layer) mid ≡ false → run (loop layers k) from ≡ run (k ls) mid
layers_made [] k from mid h end = absurd (cc)
layers_made (l ∷ ls) k from mid h end = all_entered layers files.layer layer_enters (l ∷ ls) k from mid h end

no_definition : (ls : List Layer) (from mid : List Token) → files.layers ls from ≡ Some mid → starts (word_mark word.Def) from ≡ false
no_definition [] from mid h = absurd (cc)
no_definition (l ∷ ls) from mid h =
    let s = split (files.layer l) (map files.layer ls) from mid h in ap (starts (word_mark word.Def)) ((layer_enters l).enters from s.mid s.first).is

-- the parser makes the file that derives from the tokens
pub file_made : (tokens : List Token) (f : File) → Derives tokens f → run file tokens ≡ Some f
unfolding run
file_made tokens f d =
    let head : List Reading = phrases.keyword word.Yggdrasil ∷ passes (mark.Num 1) ∷ phrases.symbol sign.Semicolon ∷ files.disk_text f.disk ∷ [] in
    let others : List Reading = in_turn (map files.definition f.defs) ∷ files.layers f.layers ∷ [] in
    let of_layers : List Def → List Layer → Parser = λ ds ls. answer (record { disk = f.disk; defs = ds; layers = ls }) in
    let s = split (in_turn head) others tokens [] (joined head others tokens ∙ d.derives) in
    let t = split (in_turn (map files.definition f.defs)) (files.layers f.layers ∷ []) s.mid [] s.others in
    let u = split (files.layers f.layers) [] t.mid [] t.others in
    let end = empty u.mid [] u.others in
    (head_made f.disk).reads tokens s.mid s.first
    ∙ all_entered definitions files.definition definition_enters f.defs (λ ds. loop layers (of_layers ds)) s.mid t.mid t.first
    (no_definition f.layers t.mid u.mid u.first)
    ∙ layers_made f.layers (of_layers f.defs) t.mid u.mid u.first (ap (starts (word_mark word.Layer)) end)
    ∙ ap (run (answer f)) end
  where
    head_made : (disk : DiskText) → Reads (phrases.keyword word.Yggdrasil ∷ passes (mark.Num 1) ∷ phrases.symbol sign.Semicolon ∷ files.disk_text disk
        ∷ []) file
        (loop definitions (λ ds. loop layers (λ ls. answer (record { disk = disk; defs = ds; layers = ls }))))
    head_made disk = pass (pass (pass (disk_made disk.kind disk.rows disk.words disk.width
        (λ d. loop definitions (λ ds. loop layers (λ ls. answer (record { disk = d; defs = ds; layers = ls })))))))

-- at most one file derives from given tokens
pub only_file : (tokens : List Token) (f g : File) → Derives tokens f → Derives tokens g → f ≡ g
only_file tokens f g d e = let same : Some f ≡ Some g = sym (file_made tokens f d) ∙ file_made tokens g e in cc
