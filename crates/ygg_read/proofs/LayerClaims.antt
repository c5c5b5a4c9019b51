-- What derives from a file is taken by the pending symbols.
use Rattle.std.proofs.Common.{◌≡◌, Bool, true, false, ◌&&◌, if◌then◌else◌, List, [], ◌∷◌, ◌++◌, map, Option, Some, None, refl, sym, ap, ◌∙◌, subst}
use Rattle.ygg_base.specs.declared.token.Keyword.{Keyword}
use Rattle.ygg_base.specs.declared.token.Keyword.TheVariants as word
use Rattle.ygg_base.specs.declared.token.Symbol.TheVariants as sign
use Rattle.ygg_base.specs.declared.token.Mark.TheVariants as mark
use Rattle.ygg_base.specs.declared.token.Token.{Token}
use Rattle.ygg_syntax.specs.declared.grammar.BlockKind.{BlockKind}
use Rattle.ygg_syntax.specs.declared.grammar.BlockKind.TheVariants.{Plain, Spec, Impl}
use Rattle.ygg_syntax.specs.declared.grammar.Sort.TheVariants as sorts
use Rattle.ygg_syntax.specs.declared.tree.Place.{Place}
use Rattle.ygg_syntax.specs.declared.tree.TypeText.{TypeText}
use Rattle.ygg_syntax.specs.declared.tree.Declared.{Declared}
use Rattle.ygg_syntax.specs.declared.tree.Expr.{Expr}
use Rattle.ygg_syntax.specs.declared.tree.Block.{Block}
use Rattle.ygg_base.specs.declared.geometry.DiskKind.{DiskKind}
use Rattle.ygg_base.specs.declared.geometry.DiskKind.TheVariants as disk
use Rattle.ygg_syntax.specs.declared.tree.DiskText.{DiskText}
use Rattle.ygg_syntax.specs.declared.tree.Def.{Def}
use Rattle.ygg_syntax.specs.declared.tree.Operation.{Operation}
use Rattle.ygg_syntax.specs.declared.tree.Tick.{Tick}
use Rattle.ygg_syntax.specs.declared.tree.Layer.{Layer}
use Rattle.ygg_syntax.specs.declared.tree.File.{File}
use Rattle.ygg_syntax.specs.Reading.{Reading, token, starts, passes, takes, in_turn}
use Rattle.ygg_syntax.specs.Expressions.{keyword, symbol, numbered, phrase, expr}
use Rattle.ygg_syntax.specs.Blocks.{block_phrase, optional, without_answer, with_answer, is_nowhere, is_unwritten}
use Rattle.ygg_syntax.specs.Blocks as blocks
use Rattle.ygg_syntax.specs.Files.{
  type_in,
  declared,
  any_declared,
  disk_word,
  disk_text,
  definition,
  variable,
  claim,
  operation_blocks,
  operation,
  tick,
  layer,
  layers,
  whole_file,
  Derives,
}
use Rattle.ygg_syntax.specs.Files as files
use Rattle.ygg_syntax.specs.Pending.{
  Pending,
  Part,
  perhaps,
  repeated,
  exactly,
  name,
  number,
  expression,
  some_type,
  disk_kind,
  rest_of_declared,
  rest_of_operation,
  beginning,
  rest_of,
  rest_of_variable,
  rest_of_layer,
  rest_of_file,
  word_of,
  sign_of,
  outcome,
  reads,
}
use Rattle.ygg_syntax.specs.Pending as pending
use Rattle.ygg_read.proofs.Marks.{passed}
use Rattle.ygg_read.proofs.Stopped.{goes_token, left_out, ended}
use Rattle.ygg_read.proofs.TakenWhole.{split, empty, Runs, done, next_mark, next_number, next_name, next_part, all_claims}
use Rattle.ygg_read.proofs.Sources.{next_rule}
use Rattle.ygg_read.proofs.ClaimParts.{
  begins_perhaps,
  Enters,
  passing,
  taking,
  all_entered,
  Chooses,
  first_mark,
  first_rule,
  first_parts,
  first_choice,
  whole_parts,
}
use Rattle.ygg_read.proofs.Statements.{block_runs, next_block, next_answering, optional_chooses}
use Rattle.ygg_read.proofs.Declared.{next_type, declared_run, next_any_declared}

-- an expression and a semicolon after it
next_claim : (e : Expr) {rs : List Reading} {qs : List Pending} → Runs rs qs →
    Runs (expr e ∷ symbol sign.Semicolon ∷ rs) (expression ∷ sign_of sign.Semicolon ∷ qs)
next_claim e {rs} {qs} r = next_part (phrase e) (mark.Symbol sign.Semicolon) (all_claims e) refl refl r

variable_enters : (p : Part) (k : Keyword) → beginning p ≡ mark.Keyword k → rest_of p ≡ rest_of_variable → (d : Declared) → Enters (variable k d) p
variable_enters p k first others d =
    subst (λ m. Enters (in_turn (passes m ∷ declared sorts.All d ∷ symbol sign.Semicolon ∷ [])) p) first
    (passing p (subst (Runs (declared sorts.All d ∷ symbol sign.Semicolon ∷ [])) (sym others)
    (next_rule (declared_run sorts.All d) (next_mark (mark.Symbol sign.Semicolon) done))))

claim_enters : (p : Part) (k : Keyword) → beginning p ≡ mark.Keyword k → rest_of p ≡ expression ∷ sign_of sign.Semicolon ∷ [] → (e : Expr) →
    Enters (claim k e) p
claim_enters p k first others e =
    subst (λ m. Enters (in_turn (passes m ∷ expr e ∷ symbol sign.Semicolon ∷ [])) p) first
    (passing p (subst (Runs (expr e ∷ symbol sign.Semicolon ∷ [])) (sym others) (next_claim e done)))

definition_enters : (d : Def) → Enters (definition d) pending.definition
definition_enters d = passing pending.definition
    (next_name d.name (next_mark (mark.Symbol sign.RoundOpen) (next_any_declared sorts.All d.parameters (next_mark (mark.Symbol sign.Arrow)
    (next_type sorts.All d.shape (next_mark (mark.Symbol sign.Assign) (next_claim d.body done)))))))

tick_enters : (t : Tick) → Enters (tick t) pending.tick
tick_enters t = passing pending.tick (next_name t.name (next_block Impl (block_phrase t.body) (block_runs t.body) done))

-- the block for a crash, or none, before the keyword of the implementation
next_on_crash : (b : Option Block) {rs : List Reading} {qs : List Pending} → Runs rs qs →
    Runs (files.on_crash b ∷ keyword word.Impl ∷ rs) (perhaps pending.on_crash ∷ word_of word.Impl ∷ qs)
next_on_crash None {rs} {qs} r = record {
  runs = λ from rest h ps.
      let s = split (files.on_crash None) (keyword word.Impl ∷ rs) from rest h in
      let t = split (keyword word.Impl) rs s.mid rest s.others in
      ap (outcome (perhaps pending.on_crash ∷ word_of word.Impl ∷ qs ++ ps)) (empty from s.mid s.first)
      ∙ left_out pending.on_crash s.mid (ap (starts (mark.Keyword word.On)) (passed (mark.Keyword word.Impl) s.mid t.mid t.first).is)
      (word_of word.Impl ∷ qs ++ ps)
      ∙ (next_mark (mark.Keyword word.Impl) r).runs s.mid rest s.others ps;
}
next_on_crash (Some b) {rs} {qs} r = record {
  runs = λ from rest h ps.
      let s = split (files.on_crash (Some b)) (keyword word.Impl ∷ rs) from rest h in
      let e = (passing pending.on_crash (next_mark (mark.Keyword word.Crash) (next_block Spec (block_phrase b) (block_runs b) done))).enters from
      s.mid s.first in
      ap (outcome (perhaps pending.on_crash ∷ word_of word.Impl ∷ qs ++ ps)) e.is ∙ begins_perhaps pending.on_crash e.at e.mid (word_of word.Impl ∷ qs ++ ps)
      ∙ e.runs (word_of word.Impl ∷ qs ++ ps) ∙ (next_mark (mark.Keyword word.Impl) r).runs s.mid rest s.others ps;
}

pub begins_spec : (at : Place) (rest : List Token) (qs : List Pending) → outcome (rest_of_operation ∷ qs) (token (mark.Keyword word.Spec) at ∷ rest)
    ≡ outcome (pending.block Spec ∷ perhaps pending.on_crash ∷ word_of word.Impl ∷ pending.block Impl ∷ qs) rest
unfolding outcome
begins_spec at rest qs = refl

pub begins_arrow : (at : Place) (rest : List Token) (qs : List Pending) → outcome (rest_of_operation ∷ qs) (token (mark.Symbol sign.Arrow) at ∷ rest)
    ≡ outcome (some_type sorts.Small ∷ word_of word.Spec ∷ pending.answering Spec ∷ perhaps pending.on_crash ∷ word_of word.Impl
    ∷ pending.answering Impl ∷ qs) rest
unfolding outcome
begins_arrow at rest qs = refl

-- the blocks of an operation
blocks_run : (o : Operation) (answer : Option TypeText) (from rest : List Token) → operation_blocks o answer from ≡ Some rest → (ps : List Pending) →
    outcome (rest_of_operation ∷ ps) from ≡ outcome ps rest
blocks_run o None from rest h ps =
    let s = split (keyword word.Spec) (blocks.block Spec o.spec ∷ files.on_crash o.on_crash ∷ keyword word.Impl ∷ blocks.block Impl o.implementation ∷
    []) from rest h in
    let k = passed (mark.Keyword word.Spec) from s.mid s.first in
    ap (outcome (rest_of_operation ∷ ps)) k.is ∙ begins_spec k.at s.mid ps
    ∙ (next_block Spec (block_phrase o.spec) (block_runs o.spec)
    (next_on_crash o.on_crash (next_block Impl (block_phrase o.implementation) (block_runs o.implementation) done))).runs s.mid rest s.others ps
blocks_run o (Some t) from rest h ps =
    let s = split (symbol sign.Arrow) (type_in sorts.Small t ∷ keyword word.Spec ∷ blocks.answering Spec o.spec ∷ files.on_crash o.on_crash
    ∷ keyword word.Impl ∷ blocks.answering Impl o.implementation ∷ []) from rest h in
    let k = passed (mark.Symbol sign.Arrow) from s.mid s.first in
    ap (outcome (rest_of_operation ∷ ps)) k.is ∙ begins_arrow k.at s.mid ps
    ∙ (next_type sorts.Small t (next_mark (mark.Keyword word.Spec)
    (next_answering Spec o.spec (next_on_crash o.on_crash (next_answering Impl o.implementation done))))).runs s.mid rest s.others ps

next_blocks : (o : Operation) → Runs (operation_blocks o o.answer ∷ []) (rest_of_operation ∷ [])
next_blocks o = record {
  runs = λ from rest h ps. let s = split (operation_blocks o o.answer) [] from rest h in
      blocks_run o o.answer from s.mid s.first ps ∙ ap (outcome ps) (empty s.mid rest s.others);
}

operation_enters : (o : Operation) → Enters (operation o) pending.operation
operation_enters o = passing pending.operation (next_name o.name
    (next_mark (mark.Symbol sign.RoundOpen) (next_any_declared sorts.Small o.arguments (next_blocks o))))

-- the block `crash`, with its place, or none
crash_chooses : (at : Place) (b : Block) → Chooses (files.crash_block at b) pending.crash_block
crash_chooses at b = record {
  chooses = λ from rest h. record {
    there = λ e. (taking pending.crash_block at (next_block Spec (block_phrase b) (block_runs b) done)).enters from rest
        (written (starts (mark.Keyword word.Crash) from) e from rest h);
    absent = λ e. unwritten (starts (mark.Keyword word.Crash) from) (is_nowhere at && is_unwritten (block_phrase b)) e from rest h;
  };
}
  where
    written : (s : Bool) → s ≡ true → (from rest : List Token)
        → (if s then in_turn (takes (mark.Keyword word.Crash) at ∷ blocks.block Spec b ∷ []) from else if is_nowhere at
        && is_unwritten (block_phrase b) then Some from else None) ≡ Some rest
        → in_turn (takes (mark.Keyword word.Crash) at ∷ blocks.block Spec b ∷ []) from ≡ Some rest
    written true e from rest h = h
    written false e from rest h = absurd (cc)

    unwritten : (s u : Bool) → s ≡ false → (from rest : List Token)
        → (if s then in_turn (takes (mark.Keyword word.Crash) at ∷ blocks.block Spec b ∷ []) from else if u then Some from else None) ≡ Some rest → from ≡ rest
    unwritten true u e from rest h = absurd (cc)
    unwritten false true e from rest h = cc
    unwritten false false e from rest h = absurd (cc)

next_optional : (p : Part) (k : Keyword) (kind : BlockKind) (b : Block) → beginning p ≡ mark.Keyword k → rest_of p ≡ pending.block kind ∷ [] →
    Chooses (optional k kind b) p
next_optional p k kind b first others = optional_chooses p k kind (block_phrase b) first others (block_runs b)

-- a layer, from its end to its front
layer_enters : (l : Layer) → Enters (layer l) pending.next_layer
layer_enters l =
    let closed = first_mark (mark.Symbol sign.BraceClose) done in
    let maybe = first_parts (claim word.Maybe) pending.maybe (claim_enters pending.maybe word.Maybe refl refl) l.maybe refl closed in
    let settled = first_parts (claim word.Settled) pending.settled (claim_enters pending.settled word.Settled refl refl) l.settled refl maybe in
    let always = first_parts (claim word.Always) pending.always (claim_enters pending.always word.Always refl refl) l.always refl settled in
    let relate = first_rule (mark.Keyword word.Relate) (next_claim l.relate done) (whole_parts always) in
    let recover = first_choice (optional word.Recover Impl l.recover) pending.recover_block
    (next_optional pending.recover_block word.Recover Impl l.recover refl refl) relate in
    let ticks = first_parts tick pending.tick tick_enters l.ticks refl recover in
    let crash = first_choice (files.crash_block l.crash_place l.crash) pending.crash_block (crash_chooses l.crash_place l.crash) ticks in
    let operations = first_parts operation pending.operation operation_enters l.operations refl crash in
    let format = first_choice (optional word.Format Impl l.format) pending.format_block
    (next_optional pending.format_block word.Format Impl l.format refl refl) operations in
    let memory = first_parts (variable word.Memory) pending.memory_variable
    (variable_enters pending.memory_variable word.Memory refl refl) l.memory refl format in
    let start = first_choice (optional word.Start Plain l.start) pending.start_block
    (next_optional pending.start_block word.Start Plain l.start refl refl) memory in
    let state = first_parts (variable word.State) pending.state_variable (variable_enters pending.state_variable word.State refl refl) l.state refl start in
    taking pending.next_layer l.place (next_name l.name (next_mark (mark.Symbol sign.BraceOpen) (whole_parts state)))

pub begins_kind : (k : DiskKind) (at : Place) (rest : List Token) (qs : List Pending) →
    outcome (disk_kind ∷ qs) (token (mark.Keyword (disk_word k)) at ∷ rest) ≡ outcome qs rest
unfolding outcome
begins_kind disk.Sync at rest qs = refl
begins_kind disk.Async at rest qs = refl

next_kind : (k : DiskKind) {rs : List Reading} {qs : List Pending} → Runs rs qs → Runs (keyword (disk_word k) ∷ rs) (disk_kind ∷ qs)
next_kind k {rs} {qs} r = record {
  runs = λ from rest h ps. let s = split (keyword (disk_word k)) rs from rest h in let t = passed (mark.Keyword (disk_word k)) from s.mid s.first in
      ap (outcome (disk_kind ∷ qs ++ ps)) t.is ∙ begins_kind k t.at s.mid (qs ++ ps) ∙ r.runs s.mid rest s.others ps;
}

disk_runs : (d : DiskText) → Runs (keyword word.Disk ∷ keyword (disk_word d.kind) ∷ numbered d.rows ∷ keyword word.Of ∷ numbered d.words
    ∷ keyword word.Of ∷ numbered d.width ∷ symbol sign.Semicolon ∷ [])
    (word_of word.Disk ∷ disk_kind ∷ number ∷ word_of word.Of ∷ number ∷ word_of word.Of ∷ number ∷ sign_of sign.Semicolon ∷ [])
disk_runs d = next_mark (mark.Keyword word.Disk) (next_kind d.kind
    (next_number d.rows (next_mark (mark.Keyword word.Of) (next_number d.words (next_mark (mark.Keyword word.Of)
    (next_number d.width (next_mark (mark.Symbol sign.Semicolon) done)))))))

-- one layer or more, with the tokens of the first
record LayersRun (from rest : List Token) : Type 0 where
  at : Place
  mid : List Token
  is : from ≡ token (mark.Keyword word.Layer) at ∷ mid
  runs : outcome (rest_of_layer ++ (repeated pending.next_layer ∷ [])) mid ≡ outcome (repeated pending.next_layer ∷ []) rest

layers_run : (ls : List Layer) (from rest : List Token) → layers ls from ≡ Some rest → LayersRun from rest
layers_run [] from rest h = absurd (cc)
layers_run (l ∷ ls) from rest h =
    let s = split (layer l) (map layer ls) from rest h in
    let e = (layer_enters l).enters from s.mid s.first in
    record {
      at = e.at;
      mid = e.mid;
      is = e.is;
      runs = e.runs (repeated pending.next_layer ∷ [])
          ∙ all_entered layer pending.next_layer layer_enters ls s.mid rest s.others [];
    }

pub begins_file : (at : Place) (rest : List Token) (qs : List Pending) →
    outcome (pending.file ∷ qs) (token (mark.Keyword word.Yggdrasil) at ∷ rest) ≡ outcome (rest_of_file ++ qs) rest
unfolding outcome
begins_file at rest qs = refl

ends_file : outcome (repeated pending.next_layer ∷ []) [] ≡ reads
unfolding outcome
ends_file = refl

pub file_complete : (tokens : List Token) (tree : File) → Derives tokens tree → outcome (pending.file ∷ []) tokens ≡ reads
file_complete tokens f d =
    let last : List Pending = word_of word.Layer ∷ rest_of_layer ++ (repeated pending.next_layer ∷ []) in
    let s = split (keyword word.Yggdrasil) (passes (mark.Num 1) ∷ symbol sign.Semicolon ∷ disk_text f.disk ∷ in_turn (map definition f.defs)
    ∷ layers f.layers ∷ []) tokens [] d.derives in
    let k = passed (mark.Keyword word.Yggdrasil) tokens s.mid s.first in
    let n = split (passes (mark.Num 1)) (symbol sign.Semicolon ∷ disk_text f.disk ∷ in_turn (map definition f.defs) ∷ layers f.layers ∷ []) s.mid [] s.others in
    let one = passed (mark.Num 1) s.mid n.mid n.first in
    let t = split (symbol sign.Semicolon) (disk_text f.disk ∷ in_turn (map definition f.defs) ∷ layers f.layers ∷ []) n.mid [] n.others in
    let semicolon = passed (mark.Symbol sign.Semicolon) n.mid t.mid t.first in
    let u = split (disk_text f.disk) (in_turn (map definition f.defs) ∷ layers f.layers ∷ []) t.mid [] t.others in
    let v = split (in_turn (map definition f.defs)) (layers f.layers ∷ []) u.mid [] u.others in
    let w = split (layers f.layers) [] v.mid [] v.others in
    let l = layers_run f.layers v.mid w.mid w.first in
    ap (outcome (pending.file ∷ [])) k.is ∙ begins_file k.at s.mid []
    ∙ goes_token (mark.Num 1) one.at s.mid n.mid one.is _ ∙ goes_token (mark.Symbol sign.Semicolon) semicolon.at n.mid t.mid semicolon.is _
    ∙ (disk_runs f.disk).runs t.mid u.mid u.first (repeated pending.definition ∷ last)
    ∙ all_entered definition pending.definition definition_enters f.defs u.mid v.mid v.first last
    ∙ ended pending.definition v.mid (ap (starts (mark.Keyword word.Def)) l.is) last
    ∙ goes_token (mark.Keyword word.Layer) l.at v.mid l.mid l.is (rest_of_layer ++ (repeated pending.next_layer ∷ []))
    ∙ l.runs ∙ ap (outcome (repeated pending.next_layer ∷ [])) (empty w.mid [] w.others) ∙ ends_file
