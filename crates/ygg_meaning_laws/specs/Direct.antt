-- A block that is run on a machine which answers by a function. Each choice and each call has places of its own in the unrolled text.
use Rattle.std.specs.Prelude.{◌≡◌, ◌≤◌, ℕ, zero, suc, ◌+◌, ◌*◌, if◌then◌else◌, List, [], ◌∷◌, ◌++◌, map, length, take}
use Rattle.ygg_value.specs.Words.{word}
use Rattle.ygg_value.specs.declared.row.Value.{Value}
use Rattle.ygg_value.specs.declared.row.Value.TheVariants.{Word}
use Rattle.ygg_syntax.specs.declared.tree.Source.{Source}
use Rattle.ygg_syntax.specs.declared.tree.Source.TheVariants as source
use Rattle.ygg_syntax.specs.declared.tree.Stmt.{Stmt}
use Rattle.ygg_syntax.specs.declared.tree.Block.{Block}
use Rattle.ygg_syntax.specs.declared.tree.Stmt.TheOpen.{Stmt-F, Block-F}
use Rattle.ygg_syntax.specs.declared.tree.Stmt.TheFolds.{fold-Stmt}
use Rattle.ygg_meaning_laws.specs.Environments.{Name, Env}
use Rattle.ygg_meaning_laws.specs.Meaning.{is_one}
use Rattle.ygg_meaning_laws.specs.Progress.{Eval, Question, Choice, Call, Answer, Point, Waits, value_in, values_of, assigned}

-- what a machine answers, and its state after that
pub record Handled (S : Type 0) : Type 0 where
  pub answer : Answer
  pub to : S

-- a question that was asked at a place and answered
pub record Event (S : Type 0) : Type 0 where
  pub place : ℕ
  pub question : Question
  pub before : S
  pub answer : Answer
  pub after : S

-- where a part of a block has got to, and what was asked on the way
pub record Reached (S : Type 0) : Type 0 where
  pub env : Env
  pub to : S
  pub events : List (Event S)

-- a part of a block: how many places it has, and what it does from a place on
pub record Direct (S : Type 0) : Type 0 where
  pub room : ℕ
  pub run : ℕ → Env → S → Reached S

-- the value of a right side, and what was asked for it
pub record Got (S : Type 0) : Type 0 where
  pub value : Value
  pub to : S
  pub events : List (Event S)

-- the sum of some numbers
abbrev pub total : List ℕ → ℕ
total [] = 0
total (n ∷ ns) = n + total ns

module _ (space : Name → ℕ) where
  -- how many places a right side has: a choice one, and a call so many as its name has
  abbrev pub source_space : Source → ℕ
  source_space (source.Value e) = 0
  source_space (source.Choose at) = 1
  source_space (source.Call at f es) = space f.text

  -- how many places a question has
  abbrev pub question_space : Question → ℕ
  question_space Choice = 1
  question_space (Call f args) = space f

  -- how many places a statement has, where those of the blocks inside stand in their places
  abbrev pub stmt_room : Stmt-F ℕ ℕ → ℕ
  stmt_room (Stmt-F.Let x from) = source_space from
  stmt_room (Stmt-F.Assign x is from) = source_space from
  stmt_room (Stmt-F.If test first second) = first + second
  stmt_room (Stmt-F.For x w n each) = n.value * each
  stmt_room (Stmt-F.Call f es) = space f.text

  -- how many places a block inside another has
  abbrev pub block_room : Block-F ℕ ℕ → ℕ
  block_room b = total b.statements

  -- how many places a block has in the unrolled text
  abbrev pub room_of : Block → ℕ
  room_of b = total (map (fold-Stmt ℕ ℕ stmt_room block_room) b.statements)

module _ {S : Type 0} where
  -- nothing is done
  abbrev pub stays : Env → S → Reached S
  stays env s = record { env = env; to = s; events = [] }

  -- one part after another
  abbrev pub then_run : Reached S → (Env → S → Reached S) → Reached S
  then_run r next = record { env = (next r.env r.to).env; to = (next r.env r.to).to; events = r.events ++ (next r.env r.to).events }

  -- the names that are new since the block began are forgotten
  abbrev pub forgets : Env → Reached S → Reached S
  forgets before r = record { env = take (length before) r.env; to = r.to; events = r.events }

  -- one question
  abbrev pub got : ℕ → Question → S → Handled S → Got S
  got i q s h = record { value = value_in h.answer; to = h.to; events = record { place = i; question = q; before = s; answer = h.answer; after = h.to } ∷ [] }

  -- a block that is run for count numbers, from k on, each time at places of its own
  abbrev pub times : ℕ → ℕ → ℕ → (ℕ → ℕ → Env → S → Reached S) → ℕ → Env → S → Reached S
  times zero k room body i env s = stays env s
  times (suc count) k room body i env s = then_run (body k i env s) (times count (k + 1) room body (i + room))

  -- the parts in turn
  abbrev pub in_order : List (Direct S) → ℕ → Env → S → Reached S
  in_order [] i env s = stays env s
  in_order (d ∷ ds) i env s = then_run (d.run i env s) (in_order ds (i + d.room))

  module _ (eval : Eval) (space : Name → ℕ) (handle : ℕ → Question → S → Handled S) where
    -- a question at a place
    abbrev pub asks : ℕ → Question → S → Got S
    asks i q s = got i q s (handle i q s)

    -- a right side
    abbrev pub source_got : Source → ℕ → Env → S → Got S
    source_got (source.Value e) i env s = record { value = eval e env; to = s; events = [] }
    source_got (source.Choose at) i env s = asks i Choice s
    source_got (source.Call at f es) i env s = asks i (Call f.text (values_of eval es env)) s

    -- the right side is put to use
    abbrev pub with_got : (Value → Env) → Got S → Reached S
    with_got f g = record { env = f g.value; to = g.to; events = g.events }

    -- a statement, where what the blocks inside do stands in their places: the two sides of an `if` have places one after the other
    abbrev pub stmt_direct : Stmt-F (Direct S) (Direct S) → Direct S
    stmt_direct (Stmt-F.Let x from) = record {
      room = source_space space from;
      run =
          λ i env s. with_got (λ v. env ++ (x.text, v) ∷ []) (source_got from i env s);
    }
    stmt_direct (Stmt-F.Assign x is from) = record {
      room = source_space space from;
      run =
          λ i env s. with_got (assigned eval env x.text is) (source_got from i env s);
    }
    stmt_direct (Stmt-F.If test first second) = record {
      room = first.room + second.room;
      run = λ i env s. if is_one (eval test env) then first.run i env s else second.run (i + first.room) env s;
    }
    stmt_direct (Stmt-F.For x w n each) = record {
      room = n.value * each.room;
      run = times n.value 0 each.room (λ k i env s. forgets env (each.run i (env ++ (x.text, Word (word w.value k)) ∷ []) s));
    }
    stmt_direct (Stmt-F.Call f es) = record { room = space f.text; run = λ i env s. with_got (λ v. env) (asks i (Call f.text (values_of eval es env)) s) }

    -- a block inside another
    abbrev pub block_direct : Block-F (Direct S) (Direct S) → Direct S
    block_direct b = record { room = total (map (λ d. d.room) b.statements); run = λ i env s. forgets env (in_order b.statements i env s) }

    -- a statement
    abbrev pub direct_of : Stmt → Direct S
    direct_of = fold-Stmt (Direct S) (Direct S) stmt_direct block_direct

    -- the statements of a block, with all names that they leave
    abbrev pub direct_run : Block → Env → S → Reached S
    direct_run b = in_order (map direct_of b.statements) 0

module _ {S : Type 0} where
  -- the answers, in turn
  abbrev pub told_by : List (Event S) → List Answer
  told_by = map (λ e. e.answer)

  -- a part of a block that is told the answers one by one asks these questions
  abbrev pub AsksAll : (List Answer → Point) → List Answer → List (Event S) → Type 0
  AsksAll t told [] = Unit {0}
  AsksAll t told (e ∷ es) = (t told ≡ Waits e.question) × AsksAll t (told ++ e.answer ∷ []) es

  -- the machine gives these answers
  abbrev pub Chained : (ℕ → Question → S → Handled S) → S → List (Event S) → S → Type 0
  Chained handle from [] to = from ≡ to
  Chained handle from (e ∷ es) to = (e.before ≡ from) × (handle e.place e.question from ≡ record { answer = e.answer; to = e.after })
      × Chained handle e.after es to

  -- places go up, each question having its own
  abbrev pub Within : (Question → ℕ) → ℕ → List (Event S) → ℕ → Type 0
  Within size low [] high = low ≤ high
  Within size low (e ∷ es) high = (low ≤ e.place) × Within size (e.place + size e.question) es high

-- a machine on states of another kind gives the same answers at these events
module _ {R S : Type 0} (handle : ℕ → Question → S → Handled S) (f : R → S) where
  -- at each of the events it answers as the event says, from the state that f makes of the one before to that of the one after
  abbrev pub Alike : List (Event R) → Type 0
  Alike [] = Unit {0}
  Alike (e ∷ es) = (handle e.place e.question (f e.before) ≡ record { answer = e.answer; to = f e.after }) × Alike es

  -- the event on the states that f makes of its own
  abbrev pub seen : Event R → Event S
  seen e = record { place = e.place; question = e.question; before = f e.before; answer = e.answer; after = f e.after }

  -- what a run reached, with the states that f makes of its own
  abbrev pub seen_run : Reached R → Reached S
  seen_run r = record { env = r.env; to = f r.to; events = map seen r.events }
