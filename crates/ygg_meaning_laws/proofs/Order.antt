-- A direct run asks what the block asks, in order, and the machine gives its answers.
use Rattle.std.proofs.Common.{
  ◌≡◌,
  ◌≤◌,
  ℕ,
  zero,
  suc,
  ◌+◌,
  ◌*◌,
  Bool,
  true,
  false,
  if◌then◌else◌,
  List,
  [],
  ◌∷◌,
  ◌++◌,
  map,
  refl,
  sym,
  ap,
  ◌∙◌,
  subst,
  append_assoc,
  arith,
}
use Rattle.std.proofs.lemmas.List.{append-nil, map-append}
use Rattle.ygg_value.specs.Words.{word}
use Rattle.ygg_value.specs.declared.row.Value.{Value}
use Rattle.ygg_value.specs.declared.row.Value.TheVariants.{Word}
use Rattle.ygg_syntax.specs.declared.tree.Stmt.{Stmt, roll-Stmt, map-Stmt}
use Rattle.ygg_syntax.specs.declared.tree.Block.{Block, roll-Block, map-Block, fold-Block}
use Rattle.ygg_syntax.specs.declared.tree.Stmt.TheOpen.{Stmt-F, Block-F}
use Rattle.ygg_syntax.specs.declared.tree.Stmt.TheFolds.{ind-Stmt, fold-roll-Stmt, fold-roll-Block}
use Rattle.ygg_syntax.specs.declared.tree.Source.{Source}
use Rattle.ygg_syntax.specs.declared.tree.Source.TheVariants as source
use Rattle.ygg_meaning_laws.specs.Environments.{Name, Env}
use Rattle.ygg_meaning_laws.specs.Meaning.{is_one}
use Rattle.ygg_meaning_laws.specs.Progress.{
  Eval,
  Question,
  Choice,
  Call,
  Answer,
  Run,
  Point,
  Waits,
  Goes,
  and_then,
  forget_since,
  in_turn,
  for_each,
  ask,
  from_source,
  value_in,
  values_of,
  assigned,
  stmt_run,
  block_run,
  run_of,
}
use Rattle.ygg_meaning_laws.specs.Direct.{
  total,
  Handled,
  Event,
  Reached,
  Direct,
  then_run,
  stays,
  forgets,
  times,
  in_order,
  asks,
  source_got,
  source_space,
  stmt_direct,
  block_direct,
  direct_of,
  question_space,
  told_by,
  AsksAll,
  Chained,
  Within,
}

module _ {S : Type 0} where
  asks_append : (t : List Answer → Point) (told : List Answer) (es fs : List (Event S)) → AsksAll t told es → AsksAll t (told ++ told_by es) fs →
      AsksAll t told (es ++ fs)
  asks_append t told [] fs a b = subst (λ z. AsksAll t z fs) (append-nil told) b
  asks_append t told (e ∷ es) fs a b =
      (a.0, asks_append t (told ++ e.answer ∷ []) es fs a.1 (subst (λ z. AsksAll t z fs) (sym (append_assoc told (e.answer ∷ []) (told_by es))) b))

  -- a run that waits goes on waiting where another run follows
  asks_front : (t : List Answer → Point) (g : Point → Point) (told : List Answer) (es : List (Event S)) → ((q : Question) → g (Waits q) ≡ Waits q) →
      AsksAll t told es → AsksAll (λ left. g (t left)) told es
  asks_front t g told [] w a = tt
  asks_front t g told (e ∷ es) w a = (ap g a.0 ∙ w e.question, asks_front t g (told ++ e.answer ∷ []) es w a.1)

  -- where a run has got its answers, the next one waits
  asks_next : (t : List Answer → Point) (next : Run) (env : Env) (before : List Answer) → ((more : List Answer) → t (before ++ more) ≡ Goes env more) →
      (told : List Answer) (es : List (Event S)) → AsksAll (next env) told es → AsksAll (λ left. and_then (t left) next) (before ++ told) es
  asks_next t next env before g told [] a = tt
  asks_next t next env before g told (e ∷ es) a = (
    ap (λ p. and_then p next) (g told) ∙ a.0,
    subst (λ z. AsksAll (λ left. and_then (t left) next) z es) (sym (append_assoc before told (e.answer ∷ [])))
        (asks_next t next env before g (told ++ e.answer ∷ []) es a.1),
  )

  chained_append : (handle : ℕ → Question → S → Handled S) (a b c : S) (es fs : List (Event S)) → Chained handle a es b → Chained handle b fs c →
      Chained handle a (es ++ fs) c
  chained_append handle a b c [] fs h g = subst (λ z. Chained handle z fs c) (sym h) g
  chained_append handle a b c (e ∷ es) fs h g = (h.0, h.1, chained_append handle e.after b c es fs h.2 g)

  pub within_later : (size : Question → ℕ) (a b : ℕ) (es : List (Event S)) (c d : ℕ) → b ≤ a → c ≤ d → Within size a es c → Within size b es d
  within_later size a b [] c d l m w = omega arith
  within_later size a b (e ∷ es) c d l m w = (omega arith, within_later size (e.place + size e.question) (e.place + size e.question) es c d (omega arith) m w.1)

  within_append : (size : Question → ℕ) (a b c : ℕ) (es fs : List (Event S)) → Within size a es b → Within size b fs c → Within size a (es ++ fs) c
  within_append size a b c [] fs w x = within_later size b a fs c c w (omega arith) x
  within_append size a b c (e ∷ es) fs w x = (w.0, within_append size (e.place + size e.question) b c es fs w.1 x)

module _ {S : Type 0} (eval : Eval) (space : Name → ℕ) (handle : ℕ → Question → S → Handled S) where
  abbrev pub size : Question → ℕ
  size = question_space space

  -- a run of a block, from its environment on, and a direct run that ends so
  pub record GoesSo (t : List Answer → Point) (low : S) (i top : ℕ) (out : Reached S) : Type 0 where
    pub goes : (more : List Answer) → t (told_by out.events ++ more) ≡ Goes out.env more
    pub asks : AsksAll t [] out.events
    pub chained : Chained handle low out.events out.to
    pub within : Within size i out.events top

  abbrev pub Follows : Run → Direct S → Type 0
  Follows r d = (i : ℕ) (env : Env) (low : S) → GoesSo (r env) low i (i + d.room) (d.run i env low)

  nothing_asked : (env : Env) (low : S) (i : ℕ) → GoesSo (λ answers. Goes env answers) low i i (stays env low)
  nothing_asked env low i = record { goes = λ more. refl; asks = tt; chained = refl; within = omega arith }

  goes_then : (t : List Answer → Point) (next : Run) (low : S) (i m top : ℕ) (p : Reached S) (d : Env → S → Reached S) →
      GoesSo t low i m p → GoesSo (next p.env) p.to m top (d p.env p.to) → GoesSo (λ answers. and_then (t answers) next) low i top (then_run p d)
  goes_then t next low i m top p d h g =
      let e = p.events in let f = (d p.env p.to).events in
      record {
        goes = λ more. ap (λ z. and_then (t z) next) (ap (λ z. z ++ more) (map-append (λ x. x.answer) e f) ∙ append_assoc (told_by e) (told_by f) more)
            ∙ ap (λ z. and_then z next) (h.goes (told_by f ++ more)) ∙ g.goes more;
        asks = asks_append (λ left. and_then (t left) next) [] e f (asks_front t (λ z. and_then z next) [] e (λ q. refl) h.asks)
            (subst (λ z. AsksAll (λ left. and_then (t left) next) z f) (append-nil (told_by e)) (asks_next t next p.env (told_by e) h.goes [] f g.asks));
        chained = chained_append handle low p.to (d p.env p.to).to e f h.chained g.chained;
        within = within_append size i m top e f h.within g.within;
      }

  goes_forgets : (t : List Answer → Point) (before : Env) (low : S) (i top : ℕ) (p : Reached S) → GoesSo t low i top p →
      GoesSo (λ answers. forget_since before (t answers)) low i top (forgets before p)
  goes_forgets t before low i top p h = record {
    goes = λ more. ap (forget_since before) (h.goes more);
    asks = asks_front t (forget_since before) [] p.events (λ q. refl) h.asks;
    chained = h.chained;
    within = h.within;
  }

  -- a question whose answer is put to use
  goes_asking : (i : ℕ) (q : Question) (low : S) (f : Answer → Env) →
      GoesSo (λ answers. ask q answers (λ a left. Goes (f a) left)) low i (i + size q)
      (record { env = f (handle i q low).answer; to = (handle i q low).to; events = (asks eval space handle i q low).events })
  goes_asking i q low f = record { goes = λ more. refl; asks = (refl, tt); chained = (refl, refl, refl); within = (omega arith, omega arith) }

  goes_source : (s : Source) (i : ℕ) (env : Env) (low : S) (f : Value → Env) →
      GoesSo (λ answers. from_source eval s env answers (λ v left. Goes (f v) left)) low i (i + source_space space s)
      (record {
        env = f (source_got eval space handle s i env low).value;
        to = (source_got eval space handle s i env low).to;
        events =
            (source_got eval space handle s i env low).events;
      })
  goes_source (source.Value e) i env low f = record { goes = λ more. refl; asks = tt; chained = refl; within = omega arith }
  goes_source (source.Choose at) i env low f = goes_asking i Choice low (λ a. f (value_in a))
  goes_source (source.Call at g args) i env low f = goes_asking i (Call g.text (values_of eval args env)) low (λ a. f (value_in a))

  goes_times : (count k room : ℕ) (body : ℕ → Run) (d : ℕ → ℕ → Env → S → Reached S) →
      ((k i : ℕ) (env : Env) (low : S) → GoesSo (body k env) low i (i + room) (d k i env low)) →
      (i top : ℕ) (env : Env) (low : S) → i + count * room ≡ top → GoesSo (for_each count k body env) low i top (times count k room d i env low)
  goes_times zero k room body d g i top env low e = subst (λ z. GoesSo (λ answers. Goes env answers) low i z (stays env low)) (grind arith)
      (nothing_asked env low i)
  goes_times (suc count) k room body d g i top env low e =
      goes_then (body k env) (for_each count (k + 1) body) low i (i + room) top (d k i env low) (times count (k + 1) room d (i + room))
      (g k i env low) (goes_times count (k + 1) room body d g (i + room) top (d k i env low).env (d k i env low).to (grind arith))

  abbrev pub R : Stmt → Run
  R = run_of eval

  abbrev pub R' : Block → Run
  R' = fold-Block Run Run (stmt_run eval) block_run

  abbrev pub step : Stmt-F (Direct S) (Direct S) → Direct S
  step = stmt_direct eval space handle

  abbrev pub step' : Block-F (Direct S) (Direct S) → Direct S
  step' = block_direct eval space handle

  abbrev pub D : Stmt → Direct S
  D = direct_of eval space handle

  abbrev pub D' : Block → Direct S
  D' = fold-Block (Direct S) (Direct S) step step'

  abbrev St : Type 0
  St = (s : Stmt) × Follows (R s) (D s)

  abbrev Bl : Type 0
  Bl = (b : Block) × Follows (R' b) (D' b)

  goes_if : (c : Bool) (t t' : List Answer → Point) (low : S) (i top : ℕ) (p q : Reached S) → GoesSo t low i top p → GoesSo t' low i top q →
      GoesSo (λ answers. if c then t answers else t' answers) low i top (if c then p else q)
  goes_if true t t' low i top p q h g = record { goes = h.goes; asks = h.asks; chained = h.chained; within = h.within }
  goes_if false t t' low i top p q h g = record { goes = g.goes; asks = g.asks; chained = g.chained; within = g.within }

  sooner : (t : List Answer → Point) (low : S) (i j m top : ℕ) (p : Reached S) → j ≤ i → m ≤ top → GoesSo t low i m p → GoesSo t low j top p
  sooner t low i j m top p a b h = record { goes = h.goes; asks = h.asks; chained = h.chained; within = within_later size i j p.events m top a b h.within }

  stmt_case : (y : Stmt-F St Bl) →
      Follows (stmt_run eval (map-Stmt Stmt Block Run Run R R' (map-Stmt St Bl Stmt Block (λ e. e.0) (λ e. e.0) y)))
      (step (map-Stmt Stmt Block (Direct S) (Direct S) D D' (map-Stmt St Bl Stmt Block (λ e. e.0) (λ e. e.0) y)))
  stmt_case (Stmt-F.Let x s) i env low = goes_source s i env low (λ w. env ++ (x.text, w) ∷ [])
  stmt_case (Stmt-F.Assign x at s) i env low =
      goes_source s i env low (assigned eval env x.text at)
  stmt_case (Stmt-F.If test first second) i env low =
      let n = (D' first.0).room in let m = (D' second.0).room in
      goes_if (is_one (eval test env)) (R' first.0 env) (R' second.0 env) low i (i + (n + m)) _ _
      (sooner (R' first.0 env) low i i (i + n) (i + (n + m)) _ (omega arith) (omega arith) (first.1 i env low))
      (sooner (R' second.0 env) low (i + n) i (i + n + m) (i + (n + m)) _ (omega arith) (omega arith) (second.1 (i + n) env low))
  stmt_case (Stmt-F.For x w n each) i env low =
      goes_times n.value 0 (D' each.0).room _ _
      (λ k i env low. goes_forgets (R' each.0 (env ++ (x.text, Word (word w.value k)) ∷ [])) env low i (i + (D' each.0).room) _
      (each.1 i (env ++ (x.text, Word (word w.value k)) ∷ []) low))
      i (i + n.value * (D' each.0).room) env low refl
  stmt_case (Stmt-F.Call f args) i env low = goes_asking i (Call f.text (values_of eval args env)) low (λ a. env)

  order_follows : (ss : List St) (i top : ℕ) (env : Env) (low : S) → i + total (map (λ d. d.room) (map D (map (λ e. e.0) ss))) ≡ top →
      GoesSo (in_turn (map R (map (λ e. e.0) ss)) env) low i top (in_order (map D (map (λ e. e.0) ss)) i env low)
  order_follows [] i top env low e = subst (λ z. GoesSo (λ answers. Goes env answers) low i z (stays env low)) (omega arith) (nothing_asked env low i)
  order_follows (s ∷ ss) i top env low e =
      let d = (D s.0).run i env low in
      goes_then (R s.0 env) (in_turn (map R (map (λ e. e.0) ss))) low i (i + (D s.0).room) top d (in_order (map D (map (λ e. e.0) ss)) (i + (D s.0).room))
      (s.1 i env low) (order_follows ss (i + (D s.0).room) top d.env d.to (omega arith))

  block_case : (y : Block-F St Bl) →
      Follows (block_run (map-Block Stmt Block Run Run R R' (map-Block St Bl Stmt Block (λ e. e.0) (λ e. e.0) y)))
      (step' (map-Block Stmt Block (Direct S) (Direct S) D D' (map-Block St Bl Stmt Block (λ e. e.0) (λ e. e.0) y)))
  block_case y i env low =
      goes_forgets (in_turn (map R (map (λ e. e.0) y.statements)) env) env low i _ _ (order_follows y.statements i _ env low refl)

  pub all_follow : (s : Stmt) → Follows (R s) (D s)
  all_follow =
      ind-Stmt (λ s. Follows (R s) (D s)) (λ b. Follows (R' b) (D' b))
      (λ x y is. subst (λ r. Follows r (D (roll-Stmt x))) (sym (fold-roll-Stmt Run Run (stmt_run eval) block_run x))
      (subst (λ d. Follows (stmt_run eval (map-Stmt Stmt Block Run Run R R' x)) d) (sym (fold-roll-Stmt (Direct S) (Direct S) step step' x))
      (subst (λ z. Follows (stmt_run eval (map-Stmt Stmt Block Run Run R R' z)) (step (map-Stmt Stmt Block (Direct S) (Direct S) D D' z))) is (stmt_case y))))
      (λ x y is. subst (λ r. Follows r (D' (roll-Block x))) (sym (fold-roll-Block Run Run (stmt_run eval) block_run x))
      (subst (λ d. Follows (block_run (map-Block Stmt Block Run Run R R' x)) d) (sym (fold-roll-Block (Direct S) (Direct S) step step' x))
      (subst (λ z. Follows (block_run (map-Block Stmt Block Run Run R R' z)) (step' (map-Block Stmt Block (Direct S) (Direct S) D D' z))) is (block_case y))))

  abbrev with_proofs : List Stmt → List St
  with_proofs = map (λ s. (s, all_follow s))

  bare_again : (ss : List Stmt) → map (λ e. e.0) (with_proofs ss) ≡ ss
  bare_again [] = refl
  bare_again (s ∷ ss) = ap (λ z. s ∷ z) (bare_again ss)

  pub block_follows : (ss : List Stmt) (i : ℕ) (env : Env) (low : S) →
      GoesSo (in_turn (map R ss) env) low i (i + total (map (λ d. d.room) (map D ss))) (in_order (map D ss) i env low)
  block_follows ss i env low =
      subst (λ z. GoesSo (in_turn (map R z) env) low i (i + total (map (λ d. d.room) (map D z))) (in_order (map D z) i env low)) (bare_again ss)
      (order_follows (with_proofs ss) i _ env low refl)
