-- A direct run looks at its machine at its events alone.
use Rattle.std.proofs.Common.{◌≡◌, ℕ, zero, suc, ◌+◌, ◌*◌, Bool, true, false, if◌then◌else◌, List, [], ◌∷◌, ◌++◌, map, refl, sym, ap, ◌∙◌, subst}
use Rattle.std.proofs.lemmas.List.{map-append}
use Rattle.ygg_value.specs.Words.{word}
use Rattle.ygg_value.specs.declared.row.Value.TheVariants.{Word}
use Rattle.ygg_syntax.specs.declared.tree.Stmt.{Stmt, roll-Stmt, map-Stmt}
use Rattle.ygg_syntax.specs.declared.tree.Block.{Block, roll-Block, map-Block, fold-Block}
use Rattle.ygg_syntax.specs.declared.tree.Stmt.TheOpen.{Stmt-F, Block-F}
use Rattle.ygg_syntax.specs.declared.tree.Stmt.TheFolds.{ind-Stmt, fold-roll-Stmt, fold-roll-Block}
use Rattle.ygg_syntax.specs.declared.tree.Source.{Source}
use Rattle.ygg_syntax.specs.declared.tree.Source.TheVariants as source
use Rattle.ygg_meaning_laws.specs.Environments.{Name, Env}
use Rattle.ygg_meaning_laws.specs.Meaning.{is_one}
use Rattle.ygg_meaning_laws.specs.Progress.{Eval, Question, Choice, Call, values_of, assigned}
use Rattle.ygg_meaning_laws.specs.Direct.{
  total,
  Handled,
  Event,
  Reached,
  Direct,
  Got,
  then_run,
  forgets,
  times,
  in_order,
  asks,
  got,
  source_got,
  source_space,
  with_got,
  stmt_direct,
  block_direct,
  direct_of,
  Alike,
  seen,
  seen_run,
}

module _ {R S : Type 0} (eval : Eval) (space : Name → ℕ) (first : ℕ → Question → R → Handled R) (second : ℕ → Question → S → Handled S) (f : R → S) where
  abbrev AlikeAt : List (Event R) → Type 0
  AlikeAt = Alike second f

  abbrev see : Reached R → Reached S
  see = seen_run second f

  alike_front : (es fs : List (Event R)) → AlikeAt (es ++ fs) → AlikeAt es
  alike_front [] fs a = tt
  alike_front (e ∷ es) fs a = (a.0, alike_front es fs a.1)

  alike_back : (es fs : List (Event R)) → AlikeAt (es ++ fs) → AlikeAt fs
  alike_back [] fs a = a
  alike_back (e ∷ es) fs a = alike_back es fs a.1

  pub record Mirrors (d : Direct R) (d' : Direct S) : Type 0 where
    pub room : d.room ≡ d'.room
    pub runs : (i : ℕ) (env : Env) (low : R) → AlikeAt (d.run i env low).events → d'.run i env (f low) ≡ see (d.run i env low)

  -- one run after another
  mirrors_then : (p : Reached R) (q : Reached S) (next : Env → R → Reached R) (next' : Env → S → Reached S) → AlikeAt (p.events ++ (next p.env p.to).events) →
      (AlikeAt p.events → q ≡ see p) → (AlikeAt (next p.env p.to).events → next' p.env (f p.to) ≡ see (next p.env p.to)) →
      then_run q next' ≡ see (then_run p next)
  mirrors_then p q next next' a h g =
      let n = next p.env p.to in
      ap (λ z. then_run z next') (h (alike_front p.events n.events a))
      ∙ ap (λ (z : Reached S). record { env = z.env; to = z.to; events = map (seen second f) p.events ++ z.events }) (g (alike_back p.events n.events a))
      ∙ ap (λ z. record { env = n.env; to = f n.to; events = z }) (sym (map-append (seen second f) p.events n.events))

  mirrors_times : (count k room : ℕ) (body : ℕ → ℕ → Env → R → Reached R) (body' : ℕ → ℕ → Env → S → Reached S) →
      ((k i : ℕ) (env : Env) (low : R) → AlikeAt (body k i env low).events → body' k i env (f low) ≡ see (body k i env low)) →
      (i : ℕ) (env : Env) (low : R) → AlikeAt (times count k room body i env low).events →
      times count k room body' i env (f low) ≡ see (times count k room body i env low)
  mirrors_times zero k room body body' h i env low a = refl
  mirrors_times (suc count) k room body body' h i env low a =
      let p = body k i env low in
      mirrors_then p (body' k i env (f low)) (times count (k + 1) room body (i + room)) (times count (k + 1) room body' (i + room)) a
      (h k i env low) (mirrors_times count (k + 1) room body body' h (i + room) p.env p.to)

  see_got : Got R → Got S
  see_got g = record { value = g.value; to = f g.to; events = map (seen second f) g.events }

  abbrev G : Source → ℕ → Env → R → Got R
  G = source_got eval space first

  abbrev G' : Source → ℕ → Env → S → Got S
  G' = source_got eval space second

  mirrors_asking : (i : ℕ) (q : Question) (low : R) → AlikeAt (asks eval space first i q low).events →
      asks eval space second i q (f low) ≡ record {
        value = (asks eval space first i q low).value;
        to = f (asks eval space first i q low).to;
        events =
            map (seen second f) (asks eval space first i q low).events;
      }
  mirrors_asking i q low a = ap (got i q (f low)) a.0

  mirrors_source : (s : Source) (i : ℕ) (env : Env) (low : R) → AlikeAt (G s i env low).events →
      G' s i env (f low) ≡ record { value = (G s i env low).value; to = f (G s i env low).to; events = map (seen second f) (G s i env low).events }
  mirrors_source (source.Value e) i env low a = refl
  mirrors_source (source.Choose at) i env low a = mirrors_asking i Choice low a
  mirrors_source (source.Call at g args) i env low a = mirrors_asking i (Call g.text (values_of eval args env)) low a

  spaces : (s : Source) → source_space space s ≡ source_space space s
  spaces (source.Value e) = refl
  spaces (source.Choose at) = refl
  spaces (source.Call at g args) = refl

  mirrors_if : (c : Bool) (p p' : Reached R) (q q' : Reached S) → AlikeAt (if c then p else p').events → (AlikeAt p.events → q ≡ see p) →
      (AlikeAt p'.events → q' ≡ see p') →
      (if c then q else q') ≡ see (if c then p else p')
  mirrors_if true p p' q q' a h g = h a
  mirrors_if false p p' q q' a h g = g a

  abbrev pub D : Stmt → Direct R
  D = direct_of eval space first

  abbrev pub E : Stmt → Direct S
  E = direct_of eval space second

  abbrev pub stepD : Stmt-F (Direct R) (Direct R) → Direct R
  stepD = stmt_direct eval space first

  abbrev pub stepE : Stmt-F (Direct S) (Direct S) → Direct S
  stepE = stmt_direct eval space second

  abbrev pub blockD : Block-F (Direct R) (Direct R) → Direct R
  blockD = block_direct eval space first

  abbrev pub blockE : Block-F (Direct S) (Direct S) → Direct S
  blockE = block_direct eval space second

  abbrev pub D' : Block → Direct R
  D' = fold-Block (Direct R) (Direct R) stepD blockD

  abbrev pub E' : Block → Direct S
  E' = fold-Block (Direct S) (Direct S) stepE blockE

  abbrev St : Type 0
  St = (s : Stmt) × Mirrors (D s) (E s)

  abbrev Bl : Type 0
  Bl = (b : Block) × Mirrors (D' b) (E' b)

  abbrev bare : Stmt-F St Bl → Stmt-F Stmt Block
  bare = map-Stmt St Bl Stmt Block (λ e. e.0) (λ e. e.0)

  abbrev bare' : Block-F St Bl → Block-F Stmt Block
  bare' = map-Block St Bl Stmt Block (λ e. e.0) (λ e. e.0)

  stmt_case : (y : Stmt-F St Bl) → Mirrors (stepD (map-Stmt Stmt Block (Direct R) (Direct R) D D' (bare y)))
      (stepE (map-Stmt Stmt Block (Direct S) (Direct S) E E' (bare y)))
  stmt_case (Stmt-F.Let x s) = record {
    room = spaces s;
    runs = λ i env low a. ap (λ (g : Got S). with_got eval space second (λ v. env ++ (x.text, v) ∷ []) g) (mirrors_source s i env low a);
  }
  stmt_case (Stmt-F.Assign x at s) = record {
    room = spaces s;
    runs = λ i env low a. ap (λ (g : Got S). with_got eval space second (assigned eval env x.text at) g) (mirrors_source s i env low a);
  }
  stmt_case (Stmt-F.If test one two) = record {
    room = ap (λ n. n + (D' two.0).room) one.1.room ∙ ap (λ n. (E' one.0).room + n) two.1.room;
    runs = λ i env low a.
        mirrors_if (is_one (eval test env)) _ _ _ _ a (one.1.runs i env low)
        (λ b. ap (λ n. (E' two.0).run (i + n) env (f low)) (sym one.1.room) ∙ two.1.runs (i + (D' one.0).room) env low b);
  }
  stmt_case (Stmt-F.For x w n each) = record {
    room = ap (λ m. n.value * m) each.1.room;
    runs = λ i env low a.
        ap (λ m. times n.value 0 m (λ k i env low. forgets env ((E' each.0).run i (env ++ (x.text, Word (word w.value k)) ∷ []) low)) i env (f low))
        (sym each.1.room)
        ∙ mirrors_times n.value 0 (D' each.0).room _ _
        (λ k i env low a. ap (forgets env) (each.1.runs i (env ++ (x.text, Word (word w.value k)) ∷ []) low a)) i env low a;
  }
  stmt_case (Stmt-F.Call g args) = record {
    room = refl;
    runs = λ i env low a. ap (λ (h : Got S). with_got eval space second (λ v. env) h) (mirrors_asking i (Call g.text (values_of eval args env)) low a);
  }

  order_room : (ss : List St) → total (map (λ d. d.room) (map D (map (λ e. e.0) ss))) ≡ total (map (λ d. d.room) (map E (map (λ e. e.0) ss)))
  order_room [] = refl
  order_room (s ∷ ss) = ap (λ n. n + total (map (λ d. d.room) (map D (map (λ e. e.0) ss)))) s.1.room ∙ ap (λ n. (E s.0).room + n) (order_room ss)

  order_mirrors : (ss : List St) (i : ℕ) (env : Env) (low : R) → AlikeAt (in_order (map D (map (λ e. e.0) ss)) i env low).events →
      in_order (map E (map (λ e. e.0) ss)) i env (f low) ≡ see (in_order (map D (map (λ e. e.0) ss)) i env low)
  order_mirrors [] i env low a = refl
  order_mirrors (s ∷ ss) i env low a =
      let p = (D s.0).run i env low in
      let rest = map D (map (λ e. e.0) ss) in let rest' = map E (map (λ e. e.0) ss) in
      ap (λ n. then_run ((E s.0).run i env (f low)) (in_order rest' (i + n))) (sym s.1.room)
      ∙ mirrors_then p ((E s.0).run i env (f low)) (in_order rest (i + (D s.0).room)) (in_order rest' (i + (D s.0).room)) a
      (s.1.runs i env low) (order_mirrors ss (i + (D s.0).room) p.env p.to)

  block_case : (y : Block-F St Bl) → Mirrors (blockD (map-Block Stmt Block (Direct R) (Direct R) D D' (bare' y)))
      (blockE (map-Block Stmt Block (Direct S) (Direct S) E E' (bare' y)))
  block_case y = record { room = order_room y.statements; runs = λ i env low a. ap (forgets env) (order_mirrors y.statements i env low a) }

  pub all_mirror : (s : Stmt) → Mirrors (D s) (E s)
  all_mirror =
      ind-Stmt (λ s. Mirrors (D s) (E s)) (λ b. Mirrors (D' b) (E' b))
      (λ x y is. subst (λ r. Mirrors r (E (roll-Stmt x))) (sym (fold-roll-Stmt (Direct R) (Direct R) stepD blockD x))
      (subst (λ d. Mirrors (stepD (map-Stmt Stmt Block (Direct R) (Direct R) D D' x)) d) (sym (fold-roll-Stmt (Direct S) (Direct S) stepE blockE x))
      (subst (λ z. Mirrors (stepD (map-Stmt Stmt Block (Direct R) (Direct R) D D' z)) (stepE (map-Stmt Stmt Block (Direct S) (Direct S) E E' z))) is
      (stmt_case y))))
      (λ x y is. subst (λ r. Mirrors r (E' (roll-Block x))) (sym (fold-roll-Block (Direct R) (Direct R) stepD blockD x))
      (subst (λ d. Mirrors (blockD (map-Block Stmt Block (Direct R) (Direct R) D D' x)) d) (sym (fold-roll-Block (Direct S) (Direct S) stepE blockE x))
      (subst (λ z. Mirrors (blockD (map-Block Stmt Block (Direct R) (Direct R) D D' z)) (blockE (map-Block Stmt Block (Direct S) (Direct S) E E' z)))
      is (block_case y))))

  abbrev with_proofs : List Stmt → List St
  with_proofs = map (λ s. (s, all_mirror s))

  bare_again : (ss : List Stmt) → map (λ e. e.0) (with_proofs ss) ≡ ss
  bare_again [] = refl
  bare_again (s ∷ ss) = ap (λ z. s ∷ z) (bare_again ss)

  pub block_mirrors : (ss : List Stmt) (i : ℕ) (env : Env) (low : R) → AlikeAt (in_order (map D ss) i env low).events →
      in_order (map E ss) i env (f low) ≡ see (in_order (map D ss) i env low)
  block_mirrors ss i env low =
      subst (λ z. AlikeAt (in_order (map D z) i env low).events → in_order (map E z) i env (f low) ≡ see (in_order (map D z) i env low)) (bare_again ss)
      (order_mirrors (with_proofs ss) i env low)
