-- When trees are the same but for places.
use Rattle.std.proofs.Common.{◌≡◌, ◌↔◌, sym, ap, ◌∙◌, List, map}
use Rattle.ygg_syntax.specs.declared.tree.Place.{Place}
use Rattle.ygg_syntax.specs.declared.tree.Name.{Name}
use Rattle.ygg_syntax.specs.declared.tree.Numeral.{Numeral}
use Rattle.ygg_syntax.specs.declared.tree.Quantifier.{Quantifier}
use Rattle.ygg_value.specs.declared.Op.{Op}
use Rattle.ygg_syntax.specs.declared.tree.Expr.{Expr, roll-Expr, map-Expr, out-Expr, out-roll-Expr}
use Rattle.ygg_syntax.specs.declared.tree.Expr.TheVariants as expr
use Rattle.ygg_syntax.specs.declared.tree.Expr.TheOpen.{Expr-F}
use Rattle.ygg_syntax.specs.declared.tree.Expr.TheFolds.{fold-roll-Expr}
use Rattle.ygg_syntax.specs.declared.tree.Block.{Block, out-Block, roll-out-Block, fold-Block}
use Rattle.ygg_syntax.specs.declared.tree.Index.{Index}
use Rattle.ygg_syntax.specs.declared.tree.Source.{Source}
use Rattle.ygg_syntax.specs.declared.tree.Stmt.{Stmt, roll-Stmt, map-Stmt, out-Stmt, out-roll-Stmt}
use Rattle.ygg_syntax.specs.declared.tree.Stmt.TheOpen.{Stmt-F}
use Rattle.ygg_syntax.specs.declared.tree.Stmt.TheVariants as stmt
use Rattle.ygg_syntax.specs.declared.tree.Stmt.TheFolds.{fold-roll-Stmt, fold-roll-Block}
use Rattle.ygg_syntax.specs.Bare.{
  bare_name,
  bare_number,
  node_bare,
  bare,
  bare_source,
  bare_index,
  node_bare_statement,
  node_bare_block,
  bare_statement,
  bare_block,
}

-- an opened expression without its places
abbrev pub opened : Expr-F Expr → Expr-F Expr
opened e = node_bare (map-Expr Expr Expr bare e)

-- expressions are the same where they are the same opened
pub same_opened : {a b : Expr} (x y : Expr-F Expr) → a ≡ roll-Expr x → b ≡ roll-Expr y → (opened x ≡ opened y) ↔ (bare a ≡ bare b)
same_opened {a} {b} x y ea eb =
    let left : bare a ≡ roll-Expr (opened x) = ap bare ea ∙ fold-roll-Expr Expr (λ e. roll-Expr (node_bare e)) x in
    let right : bare b ≡ roll-Expr (opened y) = ap bare eb ∙ fold-roll-Expr Expr (λ e. roll-Expr (node_bare e)) y in
    (λ same. left ∙ ap roll-Expr same ∙ sym right, λ same. sym (out-roll-Expr (opened x)) ∙ ap out-Expr (sym left ∙ same ∙ right) ∙ out-roll-Expr (opened y))

-- constants are the same where the numbers are
pub same_constant : {a b : Expr} (v w u x : Numeral) → a ≡ expr.Constant v w → b ≡ expr.Constant u x
    → ((bare_number v ≡ bare_number u) × (bare_number w ≡ bare_number x)) ↔ (bare a ≡ bare b)
same_constant v w u x ea eb =
    let whole = same_opened (Expr-F.Constant v w) (Expr-F.Constant u x) (ea ∙ sym (expr.rolls-Constant v w)) (eb ∙ sym (expr.rolls-Constant u x)) in
    (λ parts. whole.0 (cc), λ same. let opened_same = whole.1 same in (cc, cc))

-- variables are the same where the names are
pub same_low : {a b : Expr} (f f' : Place) (x y : Name) → a ≡ expr.Low f x → b ≡ expr.Low f' y → (bare_name x ≡ bare_name y) ↔ (bare a ≡ bare b)
same_low f f' x y ea eb =
    let whole = same_opened (Expr-F.Low f x) (Expr-F.Low f' y) (ea ∙ sym (expr.rolls-Low f x)) (eb ∙ sym (expr.rolls-Low f' y)) in
    (λ part. whole.0 (cc), λ same. let opened_same = whole.1 same in cc)

pub same_variable : {a b : Expr} (x y : Name) → a ≡ expr.Variable x → b ≡ expr.Variable y → (bare_name x ≡ bare_name y) ↔ (bare a ≡ bare b)
same_variable x y ea eb =
    let whole = same_opened (Expr-F.Variable x) (Expr-F.Variable y) (ea ∙ sym (expr.rolls-Variable x)) (eb ∙ sym (expr.rolls-Variable y)) in
    (λ part. whole.0 (cc), λ same. let opened_same = whole.1 same in cc)

-- definitions at arguments are the same where the names and the arguments are
pub same_apply : {a b : Expr} (f g : Name) (es ds : List Expr) → a ≡ expr.Apply f es → b ≡ expr.Apply g ds
    → ((bare_name f ≡ bare_name g) × (map bare es ≡ map bare ds)) ↔ (bare a ≡ bare b)
same_apply f g es ds ea eb =
    let whole = same_opened (Expr-F.Apply f es) (Expr-F.Apply g ds) (ea ∙ sym (expr.rolls-Apply f es)) (eb ∙ sym (expr.rolls-Apply g ds)) in
    (λ parts. whole.0 (cc), λ same. let opened_same = whole.1 same in (cc, cc))

-- operations are the same where the operators and the sides are
pub same_binary : {a b : Expr} (f f' at at' : Place) (o p : Op) (e c g d : Expr) {y z v w : Expr}
    → a ≡ expr.Binary f e o at g → b ≡ expr.Binary f' c p at' d → y ≡ e → z ≡ c → v ≡ g → w ≡ d
    → ((o ≡ p) × (bare y ≡ bare z) × (bare v ≡ bare w)) ↔ (bare a ≡ bare b)
same_binary f f' at at' o p e c g d ea eb ey ez ev ew =
    let whole = same_opened (Expr-F.Binary f e o at g) (Expr-F.Binary f' c p at' d) (ea ∙ sym (expr.rolls-Binary f e o at g))
    (eb ∙ sym (expr.rolls-Binary f' c p at' d)) in
    (λ parts. whole.0 (cc), λ same. let opened_same = whole.1 same in (cc, cc, cc))

-- negations are the same where their parts are
pub same_not : {a b : Expr} (f f' : Place) (d e : Expr) {y z : Expr} → a ≡ expr.Not f d → b ≡ expr.Not f' e → y ≡ d → z ≡ e
    → (bare y ≡ bare z) ↔ (bare a ≡ bare b)
same_not f f' d e ea eb left right =
    let whole = same_opened (Expr-F.Not f d) (Expr-F.Not f' e) (ea ∙ sym (expr.rolls-Not f d)) (eb ∙ sym (expr.rolls-Not f' e)) in
    (λ part. whole.0 (cc), λ same. let opened_same = whole.1 same in cc)

-- parts at an index are the same where the wholes and the indices are
pub same_at : {a b : Expr} (f f' : Place) (e i d j : Expr) {y z v w : Expr} → a ≡ expr.At e f i → b ≡ expr.At d f' j → y ≡ e → z ≡ d → v ≡ i → w ≡ j
    → ((bare y ≡ bare z) × (bare v ≡ bare w)) ↔ (bare a ≡ bare b)
same_at f f' e i d j ea eb ey ez ev ew =
    let whole = same_opened (Expr-F.At e f i) (Expr-F.At d f' j) (ea ∙ sym (expr.rolls-At e f i)) (eb ∙ sym (expr.rolls-At d f' j)) in
    (λ parts. whole.0 (cc), λ same. let opened_same = whole.1 same in (cc, cc))

-- choices are the same where the tests and the sides are
pub same_pick : {a b : Expr} (f f' : Place) (t e g t' d h : Expr) {p q y z v w : Expr} → a ≡ expr.Pick f t e g → b ≡ expr.Pick f' t' d h
    → p ≡ t → q ≡ t' → y ≡ e → z ≡ d → v ≡ g → w ≡ h
    → ((bare p ≡ bare q) × (bare y ≡ bare z) × (bare v ≡ bare w)) ↔ (bare a ≡ bare b)
same_pick f f' t e g t' d h ea eb ep eq ey ez ev ew =
    let whole = same_opened (Expr-F.Pick f t e g) (Expr-F.Pick f' t' d h) (ea ∙ sym (expr.rolls-Pick f t e g)) (eb ∙ sym (expr.rolls-Pick f' t' d h)) in
    (λ parts. whole.0 (cc), λ same. let opened_same = whole.1 same in (cc, cc, cc))

-- changes of width are the same where the widths and the words are
pub same_resize : {a b : Expr} (f f' : Place) (w x : Numeral) (d e : Expr) → a ≡ expr.Resize f d w → b ≡ expr.Resize f' e x
    → ((bare_number w ≡ bare_number x) × (bare d ≡ bare e)) ↔ (bare a ≡ bare b)
same_resize f f' w x d e ea eb =
    let whole = same_opened (Expr-F.Resize f d w) (Expr-F.Resize f' e x) (ea ∙ sym (expr.rolls-Resize f d w)) (eb ∙ sym (expr.rolls-Resize f' e x)) in
    (λ parts. whole.0 (cc), λ same. let opened_same = whole.1 same in (cc, cc))

-- filled rows are the same where the counts and the words are
pub same_fill : {a b : Expr} (f f' : Place) (m n : Numeral) (d e : Expr) → a ≡ expr.Fill f m d → b ≡ expr.Fill f' n e
    → ((bare_number m ≡ bare_number n) × (bare d ≡ bare e)) ↔ (bare a ≡ bare b)
same_fill f f' m n d e ea eb =
    let whole = same_opened (Expr-F.Fill f m d) (Expr-F.Fill f' n e) (ea ∙ sym (expr.rolls-Fill f m d)) (eb ∙ sym (expr.rolls-Fill f' n e)) in
    (λ parts. whole.0 (cc), λ same. let opened_same = whole.1 same in (cc, cc))

-- rows are the same where their words are
pub same_row : {a b : Expr} (f f' : Place) (es ds : List Expr) {ys zs : List Expr} → a ≡ expr.Row f es → b ≡ expr.Row f' ds → ys ≡ es → zs ≡ ds
    → (map bare ys ≡ map bare zs) ↔ (bare a ≡ bare b)
same_row f f' es ds ea eb left right =
    let whole = same_opened (Expr-F.Row f es) (Expr-F.Row f' ds) (ea ∙ sym (expr.rolls-Row f es)) (eb ∙ sym (expr.rolls-Row f' ds)) in
    (λ parts. whole.0 (cc), λ same. let opened_same = whole.1 same in cc)

-- quantified tests are the same where their parts are
pub same_quantified : {a b : Expr} (f f' : Place) (q q' : Quantifier) (x x' : Name) (w w' n n' : Numeral) (d e : Expr) {y z : Expr}
    → a ≡ expr.Quantified f q x w n d → b ≡ expr.Quantified f' q' x' w' n' e → y ≡ d → z ≡ e
    → (((q ≡ q') × ((bare_name x ≡ bare_name x') × ((bare_number w ≡ bare_number w') × (bare_number n ≡ bare_number n')))) × (bare y ≡ bare z))
    ↔ (bare a ≡ bare b)
same_quantified f f' q q' x x' w w' n n' d e ea eb left right =
    let whole = same_opened (Expr-F.Quantified f q x w n d) (Expr-F.Quantified f' q' x' w' n' e) (ea ∙ sym (expr.rolls-Quantified f q x w n d))
    (eb ∙ sym (expr.rolls-Quantified f' q' x' w' n' e)) in
    (λ parts. whole.0 (cc), λ same. let opened_same = whole.1 same in ((cc, (cc, (cc, cc))), cc))

-- a block without its places, as the fold makes it inside a statement
pub inside : Block → Block
inside = fold-Block Stmt Block (λ s. roll-Stmt (node_bare_statement s)) node_bare_block

-- inside a statement a block is the same as alone
inside_bare : (b : Block) → inside b ≡ bare_block b
unfolding inside
inside_bare b = ap inside (sym (roll-out-Block b)) ∙ fold-roll-Block Stmt Block (λ s. roll-Stmt (node_bare_statement s)) node_bare_block (out-Block b)

-- an opened statement without its places
abbrev pub opened_statement : Stmt-F Stmt Block → Stmt-F Stmt Block
opened_statement s = node_bare_statement (map-Stmt Stmt Block Stmt Block bare_statement inside s)

-- statements are the same where they are the same opened
pub same_opened_statement : {a b : Stmt} (x y : Stmt-F Stmt Block) → a ≡ roll-Stmt x → b ≡ roll-Stmt y → (opened_statement x ≡ opened_statement y)
    ↔ (bare_statement a ≡ bare_statement b)
unfolding inside
same_opened_statement {a} {b} x y ea eb =
    let left : bare_statement a ≡ roll-Stmt (opened_statement x) = ap bare_statement ea
    ∙ fold-roll-Stmt Stmt Block (λ s. roll-Stmt (node_bare_statement s)) node_bare_block x in
    let right : bare_statement b ≡ roll-Stmt (opened_statement y) = ap bare_statement eb
    ∙ fold-roll-Stmt Stmt Block (λ s. roll-Stmt (node_bare_statement s)) node_bare_block y in (
      λ same. left ∙ ap roll-Stmt same ∙ sym right,
      λ same. sym (out-roll-Stmt (opened_statement x)) ∙ ap out-Stmt (sym left ∙ same ∙ right)
          ∙ out-roll-Stmt (opened_statement y),
    )

-- two `if` are the same where their tests and their blocks are
pub same_if : {a b : Stmt} (d e : Expr) (f g h k : Block) → a ≡ stmt.If d f g → b ≡ stmt.If e h k
    → ((bare d ≡ bare e) × (bare_block f ≡ bare_block h) × (bare_block g ≡ bare_block k)) ↔ (bare_statement a ≡ bare_statement b)
same_if d e f g h k ea eb =
    let whole = same_opened_statement (Stmt-F.If d f g) (Stmt-F.If e h k) (ea ∙ sym (stmt.rolls-If d f g)) (eb ∙ sym (stmt.rolls-If e h k)) in
    let in_f = inside_bare f in let in_g = inside_bare g in let in_h = inside_bare h in let in_k = inside_bare k in
    (λ parts. whole.0 (cc), λ same. let opened_same = whole.1 same in (cc, cc, cc))

-- two `for` are the same where their ranges and their blocks are
pub same_for : {a b : Stmt} (x y : Name) (w v n m : Numeral) (f g : Block) → a ≡ stmt.For x w n f → b ≡ stmt.For y v m g
    → (((bare_name x ≡ bare_name y) × ((bare_number w ≡ bare_number v) × (bare_number n ≡ bare_number m))) × (bare_block f ≡ bare_block g))
    ↔ (bare_statement a ≡ bare_statement b)
same_for x y w v n m f g ea eb =
    let whole = same_opened_statement (Stmt-F.For x w n f) (Stmt-F.For y v m g) (ea ∙ sym (stmt.rolls-For x w n f)) (eb ∙ sym (stmt.rolls-For y v m g)) in
    let in_f = inside_bare f in let in_g = inside_bare g in
    (λ parts. whole.0 (cc), λ same. let opened_same = whole.1 same in ((cc, (cc, cc)), cc))

-- two `let` are the same where the names and the right sides are
pub same_let : {a b : Stmt} (x y : Name) (d e : Source) → a ≡ stmt.Let x d → b ≡ stmt.Let y e
    → ((bare_name x ≡ bare_name y) × (bare_source d ≡ bare_source e)) ↔ (bare_statement a ≡ bare_statement b)
same_let x y d e ea eb =
    let whole = same_opened_statement (Stmt-F.Let x d) (Stmt-F.Let y e) (ea ∙ sym (stmt.rolls-Let x d)) (eb ∙ sym (stmt.rolls-Let y e)) in
    (λ parts. whole.0 (cc), λ same. let opened_same = whole.1 same in (cc, cc))

-- assignments are the same where the names, the indices and the right sides are
pub same_assign : {a b : Stmt} (x y : Name) (is js : List Index) (d e : Source) {ks ls : List Index} → a ≡ stmt.Assign x is d → b ≡ stmt.Assign y js e
    → ks ≡ is → ls ≡ js
    → ((bare_name x ≡ bare_name y) × (map bare_index ks ≡ map bare_index ls) × (bare_source d ≡ bare_source e)) ↔ (bare_statement a ≡ bare_statement b)
same_assign x y is js d e ea eb left right =
    let whole = same_opened_statement (Stmt-F.Assign x is d) (Stmt-F.Assign y js e) (ea ∙ sym (stmt.rolls-Assign x is d))
    (eb ∙ sym (stmt.rolls-Assign y js e)) in
    (λ parts. whole.0 (cc), λ same. let opened_same = whole.1 same in (cc, cc, cc))

-- calls are the same where the names and the arguments are
pub same_call : {a b : Stmt} (f g : Name) (es ds : List Expr) → a ≡ stmt.Call f es → b ≡ stmt.Call g ds
    → ((bare_name f ≡ bare_name g) × (map bare es ≡ map bare ds)) ↔ (bare_statement a ≡ bare_statement b)
same_call f g es ds ea eb =
    let whole = same_opened_statement (Stmt-F.Call f es) (Stmt-F.Call g ds) (ea ∙ sym (stmt.rolls-Call f es)) (eb ∙ sym (stmt.rolls-Call g ds)) in
    (λ parts. whole.0 (cc), λ same. let opened_same = whole.1 same in (cc, cc))
