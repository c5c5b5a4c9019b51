-- What lists of values and zeros are worth.
use Rattle.std.proofs.Common.{◌≡◌, ◌<◌, ℕ, zero, suc, if◌then◌else◌, Result, Ok, Err, OnOk, IfOk, List, [], ◌∷◌, length, map, replicate, get_or, refl, sym}
use Rattle.std.proofs.Common.{ap, ◌∙◌, subst, arith}
use Rattle.std.proofs.lemmas.List.{length-replicate}
use Rattle.std.proofs.lemmas.List.Elements.{All-replicate}
use Rattle.std.proofs.lemmas.Nat.{pow_pos}
use Rattle.ygg_value.specs.Shapes.{IsShape, zero_of}
use Rattle.ygg_value.specs.Words.{word}
use Rattle.ygg_value.specs.declared.row.Value.{Value}
use Rattle.ygg_value.specs.declared.row.Value.TheVariants as value
use Rattle.ygg_value.specs.declared.shape.Shape.{Shape}
use Rattle.ygg_value.specs.declared.shape.Shape.TheVariants as shape
use Rattle.ygg_shape_words.specs.ygg_rules.declared.rule.RuleKind.{RuleKind}
use Rattle.ygg_shape_words.specs.ygg_bank_proofs_Exist.{values_fit}
use Rattle.ygg_shape_words.specs.ygg_bank_proofs_Meaning.{fits_fewer}
use Rattle.ygg_shape_words.specs.ygg_bank_proofs_Widths.{wider, extends_self}
use Rattle.ygg_shape_words.specs.ygg_bank.Nodes.{HasWidth, IsBank, Extends}
use Rattle.ygg_shape_words.specs.ygg_bank.Values.{Inputs, Values, Fits, value_of}
use Rattle.ygg_shape_words.specs.ygg_bank.declared.node.Id.{Id}
use Rattle.ygg_shape_words.specs.ygg_bank.declared.node.Node.{Node}
use Rattle.ygg_shape_words.specs.ygg_bank.declared.node.Node.TheVariants.{Const}
use Rattle.ygg_shape_words.proofs.Keeps.{Stays, grows_stays}
use Rattle.ygg_shape_words.proofs.Terms.{holds, either, made_is}
use Rattle.ygg_shape_cells.proofs.Wider.{shaped_wider, all_shaped_wider}
use Rattle.ygg_shape_cells.specs.Making.{merged, zeros}
use Rattle.ygg_shape_cells.specs.Terms.{IsRow, IsTable, HasShape, IsShaped, AreShaped, AreAlike, numbers_of, worth}
use Rattle.ygg_shape_cells.specs.declared.terms.SymValue.{SymValue}
use Rattle.ygg_shape_cells.proofs.Answered.{no_inputs, some_fit}
use Rattle.ygg_shape_cells.proofs.Grows.{merged_grows}
use Rattle.ygg_shape_cells.proofs.Keeps.{each_two_keeps, merged_keeps, zeros_keeps}
use Rattle.ygg_shape_cells.proofs.Makers.{ValueIs, merged_gives}
use Rattle.ygg_shape_cells.proofs.Rows.{zeros_is}
use Rattle.ygg_shape_cells.proofs.Words.{row_if}
use Rattle.ygg_shape_cells.proofs.Worth.{digits, grid, row_worth, table_worth}
use Rattle.ygg_shape_cells.specs.Wholes.{merged_all, zero_made, AllAlike, AreMerged, IsZero}

module _ (kinds : List RuleKind) (P : List Node → Type 0) (stays : Stays kinds P) where
  pub merged_all_keeps : (t : Id) (xs ys : List SymValue) (nodes : List Node) → P nodes → P (merged_all kinds t xs ys nodes).nodes
  merged_all_keeps t xs ys nodes p = each_two_keeps P (merged kinds t) (merged_keeps kinds P stays t) xs ys nodes p

  pub zero_made_keeps : (s : Shape) (nodes : List Node) → P nodes → P (zero_made kinds s nodes).nodes
  zero_made_keeps (shape.Word w) nodes p = stays (Const (word w 0)) nodes tt p
  zero_made_keeps (shape.Row n w) nodes p = zeros_keeps kinds P stays n w nodes p
  zero_made_keeps (shape.Table m n w) nodes p = zeros_keeps kinds P stays n w nodes p

module _ (kinds : List RuleKind) where
  pub merged_all_grows : (t : Id) (xs ys : List SymValue) (nodes : List Node) → Extends nodes (merged_all kinds t xs ys nodes).nodes
  merged_all_grows t xs ys nodes = merged_all_keeps kinds (Extends nodes) (grows_stays kinds nodes) t xs ys nodes (extends_self nodes)

  pub zero_made_grows : (s : Shape) (nodes : List Node) → Extends nodes (zero_made kinds s nodes).nodes
  zero_made_grows s nodes = zero_made_keeps kinds (Extends nodes) (grows_stays kinds nodes) s nodes (extends_self nodes)

map_replicate : {X Y : Type 0} (f : X → Y) (n : ℕ) (x : X) → map f (replicate n x) ≡ replicate n (f x)
map_replicate f zero x = refl
map_replicate f (suc n) x = ap (λ z. f x ∷ z) (map_replicate f n x)

module _ (inputs : Inputs) (v : Values) where
  -- values of these shapes that are worth these
  pub record ValuesAre (nodes : List Node) (shapes : List Shape) (want : List Value) (xs : List SymValue) : Type 0 where
    pub shaped : AreShaped nodes shapes xs
    pub is : map (worth v) xs ≡ want

module _ (inputs : Inputs) (v : Values) (kinds : List RuleKind) where
  pub merged_all_gives : (shapes : List Shape) (t : Id) (xs ys : List SymValue) (nodes : List Node) → HasWidth nodes t 1 → AreShaped nodes shapes xs →
      AreShaped nodes shapes ys → Fits inputs v (merged_all kinds t xs ys nodes).nodes →
      ValuesAre inputs v (merged_all kinds t xs ys nodes).nodes shapes (if holds inputs v t then map (worth v) xs else map (worth v) ys)
      (merged_all kinds t xs ys nodes).value
  merged_all_gives [] t [] [] nodes d p q h = record { shaped = tt; is = either (holds inputs v t) [] }
  merged_all_gives [] t [] (y ∷ ys) nodes d p q h = absurd q
  merged_all_gives [] t (x ∷ xs) ys nodes d p q h = absurd p
  merged_all_gives (s ∷ shapes) t [] ys nodes d p q h = absurd p
  merged_all_gives (s ∷ shapes) t (x ∷ xs) [] nodes d p q h = absurd q
  merged_all_gives (s ∷ shapes) t (x ∷ xs) (y ∷ ys) nodes d p q h =
      let o = merged kinds t x y nodes in
      let g = merged_grows kinds t x y nodes in
      let rest = merged_all kinds t xs ys o.nodes in
      let k = merged_all_grows kinds t xs ys o.nodes in
      let c = holds inputs v t in
      let a = merged_gives inputs v kinds s t x y nodes d p.0 q.0 (fits_fewer inputs v o.nodes rest.nodes k h) in
      let r = merged_all_gives shapes t xs ys o.nodes (wider nodes o.nodes t 1 g d) (all_shaped_wider nodes o.nodes shapes xs g p.1)
      (all_shaped_wider nodes o.nodes shapes ys g q.1) h in
      record {
        shaped = (shaped_wider o.nodes rest.nodes s o.value k a.shaped, r.shaped);
        is = ap (λ z. z ∷ map (worth v) rest.value) a.is ∙ ap (λ z. (if c then worth v x else worth v y) ∷ z) r.is
            ∙ row_if c (worth v x) (worth v y) (map (worth v) xs) (map (worth v) ys);
      }

  pub zero_gives : (s : Shape) (nodes : List Node) → IsShape s → Fits inputs v (zero_made kinds s nodes).nodes →
      ValueIs inputs v (zero_made kinds s nodes).nodes s (zero_of s) (zero_made kinds s nodes).value
  zero_gives (shape.Word w) nodes l h =
      let m = made_is inputs v kinds (Const (word w 0)) nodes (record { least = l.0; most = l.1; fits = pow_pos w }) h in
      record { shaped = record { limits = l; has = m.wide }; is = ap value.Word m.is }
  zero_gives (shape.Row n w) nodes l h =
      let o = zeros kinds n w nodes in
      let m = zeros_is inputs v kinds n w nodes (record { least = l.1.0; most = l.1.1 }) h in
      record {
        shaped = record { limits = l; has = m.shaped };
        is = ap value.Row (row_worth inputs v kinds o.nodes n w o.value h m.shaped l.0.0 ∙ ap (digits w) m.is);
      }
  zero_gives (shape.Table k n w) nodes l h =
      let o = zeros kinds n w nodes in
      let m = zeros_is inputs v kinds n w nodes (record { least = l.2.0; most = l.2.1 }) h in
      let table : List (List Id) = replicate k o.value in
      let size : length table ≡ k = length-replicate k o.value in
      let is : IsTable o.nodes n w table = record {
        limits = subst (λ z. IsShape (shape.Table z n w)) (sym size) l;
        rows = All-replicate (IsRow o.nodes n w) k o.value m.shaped;
      } in
      record {
        shaped = record { limits = l; has = (size, is) };
        is = ap value.Table (table_worth inputs v kinds o.nodes n w table h is
            ∙ ap (grid w n) (map_replicate (numbers_of v) k o.value ∙ ap (replicate k) m.is));
      }

-- what the calls say of their answers
pub merged_all_value : {E : Type 0} (kinds : List RuleKind) (t : Id) (ones twos : List SymValue) (old new : List Node) (r : Result (List SymValue) E) →
    IsBank new → HasWidth old t 1 → OnOk r (new ≡ (merged_all kinds t ones twos old).nodes) →
    IfOk r (λ answers. answers ≡ (merged_all kinds t ones twos old).value) → AllAlike old ones twos → IfOk r (AreMerged new t ones twos)
merged_all_value kinds t ones twos old new (Ok answers) b d e g p =
    let o = merged_all kinds t ones twos old in
    let c = subst IsBank e b in
    subst (λ z. AreMerged z t ones twos answers) (sym e) (subst (AreMerged o.nodes t ones twos) (sym g) (λ inputs fit.
    let m = merged_all_gives inputs (value_of inputs o.nodes) kinds p.shapes t ones twos old d p.ones_are p.twos_are
    (values_fit inputs o.nodes c.ordered fit) in
    m.is))
merged_all_value kinds t ones twos old new (Err x) b d e g p = tt

pub merged_all_shaped : {E : Type 0} (kinds : List RuleKind) (t : Id) (shapes : List Shape) (ones twos : List SymValue) (old new : List Node)
    (r : Result (List SymValue) E) →
    IsBank new → HasWidth old t 1 → OnOk r (new ≡ (merged_all kinds t ones twos old).nodes) →
    IfOk r (λ answers. answers ≡ (merged_all kinds t ones twos old).value) → AreShaped old shapes ones → AreShaped old shapes twos →
    IfOk r (AreShaped new shapes)
merged_all_shaped kinds t shapes ones twos old new (Ok answers) b d e g p q =
    let o = merged_all kinds t ones twos old in
    let m = merged_all_gives no_inputs (value_of no_inputs o.nodes) kinds shapes t ones twos old d p q (some_fit o.nodes (subst IsBank e b)) in
    subst (λ z. AreShaped z shapes answers) (sym e) (subst (AreShaped o.nodes shapes) (sym g) m.shaped)
merged_all_shaped kinds t shapes ones twos old new (Err x) b d e g p q = tt

pub zero_value : {E : Type 0} (kinds : List RuleKind) (s : Shape) (old new : List Node) (r : Result SymValue E) → IsBank new → IsShape s →
    OnOk r (new ≡ (zero_made kinds s old).nodes) → IfOk r (λ answer. answer ≡ (zero_made kinds s old).value) → IfOk r (IsZero new s)
zero_value kinds s old new (Ok answer) b l e g =
    let o = zero_made kinds s old in
    let c = subst IsBank e b in
    subst (λ z. IsZero z s answer) (sym e) (subst (IsZero o.nodes s) (sym g) (λ inputs fit.
    let m = zero_gives inputs (value_of inputs o.nodes) kinds s old l (values_fit inputs o.nodes c.ordered fit) in m.is))
zero_value kinds s old new (Err x) b l e g = tt

pub zero_shaped : {E : Type 0} (kinds : List RuleKind) (s : Shape) (old new : List Node) (r : Result SymValue E) → IsBank new → IsShape s →
    OnOk r (new ≡ (zero_made kinds s old).nodes) → IfOk r (λ answer. answer ≡ (zero_made kinds s old).value) → IfOk r (IsShaped new s)
zero_shaped kinds s old new (Ok answer) b l e g =
    let o = zero_made kinds s old in
    let m = zero_gives no_inputs (value_of no_inputs o.nodes) kinds s old l (some_fit o.nodes (subst IsBank e b)) in
    subst (λ z. IsShaped z s answer) (sym e) (subst (IsShaped o.nodes s) (sym g) m.shaped)
zero_shaped kinds s old new (Err x) b l e g = tt

-- values at one place of two lists
pub alike_at : (old new : List Node) (shapes : List Shape) (ones twos : List SymValue) (i : ℕ) (x dx y dy : SymValue) → Extends old new →
    AreShaped old shapes ones → AreShaped old shapes twos → i < length ones → x ≡ get_or ones i dx → y ≡ get_or twos i dy → AreAlike new x y
alike_at old new [] [] twos i x dx y dy g p q l e f = absurd (omega arith)
alike_at old new [] (z ∷ ones) twos i x dx y dy g p q l e f = absurd p
alike_at old new (s ∷ shapes) [] twos i x dx y dy g p q l e f = absurd p
alike_at old new (s ∷ shapes) (a ∷ ones) [] i x dx y dy g p q l e f = absurd q
alike_at old new (s ∷ shapes) (a ∷ ones) (b ∷ twos) zero x dx y dy g p q l e f =
    let pw = shaped_wider old new s a g p.0 in
    let qw = shaped_wider old new s b g q.0 in
    record {
      shape = s;
      limits = pw.limits;
      one_has = subst (HasShape new s) (sym e) pw.has;
      two_has = subst (HasShape new s) (sym f) qw.has;
    }
alike_at old new (s ∷ shapes) (a ∷ ones) (b ∷ twos) (suc i) x dx y dy g p q l e f = alike_at old new shapes ones twos i x dx y dy g p.1 q.1 (omega arith) e f

pub same_count : (nodes : List Node) (shapes : List Shape) (ones twos : List SymValue) → AreShaped nodes shapes ones → AreShaped nodes shapes twos →
    length ones ≡ length twos
same_count nodes [] [] [] p q = refl
same_count nodes [] [] (y ∷ twos) p q = absurd q
same_count nodes [] (x ∷ ones) twos p q = absurd p
same_count nodes (s ∷ shapes) [] twos p q = absurd p
same_count nodes (s ∷ shapes) (x ∷ ones) [] p q = absurd q
same_count nodes (s ∷ shapes) (x ∷ ones) (y ∷ twos) p q = omega (arith, same_count nodes shapes ones twos p.1 q.1)
