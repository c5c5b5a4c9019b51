-- What holds of nodes, and stays as nodes other than inputs are made, holds after words are equated.
use Rattle.std.proofs.Common.{ℕ, zero, suc, Bool, true, false, ◌==◌, ◌-◌, ◌%◌, ◌^◌, ◌++◌, ◌∷◌, if◌then◌else◌, Option, Some, None, List, [], slice_get}
use Rattle.ygg_value.specs.Words.{word}
use Rattle.ygg_value.specs.declared.operation.Op.TheVariants.{Add, Mul}
use Rattle.ygg_shape_words.specs.ygg_rules.declared.rule.RuleKind.{RuleKind}
use Rattle.ygg_shape_words.specs.ygg_bank_proofs_Widths.{extends_self}
use Rattle.ygg_shape_words.specs.ygg_bank.Makes.{Make, Out, pure, and_make}
use Rattle.ygg_shape_words.specs.ygg_bank.Making.{made}
use Rattle.ygg_shape_words.specs.ygg_bank.Nodes.{width_at, widths_of, Extends}
use Rattle.ygg_shape_words.specs.ygg_bank.declared.node.Id.{Id}
use Rattle.ygg_shape_words.specs.ygg_bank.declared.node.Node.{Node}
use Rattle.ygg_shape_words.specs.ygg_bank.declared.node.Node.TheVariants.{Const, Bin}
use Rattle.ygg_shape_words.proofs.Keeps.{Stays, grows_stays, picked_keeps, same_words_keeps}
use Rattle.ygg_shape_words.specs.Picking.{picked}
use Rattle.ygg_shape_words.specs.Same.{same_words}
use Rattle.ygg_shape_sums.specs.Multiplies.{expanded}
use Rattle.ygg_shape_sums.specs.Parts.{Sum, empty}
use Rattle.ygg_shape_sums.specs.Products.{Product}
use Rattle.ygg_shape_sums.specs.Remains.{times_all, with_factors, with_term, with_terms, remains_of, remains, vanishes_left}
use Rattle.ygg_shape_sums.specs.Readings.{fact}
use Rattle.ygg_shape_sums.specs.Splits.{split_of}
use Rattle.ygg_shape_sums.specs.Reduces.{any_product, products_of, reduced_sum}
use Rattle.ygg_shape_sums.specs.Sides.{share, more, all_more, side, vanishes}
use Rattle.ygg_shape_sums.specs.Cancels.{cancels}
use Rattle.ygg_shape_sums.specs.Equates.{Step, split_as, vanishes_within, vanishes_by, difference, are_sums, reads_product, shared_difference}
use Rattle.ygg_shape_sums.specs.Equates.{subtracted_at, subtracted, compared_words, equated_words}
use Rattle.ygg_shape_sums.specs.Sharing.{sharing_of, either, more_where, shared_as, shared_within, inside_as, shared_inside}
use Rattle.ygg_shape_sums.specs.declared.equating.TheConstants.{EQUATE_LIMIT, PRODUCT_LIMIT}
use Rattle.ygg_shape_sums.specs.declared.multiplying.TheConstants.{MULTIPLY_LIMIT}
use Rattle.ygg_shape_sums.specs.declared.parts.Summand.{Summand}
use Rattle.ygg_shape_sums.specs.declared.reading.Fact.{Fact}
use Rattle.ygg_shape_sums.specs.declared.sharing.Sharing.{Sharing}
use Rattle.ygg_shape_sums.specs.declared.sharing.Sharing.TheVariants as sharing
use Rattle.ygg_shape_sums.specs.declared.sharing.TheConstants.{SHARE_LIMIT, INSIDE_LIMIT}

-- a step after which what held still holds
abbrev pub Keeping : (List Node → Type 0) → Make Id → Type 0
Keeping P step = (nodes : List Node) → P nodes → P (step nodes).nodes

keeping_if : (P : List Node → Type 0) (c : Bool) (one two : Make Id) → Keeping P one → Keeping P two → Keeping P (if c then one else two)
keeping_if P true one two k l nodes p = k nodes p
keeping_if P false one two k l nodes p = l nodes p

module _ (kinds : List RuleKind) (P : List Node → Type 0) (stays : Stays kinds P) where
  more_keeps : (w n : ℕ) (x a : Id) (nodes : List Node) → P nodes → P (more kinds w n x a nodes).nodes
  more_keeps w n x a nodes p =
      let many : Make Id = and_make (made kinds (Const (word w n))) (λ k. and_make (made kinds (Bin Mul x k)) (λ m. made kinds (Bin Add a m))) in
      let add : Make Id = made kinds (Bin Add a x) in
      keeping_if P (n == 0) (pure a) (if n == 1 then add else many) (λ nodes p. p)
      (keeping_if P (n == 1) add many (λ nodes. stays (Bin Add a x) nodes tt) (λ nodes p.
      let k = made kinds (Const (word w n)) nodes in
      let m = made kinds (Bin Mul x k.value) k.nodes in
      stays (Bin Add a m.value) m.nodes tt (stays (Bin Mul x k.value) k.nodes tt (stays (Const (word w n)) nodes tt p)))) nodes p

  all_more_keeps : (w : ℕ) (second : Bool) (ps : List Summand) (a : Id) (nodes : List Node) → P nodes → P (all_more kinds w second ps a nodes).nodes
  all_more_keeps w second [] a nodes p = p
  all_more_keeps w second (q ∷ ps) a nodes p =
      let o = more kinds w (share w second q.times) q.term a nodes in
      all_more_keeps w second ps o.value o.nodes (more_keeps w (share w second q.times) q.term a nodes p)

  side_keeps : (w : ℕ) (second : Bool) (s : Sum) (nodes : List Node) → P nodes → P (side kinds w second s nodes).nodes
  side_keeps w second s nodes p =
      let z = made kinds (Const (word w 0)) nodes in
      let a = all_more kinds w second s.parts z.value z.nodes in
      let k = made kinds (Const (word w (share w second s.number))) a.nodes in
      stays (Bin Add a.value k.value) k.nodes tt (stays (Const (word w (share w second s.number))) a.nodes tt
      (all_more_keeps w second s.parts z.value z.nodes (stays (Const (word w 0)) nodes tt p)))

  vanishes_keeps : (w : ℕ) (s : Sum) (nodes : List Node) → P nodes → P (vanishes kinds w s nodes).nodes
  vanishes_keeps w s nodes p =
      let one = side kinds w false s nodes in
      let two = side kinds w true s one.nodes in
      same_words_keeps kinds P stays one.value two.value two.nodes (side_keeps w true s one.nodes (side_keeps w false s nodes p))

  times_all_keeps : (a : Id) (bs : List Id) (nodes : List Node) → P nodes → P (times_all kinds a bs nodes).nodes
  times_all_keeps a [] nodes p = p
  times_all_keeps a (b ∷ bs) nodes p =
      let m = made kinds (Bin Mul a b) nodes in times_all_keeps m.value bs m.nodes (stays (Bin Mul a b) nodes tt p)

  with_factors_keeps : (n : ℕ) (fs : List Id) (s : Sum) (nodes : List Node) → P nodes → P (with_factors kinds n fs s nodes).nodes
  with_factors_keeps n [] s nodes p = p
  with_factors_keeps n (a ∷ fs) s nodes p = times_all_keeps a fs nodes p

  with_term_keeps : (q : Product) (s : Sum) (c : Bool) (nodes : List Node) → P nodes →
      (let o : Make Sum = if c then pure s else with_factors kinds q.times q.factors s in P (o nodes).nodes)
  with_term_keeps q s true nodes p = p
  with_term_keeps q s false nodes p = with_factors_keeps q.times q.factors s nodes p

  with_terms_keeps : (w : ℕ) (qs : List Product) (s : Sum) (nodes : List Node) → P nodes → P (with_terms kinds w qs s nodes).nodes
  with_terms_keeps w [] s nodes p = p
  with_terms_keeps w (q ∷ qs) s nodes p =
      let o = with_term kinds w q s nodes in with_terms_keeps w qs o.value o.nodes (with_term_keeps q s (q.times % 2 ^ w == 0) nodes p)

  remains_of_keeps : (w : ℕ) (s : Sum) (m : Option (List Product)) (nodes : List Node) → P nodes → P (remains_of kinds w s m nodes).nodes
  remains_of_keeps w s None nodes p = p
  remains_of_keeps w s (Some qs) nodes p = with_terms_keeps w qs (empty s.number) nodes p

  remains_keeps : (w : ℕ) (facts : List Fact) (s : Sum) (nodes : List Node) → P nodes → P (remains kinds w facts s nodes).nodes
  remains_keeps w facts s nodes p =
      remains_of_keeps w s (if any_product nodes s.parts then expanded MULTIPLY_LIMIT nodes facts (products_of s.parts) [] else None) nodes p

  vanishes_left_keeps : (w : ℕ) (facts : List Fact) (s : Sum) (nodes : List Node) → P nodes → P (vanishes_left kinds w facts s nodes).nodes
  vanishes_left_keeps w facts s nodes p =
      let o = remains kinds w facts s nodes in vanishes_keeps w o.value o.nodes (remains_keeps w facts s nodes p)

  abbrev StepKeeps : Step → Type 0
  StepKeeps next = (left : ℕ) (facts : List Fact) (s : Sum) (nodes : List Node) → P nodes → P (next left facts s nodes).nodes

  split_as_keeps : (w : ℕ) (next : Step) (left : ℕ) (facts : List Fact) (s : Sum) (t : Option Id) (nodes : List Node) → StepKeeps next → P nodes →
      P (split_as kinds w next left facts s t nodes).nodes
  split_as_keeps w next left facts s None nodes g p = vanishes_left_keeps w facts s nodes p
  split_as_keeps w next left facts s (Some t) nodes g p =
      let o = next (left - 1) (facts ++ fact t true ∷ []) s nodes in
      let k = o.value in
      let m = next k.left (facts ++ fact t false ∷ []) s o.nodes in
      let l = m.value in
      picked_keeps kinds P stays t k.term l.term m.nodes
      (g k.left (facts ++ fact t false ∷ []) s o.nodes (g (left - 1) (facts ++ fact t true ∷ []) s nodes p))

  vanishes_within_keeps : (w depth : ℕ) → StepKeeps (vanishes_within kinds w depth)
  unfolding vanishes_within
  vanishes_within_keeps w zero left facts s nodes p = vanishes_left_keeps w facts s nodes p
  vanishes_within_keeps w (suc depth) left facts s nodes p =
      let g = reduced_sum nodes w facts s in
      split_as_keeps w (vanishes_within kinds w depth) left facts g (split_of nodes w left facts g.parts) nodes (vanishes_within_keeps w depth) p

  more_where_keeps : (w : ℕ) (t : Id) (d : Bool) (m s : Id) (nodes : List Node) → P nodes → P (more_where kinds w t d m s nodes).nodes
  more_where_keeps w t d m s nodes p =
      let z = made kinds (Const (word w 0)) nodes in
      let one = either d m z.value in
      let two = either d z.value m in
      let q = picked kinds t one two z.nodes in
      stays (Bin Add s q.value) q.nodes tt (picked_keeps kinds P stays t one two z.nodes (stays (Const (word w 0)) nodes tt p))

  abbrev MakeKeeps : (Id → Make Id) → Type 0
  MakeKeeps next = (a : Id) (nodes : List Node) → P nodes → P (next a nodes).nodes

  shared_as_keeps : (w : ℕ) (next : Id → Make Id) (a : Id) (r : Sharing) (nodes : List Node) → MakeKeeps next → P nodes →
      P (shared_as kinds w next a r nodes).nodes
  shared_as_keeps w next a sharing.Apart nodes g p = p
  shared_as_keeps w next a (sharing.Either t x y) nodes g p = p
  shared_as_keeps w next a (sharing.Beside s q) nodes g p = let o = next q nodes in stays (Bin Add s o.value) o.nodes tt (g q nodes p)
  shared_as_keeps w next a (sharing.More t d s m) nodes g p = let o = next s nodes in more_where_keeps w t d m o.value o.nodes (g s nodes p)

  shared_within_keeps : (w depth : ℕ) → MakeKeeps (shared_within kinds w depth)
  unfolding shared_within
  shared_within_keeps w zero a nodes p = p
  shared_within_keeps w (suc depth) a nodes p =
      shared_as_keeps w (shared_within kinds w depth) a (sharing_of nodes (slice_get nodes a.0)) nodes (shared_within_keeps w depth) p

  inside_as_keeps : (w : ℕ) (next : Id → Make Id) (a : Id) (r : Sharing) (nodes : List Node) → MakeKeeps next → P nodes →
      P (inside_as kinds w next a r nodes).nodes
  inside_as_keeps w next a (sharing.Either t x y) nodes g p =
      let o = next x nodes in
      let m = next y o.nodes in
      picked_keeps kinds P stays t o.value m.value m.nodes (g y o.nodes (g x nodes p))
  inside_as_keeps w next a sharing.Apart nodes g p = shared_within_keeps w SHARE_LIMIT a nodes p
  inside_as_keeps w next a (sharing.Beside s q) nodes g p = shared_within_keeps w SHARE_LIMIT a nodes p
  inside_as_keeps w next a (sharing.More t d s m) nodes g p = shared_within_keeps w SHARE_LIMIT a nodes p

  shared_inside_keeps : (w depth : ℕ) → MakeKeeps (shared_inside kinds w depth)
  unfolding shared_inside
  shared_inside_keeps w zero a nodes p = shared_within_keeps w SHARE_LIMIT a nodes p
  shared_inside_keeps w (suc depth) a nodes p =
      inside_as_keeps w (shared_inside kinds w depth) a (sharing_of nodes (slice_get nodes a.0)) nodes (shared_inside_keeps w depth) p

  shared_difference_keeps : (w : ℕ) (a b : Id) (nodes : List Node) → P nodes → P (shared_difference kinds w a b nodes).nodes
  shared_difference_keeps w a b nodes p =
      let x = shared_inside kinds w INSIDE_LIMIT a nodes in
      let y = shared_inside kinds w INSIDE_LIMIT b x.nodes in
      vanishes_within_keeps w PRODUCT_LIMIT PRODUCT_LIMIT [] (difference x.value y.value) y.nodes
      (shared_inside_keeps w INSIDE_LIMIT b x.nodes (shared_inside_keeps w INSIDE_LIMIT a nodes p))

  kept_if : (c : Bool) (one two : Out Id) → P one.nodes → P two.nodes → P (if c then one else two).nodes
  kept_if true one two h i = h
  kept_if false one two h i = i

  subtracted_keeps : (w : ℕ) (a b : Id) (nodes : List Node) → P nodes → P (subtracted_at kinds w a b nodes).nodes
  subtracted_keeps w a b nodes p =
      kept_if (reads_product nodes (difference a b)) (shared_difference kinds w a b nodes) (vanishes_by kinds w EQUATE_LIMIT (difference a b) nodes)
      (shared_difference_keeps w a b nodes p) (vanishes_within_keeps w EQUATE_LIMIT EQUATE_LIMIT [] (difference a b) nodes p)

  compared_words_keeps : (a b : Id) (nodes : List Node) → P nodes → P (compared_words kinds a b nodes).nodes
  compared_words_keeps a b nodes p =
      kept_if (are_sums nodes a b)
      (subtracted kinds a b nodes) (same_words kinds a b nodes) (subtracted_keeps (width_at (widths_of nodes) a) a b nodes p)
      (same_words_keeps kinds P stays a b nodes p)

  pub equated_words_keeps : (a b : Id) (nodes : List Node) → P nodes → P (equated_words kinds a b nodes).nodes
  equated_words_keeps a b nodes p =
      kept_if (cancels nodes a b) (made kinds (Const (word 1 1)) nodes) (compared_words kinds a b nodes) (stays (Const (word 1 1)) nodes tt p)
      (compared_words_keeps a b nodes p)

module _ (kinds : List RuleKind) where
  abbrev only : (first : List Node) → Stays kinds (Extends first)
  only first = grows_stays kinds first

  pub more_grows : (w n : ℕ) (x a : Id) (nodes : List Node) → Extends nodes (more kinds w n x a nodes).nodes
  more_grows w n x a nodes = more_keeps kinds (Extends nodes) (only nodes) w n x a nodes (extends_self nodes)

  pub all_more_grows : (w : ℕ) (second : Bool) (ps : List Summand) (a : Id) (nodes : List Node) → Extends nodes (all_more kinds w second ps a nodes).nodes
  all_more_grows w second ps a nodes = all_more_keeps kinds (Extends nodes) (only nodes) w second ps a nodes (extends_self nodes)

  pub side_grows : (w : ℕ) (second : Bool) (s : Sum) (nodes : List Node) → Extends nodes (side kinds w second s nodes).nodes
  side_grows w second s nodes = side_keeps kinds (Extends nodes) (only nodes) w second s nodes (extends_self nodes)

  pub times_all_grows : (a : Id) (bs : List Id) (nodes : List Node) → Extends nodes (times_all kinds a bs nodes).nodes
  times_all_grows a bs nodes = times_all_keeps kinds (Extends nodes) (only nodes) a bs nodes (extends_self nodes)

  pub with_terms_grows : (w : ℕ) (qs : List Product) (s : Sum) (nodes : List Node) → Extends nodes (with_terms kinds w qs s nodes).nodes
  with_terms_grows w qs s nodes = with_terms_keeps kinds (Extends nodes) (only nodes) w qs s nodes (extends_self nodes)

  pub with_term_grows : (w : ℕ) (q : Product) (s : Sum) (nodes : List Node) → Extends nodes (with_term kinds w q s nodes).nodes
  with_term_grows w q s nodes = with_term_keeps kinds (Extends nodes) (only nodes) q s (q.times % 2 ^ w == 0) nodes (extends_self nodes)

  pub remains_grows : (w : ℕ) (facts : List Fact) (s : Sum) (nodes : List Node) → Extends nodes (remains kinds w facts s nodes).nodes
  remains_grows w facts s nodes = remains_keeps kinds (Extends nodes) (only nodes) w facts s nodes (extends_self nodes)

  pub vanishes_grows : (w : ℕ) (s : Sum) (nodes : List Node) → Extends nodes (vanishes kinds w s nodes).nodes
  vanishes_grows w s nodes = vanishes_keeps kinds (Extends nodes) (only nodes) w s nodes (extends_self nodes)

  pub vanishes_within_grows : (w depth left : ℕ) (facts : List Fact) (s : Sum) (nodes : List Node) →
      Extends nodes (vanishes_within kinds w depth left facts s nodes).nodes
  vanishes_within_grows w depth left facts s nodes =
      vanishes_within_keeps kinds (Extends nodes) (only nodes) w depth left facts s nodes (extends_self nodes)

  pub more_where_grows : (w : ℕ) (t : Id) (d : Bool) (m s : Id) (nodes : List Node) → Extends nodes (more_where kinds w t d m s nodes).nodes
  more_where_grows w t d m s nodes = more_where_keeps kinds (Extends nodes) (only nodes) w t d m s nodes (extends_self nodes)

  pub shared_within_grows : (w depth : ℕ) (a : Id) (nodes : List Node) → Extends nodes (shared_within kinds w depth a nodes).nodes
  shared_within_grows w depth a nodes = shared_within_keeps kinds (Extends nodes) (only nodes) w depth a nodes (extends_self nodes)

  pub shared_inside_grows : (w depth : ℕ) (a : Id) (nodes : List Node) → Extends nodes (shared_inside kinds w depth a nodes).nodes
  shared_inside_grows w depth a nodes = shared_inside_keeps kinds (Extends nodes) (only nodes) w depth a nodes (extends_self nodes)

  pub compared_words_grows : (a b : Id) (nodes : List Node) → Extends nodes (compared_words kinds a b nodes).nodes
  compared_words_grows a b nodes = compared_words_keeps kinds (Extends nodes) (only nodes) a b nodes (extends_self nodes)

  pub equated_words_grows : (a b : Id) (nodes : List Node) → Extends nodes (equated_words kinds a b nodes).nodes
  equated_words_grows a b nodes = equated_words_keeps kinds (Extends nodes) (only nodes) a b nodes (extends_self nodes)
