-- What is made value by value has the shapes of what it is made of; a schedule like another fits where that does.
use Rattle.std.proofs.Common.{◌≡◌, ◌<◌, ◌≤◌, ◌+◌, ◌^◌, ℕ, true, List, [], ◌∷◌, ◌++◌, map, length, drop, get_or, append_assoc, All, Some, refl, sym, ap, subst, ◌∙◌}
use Rattle.std.specs.Prelude.{◌==◌, ◌&&◌, nat_lt}
use Rattle.std.specs.List.{list_all}
use Rattle.std.proofs.lemmas.Bool.{eqb-true, and_from, and_parts}
use Rattle.std.proofs.lemmas.List.{append-nil, drop_all, drop_more, map-append}
use Rattle.std.proofs.lemmas.List.Elements.{All-head, All-tail}
use Rattle.ygg_value.specs.Shapes.{IsValue, shape_of}
use Rattle.ygg_value.specs.declared.row.Value.{Value}
use Rattle.ygg_value.specs.declared.row.Value.TheVariants as value
use Rattle.ygg_value.specs.declared.shape.Shape.{Shape}
use Rattle.ygg_value.specs.declared.shape.Shape.TheVariants as shape
use Rattle.ygg_syntax.specs.declared.tree.Declared.{Declared}
use Rattle.ygg_syntax.specs.declared.tree.Layer.{Layer}
use Rattle.ygg_syntax.specs.declared.tree.File.{File}
use Rattle.ygg_replay.specs.ygg_meaning.Obligations.{Obligation, Init, CallOf, CutOf, TickOf, CutTickOf, Idle, Again}
use Rattle.ygg_replay.specs.ygg_meaning.Shapes.{fits, values_fit, words_fit, shape_in}
use Rattle.ygg_replay.specs.ygg_eval.Layers.{variables_at}
use Rattle.ygg_replay.specs.ygg_sched.Fitting.{AreOfTypes}
use Rattle.ygg_replay.specs.ygg_sched.Sites.{Site, argument_lines, low_lines, memory_lines, state_lines}
use Rattle.ygg_replay.specs.ygg_sched.declared.case.Case.{Case}
use Rattle.ygg_replay.specs.ygg_sched.declared.schedule.Schedule.{Schedule}
use Rattle.ygg_replay.specs.Schedules.{IsAsked, schedule_fits, states_fit}
use Rattle.ygg_oblige_schedule.specs.Fitted.{FitsAt}
use Rattle.ygg_plain.specs.Like.{AreLike, IsLike}
use Rattle.ygg_plain.proofs.Fits.{value_fits}

-- one value more
pub one_more : (values all longer : List Value) (k : ℕ) (v w : Value) → k < length values → v ≡ get_or values k v → longer ≡ all ++ w ∷ [] →
    shape_of w ≡ shape_of v → map shape_of all ++ map shape_of (drop k values) ≡ map shape_of values →
    map shape_of longer ++ map shape_of (drop (k + 1) values) ≡ map shape_of values
one_more values all longer k v w within here is same so_far =
    let rest = map shape_of (drop (k + 1) values) in
    let begins : drop k values ≡ v ∷ drop (k + 1) values = drop_more values k v within ∙ ap (λ (x : Value). x ∷ drop (k + 1) values) (sym here) in
    ap (λ (xs : List Value). map shape_of xs ++ rest) is ∙ ap (λ (ss : List Shape). ss ++ rest) (map-append shape_of all (w ∷ []))
    ∙ append_assoc (map shape_of all) (shape_of w ∷ []) rest ∙ ap (λ (s : Shape). map shape_of all ++ s ∷ rest) same
    ∙ ap (λ (xs : List Value). map shape_of all ++ map shape_of xs) (sym begins) ∙ so_far

-- all of them
pub no_more : (values all : List Value) (k : ℕ) → length values ≤ k → map shape_of all ++ map shape_of (drop k values) ≡ map shape_of values →
    map shape_of all ≡ map shape_of values
no_more values all k past so_far =
    sym (append-nil (map shape_of all)) ∙ ap (λ (xs : List Value). map shape_of all ++ map shape_of xs) (sym (drop_all k values past)) ∙ so_far

-- a value that fits a shape has it
fits_shape : (s : Shape) (v : Value) → fits s v ≡ true → shape_of v ≡ s
fits_shape (shape.Word w) (value.Word n) h = ap (λ (k : ℕ). shape.Word k) (eqb-true n.width w (and_parts (n.width == w) (nat_lt n.bits (2 ^ w)) h).0)
fits_shape (shape.Row m w) (value.Row r) h =
    let both = and_parts (r.width == w) (words_fit w m r.words) h in
    let fill = and_parts (length r.words == m) (list_all (λ n. nat_lt n (2 ^ w)) r.words) both.1 in
    ap (λ (k : ℕ). shape.Row k r.width) (eqb-true (length r.words) m fill.0) ∙ ap (λ (k : ℕ). shape.Row m k) (eqb-true r.width w both.0)
fits_shape (shape.Table n m w) (value.Table t) h =
    let sized = and_parts (t.width == w && t.words == m && length t.rows == n) (list_all (words_fit w m) t.rows) h in
    let shaped = and_parts (t.width == w && t.words == m) (length t.rows == n) sized.0 in
    let both = and_parts (t.width == w) (t.words == m) shaped.0 in
    ap (λ (k : ℕ). shape.Table k t.words t.width) (eqb-true (length t.rows) n shaped.1)
    ∙ ap (λ (k : ℕ). shape.Table n k t.width) (eqb-true t.words m both.1) ∙ ap (λ (k : ℕ). shape.Table n m k) (eqb-true t.width w both.0)
fits_shape (shape.Word w) (value.Row r) h = absurd (cc h)
fits_shape (shape.Word w) (value.Table t) h = absurd (cc h)
fits_shape (shape.Row m w) (value.Word n) h = absurd (cc h)
fits_shape (shape.Row m w) (value.Table t) h = absurd (cc h)
fits_shape (shape.Table n m w) (value.Word k) h = absurd (cc h)
fits_shape (shape.Table n m w) (value.Row r) h = absurd (cc h)

-- so another value of its shape fits it
still_fits : (s : Shape) (v w : Value) → fits s v ≡ true → shape_of w ≡ shape_of v → IsValue w → fits s w ≡ true
still_fits s v w h same is = subst (λ (k : Shape). fits k w ≡ true) (same ∙ fits_shape s v h) (value_fits w is)

-- values of the same shapes fit where those do
all_fit : (ds : List Declared) (vs ws : List Value) → values_fit ds vs ≡ true → map shape_of ws ≡ map shape_of vs → All IsValue ws → values_fit ds ws ≡ true
all_fit [] [] [] h same is = refl
all_fit [] [] (w ∷ ws) h same is = absurd (cc same)
all_fit [] (v ∷ vs) ws h same is = absurd (cc h)
all_fit (d ∷ ds) [] ws h same is = absurd (cc h)
all_fit (d ∷ ds) (v ∷ vs) [] h same is = absurd (cc same)
all_fit (d ∷ ds) (v ∷ vs) (w ∷ ws) h same is =
    let both = and_parts (fits (shape_in d.shape) v) (values_fit ds vs) h in
    let first : shape_of w ≡ shape_of v = cc same in
    let rest : map shape_of ws ≡ map shape_of vs = cc same in
    and_from (fits (shape_in d.shape) w) (values_fit ds ws) (still_fits (shape_in d.shape) v w both.0 first (All-head IsValue w ws is))
    (all_fit ds vs ws both.1 rest (All-tail IsValue w ws is))

like_fit : (ds : List Declared) (vs ws : List Value) → AreLike vs ws → values_fit ds vs ≡ true → values_fit ds ws ≡ true
like_fit ds vs ws like h = all_fit ds vs ws h like.shapes like.values

-- so it is of types
all_of_types : (ds : List Declared) (vs ws : List Value) → AreOfTypes ds vs → map shape_of ws ≡ map shape_of vs → All IsValue ws → AreOfTypes ds ws
all_of_types [] [] [] h same is = tt
all_of_types [] [] (w ∷ ws) h same is = absurd (cc same)
all_of_types [] (v ∷ vs) ws h same is = absurd h
all_of_types (d ∷ ds) [] ws h same is = absurd h
all_of_types (d ∷ ds) (v ∷ vs) [] h same is = absurd (cc same)
all_of_types (d ∷ ds) (v ∷ vs) (w ∷ ws) h same is =
    let first : shape_of w ≡ shape_of v = cc same in
    let rest : map shape_of ws ≡ map shape_of vs = cc same in (
      record { shape = h.0.shape ∙ ap (λ (s : Shape). Some s) (sym first); value = All-head IsValue w ws is },
      all_of_types ds vs ws h.1 rest (All-tail IsValue w ws is),
    )

like_types : (ds : List Declared) (vs ws : List Value) → AreLike vs ws → AreOfTypes ds vs → AreOfTypes ds ws
like_types ds vs ws like h = all_of_types ds vs ws h like.shapes like.values

module _ (x y : Schedule) (like : IsLike x y) where
  module _ (f : File) (place : ℕ) (l : Layer) where
    states : states_fit f place l x ≡ true → states_fit f place l y ≡ true
    states h =
        let state = and_parts (values_fit l.state x.state) (values_fit l.memory x.memory && values_fit (variables_at f place) x.low) h in
        let more = and_parts (values_fit l.memory x.memory) (values_fit (variables_at f place) x.low) state.1 in
        and_from (values_fit l.state y.state) (values_fit l.memory y.memory && values_fit (variables_at f place) y.low)
        (like_fit l.state x.state y.state like.state state.0)
        (and_from (values_fit l.memory y.memory) (values_fit (variables_at f place) y.low) (like_fit l.memory x.memory y.memory like.memory more.0)
        (like_fit (variables_at f place) x.low y.low like.low more.1))

    called : (ds : List Declared) → (states_fit f place l x && values_fit ds x.args) ≡ true → (states_fit f place l y && values_fit ds y.args) ≡ true
    called ds h =
        let both = and_parts (states_fit f place l x) (values_fit ds x.args) h in
        and_from (states_fit f place l y) (values_fit ds y.args) (states both.0) (like_fit ds x.args y.args like.args both.1)

    fit : (o : Obligation) → schedule_fits f place l x o ≡ true → schedule_fits f place l y o ≡ true
    fit Init h = refl
    fit (CallOf o) h = called o.arguments h
    fit (CutOf o) h = called o.arguments h
    fit (TickOf t) h = states h
    fit (CutTickOf t) h = states h
    fit Idle h = states h
    fit Again h = like_fit (variables_at f place) x.low y.low like.low h

  -- it may be replayed where the other may
  pub still_asked : (f : File) (which : Case) → IsAsked f which x → IsAsked f which y
  still_asked f which a = record {
    layer = a.layer;
    here = a.here;
    obligation = a.obligation;
    is = a.is;
    fit = fit f which.layer a.layer a.obligation a.fit;
  }

  -- and has what can be printed where the other has
  pub still_printed : (s : Site) → FitsAt s x → FitsAt s y
  still_printed s h = record {
    state = like_types (state_lines s) x.state y.state like.state h.state;
    memory = like_types (memory_lines s) x.memory y.memory like.memory h.memory;
    low = like_types (low_lines s) x.low y.low like.low h.low;
    args = like_types (argument_lines s) x.args y.args like.args h.args;
    stop = λ e. like.stop (h.stop e);
    wake = λ e. like.wake (h.wake e);
    other = λ e. like.other (h.other e);
  }
