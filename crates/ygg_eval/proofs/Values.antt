-- Values of declared shapes, by name and in order.
use Rattle.std.proofs.Common.{◌≡◌, suc, true, ◌&&◌, List, [], ◌∷◌, length, refl, ap, ◌∙◌, arith}
use Rattle.std.specs.Str.{bytes_eq}
use Rattle.ygg_value.specs.declared.row.Value.{Value}
use Rattle.ygg_syntax.specs.declared.tree.Declared.{Declared}
use Rattle.ygg_eval.specs.ygg_meaning.Environments.{bind}
use Rattle.ygg_eval.specs.ygg_meaning.Shapes.{shape_in, fits, values_fit, env_fits}
use Rattle.ygg_eval.specs.ygg_meaning_laws_proofs_Tests.{left, right}

-- as many values that fit by name fit in order
pub bound_fits : (ds : List Declared) (vs : List Value) → length vs ≡ length ds → env_fits ds (bind ds vs) ≡ true → values_fit ds vs ≡ true
bound_fits [] [] n h = refl
bound_fits [] (v ∷ vs) n h = absurd (omega arith)
bound_fits (d ∷ ds) [] n h = absurd (omega arith)
bound_fits (d ∷ ds) (v ∷ vs) n h =
    let here = right (bytes_eq d.name.text d.name.text) (fits (shape_in d.shape) v)
    (left (bytes_eq d.name.text d.name.text && fits (shape_in d.shape) v) (env_fits ds (bind ds vs)) h) in
    let others = bound_fits ds vs (omega arith) (right (bytes_eq d.name.text d.name.text && fits (shape_in d.shape) v) (env_fits ds (bind ds vs)) h) in
    ap (λ b. b && values_fit ds vs) here ∙ others

-- there are as many of both
pub as_many : (ds : List Declared) (vs : List Value) → values_fit ds vs ≡ true → length vs ≡ length ds
as_many [] [] h = refl
as_many [] (v ∷ vs) h = absurd (cc)
as_many (d ∷ ds) [] h = absurd (cc)
as_many (d ∷ ds) (v ∷ vs) h = ap suc (as_many ds vs (right (fits (shape_in d.shape) v) (values_fit ds vs) h))

-- and as many named values
pub bind_count : (ds : List Declared) (vs : List Value) → values_fit ds vs ≡ true → length (bind ds vs) ≡ length vs
bind_count [] [] h = refl
bind_count [] (v ∷ vs) h = absurd (cc)
bind_count (d ∷ ds) [] h = absurd (cc)
bind_count (d ∷ ds) (v ∷ vs) h = ap suc (bind_count ds vs (right (fits (shape_in d.shape) v) (values_fit ds vs) h))
