-- Names that were put together.
use Rattle.std.proofs.Common.{◌≡◌, List, [], ◌++◌, ap, ◌∙◌}
use Rattle.ygg_syntax.specs.declared.tree.Declared.{Declared}
use Rattle.ygg_sym_spec.specs.ygg_shape_cells.declared.terms.SymValue.{SymValue}
use Rattle.ygg_sym_spec.specs.ygg_sym_runs.Names.{sym_bind}
use Rattle.ygg_sym_spec.specs.ygg_sym_runs.Seen.{env_of}
use Rattle.ygg_sym_spec.specs.ygg_sym_runs.declared.held.SymBinding.{SymBinding}

pub one_names : (nothing one : List SymBinding) (ds D : List Declared) (xs X : List SymValue) → nothing ≡ [] →
    env_of one ≡ env_of nothing ++ sym_bind ds xs → ds ≡ D → xs ≡ X → env_of one ≡ sym_bind D X
one_names nothing one ds D xs X n o d x = o ∙ ap (λ z. env_of z ++ sym_bind ds xs) n ∙ ap (λ z. sym_bind z xs) d ∙ ap (sym_bind D) x

pub two_names : (nothing one two : List SymBinding) (ds D es E : List Declared) (xs X ys Y : List SymValue) → nothing ≡ [] →
    env_of one ≡ env_of nothing ++ sym_bind ds xs → env_of two ≡ env_of one ++ sym_bind es ys → ds ≡ D → es ≡ E → xs ≡ X → ys ≡ Y →
    env_of two ≡ sym_bind D X ++ sym_bind E Y
two_names nothing one two ds D es E xs X ys Y n o t d e x y =
    t ∙ ap (λ z. z ++ sym_bind es ys) (one_names nothing one ds D xs X n o d x) ∙ ap (λ z. sym_bind D X ++ sym_bind z ys) e
    ∙ ap (λ z. sym_bind D X ++ sym_bind E z) y
