-- The search for the first definition of a name.
use Rattle.std.proofs.Common.{
  ◌≡◌,
  ℕ,
  ◌+◌,
  ◌<◌,
  ◌≤◌,
  true,
  false,
  cond,
  List,
  [],
  ◌∷◌,
  ◌++◌,
  length,
  take,
  drop,
  get_or,
  refl,
  sym,
  ap,
  ◌∙◌,
  append_assoc,
  append-nil,
  add-one,
}
use Rattle.std.specs.Str.{bytes_eq}
use Rattle.std.proofs.Math.Seq.{take-suc}
use Rattle.std.proofs.lemmas.List.{drop_more, drop_all}
use Rattle.std.proofs.lemmas.Option.{get_or_from_slice_get}
use Rattle.ygg_syntax.specs.declared.tree.Def.{Def}
use Rattle.ygg_syntax.specs.Weights.{Weights, weight_at, weights_with, weights_of, expr_weight}
use Rattle.ygg_syntax.specs.Definitions.{WeighsAsAt}

-- a definition's name and weight
abbrev entry : Weights → Def → List ℕ × ℕ
entry known d = (d.name.text, expr_weight known d.body)

-- further definitions stand behind those that are known
pub record Grown (known all : Weights) : Type 0 where
  pub more : Weights
  pub is : all ≡ known ++ more

grown : (known : Weights) (ds : List Def) → Grown known (weights_with known ds)
grown known [] = record { more = []; is = sym (append-nil known) }
grown known (d ∷ ds) = let g = grown (known ++ entry known d ∷ []) ds in
    record { more = entry known d ∷ g.more; is = g.is ∙ append_assoc known (entry known d ∷ []) g.more }

weights_after : (known : Weights) (ds : List Def) (d : Def) → weights_with known (ds ++ d ∷ []) ≡ weights_with known ds ++ entry (weights_with known ds) d ∷ []
weights_after known [] d = refl
weights_after known (c ∷ ds) d = weights_after (known ++ entry known c ∷ []) ds d

-- none of the first so many definitions has the name
pub record Searched (defs : List Def) (name : List ℕ) (place : ℕ) : Type 0 where
  pub rest : weights_with (weights_of (take place defs)) (drop place defs) ≡ weights_of defs
  pub missing : (more : Weights) → weight_at (weights_of (take place defs) ++ more) name ≡ weight_at more name

pub begun : (defs : List Def) (name : List ℕ) → Searched defs name 0
begun defs name = record { rest = refl; missing = λ more. refl }

one_longer : (defs : List Def) (d : Def) (place : ℕ) → place < length defs → weights_of (take (place + 1) defs) ≡ weights_of (take place defs)
    ++ entry (weights_of (take place defs)) (get_or defs place d) ∷ []
one_longer defs d place h = rw (add-one, take-suc defs place d h) (weights_after [] (take place defs) (get_or defs place d))

skip : (known : Weights) (k : List ℕ × ℕ) (more : Weights) (name : List ℕ) → bytes_eq k.0 name ≡ false →
    ((more : Weights) → weight_at (known ++ more) name ≡ weight_at more name) → weight_at ((known ++ k ∷ []) ++ more) name ≡ weight_at more name
skip known k more name differs missing =
    ap (λ ws. weight_at ws name) (append_assoc known (k ∷ []) more) ∙ missing (k ∷ more) ∙ ap (λ b. cond b k.1 (weight_at more name)) differs

-- the next one has another name
pub other : (defs : List Def) (name : List ℕ) (place : ℕ) (d : Def) → place < length defs → d ≡ get_or defs place d →
    bytes_eq d.name.text name ≡ false → Searched defs name place → Searched defs name (place + 1)
other defs name place d h is differs s = record {
  rest = ap (λ known. weights_with known (drop (place + 1) defs)) (one_longer defs d place h)
      ∙ sym (ap (weights_with (weights_of (take place defs))) (drop_more defs place d h)) ∙ s.rest;
  missing = λ more. ap (λ known. weight_at (known ++ more) name) (one_longer defs d place h)
      ∙ skip (weights_of (take place defs)) (entry (weights_of (take place defs)) (get_or defs place d)) more name
      (ap (λ (x : Def). bytes_eq x.name.text name) (sym is) ∙ differs) s.missing;
}

at_first : (known : Weights) (d : Def) (ds : List Def) (name : List ℕ) → bytes_eq d.name.text name ≡ true →
    ((more : Weights) → weight_at (known ++ more) name ≡ weight_at more name) → weight_at (weights_with known (d ∷ ds)) name ≡ expr_weight known d.body
at_first known d ds name here missing =
    let g = grown (known ++ entry known d ∷ []) ds in
    ap (λ ws. weight_at ws name) (g.is ∙ append_assoc known (entry known d ∷ []) g.more) ∙ missing (entry known d ∷ g.more)
    ∙ ap (λ b. cond b (expr_weight known d.body) (weight_at g.more name)) here

-- the next one has the name
pub found : (defs : List Def) (name : List ℕ) (place : ℕ) (d : Def) → place < length defs → d ≡ get_or defs place d → bytes_eq d.name.text name ≡ true
    → Searched defs name place → WeighsAsAt defs name place
found defs name place d h is here s = record {
  within = h;
  means = λ x got.
      sym (ap (λ ws. weight_at ws name) (ap (weights_with (weights_of (take place defs))) (sym (drop_more defs place d h)) ∙ s.rest))
      ∙ at_first (weights_of (take place defs)) (get_or defs place d) (drop (place + 1) defs) name
      (ap (λ (x : Def). bytes_eq x.name.text name) (sym is) ∙ here) s.missing
      ∙ ap (λ (y : Def). expr_weight (weights_of (take place defs)) y.body) (get_or_from_slice_get defs place x d got);
}

-- none has it
pub none_found : (defs : List Def) (name : List ℕ) (place : ℕ) → length defs ≤ place → Searched defs name place → weight_at (weights_of defs) name ≡ 0
none_found defs name place h s =
    let all : weights_of (take place defs) ≡ weights_of defs = ap (weights_with (weights_of (take place defs))) (sym (drop_all place defs h)) ∙ s.rest in
    ap (λ ws. weight_at ws name) (sym all ∙ sym (append-nil (weights_of (take place defs)))) ∙ s.missing []
