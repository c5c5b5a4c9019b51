-- What the terms of obligations mean.
use Rattle.std.specs.Prelude.{◌≡◌, ℕ, List, [], ◌∷◌}
use Rattle.ygg_sym_laws.specs.ygg_meaning.Obligations.{Schedule, name_of}
use Rattle.ygg_sym_laws.specs.ygg_meaning.Claims.{Claim, ClaimViolated, claims_of}
use Rattle.ygg_syntax.specs.declared.tree.File.{File}
use Rattle.ygg_sym_laws.specs.ygg_bank.Nodes.{HasWidth}
use Rattle.ygg_sym_laws.specs.ygg_bank.Values.{Inputs, InputsFit, value_of}
use Rattle.ygg_sym_laws.specs.ygg_bank.declared.node.Id.{Id}
use Rattle.ygg_sym_laws.specs.ygg_bank.declared.node.Node.{Node}

-- the name of an obligation
abbrev pub claim_name : Claim → List ℕ
claim_name c = name_of c.layer.layer.name.text c.obligation

-- an environment in which the term is 0
pub record Refuting (nodes : List Node) (term : Id) : Type 0 where
  pub inputs : Inputs
  pub fit : InputsFit inputs nodes
  pub is_zero : (value_of inputs nodes term.0).bits ≡ 0

-- The term of an obligation: each environment in which it is 0 shows a schedule that violates the obligation, and each schedule that does shows such
-- an environment. So the obligation holds exactly where the term is 1 in every environment.
pub record IsTermOf (nodes : List Node) (c : Claim) (term : Id) : Type 0 where
  pub wide : HasWidth nodes term 1
  pub shows : Refuting nodes term → (x : Schedule) × ClaimViolated c x
  pub shown : (x : Schedule) → ClaimViolated c x → Refuting nodes term

-- a term for each obligation, in order
abbrev pub AreTermsOf : List Node → List Claim → List Id → Type 0
AreTermsOf nodes [] [] = Unit {0}
AreTermsOf nodes (c ∷ cs) (t ∷ ts) = IsTermOf nodes c t × AreTermsOf nodes cs ts
AreTermsOf nodes _ _ = ⊥

-- the terms are those of the file's obligations
abbrev pub AreTermsIn : File → List Node → List Id → Type 0
AreTermsIn f nodes terms = AreTermsOf nodes (claims_of f) terms
