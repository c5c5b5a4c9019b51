-- States of a machine below as terms for declared names.
use Rattle.std.proofs.Common.{◌≡◌, Bool, true, false, ◌&&◌, if◌then◌else◌, List, [], ◌∷◌, refl, ap, ◌∙◌}
use Rattle.std.proofs.lemmas.Bool.{and_from as both_of}
use Rattle.std.specs.Str.{bytes_eq}
use Rattle.ygg_value.specs.declared.row.Value.{Value}
use Rattle.ygg_syntax.specs.declared.tree.Declared.{Declared}
use Rattle.ygg_sym_runs.specs.ygg_meaning.Environments.{Env}
use Rattle.ygg_sym_runs.specs.ygg_meaning.Shapes.{shape_in, fits, env_fits}
use Rattle.ygg_sym_runs.specs.ygg_meaning.Machine.{State, based}
use Rattle.ygg_sym_runs.specs.ygg_meaning_laws_proofs_Tests.{bytes_equal}
use Rattle.ygg_sym_runs.specs.ygg_rules.declared.rule.RuleKind.{RuleKind}
use Rattle.ygg_sym_runs.specs.ygg_bank_proofs_Meaning.{fits_fewer}
use Rattle.ygg_sym_runs.specs.ygg_bank_proofs_Widths.{wider, extends_self, extends_both}
use Rattle.ygg_sym_runs.specs.ygg_bank.Nodes.{HasWidth, Extends}
use Rattle.ygg_sym_runs.specs.ygg_bank.Values.{Inputs, Values, Fits}
use Rattle.ygg_sym_runs.specs.ygg_bank.declared.node.Id.{Id}
use Rattle.ygg_sym_runs.specs.ygg_bank.declared.node.Node.{Node}
use Rattle.ygg_sym_runs.specs.ygg_shape_cells_proofs_Makers.{merged_gives}
use Rattle.ygg_sym_runs.specs.ygg_shape_cells.Making.{merged}
use Rattle.ygg_sym_runs.specs.ygg_shape_cells.Terms.{worth}
use Rattle.ygg_sym_runs.specs.ygg_shape_cells.declared.terms.SymValue.{SymValue}
use Rattle.ygg_sym_runs.specs.ExpressionMeaning.{Grows, Gives}
use Rattle.ygg_sym_runs.specs.ygg_shape_cells_proofs_Wider.{shaped_wider}
use Rattle.ygg_sym_runs.specs.ygg_shape_cells_proofs_Grows.{merged_grows}
use Rattle.ygg_sym_runs.specs.Meaning.{Low, is_set, IsLow}
use Rattle.ygg_sym_runs.proofs.Worths.{shape_fits}
use Rattle.ygg_sym_runs.specs.Lows.{LowShaped, low_worth, merge_lows}

pub low_wider : (old new : List Node) (ds : List Declared) (xs : List SymValue) → Extends old new → LowShaped old ds xs → LowShaped new ds xs
low_wider old new [] [] g h = tt
low_wider old new [] (x ∷ xs) g h = absurd h
low_wider old new (d ∷ ds) [] g h = absurd h
low_wider old new (d ∷ ds) (x ∷ xs) g h = (shaped_wider old new (shape_in d.shape) x g h.0, low_wider old new ds xs g h.1)

-- values of terms for declared names stand for a state without memory
abbrev pub low_of : List Declared → Low (List SymValue) (State Env)
low_of ds = record {
  value = λ v xs. based (low_worth v ds xs);
  Has = λ nodes xs. LowShaped nodes ds xs;
  wider = λ old new xs g h. low_wider old new ds xs g h;
}

pub bind_if : (c : Bool) (d : Declared) (a b : Value) (xs ys : Env) →
    (d.name.text, (if c then a else b)) ∷ (if c then xs else ys) ≡ (if c then (d.name.text, a) ∷ xs else (d.name.text, b) ∷ ys)
bind_if true d a b xs ys = refl
bind_if false d a b xs ys = refl

based_if : (c : Bool) (xs ys : Env) → based (if c then xs else ys) ≡ (if c then based xs else based ys)
based_if true xs ys = refl
based_if false xs ys = refl

pub same_if : (c : Bool) (e : Env) → e ≡ (if c then e else e)
same_if true e = refl
same_if false e = refl

module _ (inputs : Inputs) (v : Values) where
  -- what a state is worth has the declared shapes
  pub low_fits : (nodes : List Node) (ds : List Declared) (xs : List SymValue) → Fits inputs v nodes → LowShaped nodes ds xs →
      env_fits ds (low_worth v ds xs) ≡ true
  low_fits nodes [] [] h p = refl
  low_fits nodes [] (x ∷ xs) h p = absurd p
  low_fits nodes (d ∷ ds) [] h p = absurd p
  low_fits nodes (d ∷ ds) (x ∷ xs) h p =
      both_of (bytes_eq d.name.text d.name.text && fits (shape_in d.shape) (worth v x)) (env_fits ds (low_worth v ds xs))
      (both_of (bytes_eq d.name.text d.name.text) (fits (shape_in d.shape) (worth v x)) (bytes_equal d.name.text)
      (shape_fits inputs v nodes (shape_in d.shape) x h p.0))
      (low_fits nodes ds xs h p.1)

  module _ (kinds : List RuleKind) where
    pub merge_lows_grows : (t : Id) (a b : List SymValue) → Grows (merge_lows kinds t a b)
    merge_lows_grows t [] b nodes = extends_self nodes
    merge_lows_grows t (x ∷ a) [] nodes = extends_self nodes
    merge_lows_grows t (x ∷ a) (y ∷ b) nodes =
        let o = merged kinds t x y nodes in
        extends_both nodes o.nodes (merge_lows kinds t a b o.nodes).nodes (merged_grows kinds t x y nodes) (merge_lows_grows t a b o.nodes)

    pub record LowIs (ds : List Declared) (want : Env) (nodes : List Node) (xs : List SymValue) : Type 0 where
      pub has : LowShaped nodes ds xs
      pub is : low_worth v ds xs ≡ want

    pub merge_worth : (ds : List Declared) (t : Id) (a b : List SymValue) (nodes : List Node) → HasWidth nodes t 1 → LowShaped nodes ds a →
        LowShaped nodes ds b →
        Gives inputs v (merge_lows kinds t a b) nodes (LowIs ds (if is_set v t then low_worth v ds a else low_worth v ds b))
    merge_worth [] t [] [] nodes d p q h = record { has = tt; is = same_if (is_set v t) [] }
    merge_worth [] t (x ∷ a) b nodes d p q h = absurd p
    merge_worth [] t [] (y ∷ b) nodes d p q h = absurd q
    merge_worth (c ∷ ds) t [] b nodes d p q h = absurd p
    merge_worth (c ∷ ds) t (x ∷ a) [] nodes d p q h = absurd q
    merge_worth (c ∷ ds) t (x ∷ a) (y ∷ b) nodes d p q h =
        let o = merged kinds t x y nodes in
        let r = merge_lows kinds t a b o.nodes in
        let e = merged_grows kinds t x y nodes in
        let u = merge_lows_grows t a b o.nodes in
        let m = merged_gives inputs v kinds (shape_in c.shape) t x y nodes d p.0 q.0 (fits_fewer inputs v o.nodes r.nodes u h) in
        let z = merge_worth ds t a b o.nodes (wider nodes o.nodes t 1 e d) (low_wider nodes o.nodes ds a e p.1) (low_wider nodes o.nodes ds b e q.1) h in
        record {
          has = (shaped_wider o.nodes r.nodes (shape_in c.shape) o.value u m.shaped, z.has);
          is = ap (λ w. (c.name.text, w) ∷ low_worth v ds r.value) m.is
              ∙ ap (λ ws. (c.name.text, (if is_set v t then worth v x else worth v y)) ∷ ws) z.is
              ∙ bind_if (is_set v t) c (worth v x) (worth v y) (low_worth v ds a) (low_worth v ds b);
        }

    pub merge_lows_gives : (ds : List Declared) (t : Id) (a b : List SymValue) (nodes : List Node) → HasWidth nodes t 1 → LowShaped nodes ds a →
        LowShaped nodes ds b →
        Gives inputs v (merge_lows kinds t a b) nodes
        (IsLow inputs v (low_of ds) (if is_set v t then based (low_worth v ds a) else based (low_worth v ds b)))
    merge_lows_gives ds t a b nodes d p q h =
        let m = merge_worth ds t a b nodes d p q h in
        record { has = m.has; is = ap based m.is ∙ based_if (is_set v t) (low_worth v ds a) (low_worth v ds b) }
