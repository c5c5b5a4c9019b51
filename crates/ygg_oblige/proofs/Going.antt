-- Obligations of a layer added in order: those so far, and those that are left.
use Rattle.std.proofs.Common.{◌≡◌, ◌<◌, ◌≤◌, ◌⊎◌, ℕ, List, [], ◌∷◌, ◌++◌, length, inl, inr, sym, ap, ◌∙◌, subst, append_assoc}
use Rattle.std.specs.Prelude.{All}
use Rattle.std.proofs.lemmas.Bool.{cases_lt}
use Rattle.std.proofs.lemmas.List.{append-nil, map-append}
use Rattle.std.proofs.lemmas.List.Elements.{All-head, All-tail}
use Rattle.ygg_oblige_laws.specs.ygg_rules.declared.rule.RuleKind.{RuleKind}
use Rattle.ygg_oblige_laws.proofs.of_ygg_bank.Places.{here_or_last, last_is}
use Rattle.ygg_oblige_laws.specs.ygg_bank_proofs_Widths.{wider}
use Rattle.ygg_oblige_laws.specs.ygg_bank.Inputs.{InputsBelow}
use Rattle.ygg_oblige_laws.specs.ygg_bank.Makes.{Out}
use Rattle.ygg_oblige_laws.specs.ygg_bank.Nodes.{Extends, IsBank}
use Rattle.ygg_oblige_laws.specs.ygg_bank.declared.node.Id.{Id}
use Rattle.ygg_oblige_laws.specs.ygg_bank.declared.node.Node.{Node}
use Rattle.ygg_oblige_laws.specs.ygg_meaning.Layer.{ClosedLayer}
use Rattle.ygg_oblige_laws.specs.ygg_meaning.Obligations.{Obligation, name_of}
use Rattle.ygg_oblige_laws.specs.ygg_meaning.Refines.{Below}
use Rattle.ygg_syntax.specs.declared.tree.Def.{Def}
use Rattle.ygg_oblige_laws.specs.ygg_sym_runs_proofs_Lows.{low_wider}
use Rattle.ygg_oblige_parts.specs.ygg_sym_spec.Layers.{closed, terms_in}
use Rattle.ygg_oblige_parts.specs.ygg_sym_spec.declared.layer.SymLayer.{SymLayer}
use Rattle.ygg_oblige.specs.Sites.{below_in}
use Rattle.ygg_sym.specs.ygg_sym_spec.declared.below.SymBelow.{SymBelow}
use Rattle.ygg_oblige_laws.specs.LayerTerms.{LayerTyped}
use Rattle.ygg_oblige_laws.specs.Numbers.{Numbers, numbers_of}
use Rattle.ygg_oblige_laws.specs.TermStates.{Starting}
use Rattle.ygg_oblige_laws.specs.Terms.{term_made}
use Rattle.ygg_oblige_laws.proofs.Compares.{comparing_means}
use Rattle.ygg_oblige_laws.proofs.Fresh.{fresh_means}
use Rattle.ygg_oblige_laws.proofs.Glued.{glued_means}
use Rattle.ygg_oblige_laws.proofs.Starting.{states_mean}
use Rattle.ygg_oblige_laws.proofs.Steps.{steps_mean}
use Rattle.ygg_oblige_laws.proofs.Free.{term_below}
use Rattle.ygg_oblige_laws.proofs.Whole.{means_typed}
use Rattle.ygg_oblige_laws.specs.Parts.{PartsMean}
use Rattle.ygg_oblige.specs.Makers.{StartingShaped}
use Rattle.ygg_oblige.specs.Adding.{KnownAt, after_at, names_of, next_at, term_at, terms_at}
use Rattle.ygg_oblige.specs.Obligations as listed
use Rattle.ygg_oblige.specs.declared.obligation.Obligation as code

-- what a layer without a type error has of the parts of obligations' terms
pub parts_of : (kinds : List RuleKind) (defs : List Def) (G : Below) (L : ClosedLayer) → LayerTyped defs G L → PartsMean kinds defs G L
parts_of kinds defs G L typed = record {
  fresh = fresh_means;
  glue = glued_means;
  comparing = comparing_means kinds;
  states = states_mean kinds defs G L typed;
  steps = steps_mean kinds defs G L typed;
}

-- states that obligations begin with keep their shapes where nodes are added
pub starting_wider : (L : ClosedLayer) (old new : List Node) (S : Starting) → Extends old new → StartingShaped L old S → StartingShaped L new S
starting_wider L old new S g s = record {
  related = wider old new S.related 1 g s.related;
  from = record {
    vars = low_wider old new L.layer.state S.from.vars g s.from.vars;
    memory = low_wider old new L.layer.memory S.from.memory g s.from.memory;
    low = low_wider old new L.low S.from.low g s.from.low;
  };
  settled = wider old new S.settled 1 g s.settled;
  low = low_wider old new L.low S.settled_low g s.low;
}

-- one more has its place at the end of the list
pub one_placed : (all : List code.Obligation) (item : code.Obligation) → listed.ArePlaced all → item.place ≡ length all →
    listed.ArePlaced (all ++ item ∷ [])
one_placed all item placed at place o there = go (cases_lt place (length all))
  where
    go : (place < length all) ⊎ (length all ≤ place) → o.place ≡ place
    go (inl before) = placed place o (here_or_last all item place o there before)
    go (inr past) = let last = last_is all item o place past there in ap (λ (x : code.Obligation). x.place) last.1 ∙ at ∙ sym last.0

module _ (kinds : List RuleKind) (l : SymLayer) (g : SymBelow) (S : Starting) where
  -- of obligations that were to be added to a list and a bank, these are left, and the list and the bank are now so
  pub record Going (os : List Obligation) (start : ℕ) (bank : List Node) (all : List code.Obligation)
      (left : List Obligation) (next : ℕ) (now : List Node) (so_far : List code.Obligation) : Type 0 where
    pub nodes : (terms_at kinds l g S left next now).nodes ≡ (terms_at kinds l g S os start bank).nodes
    pub terms : listed.terms_in so_far ++ (terms_at kinds l g S left next now).value ≡ listed.terms_in all ++ (terms_at kinds l g S os start bank).value
    pub names : listed.names_in so_far ++ names_of l left ≡ listed.names_in all ++ names_of l os
    pub after : after_at kinds l g left next ≡ after_at kinds l g os start
    pub known : All (KnownAt kinds l g) left
    pub starting : StartingShaped (closed l) now S
    pub placed : listed.ArePlaced so_far
    pub free : InputsBelow next now
    pub is_bank : IsBank now

  -- one more is added
  pub record Added (o : Obligation) (next : ℕ) (now : List Node) (so_far : List code.Obligation)
      (next_then : ℕ) (then_nodes : List Node) (then_all : List code.Obligation) : Type 0 where
    pub nodes : then_nodes ≡ (term_at kinds l g S o next now).nodes
    pub terms : listed.terms_in then_all ≡ listed.terms_in so_far ++ (term_at kinds l g S o next now).value ∷ []
    pub names : listed.names_in then_all ≡ listed.names_in so_far ++ name_of (l.layer.now).name.text o ∷ []
    pub next_is : next_then ≡ next_at kinds l g o next
    pub placed : listed.ArePlaced then_all
    pub grows : Extends now then_nodes
    pub is_bank : IsBank then_nodes

  -- its term is made at its numbers, and it is put at the end of the list
  pub added_one : (o : Obligation) (start : ℕ) (n : Numbers) (old now : List Node) (before after : List code.Obligation) (item : code.Obligation) →
      n ≡ numbers_of (below_in g) (closed l) o start →
      now ≡ (term_made kinds (terms_in kinds l) (closed l) (below_in g) S o n old).nodes →
      item.term ≡ (term_made kinds (terms_in kinds l) (closed l) (below_in g) S o n old).value →
      item.name ≡ name_of (l.layer.now).name.text o → item.place ≡ length before → listed.ArePlaced before → after ≡ before ++ item ∷ [] → Extends old now →
      IsBank now →
      Added o start old before n.next now after
  added_one o start n old now before after item is e f h j p k w b =
      let same = ap (λ (z : Numbers). term_made kinds (terms_in kinds l) (closed l) (below_in g) S o z old) is in
      record {
        nodes = e ∙ ap (λ (z : Out Id). z.nodes) same;
        terms = ap listed.terms_in k ∙ map-append (λ (x : code.Obligation). x.term) before (item ∷ [])
            ∙ ap (λ z. listed.terms_in before ++ z ∷ []) (f ∙ ap (λ (z : Out Id). z.value) same);
        names = ap listed.names_in k ∙ map-append (λ (x : code.Obligation). x.name) before (item ∷ []) ∙ ap (λ z. listed.names_in before ++ z ∷ []) h;
        next_is = ap (λ (z : Numbers). z.next) is;
        placed = subst listed.ArePlaced (sym k) (one_placed before item p j);
        grows = w;
        is_bank = b;
      }

  module _ (typed : LayerTyped l.defs.now (below_in g) (closed l)) (os : List Obligation) (start : ℕ) (bank : List Node) (all : List code.Obligation)
    where
      pub going_on : (o : Obligation) (more : List Obligation) (next : ℕ) (now : List Node) (so_far : List code.Obligation)
          (next_then : ℕ) (then_nodes : List Node) (then_all : List code.Obligation) →
          Going os start bank all (o ∷ more) next now so_far → Added o next now so_far next_then then_nodes then_all →
          Going os start bank all more next_then then_nodes then_all
      going_on o more next now so_far next_then then_nodes then_all w a =
          let t = term_at kinds l g S o next now in
          let n = next_at kinds l g o next in
          let rest = terms_at kinds l g S more n t.nodes in
          let nm = name_of (l.layer.now).name.text o in
          record {
            nodes = ap (λ (z : List Node). (terms_at kinds l g S more next_then z).nodes) a.nodes
                ∙ ap (λ (z : ℕ). (terms_at kinds l g S more z t.nodes).nodes) a.next_is ∙ w.nodes;
            terms = ap (λ z. z ++ (terms_at kinds l g S more next_then then_nodes).value) a.terms
                ∙ append_assoc (listed.terms_in so_far) (t.value ∷ []) (terms_at kinds l g S more next_then then_nodes).value
                ∙ ap (λ (z : List Node). listed.terms_in so_far ++ t.value ∷ (terms_at kinds l g S more next_then z).value) a.nodes
                ∙ ap (λ (z : ℕ). listed.terms_in so_far ++ t.value ∷ (terms_at kinds l g S more z t.nodes).value) a.next_is ∙ w.terms;
            names = ap (λ z. z ++ names_of l more) a.names ∙ append_assoc (listed.names_in so_far) (nm ∷ []) (names_of l more) ∙ w.names;
            after = ap (λ (z : ℕ). after_at kinds l g more z) a.next_is ∙ w.after;
            known = All-tail (KnownAt kinds l g) o more w.known;
            starting = starting_wider (closed l) now then_nodes S a.grows w.starting;
            placed = a.placed;
            free = subst (λ (z : ℕ). InputsBelow z then_nodes) (sym a.next_is) (subst (InputsBelow n) (sym a.nodes)
                (term_below kinds l.defs.now (below_in g) (closed l) (parts_of kinds l.defs.now (below_in g) (closed l) typed)
                (means_typed kinds l.defs.now (below_in g) (closed l) typed) next S o (All-head (KnownAt kinds l g) o more w.known).means now w.free));
            is_bank = a.is_bank;
          }

  -- all are added
  pub record Gone (os : List Obligation) (start : ℕ) (bank : List Node) (all : List code.Obligation)
      (next : ℕ) (now : List Node) (so_far : List code.Obligation) : Type 0 where
    pub nodes : now ≡ (terms_at kinds l g S os start bank).nodes
    pub terms : listed.terms_in so_far ≡ listed.terms_in all ++ (terms_at kinds l g S os start bank).value
    pub names : listed.names_in so_far ≡ listed.names_in all ++ names_of l os
    pub after : next ≡ after_at kinds l g os start
    pub placed : listed.ArePlaced so_far

  pub gone_all : (os : List Obligation) (start : ℕ) (bank : List Node) (all : List code.Obligation) (left : List Obligation) (next : ℕ)
      (now : List Node) (so_far : List code.Obligation) → left ≡ [] → Going os start bank all left next now so_far →
      Gone os start bank all next now so_far
  gone_all os start bank all left next now so_far e w =
      let d = subst (λ (z : List Obligation). Going os start bank all z next now so_far) e w in
      record {
        nodes = d.nodes;
        terms = sym (append-nil (listed.terms_in so_far)) ∙ d.terms;
        names = sym (append-nil (listed.names_in so_far)) ∙ d.names;
        after = d.after;
        placed = d.placed;
      }
