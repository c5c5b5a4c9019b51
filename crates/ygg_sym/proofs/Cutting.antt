-- A run over terms that power cuts ends as it is defined to.
use Rattle.std.proofs.Common.{◌≡◌, ◌≤◌, ℕ, List, ◌++◌, map, Result, Ok, Err, OnOk, IfOk, sym, ap, ◌∙◌, subst, zero-add, ◌⊎◌, inl, inr, arith}
use Rattle.std.specs.Prelude.{min}
use Rattle.ygg_value.specs.Words.{word}
use Rattle.ygg_syntax.specs.declared.tree.Block.{Block}
use Rattle.ygg_syntax.specs.declared.tree.Def.{Def}
use Rattle.ygg_syntax.specs.declared.tree.Stmt.{Stmt}
use Rattle.ygg_sym_machine.specs.ygg_type_rules.TypeErrors.{none}
use Rattle.ygg_sym_machine.specs.ygg_type_rules.Statements.{walked, return_errors}
use Rattle.ygg_sym_machine.specs.ygg_type_rules.Statements as rules
use Rattle.ygg_sym_machine.specs.ygg_meaning_laws_proofs_Tests.{left as first_of}
use Rattle.ygg_sym_machine.specs.ygg_rules.declared.rule.RuleKind.{RuleKind}
use Rattle.ygg_sym_machine.specs.ygg_bank_proofs_Meaning.{fits_fewer}
use Rattle.ygg_sym_machine.specs.ygg_bank.Makes.{Out}
use Rattle.ygg_sym_machine.specs.ygg_bank.Making.{made}
use Rattle.ygg_sym_machine.specs.ygg_bank.Nodes.{Extends, HasWidth, IsBank}
use Rattle.ygg_sym_machine.specs.ygg_bank.declared.node.Id.{Id}
use Rattle.ygg_sym_machine.specs.ygg_bank.declared.node.Node.{Node}
use Rattle.ygg_sym_machine.specs.ygg_bank.declared.node.Node.TheVariants.{Const}
use Rattle.ygg_sym_machine.specs.ygg_meaning_laws.Direct.{room_of}
use Rattle.ygg_sym_machine.specs.ygg_sym_runs.Names.{SymEnv}
use Rattle.ygg_sym_machine.specs.ygg_sym_runs_proofs_Shaped.{env_wider}
use Rattle.ygg_sym_machine.specs.ygg_sym_runs.Lower.{SymMeaning, IsLower, KeepsSingle, SingleFrom, Stands}
use Rattle.ygg_sym_machine.specs.ygg_sym_runs.Ready.{CanRun, Ended, order_run, terms_of}
use Rattle.ygg_sym_machine.proofs.of_ygg_sym_runs.Singles.{single_stays}
use Rattle.ygg_sym_machine.proofs.of_ygg_sym_runs.Walking.{run_left}
use Rattle.ygg_sym_machine.specs.StopTerms.{SymFallen, SymHalted}
use Rattle.ygg_sym_spec.specs.ygg_sym_runs.WholeReady.{CanWhole}
use Rattle.ygg_sym_machine.specs.Halting.{halted_of, halting_meaning, sym_fall}
use Rattle.ygg_sym_machine.specs.Stopping.{Power}
use Rattle.ygg_sym_machine.specs.declared.ending.StopEnd.{StopEnd}
use Rattle.ygg_sym.specs.Falls.{IsFall}
use Rattle.ygg_sym.proofs.PlacesCounted.{rooms_are}

-- no input comes with a constant
pub never_single : (kinds : List RuleKind) (old new : List Node) → new ≡ (made kinds (Const (word 1 0)) old).nodes → KeepsSingle old new
never_single kinds old new e = λ first h. subst (SingleFrom first) (sym e) (single_stays kinds first (Const (word 1 0)) old tt h)

-- where inputs are single digits from either of two numbers on, they are so from the lesser one on
single_min : (a b : ℕ) (nodes : List Node) → SingleFrom a nodes → SingleFrom b nodes → SingleFrom (min a b) nodes
single_min a b nodes p q place number w e l = elim (which a b number l) [ inl m ↦ p place number w e m | inr m ↦ q place number w e m ]
  where
    which : (a b number : ℕ) → min a b ≤ number → (a ≤ number) ⊎ (b ≤ number)
    which a b number l = grind arith

module _ {S : Type 0} (M : SymMeaning S) (K : Power S) (defs : List Def) where
  abbrev H : SymMeaning (SymHalted S S)
  H = halting_meaning M K

  -- the statements may be run on the machine with stops
  pub cut_runs : (b : Block) (old new : List Node) (env : SymEnv) (s : S) (never : Id) → CanWhole M defs b old env s →
      SingleFrom K.first old → Extends old new →
      KeepsSingle old new → HasWidth new never 1 → CanRun H defs b.statements new env (halted_of s s never)
  cut_runs b old new env s never can single g k w =
      let n = can.names in
      let st = can.stands in
      let there = M.low.wider old new s g st.has in
      record {
        scope = can.scope;
        names = record {
          sound = n.sound;
          defs_is = n.defs_is;
          lower_is = n.lower_is;
          shaped = env_wider old new env g n.shaped;
          agrees = λ inputs v h. n.agrees inputs v (fits_fewer inputs v old new g h);
        };
        stands = record {
          serves = st.serves;
          has = (there, there, w);
          single = single_min M.first K.first new (k M.first st.single) (k K.first single);
        };
        without_errors = first_of (none (rules.in_order (map walked b.statements) can.scope).type_errors)
            (none (return_errors b.answer can.shape (rules.in_order (map walked b.statements) can.scope).scope)) can.without_errors;
        keeps = can.keeps;
      }

  module _ (law : IsLower H) (kinds : List RuleKind) where
    -- the state after them stands among the nodes
    pub cut_stands : (b : Block) (ss : List Stmt) (old new : List Node) (env env' : SymEnv) (z z' : SymHalted S S) (last : ℕ) → ss ≡ b.statements →
        CanRun H defs b.statements old env z → Ended (order_run H defs kinds ss) 0 env z old last env' z' new → IsBank new → Stands H new z'
    cut_stands b ss old new env env' z z' last same can h bank =
        let e = subst (λ x. Ended (order_run H defs kinds x) 0 env z old last env' z' new) same h in
        let a = run_left H law kinds defs b.statements 0 old new env env' z z' can e.nodes e.names e.state bank e.single in
        a.stands

    -- what is left at the end
    pub cut_ends : (b : Block) (ss : List Stmt) (vars args env env' : SymEnv) (s : S) (never : Id) (z' : SymHalted S S) (old first mid new : List Node)
        (last : ℕ) (fallen : S) (reached : Id) → ss ≡ b.statements → env ≡ vars ++ args →
        first ≡ (made kinds (Const (word 1 0)) old).nodes → never ≡ (made kinds (Const (word 1 0)) old).value →
        Ended (order_run H defs kinds ss) 0 env (halted_of s s never) first last env' z' mid →
        new ≡ (sym_fall M K kinds last z' mid).nodes → fallen ≡ (sym_fall M K kinds last z' mid).value.fallen →
        reached ≡ (sym_fall M K kinds last z' mid).value.reached → M.low.Has new fallen → HasWidth new reached 1 → KeepsSingle mid new →
        IsFall M K defs kinds b vars args s old fallen reached new
    cut_ends b ss vars args env env' s never z' old first mid new last fallen reached same joined en ei h e f r has width keep =
        let k = made kinds (Const (word 1 0)) old in
        let p0 = subst (λ x. Ended (order_run H defs kinds x) 0 env (halted_of s s never) first last env' z' mid) same h in
        let p1 = subst (λ x. Ended (order_run H defs kinds b.statements) 0 x (halted_of s s never) first last env' z' mid) joined p0 in
        let p2 = subst (λ x. Ended (order_run H defs kinds b.statements) 0 (vars ++ args) (halted_of s s x) first last env' z' mid) ei p1 in
        let q = subst (λ x. Ended (order_run H defs kinds b.statements) 0 (vars ++ args) (halted_of s s k.value) x last env' z' mid) en p2 in
        let z = (order_run H defs kinds b.statements).run 0 (vars ++ args) (halted_of s s k.value) k.nodes in
        let counted = rooms_are kinds (terms_of kinds defs) (H.machine kinds) b in
        let room : last ≡ room_of (M.machine kinds).space b = q.place ∙ zero-add (order_run H defs kinds b.statements).room ∙ counted in
        let all : sym_fall M K kinds last z' mid ≡ sym_fall M K kinds (room_of (M.machine kinds).space b) z.value.to z.nodes =
        ap (λ n. sym_fall M K kinds n z' mid) room ∙ ap (λ x. sym_fall M K kinds (room_of (M.machine kinds).space b) x mid) q.state
        ∙ ap (λ x. sym_fall M K kinds (room_of (M.machine kinds).space b) z.value.to x) q.nodes in
        record {
          nodes = e ∙ ap (λ (o : Out (SymFallen S)). o.nodes) all;
          left = f ∙ ap (λ (o : Out (SymFallen S)). o.value.fallen) all;
          stop = r ∙ ap (λ (o : Out (SymFallen S)). o.value.reached) all;
          has = has;
          width = width;
          single = λ number x. keep number (q.single number (subst (SingleFrom number) en (never_single kinds old first en number x)));
        }

    -- so it is wherever there was memory
    pub cut_if : {E : Type 0} (b : Block) (ss : List Stmt) (env env' : SymEnv) (s : S) (never : Id) (z' : SymHalted S S) (old first mid new : List Node)
        (last : ℕ) (r : Result (StopEnd S) E) → ss ≡ b.statements → first ≡ (made kinds (Const (word 1 0)) old).nodes →
        never ≡ (made kinds (Const (word 1 0)) old).value → Ended (order_run H defs kinds ss) 0 env (halted_of s s never) first last env' z' mid →
        OnOk r (new ≡ (sym_fall M K kinds last z' mid).nodes) → IfOk r (λ end. end.fallen ≡ (sym_fall M K kinds last z' mid).value.fallen) →
        IfOk r (λ end. end.reached ≡ (sym_fall M K kinds last z' mid).value.reached) → IfOk r (λ end. M.low.Has new end.fallen) →
        IfOk r (λ end. HasWidth new end.reached 1) → OnOk r (KeepsSingle mid new) →
        IfOk r (λ end. (vars args : SymEnv) → env ≡ vars ++ args → IsFall M K defs kinds b vars args s old end.fallen end.reached new)
    cut_if b ss env env' s never z' old first mid new last (Ok end) same en ei h e f r has width keep = λ vars args joined.
        cut_ends b ss vars args env env' s never z' old first mid new last end.fallen end.reached same joined en ei h e f r has width keep
    cut_if b ss env env' s never z' old first mid new last (Err x) same en ei h e f r has width keep = tt
