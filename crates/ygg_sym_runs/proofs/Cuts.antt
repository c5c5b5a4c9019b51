-- Power that fails on a disk over terms leaves what it leaves on the disk.
use Rattle.std.proofs.Common.{◌≡◌, ◌+◌, ◌==◌, ℕ, Bool, true, if◌then◌else◌, List, [], ◌∷◌, map, sym, ap, ◌∙◌, subst}
use Rattle.std.specs.Prelude.{codes}
use Rattle.ygg_base.specs.declared.geometry.DiskKind.{DiskKind}
use Rattle.ygg_base.specs.declared.geometry.DiskKind.TheVariants.{Sync, Async}
use Rattle.ygg_value.specs.Values.{table_write}
use Rattle.ygg_value.specs.declared.operation.Op.TheVariants.{Or}
use Rattle.ygg_value.specs.declared.row.Value.TheVariants as value
use Rattle.ygg_syntax.specs.declared.grammar.BlockKind.TheVariants.{Impl}
use Rattle.ygg_syntax.specs.declared.tree.DiskText.{DiskText}
use Rattle.ygg_sym_runs.specs.ygg_type_rules.TypeErrors.{none}
use Rattle.ygg_sym_runs.specs.ygg_type_rules.Files.{disk_errors, disk_operations}
use Rattle.ygg_sym_runs.specs.ygg_disk.Kinds.{model_of}
use Rattle.ygg_sym_runs.specs.ygg_meaning.Environments.{Name, Env}
use Rattle.ygg_sym_runs.specs.ygg_meaning.Progress.{Question}
use Rattle.ygg_sym_runs.specs.ygg_meaning.Progress as progress
use Rattle.ygg_sym_runs.specs.ygg_meaning.Machine.{State, based}
use Rattle.ygg_sym_runs.specs.ygg_meaning.DiskMachine.{tables_in}
use Rattle.ygg_sym_runs.specs.ygg_meaning.Stack.{tables_of_kind, tables_of}
use Rattle.ygg_sym_runs.specs.ygg_meaning_laws.Questions.{question_fits}
use Rattle.ygg_sym_runs.specs.ygg_rules.declared.rule.RuleKind.{RuleKind}
use Rattle.ygg_sym_runs.specs.ygg_bank_proofs_Made.{made_grows}
use Rattle.ygg_sym_runs.specs.ygg_bank_proofs_Meaning.{fits_fewer}
use Rattle.ygg_sym_runs.specs.ygg_bank_proofs_Widths.{wider, extends_self}
use Rattle.ygg_sym_runs.specs.ygg_bank.Making.{made}
use Rattle.ygg_sym_runs.specs.ygg_bank.Values.{Inputs, Values}
use Rattle.ygg_sym_runs.specs.ygg_bank.declared.node.Node.{Node}
use Rattle.ygg_sym_runs.specs.ygg_bank.declared.node.Node.TheVariants.{Input, Bin}
use Rattle.ygg_sym_runs.specs.ygg_shape_words_proofs_Grows.{picked_grows}
use Rattle.ygg_sym_runs.specs.ygg_shape_cells_proofs_Wider.{row_wider, shaped_wider}
use Rattle.ygg_sym_runs.specs.ygg_shape_cells.Terms.{worth, row_of}
use Rattle.ygg_sym_runs.specs.ygg_shape_cells.declared.terms.SymValue.{SymValue}
use Rattle.ygg_sym_runs.specs.ygg_meaning_laws.DiskActs.{kind_falls, state_in, table_in, disk_drops, disk_acts}
use Rattle.ygg_sym_runs.specs.ygg_meaning_laws.RunPlaces.{cut_by}
use Rattle.ygg_sym_runs.specs.ygg_meaning_laws_proofs_DiskServes.{fitting_call}
use Rattle.ygg_sym_runs.specs.ExpressionMeaning.{Gives}
use Rattle.ygg_sym_runs.specs.Runs.{SymQuestion, Choice, Call}
use Rattle.ygg_sym_runs.specs.Meaning.{Low, question_worth, QuestionShaped, IsLow}
use Rattle.ygg_sym_runs.specs.Lows.{LowShaped, low_worth}
use Rattle.ygg_sym_runs.specs.Disks.{SymCall, Read, Write, Flush, writes_where}
use Rattle.ygg_sym_runs.specs.StopTerms.{Stops}
use Rattle.ygg_sym_runs.specs.Cuts.{disk_loses, sync_cuts, async_cuts, kind_cuts, call_cuts, disk_cuts, disk_stops}
use Rattle.ygg_sym_runs.proofs.Lows.{low_of, low_wider}
use Rattle.ygg_sym_runs.proofs.JoinedLows.{join_lows_grows, join_worth}
use Rattle.ygg_sym_runs.proofs.StopMeaning.{StopsMean}
use Rattle.ygg_sym_runs.proofs.StopParts.{either_is, one_is}
use Rattle.ygg_sym_runs.proofs.DiskKeeps.{where_grows, cuts_grow}
use Rattle.ygg_sym_runs.proofs.Disks.{call_worth, CallShaped, where_give, table_is, pick_gives, AskIs, ask_is}

-- what power leaves, as values of terms for declared names
abbrev pub left_of : (d : DiskText) → Low (List SymValue) Env
left_of d = record {
  value = λ v xs. low_worth v (tables_of d) xs;
  Has = λ nodes xs. LowShaped nodes (tables_of d) xs;
  wider = λ old new xs g h. low_wider old new (tables_of d) xs g h;
}

module _ (inputs : Inputs) (v : Values) (kinds : List RuleKind) (d : DiskText) (past : Bool) where
  record LeftIs (kind : DiskKind) (want : (model_of kind).State) (nodes : List Node) (xs : List SymValue) : Type 0 where
    has : LowShaped nodes (tables_of_kind kind d) xs
    is : low_worth v (tables_of_kind kind d) xs ≡ tables_in kind want

  loses_so : (kind : DiskKind) (tables : List SymValue) (nodes : List Node) → LowShaped nodes (tables_of_kind kind d) tables →
      LeftIs kind ((model_of kind).lost (state_in past kind (low_worth v (tables_of_kind kind d) tables))) nodes (disk_loses kind tables)
  loses_so Sync (x ∷ []) nodes p = record { has = p; is = ap (λ k. (codes "view", k) ∷ []) (table_is inputs v kinds d nodes x p.0) }
  loses_so Async (x ∷ y ∷ []) nodes p =
      let q = p.1 in
      record { has = (q.0, (q.0, tt)); is = ap (λ k. (codes "view", k) ∷ (codes "stable", k) ∷ []) (table_is inputs v kinds d nodes y q.0) }
  loses_so Sync [] nodes p = absurd p
  loses_so Sync (x ∷ y ∷ more) nodes p = absurd (p.1)
  loses_so Async [] nodes p = absurd p
  loses_so Async (x ∷ []) nodes p = absurd (p.1)
  loses_so Async (x ∷ y ∷ z ∷ more) nodes p = let q = p.1 in absurd (q.1)

  sync_cut : (number : ℕ) (call : SymCall) (tables : List SymValue) (nodes : List Node) → LowShaped nodes (tables_of_kind Sync d) tables →
      CallShaped inputs v kinds d nodes call →
      Gives inputs v (sync_cuts kinds number call tables) nodes
      (LeftIs Sync (kind_falls past Sync (state_in past Sync (low_worth v (tables_of_kind Sync d) tables)) (call_worth inputs v kinds d call)
      ((inputs number == 1) ∷ [])).to)
  sync_cut number (Read at) tables nodes p c h = loses_so Sync tables nodes p
  sync_cut number Flush tables nodes p c h = loses_so Sync tables nodes p
  sync_cut number (Write at row) (x ∷ []) nodes p c h =
      let k = made kinds (Input number 1) nodes in
      let b = writes_where kinds k.value at row x k.nodes in
      let gk = made_grows kinds (Input number 1) nodes in
      let pick = pick_gives inputs v kinds d number nodes (fits_fewer inputs v k.nodes b.nodes (where_grows kinds k.value at row x k.nodes) h) in
      let left = where_give inputs v kinds d k.value at row x c.0 k.nodes pick.wide (shaped_wider nodes k.nodes _ x gk p.0) (wider nodes k.nodes at c.0 gk c.1)
      (row_wider nodes k.nodes d.words.value d.width.value row gk c.2) h in
      let old = table_in true (worth v x) in
      let written = table_write old (v at.0).bits (row_of v row) in
      record {
        has = (left.stands, tt);
        is = ap (λ z. (codes "view", z) ∷ []) (left.is ∙ ap (λ (t : Bool). value.Table (if t then written else old)) pick.is);
      }
  sync_cut number (Write at row) [] nodes p c h = absurd p
  sync_cut number (Write at row) (x ∷ y ∷ more) nodes p c h = absurd (p.1)

  async_cut : (number : ℕ) (call : SymCall) (tables : List SymValue) (nodes : List Node) → LowShaped nodes (tables_of_kind Async d) tables →
      CallShaped inputs v kinds d nodes call →
      Gives inputs v (async_cuts kinds number call tables) nodes
      (LeftIs Async (kind_falls past Async (state_in past Async (low_worth v (tables_of_kind Async d) tables)) (call_worth inputs v kinds d call)
      ((inputs number == 1) ∷ [])).to)
  async_cut number (Read at) tables nodes p c h = loses_so Async tables nodes p
  async_cut number Flush tables nodes p c h = loses_so Async tables nodes p
  async_cut number (Write at row) (x ∷ y ∷ []) nodes p c h =
      let k = made kinds (Input number 1) nodes in
      let b = writes_where kinds k.value at row y k.nodes in
      let gk = made_grows kinds (Input number 1) nodes in
      let q = p.1 in
      let pick = pick_gives inputs v kinds d number nodes (fits_fewer inputs v k.nodes b.nodes (where_grows kinds k.value at row y k.nodes) h) in
      let left = where_give inputs v kinds d k.value at row y c.0 k.nodes pick.wide (shaped_wider nodes k.nodes _ y gk q.0) (wider nodes k.nodes at c.0 gk c.1)
      (row_wider nodes k.nodes d.words.value d.width.value row gk c.2) h in
      let old = table_in true (worth v y) in
      let written = table_write old (v at.0).bits (row_of v row) in
      record {
        has = (left.stands, (left.stands, tt));
        is = ap (λ z. (codes "view", z) ∷ (codes "stable", z) ∷ []) (left.is ∙ ap (λ (t : Bool). value.Table (if t then written else old)) pick.is);
      }
  async_cut number (Write at row) [] nodes p c h = absurd p
  async_cut number (Write at row) (x ∷ []) nodes p c h = absurd (p.1)
  async_cut number (Write at row) (x ∷ y ∷ z ∷ more) nodes p c h = let q = p.1 in absurd (q.1)

  kind_cut : (kind : DiskKind) (number : ℕ) (call : SymCall) (tables : List SymValue) (nodes : List Node) → LowShaped nodes (tables_of_kind kind d) tables →
      CallShaped inputs v kinds d nodes call →
      Gives inputs v (kind_cuts kinds kind number call tables) nodes
      (LeftIs kind (kind_falls past kind (state_in past kind (low_worth v (tables_of_kind kind d) tables)) (call_worth inputs v kinds d call)
      ((inputs number == 1) ∷ [])).to)
  kind_cut Sync number call tables nodes = sync_cut number call tables nodes
  kind_cut Async number call tables nodes = async_cut number call tables nodes

  module _ (right : none (disk_errors d) ≡ true) (first last : ℕ) where
    abbrev pub K : Stops (List SymValue) (List SymValue)
    K = disk_stops kinds d.kind first last

    -- a failure of power takes one pick
    abbrev pub failing : List Bool
    failing = (inputs last == 1) ∷ []

    abbrev pub cut : Question → State Env → Env
    cut = cut_by (disk_acts past d) failing

    abbrev pub lose : State Env → Env
    lose s = ((disk_acts past d).loses s failing).base

    abbrev pub bits : ℕ → Bool
    bits n = inputs (first + n) == 1

    call_cut : (name : Name) (xs tables : List SymValue) (nodes : List Node) → AskIs inputs v kinds d nodes name xs → LowShaped nodes (tables_of d) tables →
        Gives inputs v (disk_cuts kinds d.kind last (Call name xs) tables) nodes
        (IsLow inputs v (left_of d) (cut (progress.Call name (map (worth v) xs)) (based (low_worth v (tables_of d) tables))))
    call_cut name xs tables nodes ask p =
        let low = low_worth v (tables_of d) tables in
        subst (λ o. Gives inputs v (call_cuts kinds d.kind last o tables) nodes
        (IsLow inputs v (left_of d) (cut (progress.Call name (map (worth v) xs)) (based low)))) (sym ask.terms)
        (λ h.
        let m = kind_cut d.kind last ask.call tables nodes p ask.shaped h in
        record { has = m.has; is = m.is ∙ sym (ap (λ c. (disk_drops past d (based low) c failing).base) ask.values) })

    pub disk_stops_mean : StopsMean (low_of (tables_of d)) (left_of d) inputs v Impl (disk_operations d) K cut lose bits
    disk_stops_mean = record {
      bit_grows = λ n nodes. made_grows kinds (Input (first + n) 1) nodes;
      bit_is = λ n nodes h. let p = pick_gives inputs v kinds d (first + n) nodes h in record { wide = p.wide; is = p.is };
      cut_grows = λ q s nodes. cuts_grow kinds d.kind last q s nodes;
      cut_is = λ q s nodes fit shaped p h. cut_is q s nodes fit shaped p h;
      lose_grows = λ s nodes. extends_self nodes;
      lose_is = λ s nodes p h. let m = loses_so d.kind s nodes p in record { has = m.has; is = m.is };
      merge_grows = λ t a b nodes. join_lows_grows inputs v kinds t a b nodes;
      merge_is = λ t a b nodes w p q h. let m = join_worth inputs v kinds (tables_of d) t a b nodes w p q h in record { has = m.has; is = m.is };
      either_grows = λ a b nodes. made_grows kinds (Bin Or a b) nodes;
      either_is = λ a b nodes p q h. either_is inputs v kinds a b nodes p q h;
      pick_grows = λ t a b nodes. picked_grows kinds t a b nodes;
      pick_is = λ t a b nodes w p q h. one_is inputs v kinds t a b nodes w p q h;
    }
      where
        cut_is : (q : SymQuestion) (s : List SymValue) (nodes : List Node) → question_fits Impl (disk_operations d) (question_worth v q) ≡ true →
            QuestionShaped nodes q → LowShaped nodes (tables_of d) s →
            Gives inputs v (disk_cuts kinds d.kind last q s) nodes (IsLow inputs v (left_of d) (cut (question_worth v q) (based (low_worth v (tables_of d) s))))
        cut_is Choice s nodes may shaped p h = absurd (cc)
        cut_is (Call name xs) s nodes may shaped p h =
            let o = disk_cuts kinds d.kind last (Call name xs) s nodes in
            let fit = fits_fewer inputs v nodes o.nodes (cuts_grow kinds d.kind last (Call name xs) s nodes) h in
            let f = fitting_call (disk_operations d) name (map (worth v) xs) may in
            let ask = ask_is inputs v kinds d right name xs nodes f.operation fit shaped f.found f.fit in
            call_cut name xs s nodes ask p h
