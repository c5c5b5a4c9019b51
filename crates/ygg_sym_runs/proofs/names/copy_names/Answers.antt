use Rattle.std.proofs.Common.{◌+◌, ◌++◌, ◌∷◌, [], drop, ap, sym, ◌∙◌, append_assoc}
use Rattle.std.proofs.lemmas.List.{append-nil, at_drop_more, drop_all, map-append}
use Rattle.ygg_meaning_laws.specs.ygg_meaning.Environments.{Name}
use Rattle.ygg_sym_runs.specs.ygg_shape_cells.declared.terms.SymValue.{SymValue}
use Rattle.ygg_sym_runs.specs.Seen.{env_of}
use Rattle.ygg_sym_runs.specs.declared.held.SymBinding.{SymBinding}
use Rattle.ygg_sym_runs.proofs.names.copy_names.Goals as goal

pub loop-binding-init : goal.loop-binding-init
loop-binding-init c = ap (λ items. env_of items ++ env_of c.args.names.now) c.new-copy.ensures.items

pub loop-binding-preserved : goal.loop-binding-preserved
loop-binding-preserved c =
    let all = c.args.names.now in
    let i = c.loop-binding.binding-index in
    let binding = c.binding-item.result in
    let names = c.loop-binding.copy.items in
    let left = env_of (drop (i + 1) all) in
    let entry : SymBinding → Name × SymValue = λ b. (b.name.now, b.value) in
    let item : SymBinding = record { name = binding.name; value = c.in_ok-value.value } in
    ap (λ items. env_of items ++ left) c.in_ok-push.ensures.items
    ∙ ap (λ env. env ++ left) (map-append entry names (item ∷ []))
    ∙ append_assoc (env_of names) (entry item ∷ []) left
    ∙ ap (λ value. env_of names ++ (binding.name.now, value) ∷ left) c.in_ok-value.ensures
    ∙ ap (λ b. env_of names ++ entry b ∷ left) c.binding-item.is
    ∙ sym (at_drop_more (λ bs. env_of names ++ env_of bs) all i binding c.loop-binding-test.true)
    ∙ c.loop-binding.invariant

pub returns : goal.returns
returns c =
    let names = env_of c.loop-binding.copy.items in
    sym (append-nil names) ∙ ap (λ bs. names ++ env_of bs) (sym (drop_all c.loop-binding.binding-index c.args.names.now c.loop-binding-test.false))
    ∙ c.loop-binding.invariant
