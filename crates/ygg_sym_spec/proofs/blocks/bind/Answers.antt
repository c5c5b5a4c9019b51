use Rattle.std.proofs.Common.{◌++◌}
use Rattle.ygg_sym_runs.specs.Names.{sym_bind}
use Rattle.ygg_sym_runs.specs.Seen.{env_of}
use Rattle.ygg_sym_spec.proofs.Binding.{bound_all, bound_more}
use Rattle.ygg_sym_spec.proofs.blocks.bind.Goals as goal

pub loop-place-preserved : goal.loop-place-preserved
loop-place-preserved c =
    let ds = c.args.declared.now in
    let xs = c.args.values.now in
    bound_more ds xs c.loop-place.place (env_of c.args.names.now.items ++ sym_bind ds xs) c.loop-place.names.items c.push.new.self.items
    (record { name = c.as_slice-name.result; value = c.in_ok-value.value }) c.index-declared-place.result c.index-values-place.result c.loop-place-test.true
    c.requires c.index-declared-place.is c.index-values-place.is c.as_slice-name.ensures c.in_ok-value.ensures c.in_ok-push.ensures.items
    c.loop-place.invariant

pub returns : goal.returns
returns c =
    let ds = c.args.declared.now in
    let xs = c.args.values.now in
    bound_all ds xs c.loop-place.place (env_of c.args.names.now.items ++ sym_bind ds xs) (env_of c.loop-place.names.items) c.loop-place-test.false
    c.loop-place.invariant
