-- The laws for each layer over what it is specified over.
use Rattle.std.proofs.Common.{List, sym, subst}
use Rattle.ygg_syntax.specs.declared.grammar.BlockKind.TheVariants.{Impl}
use Rattle.ygg_syntax.specs.declared.tree.Declared.{Declared}
use Rattle.ygg_sym_laws.specs.ygg_meaning.Layer.{ClosedLayer}
use Rattle.ygg_sym_laws.specs.Below.{signatures_on}
use Rattle.ygg_sym_laws.specs.Typed.{BlockTyped}
use Rattle.ygg_sym_laws.proofs.Falls.{fall_named}
use Rattle.ygg_sym_laws.proofs.Others.{loss_named}
use Rattle.ygg_sym_laws.proofs.Wholes.{whole_named}
use Rattle.ygg_sym_laws.specs.SymLaws.{RunsAreNamed, FallsAreNamed, LossIsNamed}
use Rattle.ygg_sym_laws.specs.Named.{LossNamed, RunNamed, FallNamed}

-- the layer with these variables of the base below
abbrev over : ClosedLayer → List Declared → ClosedLayer
over L low = record { functions = L.functions; layer = L.layer; low = low }

pub runs_are_named : RunsAreNamed
runs_are_named kinds defs G L b vars args o typed =
    subst (λ (ds : List Declared). BlockTyped defs (over L ds) Impl (signatures_on G) b vars args → RunNamed kinds defs G (over L ds) b vars args)
    (sym o.low_is)
    (λ t. whole_named kinds defs o.definitions G o.below L.functions L.layer o.functions b vars args t) typed

pub falls_are_named : FallsAreNamed
falls_are_named kinds defs G L b vars args o typed =
    subst (λ (ds : List Declared). BlockTyped defs (over L ds) Impl (signatures_on G) b vars args → FallNamed kinds defs G (over L ds) b vars args)
    (sym o.low_is)
    (λ t. fall_named kinds defs o.definitions G o.below L.functions L.layer o.functions b vars args t) typed

pub loss_is_named : LossIsNamed
loss_is_named kinds defs G L o =
    subst (λ (ds : List Declared). LossNamed kinds defs G (over L ds)) (sym o.low_is)
    (loss_named kinds defs o.definitions G o.below L.functions L.layer)
