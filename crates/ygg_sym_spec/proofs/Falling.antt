-- What blocks want stands after other steps.
use Rattle.std.proofs.Common.{◌≡◌, ◌≤◌, List, [], Some, sym, subst}
use Rattle.ygg_syntax.specs.declared.tree.Block.{Block}
use Rattle.ygg_syntax.specs.declared.tree.Declared.{Declared}
use Rattle.ygg_syntax.specs.declared.tree.Operation.{Operation}
use Rattle.ygg_sym_runs.specs.ygg_meaning.Environments.{Name}
use Rattle.ygg_sym_runs.specs.ygg_meaning.Layer.{operation_of}
use Rattle.ygg_sym_runs.specs.ygg_bank.Nodes.{Extends}
use Rattle.ygg_sym_runs.specs.ygg_bank.declared.node.Node.{Node}
use Rattle.ygg_sym_runs.specs.ygg_shape_cells.declared.terms.SymValue.{SymValue}
use Rattle.ygg_sym_runs.specs.Lower.{KeepsSingle}
use Rattle.ygg_sym_runs.proofs.Singles.{single_less}
use Rattle.ygg_sym_runs.specs.Lows.{LowShaped}
use Rattle.ygg_sym_runs.proofs.Lows.{low_wider}
use Rattle.ygg_sym_runs.specs.Typed.{SpecBlockTyped}
use Rattle.ygg_sym_spec.specs.Layers.{CanBlock, CanCut, CanFall, closed}
use Rattle.ygg_sym_spec.specs.Picking.{first_number}
use Rattle.ygg_sym_spec.specs.declared.layer.SymLayer.{SymLayer}
use Rattle.ygg_sym_spec.specs.declared.picks.SymPicks.{SymPicks}

module _ (l : SymLayer) (p later : SymPicks) (old mid : List Node) (less : first_number p ≤ first_number later) (keeps : KeepsSingle old mid) where
  -- the `crash` block after a block
  pub crash_can : (b : Block) (vars : List SymValue) (args : List Declared) (values left : List SymValue) → CanBlock l p old b vars args values →
      SpecBlockTyped l.defs.now (closed l) (l.layer.now).crash [] → LowShaped mid (l.layer.now).state left →
      CanBlock l later mid (l.layer.now).crash left [] []
  crash_can b vars args values left can crash shaped = record {
    sound = can.sound;
    typed = crash;
    vars_are = shaped;
    args_are = tt;
    single = single_less (first_number p) (first_number later) mid less (keeps (first_number p) can.single);
  }

  module _ (grows : Extends old mid) where
    -- the `spec` block of an operation, after its pick
    pub spec_can : (o : Operation) (vars values : List SymValue) (args : List Declared) → args ≡ o.arguments → CanFall l p old o vars values →
        CanBlock l later mid o.spec vars args values
    spec_can o vars values args e can = record {
      sound = can.sound;
      typed = subst (SpecBlockTyped l.defs.now (closed l) o.spec) (sym e) (can.operation).spec;
      vars_are = low_wider old mid (l.layer.now).state vars grows can.vars_are;
      args_are = low_wider old mid args values grows (subst (λ z. LowShaped old z values) (sym e) can.args_are);
      single = single_less (first_number p) (first_number later) mid less (keeps (first_number p) can.single);
    }

    -- and the `crash` block where it has not happened
    pub not_can : (o : Operation) (vars values : List SymValue) → CanFall l p old o vars values → CanBlock l later mid (l.layer.now).crash vars [] []
    not_can o vars values can = record {
      sound = can.sound;
      typed = can.crash;
      vars_are = low_wider old mid (l.layer.now).state vars grows can.vars_are;
      args_are = tt;
      single = single_less (first_number p) (first_number later) mid less (keeps (first_number p) can.single);
    }

module _ (l : SymLayer) (p : SymPicks) (nodes : List Node) (name : Name) (vars values : List SymValue) (can : CanCut l p nodes name vars values) where
  -- an operation that was found
  pub fall_can : (o : Operation) → Some o ≡ operation_of (closed l) name → CanFall l p nodes o vars values
  fall_can o e = record {
    sound = (can.serves).sound;
    crash = ((can.serves).typed).crash;
    operation = ((can.serves).typed).operations name o (sym e);
    vars_are = can.vars_are;
    args_are = can.args_are o (sym e);
    single = can.single;
  }

  pub call_can : (o : Operation) (args : List Declared) → Some o ≡ operation_of (closed l) name → args ≡ o.arguments →
      CanBlock l p nodes o.spec vars args values
  call_can o args e f = record {
    sound = (can.serves).sound;
    typed = subst (SpecBlockTyped l.defs.now (closed l) o.spec) (sym f) (((can.serves).typed).operations name o (sym e)).spec;
    vars_are = can.vars_are;
    args_are = subst (λ z. LowShaped nodes z values) (sym f) (can.args_are o (sym e));
    single = can.single;
  }

-- an operation's own block for power that fails
pub own_can : (l : SymLayer) (p : SymPicks) (nodes : List Node) (o : Operation) (b : Block) (vars : List SymValue) (args : List Declared)
    (values : List SymValue) → o.on_crash ≡ Some b → args ≡ o.arguments → CanFall l p nodes o vars values → CanBlock l p nodes b vars args values
own_can l p nodes o b vars args values is e can = record {
  sound = can.sound;
  typed = subst (SpecBlockTyped l.defs.now (closed l) b) (sym e) ((can.operation).on_crash b is);
  vars_are = can.vars_are;
  args_are = subst (λ z. LowShaped nodes z values) (sym e) can.args_are;
  single = can.single;
}
