-- What a term reaches, as the least set.
use Rattle.std.specs.Prelude.{ℕ, ◌≡◌, ◌↔◌, true, List}
use Rattle.ygg_bank.specs.Nodes.{IsBank, Stands}
use Rattle.ygg_bank.specs.Reaching.{Reaches}
use Rattle.ygg_bank.specs.declared.node.Id.{Id}
use Rattle.ygg_bank.specs.declared.node.Node.{Node}
use Rattle.ygg_gates.specs.Groups.{reaches}

-- the test of what a term reaches passes exactly there
abbrev pub TestsReaching : Type 0
TestsReaching = (nodes : List Node) (term : Id) (place : ℕ) → IsBank nodes → Stands nodes term → (reaches nodes term place ≡ true) ↔ Reaches nodes term.0 place
