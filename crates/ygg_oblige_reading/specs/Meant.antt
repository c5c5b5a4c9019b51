-- The schedule that an environment names for an obligation of a file.
use Rattle.std.specs.Prelude.{◌≡◌, ◌<◌, ◌↔◌, ℕ, IsTrue, List, [], length, slice_get, Some}
use Rattle.ygg_syntax.specs.declared.tree.File.{File}
use Rattle.ygg_oblige_list.specs.ygg_meaning.Obligations as meaning
use Rattle.ygg_oblige_list.specs.ygg_meaning.Violates.{shapes_fit}
use Rattle.ygg_oblige_list.specs.ygg_meaning.Claims.{Claim, ClaimViolated, claims_of}
use Rattle.ygg_oblige_list.specs.ygg_meaning.Stack.{layers_of}
use Rattle.ygg_oblige_reading.specs.ygg_rules.declared.rule.RuleKind.{RuleKind}
use Rattle.ygg_oblige.specs.ygg_bank.Nodes.{IsBank}
use Rattle.ygg_oblige.specs.ygg_bank.Values.{Inputs, InputsFit, value_of}
use Rattle.ygg_oblige.specs.ygg_bank.declared.node.Id.{Id}
use Rattle.ygg_oblige.specs.ygg_bank.declared.node.Node.{Node}
use Rattle.ygg_oblige.specs.ygg_sym_laws.Means.{terms_of}
use Rattle.ygg_oblige.specs.ygg_oblige_laws.Meaning.{claim_name}
use Rattle.ygg_oblige.specs.ygg_oblige_laws.Terms.{file_made}
use Rattle.ygg_oblige_reading.specs.Obligation.{Obligation}
pub use Rattle.ygg_oblige_reading.specs.Sites.{Init}
pub use Rattle.ygg_oblige_schedule.specs.Schedules.{meant}
use Rattle.ygg_oblige.specs.ygg_oblige_laws.Schedules.{all_schedules}
use Rattle.ygg_oblige_schedule.specs.ygg_sched.declared.schedule.Schedule.{Schedule}

module _ (kinds : List RuleKind) (f : File) (inputs : Inputs) where
  -- the environment gives each input of the terms of the file's obligations a word of its width, and these stand in a bank
  pub record FitsTerms : Type 0 where
    pub bank : IsBank (file_made kinds f []).nodes
    pub numbers : InputsFit inputs (file_made kinds f []).nodes

  module _ (place : ℕ) where
    -- an environment names this schedule for the obligation at a place
    abbrev pub Names : meaning.Schedule → Type 0
    Names x = slice_get (all_schedules kinds (terms_of kinds f.defs) f.disk inputs (layers_of f)) place ≡ Some x

    -- the values that it names have the declared shapes
    abbrev pub NamesShaped : Type 0
    NamesShaped = (c : Claim) (x : meaning.Schedule) → slice_get (claims_of f) place ≡ Some c → Names x → IsTrue (shapes_fit c.layer c.obligation x)

    -- this is the schedule that it names, with the obligation's name
    pub record IsNamed (x : Schedule) : Type 0 where
      pub claim : Claim
      pub there : slice_get (claims_of f) place ≡ Some claim
      pub name : x.name ≡ claim_name claim
      pub names : Names (meant claim x)
      pub shaped : IsTrue (shapes_fit claim.layer claim.obligation (meant claim x))

    -- the schedule violates the obligation exactly where the term that is made of it is 0 in the environment
    pub record IsExactly (x : Schedule) : Type 0 where
      pub claim : Claim
      pub there : slice_get (claims_of f) place ≡ Some claim
      pub term : Id
      pub made : slice_get (file_made kinds f []).value place ≡ Some term
      pub exact : (value_of inputs (file_made kinds f []).nodes term.0).bits ≡ 0 ↔ ClaimViolated claim (meant claim x)

-- one of the file's obligations, the terms of which are in this bank
pub record IsMadeIn (kinds : List RuleKind) (f : File) (nodes : List Node) (o : Obligation) : Type 0 where
  pub bank : IsBank nodes
  pub nodes_are : nodes ≡ (file_made kinds f []).nodes
  pub there : o.place < length (claims_of f)
  pub made : slice_get (file_made kinds f []).value o.place ≡ Some o.term

-- the schedule violates the obligation exactly where its term is 0 in the environment
pub record ViolatesAtZero (f : File) (inputs : Inputs) (nodes : List Node) (o : Obligation) (x : Schedule) : Type 0 where
  pub claim : Claim
  pub there : slice_get (claims_of f) o.place ≡ Some claim
  pub exact : (value_of inputs nodes o.term.0).bits ≡ 0 ↔ ClaimViolated claim (meant claim x)
