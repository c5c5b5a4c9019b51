-- What the steps of a stop make, one after another.
use Rattle.std.proofs.Common.{◌≡◌, List, Option, Result, OnOk, IfOk, subst}
use Rattle.ygg_sym_runs.specs.ygg_bank.Makes.{Make, Out, pure, and_make}
use Rattle.ygg_sym_runs.specs.ygg_bank.declared.node.Id.{Id}
use Rattle.ygg_sym_runs.specs.ygg_bank.declared.node.Node.{Node}
use Rattle.ygg_sym_runs.specs.ygg_shape_cells.declared.terms.SymValue.{SymValue}
use Rattle.ygg_sym_runs.specs.Runs.{SymHandled}
use Rattle.ygg_sym_runs.specs.StopTerms.{SymFallen, SymHalted}

-- what is the same as the step that was made
pub nodes_as : {E A B : Type 0} (o more : Out B) (new : List Node) (r : Result A E) → o ≡ more → OnOk r (new ≡ o.nodes) → OnOk r (new ≡ more.nodes)
nodes_as o more new r e h = subst (λ (z : Out _). OnOk r (new ≡ z.nodes)) e h

pub form_as : {E A : Type 0} (o more : Out A) (r : Result A E) → o ≡ more → IfOk r (λ x. x ≡ o.value) → IfOk r (λ x. x ≡ more.value)
form_as o more r e h = subst (λ (z : Out _). IfOk r (λ x. x ≡ z.value)) e h

-- one step after another
pub second_from : {A B : Type 0} (one : Make A) (two : A → Make B) (a : A) (old mid : List Node) → a ≡ (one old).value → mid ≡ (one old).nodes →
    two a mid ≡ and_make one two old
second_from one two a old mid e f = cc

-- what is left after the last question
pub last_from : {S : Type 0} (first : Make Id) (lose : Make S) (merge : Id → S → S → Make S) (ends : Id) (fallen lost : S) (old one two : List Node) →
    ends ≡ (first old).value → one ≡ (first old).nodes → lost ≡ (lose one).value → two ≡ (lose one).nodes →
    merge ends lost fallen two ≡ and_make first (λ h. and_make lose (λ l. merge h l fallen)) old
last_from first lose merge ends fallen lost old one two a b c d = cc

-- what is left after a question at one of whose stops power fails
pub leaves_from : {S : Type 0} (cut lose : Make S) (merge : Id → S → S → Make S) (here within : Id) (fallen left inner lost : S)
    (old one two three : List Node) → left ≡ (cut old).value → one ≡ (cut old).nodes → inner ≡ (merge within left fallen one).value →
    two ≡ (merge within left fallen one).nodes → lost ≡ (lose two).value → three ≡ (lose two).nodes →
    merge here lost inner three ≡ and_make cut (λ c. and_make (merge within c fallen) (λ x. and_make lose (λ l. merge here l x))) old
leaves_from cut lose merge here within fallen left inner lost old one two three a b c d e f = cc

-- what is left after a question
pub left_from : {S : Type 0} (first either : Id → Id → Make Id) (leave : Id → Id → Make S) (stopped here within outer some inner : Id)
    (old one two three : List Node) → outer ≡ (first stopped here old).value → one ≡ (first stopped here old).nodes →
    some ≡ (either stopped here one).value → two ≡ (either stopped here one).nodes → inner ≡ (first some within two).value →
    three ≡ (first some within two).nodes →
    leave outer inner three
    ≡ and_make (first stopped here) (λ h. and_make (either stopped here) (λ s. and_make (first s within) (λ w. leave h w))) old
left_from first either leave stopped here within outer some inner old one two three a b c d e f = cc

-- a question on the machine with stops
pub halted_from : {S : Type 0} (before within : Make Id) (leave : Id → Id → Make S) (either : Id → Id → Make Id) (handle : Make (SymHandled S))
    (halted here inner some stopped : Id) (fallen to : S) (answer : Option SymValue) (old one two three four five new : List Node) →
    here ≡ (before old).value → one ≡ (before old).nodes → inner ≡ (within one).value → two ≡ (within one).nodes →
    fallen ≡ (leave here inner two).value → three ≡ (leave here inner two).nodes → some ≡ (either halted here three).value →
    four ≡ (either halted here three).nodes → stopped ≡ (either some inner four).value → five ≡ (either some inner four).nodes →
    answer ≡ (handle five).value.answer → to ≡ (handle five).value.to → new ≡ (handle five).nodes →
    (let o : Out (SymHandled (SymHalted S S)) = record {
      value = record { answer = answer; to = record { to = to; fallen = fallen; stopped = stopped } };
      nodes = new;
    } in o)
    ≡ and_make before (λ here. and_make within (λ inner. and_make (leave here inner) (λ fallen. and_make (either halted here) (λ some.
    and_make (either some inner) (λ stopped. and_make handle (λ h. pure (record {
      answer = h.answer;
      to = record { to = h.to; fallen = fallen; stopped = stopped };
    }))))))) old
halted_from before within leave either handle halted here inner some stopped fallen to answer old one two three four five new a b c d e f g h i j k l m = cc

-- the stop after the last question of a run
pub fall_from : {S : Type 0} (bit : Make Id) (leave : Id → Make S) (either : Id → Id → Make Id) (halted here again reached : Id) (left : S)
    (old one two three new : List Node) → here ≡ (bit old).value → one ≡ (bit old).nodes → left ≡ (leave here one).value → two ≡ (leave here one).nodes →
    again ≡ (bit two).value → three ≡ (bit two).nodes → reached ≡ (either halted again three).value → new ≡ (either halted again three).nodes →
    (let o : Out (SymFallen S) = record { value = record { fallen = left; reached = reached }; nodes = new } in o)
    ≡ and_make (and_make bit leave) (λ fallen. and_make bit (λ here. and_make (either halted here) (λ reached.
    pure (record { fallen = fallen; reached = reached })))) old
fall_from bit leave either halted here again reached left old one two three new a b c d e f g h = cc
