-- How long the texts are that `demo` makes, and which files they are.
use Rattle.std.proofs.Common.{◌≡◌, ◌≤◌, ◌*◌, ℕ, zero, suc, List, ◌++◌, length, subst, arith}
use Rattle.std.proofs.lemmas.List.{length-append}
use Rattle.std.proofs.lemmas.Fmt.{length-decimal-le}
use Rattle.std.specs.Fmt.{decimal}
use Rattle.ygg_base.specs.declared.failure.Refusal.{Refusal}
use Rattle.ygg_base.specs.declared.failure.Refuse.{Refuse}
use Rattle.ygg_base.specs.declared.failure.Refuse.TheVariants.{At, Memory}
use Rattle.ygg_base.specs.Failure.{IfRefused}
use Rattle.ygg_syntax.specs.declared.tree.File.{File}
use Rattle.ygg_yard.specs.ygg_accept.Accepting.{RefusesLayers}
use Rattle.ygg_yard.specs.Laws.{IsSound}
use Rattle.ygg_yard.specs.Texts.{begun_with, operation_with, operations_text, file_ended, made}
use Rattle.ygg_top.specs.ygg_top_command.declared.stopping.CommandStop.{CommandStop}
use Rattle.ygg_top.specs.ygg_top_command.declared.stopping.CommandStop.TheVariants.{NoMemory}
use Rattle.ygg_top.specs.ygg_top_command.Fetched.{stop_of}
use Rattle.ygg_top.specs.ygg_top_command.Refusing.{IsLayerFile, most_bytes}
use Rattle.ygg_top.specs.Verifying.{IsMadeFor}

-- a number with two digits
two : (n : ℕ) → n ≤ 64 → length (decimal n) ≤ 2
two n h = length-decimal-le 2 n (omega arith) (omega (arith, h)) (omega (arith, h))

begun_length : (digits : List ℕ) → length digits ≤ 2 → length (begun_with digits) ≤ 200
begun_length digits h = simp length-append (omega (arith, h))

operation_length : (digits : List ℕ) → length digits ≤ 2 → length (operation_with digits) ≤ 200
operation_length digits h = simp length-append (omega (arith, h))

operations_length : (n : ℕ) → n ≤ 64 → length (operations_text n) ≤ 200 * n
operations_length zero h = omega arith
operations_length (suc n) h =
    let few : n ≤ 64 = omega (arith, h) in
    let before = operations_length n few in
    let one = operation_length (decimal n) (two n few) in
    let e = length-append (operations_text n) (operation_with (decimal n)) in omega (arith, e, before, one)

small : (begun operations rest : List ℕ) (n : ℕ) → n ≤ 64 → length begun ≤ 200 → length operations ≤ 200 * n → length rest ≤ 200 →
    length (begun ++ operations ++ rest) ≤ most_bytes
small begun operations rest n h a b c = simp length-append (omega (arith, h, a, b, c))

-- they are no longer than a layer file may be
pub made_small : (n : ℕ) → n ≤ 64 → length (made n) ≤ most_bytes
made_small n h =
    small (begun_with (decimal n)) (operations_text n) file_ended n h (begun_length (decimal n) (two n h)) (operations_length n h) (omega arith)

-- where a made text isn't read, no memory was left, since it is never refused
pub unmade : (number : ℕ) (bytes : List ℕ) (refuse : Refuse) (why : CommandStop) → bytes ≡ made number → ((r : Refusal) → RefusesLayers (made number) r → ⊥) →
    IfRefused refuse (RefusesLayers bytes) → why ≡ stop_of refuse → why ≡ NoMemory
unmade number bytes (At at) why same never refuses is = absurd (never at (subst (λ (bs : List ℕ). RefusesLayers bs at) same refuses))
unmade number bytes Memory why same never refuses is = is

-- a made text that is read is the layer file, and its obligations hold
pub made_for : (number : ℕ) (bytes : List ℕ) (f : File) → bytes ≡ made number → IsSound number → IsLayerFile bytes f → IsMadeFor number f
made_for number bytes f same sound is =
    let file = subst (λ (bs : List ℕ). IsLayerFile bs f) same is in record { file = file; hold = sound.sound file.tokens f file.accepted }
