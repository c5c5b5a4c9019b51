-- Parts one after another.
use Rattle.std.proofs.Common.{◌≡◌, ℕ, List, [], ◌++◌, append_assoc}
use Rattle.std.proofs.lemmas.List.{append-nil}

pub five_parts : (text a b c d e : List ℕ) → text ≡ [] → text ++ (a ++ (b ++ (c ++ (d ++ (e ++ []))))) ≡ a ++ b ++ c ++ d ++ e
five_parts text a b c d e h = rw h (simp (append_assoc, append-nil))

pub seven_parts : (a b c d e f g : List ℕ) → a ++ (b ++ (c ++ (d ++ (e ++ (f ++ (g ++ [])))))) ≡ a ++ b ++ c ++ d ++ e ++ f ++ g
seven_parts a b c d e f g = simp (append_assoc, append-nil)
