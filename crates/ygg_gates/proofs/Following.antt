-- Truth values that follow gates, when more gates come.
use Rattle.std.proofs.Common.{◌≡◌, ◌≢◌, ◌<◌, ◌≤◌, ℕ, suc, ◌+◌, Bool, cond, eqb, List, [], ◌∷◌, ◌++◌, length, sym, subst, ◌∙◌, arith, refl}
use Rattle.std.proofs.lemmas.Bool.{eq-eqb, ne_eqb}
use Rattle.ygg_cnf.specs.declared.lit.Lit.{Lit}
use Rattle.ygg_gates.specs.declared.gate.Gate.{Gate}
use Rattle.ygg_gates.specs.declared.gate.Gate.TheVariants.{Free, And, Xor, Mux}
use Rattle.ygg_gates.proofs.Truths.{value_of, gate_value, Follows}

-- the literal's variable is below a number
abbrev pub Below : ℕ → Lit → Type 0
Below n x = x.var < n

-- the gate reads variables below a number
abbrev pub ReadsBelow : ℕ → Gate → Type 0
ReadsBelow n Free = Unit {0}
ReadsBelow n (And a b) = Below n a × Below n b
ReadsBelow n (Xor a b) = Below n a × Below n b
ReadsBelow n (Mux c a b) = Below n c × Below n a × Below n b

abbrev pub AllRead : ℕ → List Gate → Type 0
AllRead n [] = Unit {0}
AllRead n (g ∷ gs) = ReadsBelow n g × AllRead n gs

-- the gates read variables of gates among them alone, and variable 1
abbrev pub Closed : List Gate → Type 0
Closed gs = AllRead (length gs + 2) gs

reads_more : (n m : ℕ) (g : Gate) → n ≤ m → ReadsBelow n g → ReadsBelow m g
reads_more n m Free l h = tt
reads_more n m (And a b) l (p, q) = (omega arith, omega arith)
reads_more n m (Xor a b) l (p, q) = (omega arith, omega arith)
reads_more n m (Mux c a b) l h = let p = h.0 in let q = h.1 in let r = h.2 in (omega arith, omega arith, omega arith)

all_read_push : (n m : ℕ) (gs : List Gate) (g : Gate) → n ≤ m → AllRead n gs → ReadsBelow n g → AllRead m (gs ++ g ∷ [])
all_read_push n m [] g l a h = (reads_more n m g l h, tt)
all_read_push n m (f ∷ gs) g l a h = (reads_more n m f l a.0, all_read_push n m gs g l a.1 h)

pub closed_push : (gs : List Gate) (g : Gate) → ReadsBelow (length gs + 2) g → Closed gs → Closed (gs ++ g ∷ [])
closed_push gs g h a = all_read_push (length gs + 2) (length (gs ++ g ∷ []) + 2) gs g (let e = length_end gs g in omega (arith, e)) a h where
  length_end : (gs : List Gate) (g : Gate) → length (gs ++ g ∷ []) ≡ length gs + 1
  length_end [] g = refl
  length_end (f ∷ gs) g = let r = length_end gs g in omega (arith, r)

-- the values are the same below a number
abbrev pub SameBelow : ℕ → (ℕ → Bool) → (ℕ → Bool) → Type 0
SameBelow n v u = (k : ℕ) → k < n → v k ≡ u k

pub same_literal : (n : ℕ) (v u : ℕ → Bool) (x : Lit) → SameBelow n v u → Below n x → value_of v x ≡ value_of u x
same_literal n v u x h l = let e : v x.var ≡ u x.var = h x.var l in rw e refl

same_gate : (n : ℕ) (v u : ℕ → Bool) (a b : Bool) (g : Gate) → a ≡ b → SameBelow n v u → ReadsBelow n g → gate_value v a g ≡ gate_value u b g
same_gate n v u a b Free e h r = e
same_gate n v u a b (And x y) e h r = rw (same_literal n v u x h r.0, same_literal n v u y h r.1) refl
same_gate n v u a b (Xor x y) e h r = rw (same_literal n v u x h r.0, same_literal n v u y h r.1) refl
same_gate n v u a b (Mux z x y) e h r = rw (same_literal n v u z h r.0, same_literal n v u x h r.1, same_literal n v u y h r.2) refl

pub follows_front : (v : ℕ → Bool) (n : ℕ) (gs hs : List Gate) → Follows v n (gs ++ hs) → Follows v n gs
follows_front v n [] hs f = tt
follows_front v n (g ∷ gs) hs f = (f.0, follows_front v (suc n) gs hs f.1)

pub follows_last : (v : ℕ → Bool) (n m : ℕ) (gs : List Gate) (g : Gate) → m ≡ n + length gs → Follows v n (gs ++ g ∷ []) → v m ≡ gate_value v (v m) g
follows_last v n m [] g e f = let P : ℕ → Type 0 = λ k. v k ≡ gate_value v (v k) g in let s : n ≡ m = omega arith in subst P s f.0
follows_last v n m (h ∷ gs) g e f = follows_last v (suc n) m gs g (omega arith) f.1

follows_push : (v : ℕ → Bool) (n m : ℕ) (gs : List Gate) (g : Gate) → m ≡ n + length gs → v m ≡ gate_value v (v m) g → Follows v n gs →
    Follows v n (gs ++ g ∷ [])
follows_push v n m [] g e h f = let P : ℕ → Type 0 = λ k. v k ≡ gate_value v (v k) g in let s : m ≡ n = omega arith in (subst P s h, tt)
follows_push v n m (d ∷ gs) g e h f = (f.0, follows_push v (suc n) m gs g (omega arith) h f.1)

follows_same : (v u : ℕ → Bool) (top n : ℕ) (gs : List Gate) → SameBelow top v u → AllRead top gs → n + length gs ≤ top → Follows v n gs → Follows u n gs
follows_same v u top n [] h a l f = tt
follows_same v u top n (g ∷ gs) h a l f =
    let e : v n ≡ u n = h n (omega arith) in
    (sym e ∙ f.0 ∙ same_gate top v u (v n) (u n) g e h a.0, follows_same v u top (suc n) gs h a.1 (omega arith) f.1)

-- the values with another one at a number
abbrev pub with_value : (ℕ → Bool) → ℕ → Bool → ℕ → Bool
with_value v n b k = cond (eqb k n) b (v k)

with_same : (v : ℕ → Bool) (n : ℕ) (b : Bool) → with_value v n b n ≡ b
with_same v n b = rw (eq-eqb n n refl) refl

with_other : (v : ℕ → Bool) (n : ℕ) (b : Bool) → SameBelow n v (with_value v n b)
with_other v n b k l = let d : k ≢ n = omega arith in rw (ne_eqb k n d) refl

-- values for one more gate
pub record Extended (v : ℕ → Bool) (old new : List Gate) : Type 0 where
  pub it : ℕ → Bool
  pub same : SameBelow (length old + 2) v it
  pub follows : Follows it 2 new

own_value : (v u : ℕ → Bool) (n : ℕ) (own : Bool) (g : Gate) → SameBelow n v u → ReadsBelow n g → u n ≡ gate_value v own g → u n ≡ gate_value u (u n) g
own_value v u n own Free h r e = refl
own_value v u n own (And a b) h r e = e ∙ same_gate n v u own own (And a b) refl h r
own_value v u n own (Xor a b) h r e = e ∙ same_gate n v u own own (Xor a b) refl h r
own_value v u n own (Mux c a b) h r e = e ∙ same_gate n v u own own (Mux c a b) refl h r

-- where a free variable is to have this value
pub record Chosen (v : ℕ → Bool) (own : Bool) (g : Gate) (old : List Gate) : Type 0 where
  pub extended : Extended v old (old ++ g ∷ [])
  pub is : extended.it (length old + 2) ≡ gate_value v own g

pub chosen : (v : ℕ → Bool) (own : Bool) (g : Gate) (old : List Gate) → ReadsBelow (length old + 2) g → Closed old → Follows v 2 old → Chosen v own g old
chosen v own g old r c f =
    let n : ℕ = length old + 2 in
    let u : ℕ → Bool = with_value v n (gate_value v own g) in
    let same : SameBelow n v u = with_other v n (gate_value v own g) in
    let here : u n ≡ gate_value v own g = with_same v n (gate_value v own g) in
    record {
      extended = record {
        it = u;
        same = same;
        follows = follows_push u 2 n old g (omega arith) (own_value v u n own g same r here) (follows_same v u n 2 old same c (omega arith) f);
      };
      is = here;
    }
