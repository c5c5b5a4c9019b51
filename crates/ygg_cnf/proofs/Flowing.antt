-- Bytes put one after another.
use Rattle.std.proofs.Common.{◌≡◌, ℕ, ◌+◌, ◌<◌, ◌≤◌, inl, inr, List, [], ◌++◌, length, drop}
use Rattle.std.proofs.Common.{get_or, Option, Result, Ok, Err, refl, sym, ap, ◌∙◌, subst, append_assoc, arith}
use Rattle.std.specs.List.{flat_map}
use Rattle.std.proofs.lemmas.List.{drop_more}
use Rattle.std.proofs.lemmas.List.Concat.{flat_map-cons}
use Rattle.ygg_base.specs.Outside.{Rose}
use Rattle.ygg_base.specs.declared.status.Status.{Status}
use Rattle.ygg_base.specs.declared.status.Status.TheVariants.{Done, Refuted, Refused, Undecided, Fault, NoMemory}
use Rattle.ygg_report.specs.Putting.{Adds, IsFront, IsPutSo, IsCutOf, Puts}
use Rattle.ygg_report.proofs.Fronts.{adds_more, adds_none, front_longer}
use Rattle.ygg_cnf.specs.Pieces.{Flows, Cuts, Passes, Finishes, FinishesWith}

-- a count that rose since later rose since before
pub rose_since : (a b c : ℕ) → a ≤ b → Rose b c → Rose a c
rose_since a b c l r = omega (arith, l, r)

-- nothing yet, with all that is to come
pub begun : (before : Option (List ℕ)) (kept bytes : List ℕ) → Flows before kept before (kept ++ bytes) bytes
begun before kept bytes = record { put = []; adds = adds_none before; is = refl }

-- some bytes after others
pub joined : {before middle now : Option (List ℕ)} {kept mid left a b : List ℕ} → Flows before kept middle mid a → Flows middle mid now left b →
    Flows before kept now left (a ++ b)
joined {before} {middle} {now} {kept} {mid} {left} {a} {b} f g = record {
  put = f.put ++ g.put;
  adds = adds_more before middle now f.put g.put f.adds g.adds;
  is = sym (append_assoc kept a b) ∙ ap (λ (x : List ℕ). x ++ b) f.is ∙ append_assoc f.put mid b ∙ ap (λ (x : List ℕ). f.put ++ x) g.is
      ∙ sym (append_assoc f.put g.put left);
}

-- a front of bytes after others
pub cut_later : {before middle now : Option (List ℕ)} {kept mid a b : List ℕ} → Flows before kept middle mid a → Cuts middle mid now b →
    Cuts before kept now (a ++ b)
cut_later {before} {middle} {now} {kept} {mid} {a} {b} f c = record {
  front = f.put ++ c.front;
  is = record {
    rest = c.is.rest;
    is = sym (append_assoc kept a b) ∙ ap (λ (x : List ℕ). x ++ b) f.is ∙ append_assoc f.put mid b ∙ ap (λ (x : List ℕ). f.put ++ x) c.is.is
        ∙ sym (append_assoc f.put c.front c.is.rest);
  };
  adds = adds_more before middle now f.put c.front f.adds c.adds;
}

-- a front of bytes that go on
pub cut_longer : {before now : Option (List ℕ)} {kept : List ℕ} (a b : List ℕ) → Cuts before kept now a → Cuts before kept now (a ++ b)
cut_longer {before} {now} {kept} a b c = record {
  front = c.front;
  is = subst (λ (x : List ℕ). IsFront c.front x) (append_assoc kept a b) (front_longer c.front (kept ++ a) b c.is);
  adds = c.adds;
}

-- bytes that were cut short, after others
pub passes_on : (before middle now : Option (List ℕ)) (kept mid left other a b : List ℕ) (Later Since : Type 0) (s : Status) → Flows before kept middle mid a →
    Passes middle mid now left b Later (Err s) → (Later → Since) → Passes before kept now other (a ++ b) Since (Err s)
passes_on before middle now kept mid left other a b Later Since Fault f p since = (since p.0, cut_later f p.1)
passes_on before middle now kept mid left other a b Later Since NoMemory f p since = cut_later f p
passes_on before middle now kept mid left other a b Later Since Done f p since = absurd p
passes_on before middle now kept mid left other a b Later Since Refuted f p since = absurd p
passes_on before middle now kept mid left other a b Later Since Refused f p since = absurd p
passes_on before middle now kept mid left other a b Later Since Undecided f p since = absurd p

-- a text that begins with what is kept, after which bytes went on and others end it
pub text_done : (before middle now : Option (List ℕ)) (kept first mid a b : List ℕ) (Later Since : Type 0) (r : Result (Unit {0}) Status) → kept ≡ first →
    Flows before kept middle mid a → Finishes middle mid now b Later r → (Later → Since) → Finishes before [] now (first ++ (a ++ b)) Since r
text_done before middle now kept first mid a b Later Since r same f p since = by_result r p
  where
    text : kept ++ (a ++ b) ≡ first ++ (a ++ b)
    text = ap (λ (x : List ℕ). x ++ (a ++ b)) same

    cut : Cuts middle mid now b → Cuts before [] now (first ++ (a ++ b))
    cut c =
        let l = cut_later f c in
        record { front = l.front; is = subst (λ (x : List ℕ). IsFront l.front x) text l.is; adds = l.adds }

    by_result : (q : Result (Unit {0}) Status) → Finishes middle mid now b Later q → Finishes before [] now (first ++ (a ++ b)) Since q
    by_result (Ok done) h =
        let moved : f.put ++ (mid ++ b) ≡ kept ++ (a ++ b) =
        sym (append_assoc f.put mid b) ∙ ap (λ (x : List ℕ). x ++ b) (sym f.is) ∙ append_assoc kept a b in
        subst (λ (x : List ℕ). Adds before x now) (moved ∙ text) (adds_more before middle now f.put (mid ++ b) f.adds h)
    by_result (Err Fault) h = (since h.0, cut h.1)
    by_result (Err NoMemory) h = cut h
    by_result (Err Done) h = absurd h
    by_result (Err Refuted) h = absurd h
    by_result (Err Refused) h = absurd h
    by_result (Err Undecided) h = absurd h

-- the same where the bytes were cut short
pub text_short : (before now : Option (List ℕ)) (kept first left a b : List ℕ) (SinkRose : Type 0) (s : Status) → kept ≡ first →
    Passes before kept now left a SinkRose (Err s) → Finishes before [] now (first ++ (a ++ b)) SinkRose (Err s)
text_short before now kept first left a b SinkRose s same p = by_status s p
  where
    cut : Cuts before kept now a → Cuts before [] now (first ++ (a ++ b))
    cut c =
        let l = cut_longer a b c in
        record { front = l.front; is = subst (λ (x : List ℕ). IsFront l.front x) (ap (λ (x : List ℕ). x ++ (a ++ b)) same) l.is; adds = l.adds }

    by_status : (t : Status) → Passes before kept now left a SinkRose (Err t) → Finishes before [] now (first ++ (a ++ b)) SinkRose (Err t)
    by_status Fault h = (h.0, cut h.1)
    by_status NoMemory h = cut h
    by_status Done h = absurd h
    by_status Refuted h = absurd h
    by_status Refused h = absurd h
    by_status Undecided h = absurd h

-- bytes that were cut short, of more that were to come
pub passes_short : (before now : Option (List ℕ)) (kept left other a b : List ℕ) (SinkRose : Type 0) (s : Status) →
    Passes before kept now left a SinkRose (Err s) → Passes before kept now other (a ++ b) SinkRose (Err s)
passes_short before now kept left other a b SinkRose Fault p = (p.0, cut_longer a b p.1)
passes_short before now kept left other a b SinkRose NoMemory p = cut_longer a b p
passes_short before now kept left other a b SinkRose Done p = absurd p
passes_short before now kept left other a b SinkRose Refuted p = absurd p
passes_short before now kept left other a b SinkRose Refused p = absurd p
passes_short before now kept left other a b SinkRose Undecided p = absurd p

-- no memory for what comes next
pub cut_here : (before : Option (List ℕ)) (kept bytes : List ℕ) → Cuts before kept before bytes
cut_here before kept bytes = record { front = []; is = record { rest = kept ++ bytes; is = refl }; adds = adds_none before }

-- the lines of items, one after another
module _ {A : Type 0} (line : A → List ℕ) where
  lines_from : (xs : List A) (i : ℕ) (d : A) → i < length xs → d ≡ get_or xs i d → flat_map line (drop i xs) ≡ line d ++ flat_map line (drop (i + 1) xs)
  lines_from xs i d within here =
      ap (flat_map line) (drop_more xs i d within) ∙ flat_map-cons line (get_or xs i d) (drop (i + 1) xs)
      ∙ ap (λ (x : A). line x ++ flat_map line (drop (i + 1) xs)) (sym here)

  -- one line more
  pub line_on : {before middle now : Option (List ℕ)} {kept mid left whole : List ℕ} (xs : List A) (i : ℕ) (d : A) → i < length xs → d ≡ get_or xs i d →
      Flows before kept middle (mid ++ flat_map line (drop i xs)) whole → Flows middle mid now left (line d) →
      Flows before kept now (left ++ flat_map line (drop (i + 1) xs)) whole
  line_on {before} {middle} {now} {kept} {mid} {left} {whole} xs i d within here f g =
      let rest : List ℕ = flat_map line (drop (i + 1) xs) in
      let one : List ℕ = line d in
      record {
        put = f.put ++ g.put;
        adds = adds_more before middle now f.put g.put f.adds g.adds;
        is = f.is ∙ ap (λ (x : List ℕ). f.put ++ (mid ++ x)) (lines_from xs i d within here)
            ∙ ap (λ (x : List ℕ). f.put ++ x) (sym (append_assoc mid one rest) ∙ ap (λ (x : List ℕ). x ++ rest) g.is ∙ append_assoc g.put left rest)
            ∙ sym (append_assoc f.put g.put (left ++ rest));
      }

  -- one line that is cut short
  pub line_cut : {before middle now : Option (List ℕ)} {kept mid whole : List ℕ} (xs : List A) (i : ℕ) (d : A) → i < length xs → d ≡ get_or xs i d →
      Flows before kept middle (mid ++ flat_map line (drop i xs)) whole → Cuts middle mid now (line d) → Cuts before kept now whole
  line_cut {before} {middle} {now} {kept} {mid} {whole} xs i d within here f c =
      let rest : List ℕ = flat_map line (drop (i + 1) xs) in
      let one : List ℕ = line d in
      record {
        front = f.put ++ c.front;
        is = record {
          rest = c.is.rest ++ rest;
          is = f.is ∙ ap (λ (x : List ℕ). f.put ++ (mid ++ x)) (lines_from xs i d within here)
              ∙ ap (λ (x : List ℕ). f.put ++ x) (sym (append_assoc mid one rest) ∙ ap (λ (x : List ℕ). x ++ rest) c.is.is ∙ append_assoc c.front c.is.rest rest)
              ∙ sym (append_assoc f.put c.front (c.is.rest ++ rest));
        };
        adds = adds_more before middle now f.put c.front f.adds c.adds;
      }

  -- the same as what a call answers
  pub line_short : (before middle now : Option (List ℕ)) (kept mid left other whole : List ℕ) (Later Since : Type 0) (xs : List A) (i : ℕ) (d : A)
      (s : Status) → i < length xs → d ≡ get_or xs i d → Flows before kept middle (mid ++ flat_map line (drop i xs)) whole →
      Passes middle mid now left (line d) Later (Err s) →
      (Later → Since) → Passes before kept now other whole Since (Err s)
  line_short before middle now kept mid left other whole Later Since xs i d Fault within here f p since = (since p.0, line_cut xs i d within here f p.1)
  line_short before middle now kept mid left other whole Later Since xs i d NoMemory within here f p since = line_cut xs i d within here f p
  line_short before middle now kept mid left other whole Later Since xs i d Done within here f p since = absurd p
  line_short before middle now kept mid left other whole Later Since xs i d Refuted within here f p since = absurd p
  line_short before middle now kept mid left other whole Later Since xs i d Refused within here f p since = absurd p
  line_short before middle now kept mid left other whole Later Since xs i d Undecided within here f p since = absurd p

-- the status after a text
pub with_status : (before now : Option (List ℕ)) (text : List ℕ) (SinkRose : Type 0) (s : Status) → Finishes before [] now text SinkRose (Err s) →
    FinishesWith Done before now text SinkRose s
with_status before now text SinkRose Fault p = inr (inl (refl, p.0, p.1))
with_status before now text SinkRose NoMemory p = inr (inr (refl, p))
with_status before now text SinkRose Done p = absurd p
with_status before now text SinkRose Refuted p = absurd p
with_status before now text SinkRose Refused p = absurd p
with_status before now text SinkRose Undecided p = absurd p

-- a text that is put at once
pub at_once : {before now : Option (List ℕ)} {text : List ℕ} {SinkRose : Type 0} (whole ended : Status) → IsPutSo before now text whole SinkRose ended →
    FinishesWith whole before now text SinkRose ended
at_once whole ended (inl p) = inl p
at_once whole ended (inr p) = inr (inl (p.0, p.1, record { front = p.2; is = p.3; adds = p.4 }))

-- what a command of this kind ends with
pub puts_done : {before now : Option (List ℕ)} {text : List ℕ} {SinkRose : Type 0} (Ended : Status → List ℕ → Type 0) (ended : Status) → Ended Done text →
    FinishesWith Done before now text SinkRose ended → Puts Ended (IsCutOf Ended) before now SinkRose ended
puts_done {before} {now} {text} {SinkRose} Ended ended is (inl p) =
    subst (λ (s : Status). Puts Ended (IsCutOf Ended) before now SinkRose s) (sym p.0) (text, is, p.1)
puts_done {before} {now} {text} {SinkRose} Ended ended is (inr (inl p)) =
    subst (λ (s : Status). Puts Ended (IsCutOf Ended) before now SinkRose s) (sym p.0) (p.1, p.2.front, (Done, text, is, p.2.is), p.2.adds)
puts_done {before} {now} {text} {SinkRose} Ended ended is (inr (inr p)) =
    subst (λ (s : Status). Puts Ended (IsCutOf Ended) before now SinkRose s) (sym p.0) (inr (p.1.front, (Done, text, is, p.1.is), p.1.adds))

pub puts_undecided : {before now : Option (List ℕ)} {text : List ℕ} {SinkRose : Type 0} (Ended : Status → List ℕ → Type 0) (ended : Status) →
    Ended Undecided text → FinishesWith Undecided before now text SinkRose ended → Puts Ended (IsCutOf Ended) before now SinkRose ended
puts_undecided {before} {now} {text} {SinkRose} Ended ended is (inl p) =
    subst (λ (s : Status). Puts Ended (IsCutOf Ended) before now SinkRose s) (sym p.0) (text, is, p.1)
puts_undecided {before} {now} {text} {SinkRose} Ended ended is (inr (inl p)) =
    subst (λ (s : Status). Puts Ended (IsCutOf Ended) before now SinkRose s) (sym p.0) (p.1, p.2.front, (Undecided, text, is, p.2.is), p.2.adds)
puts_undecided {before} {now} {text} {SinkRose} Ended ended is (inr (inr p)) =
    subst (λ (s : Status). Puts Ended (IsCutOf Ended) before now SinkRose s) (sym p.0) (inr (p.1.front, (Undecided, text, is, p.1.is), p.1.adds))
