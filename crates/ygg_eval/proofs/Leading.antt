-- Runs of parts of a block, put together.
use Rattle.std.proofs.Common.{◌≡◌, ℕ, ◌+◌, Bool, true, false, List, [], ◌∷◌, ◌++◌, Option, Result, Ok, Err, IsErr, inl, inr, refl, sym, ap, ◌∙◌, subst, arith}
use Rattle.ygg_list.specs.declared.memory.NoMemory.{NoMemory}
use Rattle.ygg_syntax.specs.declared.tree.File.{File}
use Rattle.ygg_eval_expr.specs.ygg_meaning.Progress.{Answer, Question, Point, Waits, ask}
use Rattle.ygg_eval.specs.declared.body.Stop.{Stop}
use Rattle.ygg_eval.specs.Lower.{Standing, Meaning, Ending, Outage, Happened, Lacking}
use Rattle.ygg_eval.specs.Lower as ending
use Rattle.ygg_eval.specs.Conversations.{Exchange, calls_in}
use Rattle.ygg_eval.specs.declared.flow.Break.{Break}
use Rattle.ygg_eval.specs.declared.flow.Break.TheVariants.{Stopped, Down, Failed}
use Rattle.ygg_eval.specs.declared.flow.Flow.{Flow}
use Rattle.ygg_eval.specs.declared.flow.Flow.TheVariants.{Goes as Going, Breaks as Breaking}
use Rattle.ygg_eval.specs.BlockSteps.{Front, Leads, Becomes, Replied, EndsIn, FallsWhere, Last, Starves, Ran, CallRan}

module _ {S : Type 0} where
  pub calls-append : (xs ys : List (Exchange S)) → calls_in (xs ++ ys) ≡ calls_in xs + calls_in ys
  calls-append [] ys = omega arith
  calls-append (x ∷ xs) ys = let again = calls-append xs ys in omega arith

module _ {S : Type 0} (M : Meaning S) (file : File) (number : ℕ) (stop : Option Stop) where
  -- nothing is asked
  pub becomes_same : (f : Front) (at : Standing S) (left : ℕ) → Becomes M file number stop f f at left at left
  becomes_same f at left = record { exchanges = []; path = (refl, refl); counts = λ s. omega arith; serves = λ s. s }

  leads_after : (f g h : Front) (from at to : Standing S) (xs ys : List (Exchange S)) → Leads M file number stop f from xs g at →
      Leads M file number stop g at ys h to → Leads M file number stop f from (xs ++ ys) h to
  leads_after f g h from at to [] ys (e, s) q =
      subst (λ (k : Front). Leads M file number stop k from ys h to) (sym e) (subst (λ (s : Standing S). Leads M file number stop g s ys h to) (sym s) q)
  leads_after f g h from at to (x ∷ xs) ys (w, a, p) q = (w, a, leads_after (λ more. f (x.answer ∷ more)) g h x.after at to xs ys p q)

  -- one part after another
  pub becomes_after : (f g h : Front) (from at to : Standing S) (l m n : ℕ) → Becomes M file number stop f g from l at m →
      Becomes M file number stop g h at m to n → Becomes M file number stop f h from l to n
  becomes_after f g h from at to l m n p q = record {
    exchanges = p.exchanges ++ q.exchanges;
    path = leads_after f g h from at to p.exchanges q.exchanges p.path q.path;
    counts = λ s. let a = p.counts s in let b = q.counts s in let e = calls-append p.exchanges q.exchanges in omega arith;
    serves = λ s. q.serves (p.serves s);
  }

  -- a part that goes on where another ends
  pub ran_after : {T : Type 0} (f g : Front) (h : T → Front) (from at to : Standing S) (l m n : ℕ) (result : Result (Flow T) NoMemory) →
      Becomes M file number stop f g from l at m → Ran M file number stop g h at m result to n
      → Ran M file number stop f h from l result to n
  ran_after f g h from at to l m n (Ok (Going t)) p r = becomes_after f g (h t) from at to l m n p r
  ran_after f g h from at to l m n (Ok (Breaking how)) p r =
      record { rest = r.rest; at = r.at; left' = r.left'; becomes = becomes_after f g r.rest from at r.at l m r.left' p r.becomes; final = r.final }
  ran_after f g h from at to l m n (Err e) p r =
      record { rest = r.rest; at = r.at; left' = r.left'; becomes = becomes_after f g r.rest from at r.at l m r.left' p r.becomes; final = r.final }

  -- a part inside another, which hands on what is waited for
  module _ (F : Point → Point) (strict : (q : Question) → F (Waits q) ≡ Waits q) where
    leads_within : (f g : Front) (from to : Standing S) (xs : List (Exchange S)) → Leads M file number stop f from xs g to →
        Leads M file number stop (λ answers. F (f answers)) from xs (λ answers. F (g answers)) to
    leads_within f g from to [] (e, s) = let outside : Front → Front = λ k answers. F (k answers) in (ap outside e, s)
    leads_within f g from to (x ∷ xs) (w, a, p) = (ap F w ∙ strict x.question, a, leads_within (λ more. f (x.answer ∷ more)) g x.after to xs p)

    pub becomes_within : (f g : Front) (from to : Standing S) (l n : ℕ) → Becomes M file number stop f g from l to n →
        Becomes M file number stop (λ answers. F (f answers)) (λ answers. F (g answers)) from l to n
    becomes_within f g from to l n p = record {
      exchanges = p.exchanges;
      path = leads_within f g from to p.exchanges p.path;
      counts = p.counts;
      serves = p.serves;
    }

    ends_within : (how : Ending) (p : Point) (at : Standing S) (left : ℕ) (to : Standing S) → EndsIn M file number stop how p at left to →
        EndsIn M file number stop how (F p) at left to
    ends_within how p at left to e = record { name = e.name; args = e.args; asks = ap F e.asks ∙ strict _; later = e.later; step = e.step }

    falls_within : (b : Bool) (how : Outage) (p : Point) (at to : Standing S) → FallsWhere M file number stop b how p at to →
        FallsWhere M file number stop b how (F p) at to
    falls_within true how p at to e = record { name = e.name; args = e.args; asks = ap F e.asks ∙ strict _; step = e.step }
    falls_within false how p at to e = e

    last_within : (how : Break) (p : Point) (at : Standing S) (left : ℕ) (to : Standing S) → Last M file number stop how p at left to →
        Last M file number stop how (F p) at left to
    last_within Stopped p at left to e = record {
      where_is = e.where_is;
      is = e.is;
      reached = e.reached;
      falls =
          falls_within e.where_is.within Happened p at to e.falls;
      serves = e.serves;
    }
    last_within Down p at left to e = ends_within ending.Down p at left to e
    last_within Failed p at left to e = ends_within ending.Failed p at left to e

    starves_within : (p : Point) (at : Standing S) (left : ℕ) (to : Standing S) → Starves M file number stop p at left to →
        Starves M file number stop (F p) at left to
    starves_within p at left to (inl e) = inl (ends_within ending.Starved p at left to e)
    starves_within p at left to (inr (inl e)) = inr (inl e)
    starves_within p at left to (inr (inr e)) = inr (inr (record {
      where_is = e.where_is;
      is = e.is;
      reached = e.reached;
      falls = falls_within e.where_is.within Lacking p at to e.falls;
    }))

    pub ran_within : {T : Type 0} (f : Front) (g : T → Front) (from to : Standing S) (l n : ℕ) (result : Result (Flow T) NoMemory) →
        Ran M file number stop f g from l result to n
        → Ran M file number stop (λ answers. F (f answers)) (λ t answers. F (g t answers)) from l result to n
    ran_within f g from to l n (Ok (Going t)) r = becomes_within f (g t) from to l n r
    ran_within f g from to l n (Ok (Breaking how)) r = record {
      rest = λ answers. F (r.rest answers);
      at = r.at;
      left' = r.left';
      becomes = becomes_within f r.rest from r.at l r.left' r.becomes;
      final = last_within how (r.rest []) r.at r.left' to r.final;
    }
    ran_within f g from to l n (Err e) r = record {
      rest = λ answers. F (r.rest answers);
      at = r.at;
      left' = r.left';
      becomes = becomes_within f r.rest from r.at l r.left' r.becomes;
      final = starves_within (r.rest []) r.at r.left' to r.final;
    }

  -- one question
  pub becomes_replied : (q : Question) (a : Answer) (next : Answer → Front) (from to : Standing S) (l n : ℕ) →
      Replied M file number stop q a from l to n → Becomes M file number stop (λ answers. ask q answers next) (next a) from l to n
  becomes_replied q a next from to l n r = record {
    exchanges = record { question = q; answer = a; after = to } ∷ [];
    path = (refl, r.answered, (refl, refl));
    counts = λ s. let e = r.counts s in omega arith;
    serves = r.serves;
  }

  pub ran_call : (q : Question) (next : Answer → Front) (from to : Standing S) (l n : ℕ) (result : Result (Flow Answer) NoMemory) →
      CallRan M file number stop q from l result to n
      → Ran M file number stop (λ answers. ask q answers next) next from l result to n
  ran_call q next from to l n (Ok (Going a)) r = becomes_replied q a next from to l n r
  ran_call q next from to l n (Ok (Breaking how)) r =
      record { rest = λ answers. ask q answers next; at = from; left' = l; becomes = becomes_same (λ answers. ask q answers next) from l; final = r }
  ran_call q next from to l n (Err e) r =
      record { rest = λ answers. ask q answers next; at = from; left' = l; becomes = becomes_same (λ answers. ask q answers next) from l; final = r }

  -- memory runs out before anything is asked
  pub starved_here : {T : Type 0} (f : Front) (g : T → Front) (at : Standing S) (left : ℕ) (result : Result (Flow T) NoMemory) → IsErr result →
      Ran M file number stop f g at left result at left
  starved_here f g at left (Ok t) h = absurd (cc)
  starved_here f g at left (Err e) h = record { rest = f; at = at; left' = left; becomes = becomes_same f at left; final = inr (inl refl) }

  -- memory has run out
  pub starved_as : {T U : Type 0} (f : Front) (g : T → Front) (h : U → Front) (from to : Standing S) (l n : ℕ) (e : NoMemory)
      (result : Result (Flow U) NoMemory) → Ran M file number stop f g from l (Err e) to n → IsErr result
      → Ran M file number stop f h from l result to n
  starved_as f g h from to l n e (Ok u) r i = absurd (cc)
  starved_as f g h from to l n e (Err e') r i = record { rest = r.rest; at = r.at; left' = r.left'; becomes = r.becomes; final = r.final }

  -- memory runs out after a part
  pub starved_then : {T : Type 0} (f g : Front) (h : T → Front) (from to : Standing S) (l n : ℕ) (result : Result (Flow T) NoMemory) →
      Becomes M file number stop f g from l to n → IsErr result → Ran M file number stop f h from l result to n
  starved_then f g h from to l n (Ok t) p i = absurd (cc)
  starved_then f g h from to l n (Err e) p i = record { rest = g; at = to; left' = n; becomes = p; final = inr (inl refl) }

  -- the run ended in a part
  pub broken_as : {T U : Type 0} (f : Front) (g : T → Front) (h : U → Front) (from to : Standing S) (l n : ℕ) (how : Break) →
      Ran M file number stop f g from l (Ok (Breaking how)) to n → Ran M file number stop f h from l (Ok (Breaking how)) to n
  broken_as f g h from to l n how r = record { rest = r.rest; at = r.at; left' = r.left'; becomes = r.becomes; final = r.final }

  -- the same part under another name
  pub ran_from : {T : Type 0} (f f' : Front) (g : T → Front) (from to : Standing S) (l n : ℕ) (result : Result (Flow T) NoMemory) → f ≡ f' →
      Ran M file number stop f' g from l result to n → Ran M file number stop f g from l result to n
  ran_from f f' g from to l n result e r = subst (λ (k : Front). Ran M file number stop k g from l result to n) (sym e) r
