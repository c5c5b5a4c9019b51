-- Whether a layer's relation holds, by the first of its expressions that does not.
use Rattle.std.proofs.Common.{◌≡◌, ℕ, Bool, true, ◌&&◌, List, false, not, Option, Some, None, is_none, is_some, refl, sym, ap, ◌∙◌}
use Rattle.ygg_value.specs.declared.row.Value.{Value}
use Rattle.ygg_sched.specs.ygg_meaning.Shapes.{env_fits}
use Rattle.ygg_sched.specs.ygg_meaning.Related.{all_true, related, relates, settled, settles, shaped}
use Rattle.ygg_eval.specs.Layers.{variables_at}
use Rattle.ygg_eval.proofs.Blocks.{bind_fits}
use Rattle.ygg_replay.specs.declared.site.ReplaySite.{ReplaySite}
use Rattle.ygg_replay.specs.Sites.{LowFits, StatesFit, closed_in, first_false, low_at, memory_at, vars_at}
use Rattle.ygg_replay.proofs.Concluding.{both_true}
use Rattle.ygg_replay.proofs.Firsts.{all_are}

pub related_is : (s : ReplaySite) (state memory low : List Value) → StatesFit s state memory low → (r : Option ℕ) →
    r ≡ first_false (relates (closed_in s) (vars_at s state) (memory_at s memory) (low_at s low)) →
    is_none r ≡ related (closed_in s) (vars_at s state) (memory_at s memory) (low_at s low)
related_is s state memory low f r h =
    let l = s.layer.now in
    let bs = relates (closed_in s) (vars_at s state) (memory_at s memory) (low_at s low) in
    let fit : shaped (closed_in s) (vars_at s state) (memory_at s memory) (low_at s low) ≡ true =
    both_true (env_fits l.state (vars_at s state) && env_fits l.memory (memory_at s memory)) _
    (both_true (env_fits l.state (vars_at s state)) (env_fits l.memory (memory_at s memory)) (bind_fits l.state state f.vars_fit)
    (bind_fits l.memory memory f.memory_fits))
    (bind_fits (variables_at s.typed.now.file s.place) low f.low_fits) in
    ap is_none h ∙ sym (all_are bs) ∙ ap (λ b. b && all_true bs) (sym fit)

pub settled_is : (s : ReplaySite) (low : List Value) → LowFits s low → (r : Option ℕ) → r ≡ first_false (settles (closed_in s) (low_at s low)) →
    is_none r ≡ settled (closed_in s) (low_at s low)
settled_is s low f r h =
    let bs = settles (closed_in s) (low_at s low) in
    ap is_none h ∙ sym (all_are bs) ∙ ap (λ b. b && all_true bs) (sym (bind_fits (variables_at s.typed.now.file s.place) low f))

-- a test for none, told by a test for some
pub none_when : (r : Option ℕ) (b : Bool) → is_some r ≡ not b → b ≡ is_none r
none_when None true h = refl
none_when None false h = absurd (cc)
none_when (Some n) true h = absurd (cc)
none_when (Some n) false h = refl
