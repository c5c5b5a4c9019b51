-- Pending writes with their marks.
use Rattle.std.proofs.Common.{◌≡◌, ℕ, ◌+◌, ◌<◌, Bool, true, false, inl, inr, List, [], ◌∷◌, ◌++◌, map, length, take, get_or, None, refl, sym, ap, ◌∙◌, subst}
use Rattle.std.proofs.lemmas.List.{take_more}
use Rattle.ygg_value.specs.Number.{Digits, Grid}
use Rattle.ygg_value.specs.Values.{table_write}
use Rattle.ygg_disk.specs.Disk.{Write}
use Rattle.ygg_disk.specs.Pending.{IsSublist}
use Rattle.ygg_disk.specs.Marked.{MarkedWrite, MarkedCache, kept_of, with_mark, marked_lost, marked_calls, marked_loses, marked_falls}
use Rattle.ygg_disk.specs.Waiting.{mark_of, marked}
use Rattle.ygg_disk.specs.declared.waiting.Waiting.{Waiting}

-- the write that came last is the newest
pub marked_more : (ws : List Waiting) (w : Waiting) → marked (ws ++ w ∷ []) ≡ mark_of w ∷ marked ws
marked_more [] w = refl
marked_more (v ∷ ws) w = ap (λ ms. ms ++ mark_of v ∷ []) (marked_more ws w)

-- one more write of a list is looked at
pub marked_next : (ws : List Waiting) (i : ℕ) (w : Waiting) → i < length ws → w ≡ get_or ws i w → marked (take (i + 1) ws) ≡ mark_of w ∷ marked (take i ws)
marked_next ws i w h e = ap marked (take_more ws i w h ∙ ap (λ v. take i ws ++ v ∷ []) (sym e)) ∙ marked_more (take i ws) w

-- what power loss keeps are some of the pending writes, in order
pub kept_some : (ws : List MarkedWrite) → IsSublist (kept_of ws) (map (λ (w : MarkedWrite). w.write) ws)
kept_some [] = refl
kept_some (w ∷ ws) = by w.kept (kept_some ws) where
  by : (kept : Bool) → IsSublist (kept_of ws) (map (λ (v : MarkedWrite). v.write) ws) →
      IsSublist (kept_of (record w { kept = kept } ∷ ws)) (w.write ∷ map (λ (v : MarkedWrite). v.write) ws)
  by true rest = inr (kept_of ws, refl, rest)
  by false rest = inl rest

-- power loss that keeps what is marked is one of the disk with a write-back cache
pub loses_marked : (m m' : MarkedCache) → m' ≡ marked_lost m → marked_loses m m'
loses_marked m m' e = subst (marked_loses m) (sym e) ((kept_of m.writes, kept_some m.writes, refl), refl)

-- so is one within a write
pub falls_marked : (kept : Bool) (m m' : MarkedCache) (at : ℕ) (row : Digits) → m' ≡ marked_lost (with_mark kept m at row) →
    marked_falls m (Write at row) (kept ∷ []) m'
falls_marked kept m m' at row e =
    let ms = (with_mark kept m at row).writes in
    subst (marked_falls m (Write at row) (kept ∷ [])) (sym e) ((kept_of ms, kept_some ms, refl), (kept, refl, refl))

-- a write that has become pending with its mark is one of the disk with a write-back cache
pub calls_marked : (kept : Bool) (m m' : MarkedCache) (at : ℕ) (row : Digits) → m' ≡ with_mark kept m at row → marked_calls m (Write at row) (kept ∷ []) None m'
calls_marked kept m m' at row e = subst (marked_calls m (Write at row) (kept ∷ []) None) (sym e) ((refl, refl), (kept, refl, refl))

-- one more write waits, with its mark
pub with_waiting : (stable : Grid) (old made new : List Waiting) (m : MarkedCache) (v : MarkedWrite) (kept : Bool) (at : ℕ) (row : Digits) → made ≡ old →
    record { stable = stable; writes = marked old } ≡ m → marked new ≡ v ∷ marked made → v ≡ record { write = record { at = at; row = row }; kept = kept } →
    record { stable = stable; writes = marked new } ≡ with_mark kept m at row
with_waiting stable old made new m v kept at row same is more marks =
    ap (λ ms. record { stable = stable; writes = ms }) (more ∙ ap (λ (x : MarkedWrite). x ∷ marked made) marks)
    ∙ ap (λ ws. record { stable = stable; writes = record { write = record { at = at; row = row }; kept = kept } ∷ marked ws }) same
    ∙ ap (λ (x : MarkedCache). with_mark kept x at row) is

-- a row that is written after power loss is one that was marked within it
pub fell_kept : (m fell : MarkedCache) (stable stable' : Grid) (ws : List MarkedWrite) (at : ℕ) (row : Digits) →
    record { stable = stable; writes = ws } ≡ fell → fell ≡ marked_lost m → stable' ≡ table_write stable at row →
    record { stable = stable'; writes = ws } ≡ marked_lost (with_mark true m at row)
fell_kept m fell stable stable' ws at row is lost write =
    ap (λ t. record { stable = t; writes = ws }) write
    ∙ ap (λ (x : MarkedCache). record { stable = table_write x.stable at row; writes = x.writes }) (is ∙ lost)
