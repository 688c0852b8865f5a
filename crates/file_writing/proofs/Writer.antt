-- The writer's definitions: the search for a bad kind turn by turn, the sections laid one behind the other, and what an answer
-- with a length tells of the sections. Assumes nothing.
use Prim.Native.Nat.{ℕ, zero, suc, ◌+◌, ◌-◌, ◌*◌, ◌%◌, ◌≤◌, ◌<◌}
use mathlib.Core.Path.{◌≡◌, refl, sym, ap, ◌∙◌}
use mathlib.Core.List.{List, [], ◌∷◌, ◌++◌}
use lib.Dec.{ltb}
use lib.ListN.{length, get_or, take, drop, set, length-set}
use native.Mathlib.Omega.{arith}
use borrow.Author.Tests.{lt-ltb, le-ltb, ltb-false}
use borrow.Rule.Slice.PartMut.{put_mid}
use Rattle.laws.specs.Said.{gives}
use Rattle.laws.specs.Laid.{laid_first, laid}
use Rattle.laws.proofs.Said.{passed, gives_same}
use Rattle.laws.proofs.Laid.{set-laid, set_then, laid_then, lent_laid, length-laid}
use Rattle.text.specs.Put.{put_at}
use Rattle.text.proofs.Put.{text-put}
use Rattle.file_reading.specs.Format.{filter_limit, frame_limit, filter_bytes, frame_bytes}
use Rattle.file_writing.specs.Writer.{filter_count, frame_count, first_bad_kind, bad_kind, needed, write_of}

-- ---- the first bad kind
module _ (filters : List ℕ) where
  step : (left i w : ℕ) → 0 < left → get_or filters (filter_bytes * i) 0 ≤ 1 → first_bad_kind filters left i ≡ w → first_bad_kind filters (left - 1) (i + 1) ≡ w
  unfolding first_bad_kind
  step zero i w p k h = absurd (omega arith)
  step (suc n) i w p k h =
      let e : suc n - 1 ≡ n = omega arith in
      rw e (simp (le-ltb 1 (get_or filters (filter_bytes * i) 0) k) at h)

  pub kinds-turn : (n i w : ℕ) → i < n → get_or filters (filter_bytes * i) 0 ≤ 1
      → first_bad_kind filters (n - i) i ≡ w → first_bad_kind filters (n - (i + 1)) (i + 1) ≡ w
  kinds-turn n i w p k h =
      let e : n - (i + 1) ≡ n - i - 1 = omega arith in
      rw e (step (n - i) i w (omega arith) k h)

  stop : (left i w : ℕ) → 0 < left → 1 < get_or filters (filter_bytes * i) 0 → first_bad_kind filters left i ≡ w → i ≡ w
  unfolding first_bad_kind
  stop zero i w p k h = absurd (omega arith)
  stop (suc n) i w p k h = simp (lt-ltb 1 (get_or filters (filter_bytes * i) 0) k) at h

  pub kinds-stop : (n i w : ℕ) → i < n → 1 < get_or filters (filter_bytes * i) 0 → first_bad_kind filters (n - i) i ≡ w → i ≡ w
  kinds-stop n i w p k h = stop (n - i) i w (omega arith) k h

  pub kinds-end : (n i w : ℕ) → n ≤ i → first_bad_kind filters (n - i) i ≡ w → i ≡ w
  unfolding first_bad_kind
  kinds-end n i w p h =
      let e : n - i ≡ 0 = omega arith in
      rw e at h

-- ---- two stores, and a text put behind them
pub second-laid : (frames out e : List ℕ) (h l : ℕ) → 2 + length frames ≤ length out
    → e ≡ put_at 2 frames (set (set out 0 h) 1 l) → e ≡ laid_first (h ∷ l ∷ frames) out
second-laid frames out e h l r p =
    text-put 2 frames (set (set out 0 h) 1 l) e p (simp length-set (omega arith))
    ∙ ap (laid 2 frames) (ap (λ (x : List ℕ). set x 1 l) (set-laid 0 h out (omega arith)) ∙ set_then 1 l 0 (h ∷ []) out refl (omega arith))
    ∙ laid_then 2 0 (h ∷ l ∷ []) frames out refl (omega arith)

-- ---- a store, a text laid into the rest, and another into the rest of that
module _ (filters second out : List ℕ) (n : ℕ) (room : 1 + length filters + length second ≤ length out) where
  -- the output when the filters are back
  abbrev then-out : List ℕ → List ℕ
  then-out e = put_mid 1 (length (set out 0 n) - 1) (set out 0 n) e

  abbrev Filled : List ℕ → Type 0
  Filled e = e ≡ laid_first filters (take (length (set out 0 n) - 1) (drop 1 (set out 0 n)))

  filters-laid : (e : List ℕ) → Filled e → then-out e ≡ laid 0 (n ∷ filters) out
  filters-laid e p =
      lent_laid 1 filters (set out 0 n) e (simp length-set (omega arith)) p
      ∙ ap (laid 1 filters) (set-laid 0 n out (omega arith))
      ∙ laid_then 1 0 (n ∷ []) filters out refl (omega arith)

  then-long : (e : List ℕ) → Filled e → length (then-out e) ≡ length out
  then-long e p = ap length (filters-laid e p) ∙ length-laid 0 (n ∷ filters) out (omega arith)

  pub both-laid : (e f : List ℕ) → Filled e
      → f ≡ laid_first second (take (length (then-out e) - (1 + length filters)) (drop (1 + length filters) (then-out e)))
      → put_mid (1 + length filters) (length (then-out e) - (1 + length filters)) (then-out e) f ≡ laid_first (n ∷ (filters ++ second)) out
  both-laid e f p q =
      lent_laid (1 + length filters) second (then-out e) f (rw (then-long e p) (omega arith)) q
      ∙ ap (laid (1 + length filters) second) (filters-laid e p)
      ∙ laid_then (1 + length filters) 0 (n ∷ filters) second out (omega arith) (omega arith)

-- ---- what an answer with a length tells
pub record Whole (filters frames : List ℕ) (room n : ℕ) : Type 0 where
  pub filters-whole : length filters ≡ filter_bytes * filter_count filters
  pub frames-whole : length frames ≡ frame_bytes * frame_count frames
  pub filters-within : filter_count filters ≤ filter_limit
  pub frames-within : frame_count frames ≤ frame_limit
  pub kinds : filter_count filters ≤ bad_kind filters
  pub fits : needed filters frames ≤ room
  pub long : n ≡ needed filters frames

pub whole : (filters frames : List ℕ) (room n : ℕ) → write_of filters frames room ≡ gives n → Whole filters frames room n
unfolding write_of
whole filters frames room n h =
    let first = passed (ltb 0 (length filters % filter_bytes)) 14 _ _ n h in
    let second = passed (ltb 0 (length frames % frame_bytes)) 14 _ _ n first.1 in
    let third = passed (ltb filter_limit (filter_count filters)) 12 _ _ n second.1 in
    let fourth = passed (ltb frame_limit (frame_count frames)) 12 _ _ n third.1 in
    let fifth = passed (ltb (bad_kind filters) (filter_count filters)) 7 _ _ n fourth.1 in
    let sixth = passed (ltb room (needed filters frames)) 6 _ _ n fifth.1 in
    record {
      filters-whole = omega (arith, ltb-false 0 (length filters % filter_bytes) first.0);
      frames-whole = omega (arith, ltb-false 0 (length frames % frame_bytes) second.0);
      filters-within = ltb-false filter_limit (filter_count filters) third.0;
      frames-within = ltb-false frame_limit (frame_count frames) fourth.0;
      kinds = ltb-false (bad_kind filters) (filter_count filters) fifth.0;
      fits = ltb-false room (needed filters frames) sixth.0;
      long = sym (gives_same (needed filters frames) n sixth.1);
    }
