-- What a way of building accepts, in plain facts, and that it accepts just that; the Rust's way is the one whose largest remote code is 0; and a way
-- with a larger code accepts what one with a smaller does. Assumes nothing.
use Prim.Native.Nat.{ℕ, zero, suc, ◌≤◌, ◌<◌}
use mathlib.Core.Path.{◌≡◌, refl, sym, ap, ◌∙◌}
use mathlib.Core.Logic.{◌↔◌}
use mathlib.Core.Bool.{Bool, true, false, not, ◌||◌, ◌&&◌, or-true}
use mathlib.Core.List.{[]}
use lib.Dec.{leb, ltb, eqb}
use lib.ListN.{length, replicate}
use native.Mathlib.Omega.{arith}
use borrow.Author.Tests.{ltb-true, ltb-false, leb-true, eqb-true, le-leb, le-ltb, lt-ltb, eq-eqb, ne_eqb, not-false}
use Rattle.laws.specs.Said.{Said, gives}
use Rattle.laws.proofs.Said.{passed}
use Rattle.laws.proofs.Bools.{neither, or_no, not-both, and_no}
use Rattle.refusals.specs.declared.Refusal.{Refusal}
use Rattle.refusals.specs.Table.{refusal_said}
use Rattle.identifiers.specs.Limits.{limit_of}
use Rattle.frame_reading.specs.Buffer.{Frame}
use Rattle.frame_building.specs.Buffer.{buffer_of}
use Rattle.frame_building.specs.Building.{invalid_length, non_compliant, length_and_code, judge_of, answering, build_of, non_compliant_by, judge_by, judged_by, build_by, most_of, build_in, Buildable}
use Rattle.frame_building.specs.Good.{Good}
use Rattle.frame_building.specs.declared.Way.{Way}
use Rattle.frame_building.specs.declared.Way.TheVariants.{Rust, Iso}

none_left : (n : ℕ) → n ≤ 0 → n ≡ 0
none_left n h = omega arith

-- ---- the code
compliant : (code length : ℕ) → non_compliant code length ≡ false → (code ≤ 15) × (length < 8 → code ≡ length) × (length ≡ 8 → 8 ≤ code)
compliant code length e =
    let d = neither (ltb 15 code || (ltb length 8 && not (eqb code length))) (eqb length 8 && ltb code 8) e in
    let d' = neither (ltb 15 code) (ltb length 8 && not (eqb code length)) d.0 in (
      ltb-false _ _ d'.0,
      λ h. eqb-true _ _ (not-false _ (not-both _ _ d'.1 (lt-ltb _ _ h))),
      λ h. ltb-false _ _ (not-both _ _ d.1 (eq-eqb _ _ h)),
    )

complies : (code length : ℕ) → code ≤ 15 → (length < 8 → code ≡ length) → (length ≡ 8 → 8 ≤ code) → non_compliant code length ≡ false
complies code length coded equal full =
    let unequal : (ltb length 8 && not (eqb code length)) ≡ false =
    and_no _ _ (λ h. rw (eq-eqb _ _ (equal (ltb-true _ _ h)))) in
    let half : (eqb length 8 && ltb code 8) ≡ false =
    and_no _ _ (λ h. le-ltb _ _ (full (eqb-true _ _ h))) in
    or_no _ _ (or_no _ _ (le-ltb _ _ coded) unequal) half

-- by the kind of frame
coded_by : (most : ℕ) (remote : Bool) (code length : ℕ) → most ≤ 15 → non_compliant_by most remote code length ≡ false → code ≤ 15
coded_by most true code length h e = omega (arith, ltb-false most code e)
coded_by most false code length h e = (compliant code length e).0

complies-by : (most : ℕ) (remote : Bool) (code length : ℕ) → (remote ≡ true → code ≤ most) → (remote ≡ false → non_compliant code length ≡ false)
    → non_compliant_by most remote code length ≡ false
complies-by most true code length request right = le-ltb most code (request refl)
complies-by most false code length request right = right refl

-- ---- a way of building accepts just the good frames
pub judged-good : (most : ℕ) (f : Frame) → most ≤ 15 → judged_by most f ≡ gives 13 → Good most f
unfolding judge_by
judged-good most f four-bits e =
    let code = f.code in
    let long = length f.payload in
    let wrong = non_compliant_by most f.remote code long in
    let one = passed (not (leb f.id (limit_of f.extended))) 1 [] (length_and_code wrong f.remote code long) 13 e in
    let two = passed (invalid_length f.remote long) 2 _ _ 13 one.1 in
    let right : wrong ≡ false = (passed wrong 3 _ _ 13 two.1).0 in
    let short = neither (ltb 8 long) (f.remote && ltb 0 long) two.0 in
    record {
      within = leb-true _ _ (not-false _ one.0);
      short = ltb-false _ _ short.0;
      coded = coded_by most f.remote code long four-bits right;
      empty = λ r. none_left long (ltb-false _ _ (not-both _ _ short.1 r));
      request = λ r. ltb-false most code (rw r at right);
      equal = λ d. (compliant code long (rw d at right)).1;
      full = λ d. (compliant code long (rw d at right)).2;
    }

pub good-judged : (most : ℕ) (f : Frame) → Good most f → judged_by most f ≡ gives 13
unfolding judge_by
good-judged most f g =
    let code = f.code in
    let long = length f.payload in
    let valid : invalid_length f.remote long ≡ false =
    or_no _ _ (le-ltb _ _ g.short) (and_no _ _ (λ (r : f.remote ≡ true). le-ltb 0 long (omega (arith, g.empty r)))) in
    let right : non_compliant_by most f.remote code long ≡ false =
    complies-by most f.remote code long g.request (λ d. complies code long g.coded (g.equal d) (g.full d)) in
    rw (le-leb _ _ g.within, valid, right)

pub accepted-build : (most : ℕ) (f : Frame) → Good most f → build_by most f ≡ (gives 13, buffer_of f)
unfolding build_by
accepted-build most f good = rw (good-judged most f good)

pub good_more : (most more : ℕ) (f : Frame) → most ≤ more → Good most f → Good more f
good_more most more f h g =
    record {
      within = g.within;
      short = g.short;
      coded = g.coded;
      empty = g.empty;
      request = λ r. omega (arith, g.request r);
      equal = g.equal;
      full = g.full;
    }

-- ---- the Rust's way is that of the number 0: with no data, every code but 0 is wrong
no-request : (code : ℕ) → non_compliant code 0 ≡ ltb 0 code
no-request zero = refl
no-request (suc code) = rw (ne_eqb (suc code) 0 (λ e. omega arith), lt-ltb 0 (suc code) (omega arith), or-true)

rust-judge : (format : Bool) (id : ℕ) (remote : Bool) (code length : ℕ) → judge_of format id remote code length ≡ judge_by 0 format id remote code length
unfolding judge_of judge_by
rust-judge format id false code length = refl
rust-judge format id true code zero = rw no-request
rust-judge format id true code (suc length) = rw (lt-ltb 0 (suc length) (omega arith), or-true)

-- ---- the two ways
pub way-built : (way : Way) (f : Frame) → build_in way f ≡ build_by (most_of way) f
unfolding build_of build_by
way-built Rust f = ap (λ (said : Said ℕ). answering said f) (rust-judge f.extended f.id f.remote f.code (length f.payload))
way-built Iso f = refl

pub four-bits : (way : Way) → most_of way ≤ 15
four-bits Rust = omega arith
four-bits Iso = omega arith

pub way-good : (way : Way) (f : Frame) → (build_in way f).0 ≡ gives 13 → Good (most_of way) f
unfolding build_by
way-good way f made = judged-good (most_of way) f (four-bits way) (ap (λ a. a.0) (sym (way-built way f)) ∙ made)

pub way-gave : (way : Way) (f : Frame) → Good (most_of way) f → build_in way f ≡ (gives 13, buffer_of f)
way-gave way f good = way-built way f ∙ accepted-build (most_of way) f good

-- zeros stand beside a refusal
pub way-refused : (way : Way) (f : Frame) (r : Refusal) → (build_in way f).0 ≡ refusal_said r → build_in way f ≡ (refusal_said r, replicate 13 0)
unfolding build_by
way-refused way f r h = way-built way f ∙ ap (λ (said : Said ℕ). answering said f) (ap (λ a. a.0) (sym (way-built way f)) ∙ h)

-- what one of them accepts ISO 11898-1's does
pub buildable-good : (f : Frame) → Buildable f ↔ Good (most_of Iso) f
unfolding build_by
buildable-good f = (to, λ good. (Iso, good-judged (most_of Iso) f good))
  where
    least : (way : Way) → most_of way ≤ most_of Iso
    least Rust = omega arith
    least Iso = omega arith

    to : Buildable f → Good (most_of Iso) f
    to (way, made) = good_more (most_of way) (most_of Iso) f (least way) (way-good way f made)
