-- Both ways of building keep to what `Faithful` says, each by its number, from laws that stand once for every number; and what the old way accepts the new
-- one builds the same. Assumes nothing.
use Prim.Native.Nat.{ℕ, ◌≤◌}
use mathlib.Core.Path.{◌≡◌, sym, ap, ◌∙◌, subst}
use mathlib.Core.List.{List}
use native.Mathlib.Omega.{arith}
use Rattle.laws.specs.Said.{Said, gives}
use Rattle.frame_reading.specs.Buffer.{Frame, frame_of}
use Rattle.frame_building.specs.Buffer.{buffer_of}
use Rattle.frame_building.specs.Building.{build_of, build_by, most_of, build_in}
use Rattle.frame_building.specs.Good.{Good}
use Rattle.frame_building.specs.Clean.{Clean}
use Rattle.frame_building.specs.Faithful.{Faithful}
use Rattle.frame_building.specs.declared.Way.{Way}
use Rattle.frame_building.specs.declared.Way.TheVariants.{Rust, Iso}
use Rattle.frame_building.proofs.Judged.{accepted-build, good_more, way-built, way-good, way-gave}
use Rattle.frame_building.proofs.RoundTrip.{reads-back, built-clean, made_again}

pub faithful : (way : Way) → Faithful (build_in way) (most_of way)
faithful way =
    record {
      back = λ f made. ap frame_of (gave f made) ∙ reads-back (most_of way) f (way-good way f made);
      clean = λ f made. subst (Clean (most_of way)) (sym (gave f made)) (built-clean (most_of way) f (way-good way f made));
      again = λ b long small clean. way-built way (frame_of b) ∙ made_again (most_of way) b long small clean;
    }
  where
    gave : (f : Frame) → (build_in way f).0 ≡ gives 13 → (build_in way f).1 ≡ buffer_of f
    gave f made = ap (λ (a : Said ℕ × List ℕ). a.1) (way-gave way f (way-good way f made))

-- two ways, the second with the larger number, answer the same wherever the first accepts
pub same-built : (most more : ℕ) (f : Frame) → most ≤ more → Good most f → build_by most f ≡ build_by more f
same-built most more f h good = accepted-build most f good ∙ sym (accepted-build more f (good_more most more f h good))

pub old-as-new : (f : Frame) → (build_of f).0 ≡ gives 13 → build_of f ≡ build_in Iso f
old-as-new f made = way-built Rust f ∙ same-built (most_of Rust) (most_of Iso) f (omega arith) (way-good Rust f made)
