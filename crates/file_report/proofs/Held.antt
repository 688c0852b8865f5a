-- What the filters that the matcher holds accept is what the file's filters accept, frame by frame. Assumes nothing.
use Prim.Native.Nat.{ℕ, zero, suc, ◌+◌, ◌*◌, ◌^◌, ◌≤◌, ◌<◌}
use mathlib.Core.Path.{◌≡◌, refl, sym, ap, ◌∙◌}
use mathlib.Core.Bool.{Bool, true, false, ◌||◌}
use mathlib.Core.List.{List, [], ◌∷◌, map}
use lib.ListN.{length, get_or}
use native.Mathlib.Omega.{arith}
use borrow.Author.Tests.{le-ltb}
use lib.Dec.{eqb}
use Rattle.std.specs.List.{list_any}
use Rattle.laws.specs.Row.{bytes, pack}
use Rattle.laws.specs.Said.{gives}
use Rattle.laws.specs.Tabulate.{tabulate, part, Bytes}
use Rattle.laws.proofs.Row.{pack-below}
use Rattle.laws.proofs.Tabulate.{tabulate-same, tabulate-ext, length-tabulate, bytes_fit}
use Rattle.filter_registers.specs.Registers.{code_in, mask_in}
use Rattle.file_reading.specs.Format.{filter_bytes}
use Rattle.file_reading.specs.declared.Sections.{Sections}
use Rattle.file_reading.specs.Reader.{read_of}
use Rattle.file_reading.proofs.Format.{read-good}
use Rattle.filter_matcher.specs.declared.Filter.{Filter as Held}
use Rattle.filter_matcher.specs.declared.shown.Shown.{Shown}
use Rattle.filter_matcher.specs.Shown.{show_of}
use Rattle.filter_matcher.specs.Words.{is_dual, match_of}
use Rattle.filter_matcher.proofs.Positions.{agrees-is}
use Rattle.file_report.specs.Text.{filter_at, filters_of, frames_of, accepts, rows_of, any, good_text, text_of, read_text}
use Rattle.file_report.specs.Held.{kind_by, held_at, held_of, agrees, frame_at, row_at, rows_in}

map-tabulate : {A B : Type 0} (f : A → B) (n : ℕ) (g : ℕ → A) → map f (tabulate n g) ≡ tabulate n (λ i. f (g i))
map-tabulate f zero g = refl
map-tabulate {A} {B} f (suc n) g = ap (λ (l : List B). f (g 0) ∷ l) (map-tabulate f n (λ i. g (suc i)))

-- ---- one filter
dual-is : (b : Bool) → is_dual (kind_by b) ≡ b
dual-is true = refl
dual-is false = refl

mask_at : (s : List ℕ) (at : ℕ) → pack (bytes 4) (part s (at + 4) 4) ≡ mask_in (part s at 8)
mask_at s at =
    ap (pack (bytes 4))
    (tabulate-same 4 (λ i. get_or s (at + 4 + i) 0) (λ i. get_or s (at + (4 + i)) 0)
    (λ i. ap (λ (k : ℕ). get_or s k 0) {x = at + 4 + i} {y = at + (4 + i)} (omega arith)))

word-small : (s : List ℕ) → Bytes s → (at : ℕ) → pack (bytes 4) (part s at 4) < 2 ^ 32
word-small s small at = pack-below (bytes_fit 4 (λ i. get_or s (at + i) 0) (λ i. small (at + i)))

agrees-held : (s : List ℕ) → Bytes s → (at : ℕ) → get_or s at 0 ≤ 1 → (frame : List ℕ) → agrees (show_of frame) (held_at s at) ≡ accepts frame (filter_at s at)
unfolding match_of
agrees-held s small at kind frame =
    let code : code_in (part s (at + 1) 8) < 2 ^ 32 = word-small s small (at + 1) in
    let mask : mask_in (part s (at + 1) 8) < 2 ^ 32 = rw (← mask_at s (at + 1)) (word-small s small (at + 1 + 4)) in
    rw (dual-is (eqb (get_or s at 0) 1), le-ltb 1 (get_or s at 0) kind)
    (agrees-is (part s (at + 1) 8) frame code mask (eqb (get_or s at 0) 1))

-- ---- the filters of a file
pub held-many : (s : List ℕ) (sections : Sections) (held : List Held) → held ≡ held_of s sections → length held ≡ sections.filters
held-many s sections held e = ap length e ∙ length-tabulate sections.filters _

pub row-many : (s : List ℕ) (sections : Sections) (i : ℕ) → length (row_at s sections i) ≡ sections.filters
unfolding row_at
row-many s sections i = ap length (map-tabulate (accepts (frame_at s sections i)) sections.filters _) ∙ length-tabulate sections.filters _

pub any-map : {A : Type 0} (p : A → Bool) (l : List A) → list_any p l ≡ any (map p l)
unfolding any
any-map p [] = refl
any-map p (x ∷ l) = ap (λ (b : Bool). p x || b) (any-map p l)

module _ (s : List ℕ) (sections : Sections) (small : Bytes s) (read : read_of s ≡ gives sections) (held : List Held) (are : held ≡ held_of s sections) where
  pub row-is : (i : ℕ) (shown : Shown) → shown ≡ show_of (frame_at s sections i) → map (agrees shown) held ≡ row_at s sections i
  unfolding row_at
  row-is i shown e =
      let good = read-good s sections read in
      rw (e, are)
      (map-tabulate (agrees (show_of (frame_at s sections i))) sections.filters _
      ∙ tabulate-ext sections.filters _ _
      (λ k l. agrees-held s small (sections.filters_start + filter_bytes * k) (rw good.1 (good.0.kinds k l)) (frame_at s sections i))
      ∙ sym (map-tabulate (accepts (frame_at s sections i)) sections.filters _))

-- ---- the text of a file that is read
rows-are : (s : List ℕ) (sections : Sections) → rows_of (filters_of s sections) (frames_of s sections) ≡ rows_in s sections
unfolding row_at
rows-are s sections = map-tabulate (λ frame. map (accepts frame) (filters_of s sections)) sections.frames (frame_at s sections)

pub text-read : (s : List ℕ) (sections : Sections) → read_of s ≡ gives sections → text_of s ≡ good_text (rows_in s sections)
unfolding text_of
text-read s sections e = ap (read_text s) e ∙ ap good_text (rows-are s sections)
