-- No filter of a file that is read meets refusal 7: the reader let only kinds 0 and 1 pass, so the matcher gives each verdict. Assumes nothing.
use Prim.Native.Nat.{ℕ, zero, suc, ◌+◌, ◌*◌, ◌≤◌, ◌<◌}
use mathlib.Core.Path.{◌≡◌}
use mathlib.Core.Logic.{inl, inr}
use mathlib.Core.List.Memᴰ
use mathlib.Core.List.{List, Memᴰ}
use native.Mathlib.Omega.{arith}
use borrow.Author.Tests.{le-ltb}
use Rattle.laws.specs.Said.{gives}
use Rattle.laws.specs.Tabulate.{tabulate}
use Rattle.file_reading.specs.Format.{filter_bytes}
use Rattle.file_reading.specs.declared.Sections.{Sections}
use Rattle.file_reading.specs.Reader.{read_of}
use Rattle.file_reading.proofs.Format.{read-good}
use Rattle.filter_matcher.specs.Words.{match_of}
use Rattle.file_report.specs.Text.{Filter, filter_at, filters_of, accepts}

each_of : {A : Type 0} (P : A → Type 0) (n : ℕ) (f : ℕ → A) → ((i : ℕ) → i < n → P (f i)) → (x : A) → Memᴰ x (tabulate n f) → P x
each_of P zero f every x m = absurd (Memᴰ.not-nil m)
each_of P (suc n) f every x m =
    elim (Memᴰ.cases_cons m) [
      | inl e ↦ rw e (every 0 (omega arith))
      | inr rest ↦ each_of P n (λ i. f (suc i)) (λ i l. every (suc i) (omega arith)) x rest
    ]

kinds-given : (s : List ℕ) (sections : Sections) → read_of s ≡ gives sections
    → (filter : Filter) → Memᴰ filter (filters_of s sections) → filter.kind ≤ 1
kinds-given s sections e =
    let good = read-good s sections e in
    each_of (λ (filter : Filter). filter.kind ≤ 1) sections.filters (λ i. filter_at s (sections.filters_start + filter_bytes * i))
    (λ i l. rw good.1 (good.0.kinds i l))

pub verdicts-given : (s : List ℕ) (sections : Sections) → read_of s ≡ gives sections
    → (filter : Filter) → Memᴰ filter (filters_of s sections)
    → (frame : List ℕ) → match_of filter.kind filter.registers frame ≡ gives (accepts frame filter)
unfolding match_of
verdicts-given s sections e filter m frame = rw (le-ltb 1 filter.kind (kinds-given s sections e filter m))
