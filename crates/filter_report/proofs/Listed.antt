-- The answer to a list that is not empty and within its limit, and what stands on the page for it. Assumes nothing.
use Prim.Native.Nat.{ℕ, ◌≤◌, ◌<◌}
use mathlib.Core.Path.{◌≡◌, refl, sym, ap, ◌∙◌}
use mathlib.Core.Bool.{Bool, true, false, false≢true}
use mathlib.Core.List.{List, [], ◌∷◌}
use lib.ListN.{length, take}
use lib.Seq.{take_at}
use native.Mathlib.Omega.{arith}
use borrow.Author.Tests.{le-ltb, ne_eqb}
use Rattle.laws.specs.Said.{Said, gives, accepted}
use Rattle.laws.specs.Laid.{laid_first, written}
use Rattle.laws.proofs.Said.{gives_same}
use Rattle.identifiers.specs.Limits.{width_of, limit_of}
use Rattle.filter_list.specs.Pattern.{character_at, pattern_of}
use Rattle.filter_list.specs.Answers.{first_above, through_of, registers_of_list, listing_of, listed_of, leaves, listed_said}
use Rattle.refusals.specs.declared.Refusal.{Refusal}
use Rattle.filter_list.specs.declared.Listed.{Listed}
use Rattle.filter_list.proofs.Pattern.{down-length}
use Rattle.filter_report.specs.Lines.{Found, listed, found_in}
use Rattle.std.specs.Prelude.{Ok, Err}
use Rattle.filter_report.specs.Text.{none_text, list_text, filter_text}
use Rattle.filter_report.proofs.Within.{AllWithin, found_within}

pub width_small : (extended : Bool) → width_of extended ≤ 29
width_small true = omega arith
width_small false = omega arith

pub pattern-long : (extended : Bool) (list : List ℕ) → length (pattern_of (width_of extended) list) ≡ width_of extended
unfolding pattern_of
pattern-long extended list = down-length (width_of extended) (character_at list)

module _ (extended : Bool) (list : List ℕ) (some : 0 < length list) (within : first_above (limit_of extended) list ≡ length list) where
  made : listing_of extended list 29 ≡ gives (through_of extended (registers_of_list extended list))
  unfolding listing_of
  made = rw (ne_eqb (length list) 0 (λ e. omega (arith, e, some)), le-ltb (first_above (limit_of extended) list) (length list) (omega (arith, within)), le-ltb 29 (width_of extended) (width_small extended))

  both : listed_of extended list 29 ≡ (gives (through_of extended (registers_of_list extended list)), registers_of_list extended list)
  both = rw made

  pub through-made : (l : Listed) → listed_said (Ok l) ≡ listed_of extended list 29 → l.through ≡ through_of extended (registers_of_list extended list)
  through-made l e = gives_same l.through _ (ap (λ (p : Said ℕ × List ℕ). p.0) (e ∙ both))

  pub registers-made : (l : Listed) → listed_said (Ok l) ≡ listed_of extended list 29 → l.registers ≡ registers_of_list extended list
  registers-made l e = ap (λ (p : Said ℕ × List ℕ). p.1) (e ∙ both)

  not-refused : (f : Refusal) → listed_said (Err f) ≡ listed_of extended list 29 → ⊥
  not-refused f e = false≢true (ap (λ (p : Said ℕ × List ℕ). accepted p.0) (e ∙ both))

  pub pattern-made : (out now : List ℕ) → length out ≡ 29 → now ≡ leaves extended list out → take (width_of extended) now ≡ pattern_of (width_of extended) list
  unfolding written
  pattern-made out now long e =
      let here : listing_of extended list (length out) ≡ gives (through_of extended (registers_of_list extended list)) = ap (listing_of extended list) long ∙ made in
      let laid : now ≡ laid_first (pattern_of (width_of extended) list) out = e ∙ rw here in
      ap (take (width_of extended)) laid ∙ take_at (pattern_of (width_of extended) list) _ (width_of extended) (pattern-long extended list)

pub all-within : (limit : ℕ) (hex : Bool) (text list : List ℕ) → listed list ≡ found_in limit hex text → first_above limit list ≡ length list
all-within limit hex text list e = by (found_in limit hex text) (sym e) (found_within limit hex text)
  where
    by : (f : Found) → f ≡ listed list → AllWithin limit f → AllWithin limit (listed list)
    by f p a = rw p at a

-- a list within its limit is refused only where it is empty
pub listed-none : (extended : Bool) (list : List ℕ) (f : Refusal) → first_above (limit_of extended) list ≡ length list → listed_said (Err f) ≡ listed_of extended list 29 → none_text ≡ list_text extended list
listed-none extended [] f within e = refl
listed-none extended (n ∷ list) f within e = absurd (not-refused extended (n ∷ list) (omega arith) within f e)

pub listed-some : (extended : Bool) (list : List ℕ) (l : Listed) → listed_said (Ok l) ≡ listed_of extended list 29 → 0 < length list
unfolding listing_of
listed-some extended [] l e = absurd (false≢true (sym (ap (λ (p : Said ℕ × List ℕ). accepted p.0) e)))
listed-some extended (n ∷ list) l e = omega arith

pub list-filter : (extended : Bool) (list : List ℕ) → 0 < length list → filter_text extended list ≡ list_text extended list
list-filter extended [] some = absurd (omega arith)
list-filter extended (n ∷ list) some = refl
