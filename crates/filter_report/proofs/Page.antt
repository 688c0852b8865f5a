-- Texts one behind another on a page that has room for them, and numbers in hexadecimal. Assumes nothing.
use Prim.Native.Nat.{ℕ, ◌+◌, ◌*◌, ◌/◌, ◌%◌, ◌≤◌, ◌<◌}
use mathlib.Core.Path.{◌≡◌, refl, sym, ap, ◌∙◌}
use mathlib.Core.List.{List, [], ◌∷◌, ◌++◌, append_assoc, append-nil}
use lib.ListN.{length, get_or, take, length-append}
use lib.Seq.{take-suc}
use native.Mathlib.Numerals.{add-one}
use native.Mathlib.Omega.{arith}
use borrow.Author.Tests.{le-leb}
use Rattle.text.specs.Page.{added}
use Rattle.laws.specs.Ascii.{ascii}
use Rattle.filter_report.specs.Hex.{hex_digit, hex_of}
use Rattle.filter_report.specs.Text.{registers_text}

-- ---- one text behind another
pub added_is : (page text now : List ℕ) → length page + length text ≤ 512 → now ≡ added 512 page text → now ≡ page ++ text
unfolding added
added_is page text now room e = e ∙ rw (le-leb (length page + length text) 512 room)

pub behind : (page text now more : List ℕ) → now ≡ page ++ text → now ++ more ≡ page ++ (text ++ more)
behind page text now more e = ap (λ (l : List ℕ). l ++ more) e ∙ append_assoc page text more

pub long : (page text now : List ℕ) → now ≡ page ++ text → length now ≡ length page + length text
long page text now e = ap length e ∙ length-append page text

pub empty : (page text : List ℕ) → text ≡ [] → page ≡ page ++ text
empty page text e = sym (ap (λ (l : List ℕ). page ++ l) e ∙ append-nil page)

-- three texts
module _ (page a b c p₁ p₂ p₃ : List ℕ) (e₁ : p₁ ≡ added 512 page a) (e₂ : p₂ ≡ added 512 p₁ b) (e₃ : p₃ ≡ added 512 p₂ c) (room : length page + length a + length b + length c ≤ 512) where
  first : p₁ ≡ page ++ a
  first = added_is page a p₁ (omega arith) e₁

  second : p₂ ≡ p₁ ++ b
  second = added_is p₁ b p₂ (omega (arith, long page a p₁ first)) e₂

  third : p₃ ≡ p₂ ++ c
  third = added_is p₂ c p₃ (omega (arith, long page a p₁ first, long p₁ b p₂ second)) e₃

  pub three-long : length p₃ ≡ length page + length a + length b + length c
  three-long = omega (arith, long page a p₁ first, long p₁ b p₂ second, long p₂ c p₃ third)

  pub three : (more : List ℕ) → p₃ ++ more ≡ page ++ (a ++ (b ++ (c ++ more)))
  three more = behind p₂ c p₃ more third ∙ behind p₁ b p₂ (c ++ more) second ∙ behind page a p₁ (b ++ (c ++ more)) first

-- two more, of which a function of its own put the first
pub five : (page a b c d e p₁ p₂ p₃ p₄ p₅ : List ℕ) → length page + length a + length b + length c + length d + length e ≤ 512
    → p₁ ≡ added 512 page a → p₂ ≡ added 512 p₁ b → p₃ ≡ added 512 p₂ c → p₄ ≡ p₃ ++ d → p₅ ≡ added 512 p₄ e → p₅ ≡ page ++ (a ++ (b ++ (c ++ (d ++ e))))
five page a b c d e p₁ p₂ p₃ p₄ p₅ room e₁ e₂ e₃ e₄ e₅ =
    let before : length p₃ ≡ length page + length a + length b + length c = three-long page a b c p₁ p₂ p₃ e₁ e₂ e₃ (omega arith) in
    added_is p₄ e p₅ (omega (arith, before, long p₃ d p₄ e₄)) e₅ ∙ behind p₃ d p₄ e e₄ ∙ three page a b c p₁ p₂ p₃ e₁ e₂ e₃ (omega arith) (d ++ e)

-- ---- bytes in hexadecimal
hex-more : (a : List ℕ) (byte : ℕ) → hex_of (a ++ (byte ∷ [])) ≡ hex_of a ++ (hex_digit (byte / 16) ∷ hex_digit (byte % 16) ∷ [])
unfolding hex_of
hex-more [] byte = refl
hex-more (b ∷ a) byte = ap (λ (l : List ℕ). hex_digit (b / 16) ∷ hex_digit (b % 16) ∷ l) (hex-more a byte)

pub hex-long : (a : List ℕ) → length (hex_of a) ≡ 2 * length a
unfolding hex_of
hex-long [] = refl
hex-long (b ∷ a) = omega (arith, hex-long a)

pub hex-none : hex_of [] ≡ []
unfolding hex_of
hex-none = refl

pub hex-turn : (bytes : List ℕ) (i : ℕ) → i < length bytes → hex_of (take i bytes) ++ (hex_digit (get_or bytes i 0 / 16) ∷ hex_digit (get_or bytes i 0 % 16) ∷ []) ≡ hex_of (take (i + 1) bytes)
hex-turn bytes i h = sym (hex-more (take i bytes) (get_or bytes i 0)) ∙ ap hex_of (sym (take-suc bytes i 0 h) ∙ ap (λ (n : ℕ). take n bytes) (sym (add-one i)))

-- a turn of a loop: one text more behind those that a list's front makes
pub turn : (first part page text now next : List ℕ) → page ≡ first ++ part → now ≡ page ++ text → part ++ text ≡ next → now ≡ first ++ next
turn first part page text now next e n s = n ∙ behind first part page text e ∙ ap (λ (l : List ℕ). first ++ l) s

-- ---- a pattern and its registers
pub registers-long : (pattern registers : List ℕ) → length pattern ≤ 29 → length registers ≤ 8 → length (registers_text pattern registers) ≤ 65
unfolding registers_text
registers-long pattern registers p r =
    let hex = hex_of registers in
    omega (
      arith,
      hex-long registers,
      length-append pattern (ascii "\nregisters " ++ (hex ++ ascii "\n")),
      length-append hex (ascii "\n"),
    )
