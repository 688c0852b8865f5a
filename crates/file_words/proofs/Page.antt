-- Texts put on a page one behind another: a number between two texts, and two of them. Assumes nothing.
use Rattle.std.proofs.Common.{◌≡◌, ℕ, ◌+◌, ◌^◌, ◌≤◌, ◌<◌, List, [], ◌++◌, length, ap, ◌∙◌, append_assoc, length-append, arith}
use Rattle.text.specs.Decimal.{decimal}
use Rattle.text.specs.Page.{added}
use Rattle.text.proofs.Decimal.{decimal-most}
use Rattle.text.proofs.Pages.{added-fits}
use Rattle.file_words.specs.Words.{around}

pub number-added : (page before behind one two three : List ℕ) (n : ℕ) → n < 2 ^ 64 → length page + length before + length behind + 20 ≤ 128
    → one ≡ added 128 page before → two ≡ added 128 one (decimal n) → three ≡ added 128 two behind → three ≡ page ++ around before n behind
unfolding around
number-added page before behind one two three n fits room e₁ e₂ e₃ =
    let few = decimal-most n fits in
    let first : one ≡ page ++ before = e₁ ∙ added-fits 128 page before (omega arith) in
    let long : length one ≡ length page + length before = ap length first ∙ length-append page before in
    let second : two ≡ one ++ decimal n = e₂ ∙ added-fits 128 one (decimal n) (omega (arith, long)) in
    let longer : length two ≡ length one + length (decimal n) = ap length second ∙ length-append one (decimal n) in
    e₃ ∙ added-fits 128 two behind (omega (arith, long, longer))
    ∙ ap (λ t. t ++ behind) (second ∙ ap (λ t. t ++ decimal n) first)
    ∙ simp append_assoc

pub around-long : (a b : List ℕ) (n : ℕ) → n < 2 ^ 64 → length (around a n b) ≤ length a + length b + 20
unfolding around
around-long a b n fits = simp length-append (omega (arith, decimal-most n fits))

-- a second number between two texts goes into the text behind the first
pub regrouped : (a b d : List ℕ) (n m : ℕ) → around a n b ++ around [] m d ≡ around a n (around b m d)
unfolding around
regrouped a b d n m = simp append_assoc
