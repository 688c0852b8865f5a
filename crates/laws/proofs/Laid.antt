-- Texts laid into an output: one behind another, by a store, and by a callee that is lent the rest. Assumes nothing.
use Prim.Native.Nat.{ℕ, ◌+◌, ◌-◌, ◌≤◌, ◌<◌}
use mathlib.Core.Path.{◌≡◌, sym, ap, ap₂, ◌∙◌}
use mathlib.Core.Bool.{true, false}
use mathlib.Core.List.{List, [], ◌∷◌, ◌++◌, append_assoc, append-nil}
use lib.Dec.{leb}
use lib.ListN.{length, get_or, take, drop, set, length-append, length-drop, length-take, drop_of_length-le, take-append-drop}
use lib.Seq.{drop-cons, take-suc, take_all, take_at, take-length, drop_at, set_split, length-take-le, drop-drop, paste}
use native.Mathlib.Numerals.{add-one}
use native.Mathlib.Omega.{arith}
use borrow.Author.Tests.{le-leb, lt-leb}
use borrow.Rule.Slice.PartMut.{put_mid, post_of}
use Rattle.laws.specs.Said.{refuses, gives}
use Rattle.laws.specs.Laid.{laid_first, laid, laying, written}

pub length-laid : (at : ℕ) (t out : List ℕ) → at + length t ≤ length out → length (laid at t out) ≡ length out
length-laid at t out h = simp (length-append, length-take, length-drop) (omega arith)

pub laid-laid : (at : ℕ) (a b out : List ℕ) → at ≤ length out → laid (at + length a) b (laid at a out) ≡ laid at (a ++ b) out
laid-laid at a b out h =
    ap (laid (at + length a) b) shape
    ∙ ap₂ (λ (x y : List ℕ). x ++ laid_first b y) (take_at front rest (at + length a) long) (drop_at front rest (at + length a) long)
    ∙ append_assoc (take at out) a (b ++ drop (length b) rest)
    ∙ ap (λ (x : List ℕ). take at out ++ x) (sym (append_assoc a b (drop (length b) rest)) ∙ ap (λ (x : List ℕ). (a ++ b) ++ x) behind)
  where
    front : List ℕ
    front = take at out ++ a

    rest : List ℕ
    rest = drop (length a) (drop at out)

    shape : laid at a out ≡ front ++ rest
    shape = sym (append_assoc (take at out) a rest)

    long : length front ≡ at + length a
    long = length-append (take at out) a ∙ ap (λ (n : ℕ). n + length a) (length-take-le at out h)

    behind : drop (length b) rest ≡ drop (length (a ++ b)) (drop at out)
    behind = drop-drop (length b) (length a) (drop at out) ∙ ap (λ (n : ℕ). drop n (drop at out)) (sym (length-append a b))

-- a store
pub set-laid : (i x : ℕ) (out : List ℕ) → i < length out → set out i x ≡ laid i (x ∷ []) out
set-laid i x out h = set_split out i x h ∙ ap (λ (l : List ℕ). take i out ++ (x ∷ l)) (rw (drop-cons out i 0 h))

-- a callee that was lent the output from `at` on, and laid a text into its front
pub rest-is : (at : ℕ) (out : List ℕ) → take (length out - at) (drop at out) ≡ drop at out
rest-is at out = take_all (length out - at) (drop at out) (omega (arith, length-drop at out))

post-none : (at : ℕ) (out : List ℕ) → at ≤ length out → post_of at (length out - at) out ≡ []
post-none at out h = drop_of_length-le (drop at out) {i = length out - at} (simp length-drop (omega arith))

pub lent_laid : (at : ℕ) (t out e : List ℕ) → at ≤ length out → e ≡ laid_first t (take (length out - at) (drop at out)) → put_mid at (length out - at) out e ≡ laid at t out
lent_laid at t out e h p =
    ap (λ (x : List ℕ). take at out ++ x) (ap₂ (λ (x y : List ℕ). x ++ y) (p ∙ ap (laid_first t) (rest-is at out)) (post-none at out h) ∙ append-nil (laid_first t (drop at out)))

-- the same two laws where the place is said in other words
pub laid_then : (n at : ℕ) (a b out : List ℕ) → n ≡ at + length a → at ≤ length out → laid n b (laid at a out) ≡ laid at (a ++ b) out
laid_then n at a b out e h = ap (λ (k : ℕ). laid k b (laid at a out)) e ∙ laid-laid at a b out h

pub set_then : (n x at : ℕ) (a out : List ℕ) → n ≡ at + length a → n < length out → set (laid at a out) n x ≡ laid at (a ++ (x ∷ [])) out
set_then n x at a out e h = set-laid n x (laid at a out) (rw (length-laid at a out (omega arith)) h) ∙ laid_then n at a (x ∷ []) out e (omega arith)

pub laid_none : (at : ℕ) (out : List ℕ) → laid at [] out ≡ out
laid_none at out = take-append-drop at out

-- a text laid byte by byte
pub laid_more : (at i : ℕ) (text out now : List ℕ) → i < length text → at + length text ≤ length out → now ≡ laid at (take i text) out
    → set now (at + i) (get_or text i 0) ≡ laid at (take (i + 1) text) out
laid_more at i text out now h room e =
    ap (λ (l : List ℕ). set l (at + i) (get_or text i 0)) e
    ∙ set_then (at + i) (get_or text i 0) at (take i text) out (ap (λ (n : ℕ). at + n) (sym (length-take-le i text (omega arith)))) (omega arith)
    ∙ ap (λ (t : List ℕ). laid at t out) (sym (take-suc text i 0 h) ∙ ap (λ (n : ℕ). take n text) (sym (add-one i)))

-- laid is pasted whole
pub laid-paste : (at : ℕ) (text out : List ℕ) → laid at text out ≡ paste out at text (length text)
laid-paste at text out =
    ap (λ (l : List ℕ). take at out ++ (text ++ l)) (drop-drop (length text) at out)
    ∙ sym (append_assoc (take at out) text (drop (at + length text) out))
    ∙ rw take-length

-- the answer and the output, where room is asked for
pub laying-short : (text out : List ℕ) (n : ℕ) → n ≡ length text → length out < n → (refuses 6 (n ∷ []) ≡ laying text out) × (out ≡ written (laying text out) text out)
unfolding laying written
laying-short text out n e h =
    let short : leb (length text) (length out) ≡ false = lt-leb (length text) (length out) (omega arith) in
    (rw (short, e), rw short)

pub laying-fits : (text out now : List ℕ) (n : ℕ) → n ≡ length text → length text ≤ length out → now ≡ laid_first text out
    → (gives n ≡ laying text out) × (now ≡ written (laying text out) text out)
unfolding laying written
laying-fits text out now n e h en =
    let fits : leb (length text) (length out) ≡ true = le-leb (length text) (length out) h in
    (rw (fits, e), rw fits en)
