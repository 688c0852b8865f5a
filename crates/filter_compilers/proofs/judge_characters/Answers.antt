-- `filter_compilers::judge_characters` meets its contract: what is behind is good, so the first that is not is still to come. Assumes nothing.
use Prim.Native.Nat.{ℕ, ◌<◌}
use mathlib.Core.Path.{◌≡◌, sym, ◌∙◌}
use mathlib.Core.List.{List, [], map}
use lib.ListN.{length, get_or, get_or-map, length-map}
use native.Mathlib.Omega.{arith}
use denote.Ref.{Bor}
use Rattle.laws.specs.Said.{Said}
use Rattle.refusals.specs.Table.{refusal_said}
use Rattle.refusals.specs.declared.Refusal.TheVariants.{PatternByte}
use Rattle.filter_characters.proofs.Characters.{first-there, first-none}
use Rattle.filter_compilers.proofs.Joined.{good-said, characters-next, characters-found, in-joined}
use Rattle.filter_compilers.proofs.judge_characters.Goals as goal

abbrev patterns_of : List (Bor (List ℕ)) → List (List ℕ)
patterns_of = map (λ p. p.now)

abbrev pattern_at : List (Bor (List ℕ)) → ℕ → List ℕ
pattern_at patterns k = (get_or patterns k record { ref_ptr = (0, 0); now = [] }).now

pattern-at : (patterns : List (Bor (List ℕ))) (k : ℕ) → get_or (patterns_of patterns) k [] ≡ pattern_at patterns k
pattern-at patterns k = get_or-map (λ p. p.now) patterns k record { ref_ptr = (0, 0); now = [] }

among : (patterns : List (Bor (List ℕ))) (k : ℕ) → k < length patterns → k < length (patterns_of patterns)
among patterns k h = omega (arith, length-map patterns (λ p. p.now))

-- a field that is told by an equal number
named : (n k place byte : ℕ) (said : Said ℕ) → n ≡ k → refusal_said (PatternByte k place byte) ≡ said → refusal_said (PatternByte n place byte) ≡ said
named n k place byte said e h = rw e h

pub returns-then-all_known : goal.returns-then-all_known
returns-then-all_known c =
    sym (good-said 0 (patterns_of c.args.patterns.now) (sym c.requires.2 ∙ sym c.all_known.ensures ∙ c.if-all_known.true))

pub overflow_cast-result-in-Some : goal.overflow_cast-result-in-Some
overflow_cast-result-in-Some c =
    let patterns = c.args.patterns.now in
    let k = c.loop-field.field in
    let room = rw (pattern-at patterns k) at (in-joined k (patterns_of patterns)) in
    omega (arith, (first-there (pattern_at patterns k) _ (sym c.in-Some.ensures)).1, room, c.requires.1)

pub returns-in-Some : goal.returns-in-Some
returns-in-Some c =
    let patterns = c.args.patterns.now in
    let k = c.loop-field.field in
    let first = first-there (pattern_at patterns k) _ (sym c.in-Some.ensures) in
    let known = sym (c.loop-field.invariant ∙ characters-found k (patterns_of patterns) _ (among patterns k c.loop-field-test.true) (pattern-at patterns k) _ first.0 first.1) in
    named _ k _ _ _ (grind arith) known

pub loop-field-preserved : goal.loop-field-preserved
loop-field-preserved c =
    let patterns = c.args.patterns.now in
    let k = c.loop-field.field in
    c.loop-field.invariant
    ∙ characters-next k (patterns_of patterns) _ (among patterns k c.loop-field-test.true) (pattern-at patterns k) (first-none (pattern_at patterns k) (sym c.in_default.ensures))
