-- The answers' lengths, which the calls alone decide. Assumes nothing.
use Prim.{Unit}
use Prim.Native.Nat.{ℕ, ◌+◌, ◌%◌}
use mathlib.Core.Path.{◌≡◌, refl, sym, ap, ap₂, ◌∙◌}
use mathlib.Core.Bool.{Bool, true, false, cond}
use mathlib.Core.List.{List, [], ◌∷◌, ◌++◌}
use lib.Dec.{eqb}
use lib.ListN.{length, get_or, length-append}
use native.Mathlib.Omega.{arith}
use Rattle.laws.specs.Said.{Said, refuses, gives}
use Rattle.laws.specs.Tabulate.{part}
use Rattle.box_records.specs.declared.Record.{Record}
use Rattle.box_queue.specs.declared.Queue.{Queue}
use Rattle.box_queue.specs.Ring as Q
use Rattle.box_fifo.specs.declared.Entry.{Entry}
use Rattle.box_fifo.specs.declared.Fifo.{Fifo}
use Rattle.box_fifo.specs.Ring as F
use Rattle.box_fifo.specs.Ring.{Outcome}
use Rattle.box_words.specs.declared.Words.{Words}
use Rattle.box_state.specs.declared.ReceiveBox.{ReceiveBox}
use Rattle.box_state.specs.Calls.{arrive_of, take_of}
use Rattle.box_drain.specs.declared.Command.{Command}
use Rattle.box_drain.specs.Answers.{Told, done, lost, finished}
use Rattle.box_drain.specs.Step.{step_of}
use Rattle.box_drain.specs.Start.{start_of}
use Rattle.box_drain.specs.Run.{arrives, takes, starts, steps}
use Rattle.box_script.specs.State.{words_at, words_bytes, entry_bytes, record_bytes, entries_bytes, fifo_bytes, places_bytes, queue_bytes, phase_byte, state_bytes}
use Rattle.box_script.specs.declared.call.Call.{Call}
use Rattle.box_script.specs.Format.{Asked, calls, loads, tells, first_byte, StandsAt, load_at, call_at}
use Rattle.box_script.specs.Answers.{arrival_bytes, take_bytes, start_bytes, step_bytes, call_answer, answer_of, next_of, answers_of, answer_length}
use Rattle.box_script.proofs.Filled.{joined-long}

pub arrival-bytes-long : (o : Said Outcome) → length (arrival_bytes o) ≡ 2
arrival-bytes-long (gives o) = refl
arrival-bytes-long (refuses n k) = refl

pub take-bytes-long : (o : Said Bool) (x : Record) → length (take_bytes o x) ≡ 16
take-bytes-long (gives b) x = refl
take-bytes-long (refuses n k) x = refl

pub start-bytes-long : (o : Said (Unit {0})) → length (start_bytes o) ≡ 1
start-bytes-long (gives t) = refl
start-bytes-long (refuses n k) = refl

pub step-bytes-long : (o : Said Told) (c : Command) (x : Record) → length (step_bytes o c x) ≡ 23
step-bytes-long (gives done) c x = refl
step-bytes-long (gives lost) c x = refl
step-bytes-long (gives (finished f)) c x = refl
step-bytes-long (refuses n k) c x = refl

pub entries-long : (es : List Entry) → length (entries_bytes es) ≡ 896
unfolding entries_bytes
entries-long es = joined-long 14 64 (λ i. entry_bytes (get_or es i F.nowhere)) (λ i. refl)

pub places-long : (xs : List Record) → length (places_bytes xs) ≡ 448
unfolding places_bytes
places-long xs = joined-long 14 32 (λ i. record_bytes (get_or xs i Q.nowhere)) (λ i. refl)

pub fifo-long : (f : Fifo) → length (fifo_bytes f) ≡ 899
fifo-long f = length-append (entries_bytes f.entries) (f.head % 256 ∷ f.count % 256 ∷ f.weight % 256 ∷ []) ∙ omega (arith, entries-long f.entries)

pub queue_long : (q : Queue) → length (queue_bytes q) ≡ 450
queue_long q = length-append (places_bytes q.places) (q.head % 256 ∷ q.count % 256 ∷ []) ∙ omega (arith, places-long q.places)

pub state-long : (g : ReceiveBox) → length (state_bytes g) ≡ 1376
unfolding state_bytes
state-long g =
    let rest : List ℕ = phase_byte g.phase ∷ (record_bytes g.held ++ words_bytes g.words) in
    let a = length-append (fifo_bytes g.fifo) (queue_bytes g.queue ++ rest) in
    let b = length-append (queue_bytes g.queue) rest in
    let c : length rest ≡ 27 = refl in
    omega (arith, fifo-long g.fifo, queue_long g.queue)

-- a call's answer, and those of several
pub size_of : Asked → ℕ
size_of (calls (arrives frame)) = 2
size_of (calls takes) = 16
size_of (calls (starts w)) = 1
size_of (calls steps) = 23
size_of (loads o) = 1
size_of tells = 1376

pub sizes_of : List Asked → ℕ
sizes_of [] = 0
sizes_of (c ∷ cs) = size_of c + sizes_of cs

pub sizes-none : sizes_of [] ≡ 0
unfolding sizes_of
sizes-none = refl

pub sizes-more : (c : Asked) (cs : List Asked) → sizes_of (c ∷ cs) ≡ size_of c + sizes_of cs
unfolding sizes_of
sizes-more c cs = refl

pub answer-size : (c : Asked) (g : ReceiveBox) → length (answer_of g c) ≡ size_of c
unfolding answer_of call_answer size_of
answer-size (calls (arrives frame)) g = arrival-bytes-long (arrive_of g frame).0
answer-size (calls takes) g = take-bytes-long (take_of g).0.0 (take_of g).0.1
answer-size (calls (starts w)) g = start-bytes-long (start_of g w).0
answer-size (calls steps) g = step-bytes-long (step_of g).0.0 (step_of g).0.1 (step_of g).0.2
answer-size (loads (gives h)) g = refl
answer-size (loads (refuses n k)) g = refl
answer-size tells g = state-long g

pub answers-size : (cs : List Asked) (g : ReceiveBox) → length (answers_of g cs) ≡ sizes_of cs
unfolding answers_of sizes_of
answers-size [] g = refl
answers-size (c ∷ cs) g =
    length-append (answer_of g c) (answers_of (next_of g c) cs) ∙ ap₂ (λ (m n : ℕ). m + n) (answer-size c g) (answers-size cs (next_of g c))

pub answers-none : (g : ReceiveBox) → answers_of g [] ≡ []
unfolding answers_of
answers-none g = refl

pub answers-more : (g : ReceiveBox) (c : Asked) (cs : List Asked) → answers_of g (c ∷ cs) ≡ answer_of g c ++ answers_of (next_of g c) cs
unfolding answers_of
answers-more g c cs = refl

-- the first byte says the same
by_first : (a b c d e : Bool) (frame : List ℕ) (w : Words) (o : Said ReceiveBox)
    → size_of (cond a (calls (arrives frame)) (cond b (calls takes) (cond c (calls (starts w)) (cond d (calls steps) (cond e (loads o) tells)))))
    ≡ cond a 2 (cond b 16 (cond c 1 (cond d 23 (cond e 1 1376))))
unfolding size_of
by_first true b c d e frame w o = refl
by_first false true c d e frame w o = refl
by_first false false true d e frame w o = refl
by_first false false false true e frame w o = refl
by_first false false false false true frame w o = refl
by_first false false false false false frame w o = refl

pub size-at : (s : List ℕ) (at : ℕ) → size_of (call_at s at) ≡ answer_length (get_or s at 0)
unfolding answer_length
size-at s at =
    by_first (eqb (get_or s at 0) 1) (eqb (get_or s at 0) 2) (eqb (get_or s at 0) 3) (eqb (get_or s at 0) 4) (eqb (get_or s at 0) 5)
    (part s (at + 1) 13) (words_at s (at + 1)) (load_at s (at + 1))

pub size-stands : (s : List ℕ) (c : Call) (at : ℕ) → StandsAt c s at → size_of (call_at s at) ≡ answer_length (first_byte c)
size-stands s c at stands = size-at s at ∙ ap answer_length (sym stands.first)
