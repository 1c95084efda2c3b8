-- What a crossing answered and left, as the theory says it.
use Rattle.std.proofs.Common.{◌≡◌, ℕ, ◌+◌, ◌≤◌, List, ◌++◌, length, take, drop, None, Ok, Err, Result, sym, ap, ◌∙◌, arith}
use Rattle.std.proofs.lemmas.List.{length-append, length-take, length-drop}
use Rattle.weights.specs.Algebra.{Algebra}
use Rattle.carriers.specs.declared.refusals.Refusal.{Refusal}
use Rattle.stepping.specs.Labels.{Labels}
use Rattle.stepping.specs.Crossing.{Outcome, done, full}
use Rattle.crossing.specs.Crossed.{answer_of, memory_of}
use Rattle.histories.specs.Runs.{used}
use Rattle.histories.specs.Stages.{Progress, After, opened}
use Rattle.histories.specs.Crossings.{with_run, written, crossed}

-- the answer and the labels after a crossing with the outcome o
pub record Told (A : Algebra) (P : Progress A.Weight) (M : Labels A) (r : Result ℕ Refusal) (L : Labels A) (o : Outcome A.Weight) : Type 0 where
  pub answer : r ≡ answer_of None o
  pub labels : L ≡ memory_of A (used P.runs) M None o

abbrev after : (A : Algebra) → Progress A.Weight → Labels A → Result ℕ Refusal → After A.Weight ℕ
after A p m r = record { stage = opened p; labels = m; answer = r }

written_length : {X : Type 0} (n : ℕ) (m run : List X) → n ≤ length m → length (written n m run) ≡ length m → n + length run ≤ length m
written_length n m run l e =
    omega (arith, length-append (take n m) (run ++ drop (n + length run) m), length-append run (drop (n + length run) m), length-take n m, length-drop (n + length run) m)

module _ (A : Algebra) (P : Progress A.Weight) (M L : Labels A) (r : Result ℕ Refusal) where
  pub ended : (Q : Progress A.Weight) (n : ℕ) (o : Outcome A.Weight)
      → r ≡ Ok n
      → Told A P M r L o
      → Q ≡ with_run P n
      → record { stage = opened Q; labels = L; answer = r } ≡ crossed A P M opened length o
  ended Q n (done run) is t q = let e : n ≡ length run = cc (is, t.answer) in cc (t.labels, q, e)
  ended Q n full is t q = absurd (cc (is, t.answer))

  pub stopped : (e : Refusal) (o : Outcome A.Weight)
      → r ≡ Err e
      → Told A P M r L o
      → record { stage = opened P; labels = L; answer = r } ≡ crossed A P M opened length o
  stopped e (done run) is t = absurd (cc (is, t.answer))
  stopped e full is t = cc (t.answer, t.labels)

  pub run_within : (n : ℕ) (o : Outcome A.Weight)
      → r ≡ Ok n
      → Told A P M r L o
      → used P.runs ≤ length M
      → length L ≡ length M
      → used P.runs + n ≤ length M
  run_within n (done run) is t h long =
      let e : n ≡ length run = cc (is, t.answer) in
      let w : used P.runs + length run ≤ length M = written_length (used P.runs) M run h (sym (ap length t.labels) ∙ long) in
      omega arith
  run_within n full is t h long = absurd (cc (is, t.answer))
