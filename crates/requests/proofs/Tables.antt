-- The runs of a table.
use Rattle.std.proofs.Common.{◌≡◌, ℕ, zero, suc, ◌-◌, ◌<◌, ◌≤◌, List, [], ◌∷◌, reverse, length, get_or, take, Some, None, Option, MatchOption, inl, inr, cond, ltb, refl, sym, subst, ap, ◌∙◌, arith}
use Rattle.std.specs.Option.{unwrap_or}
use Rattle.std.specs.List.{slice_get}
use Rattle.std.proofs.lemmas.List.{length-reverse, get_or-reverse, reverse-append, take_all, length-take-le}
use Rattle.std.proofs.Math.Seq.{take-suc}
use Rattle.std.proofs.lemmas.Bool.{cases_lt, lt-ltb, le-ltb, cond-true, cond-false}
use Rattle.histories.specs.Runs.{position}
use Rattle.std.proofs.lemmas.Option.{slice_get-get_or}
use Rattle.stepping.specs.declared.Run.{Run}

-- the last is the first of the reversed
pub last_first : {X : Type 0} (xs : List X) → slice_get xs (length xs - 1) ≡ slice_get (reverse xs) 0
last_first [] = refl
last_first (x ∷ xs) =
    let all = x ∷ xs in
    let e : length all - 1 ≡ length all - 1 - 0 = omega arith in
    let first : 0 < length (reverse all) = omega (arith, length-reverse all) in
    slice_get-get_or all (length all - 1) x (omega arith)
    ∙ ap Some (ap (λ i. get_or all i x) e ∙ sym (get_or-reverse all 0 x (omega arith)))
    ∙ sym (slice_get-get_or (reverse all) 0 x first)

-- the position of a label, where the runs that start above its key are passed over from the latest on
module _ (xs : List Run) (k : ℕ) where
  abbrev start : ℕ → ℕ
  start j = (get_or xs j (record { start = 0; length = 0 })).start

  shorter : (n : ℕ) → n < length xs → position (reverse (take (suc n) xs)) k ≡ cond (ltb k (start n)) (position (reverse (take n xs)) k) (length (reverse (take n xs)))
  shorter n l = ap (λ rs. position (reverse rs) k) (take-suc xs n (record { start = 0; length = 0 }) l) ∙ ap (λ rs. position rs k) (reverse-append (take n xs) _)

  settled_by : (i n : ℕ) → i < n → n ≤ length xs → start i ≤ k → ((j : ℕ) → i < j → j < n → k < start j) → position (reverse (take n xs)) k ≡ i
  settled_by i zero l w s h = absurd (let z : ◌≡◌ {A = ℕ} 0 1 = omega arith in omega arith)
  settled_by i (suc n) l w s h =
      elim (cases_lt i n) [
        | inl j ↦
            shorter n (omega arith)
            ∙ cond-true _ _ _ (lt-ltb k (start n) (h n j (omega arith)))
            ∙ settled_by i n j (omega arith) s (λ m a b. h m a (omega arith))
        | inr j ↦
            let e : n ≡ i = omega arith in
            shorter n (omega arith)
            ∙ cond-false _ _ _ (le-ltb k (start n) (subst (λ m. start m ≤ k) (sym e) s))
            ∙ (length-reverse (take n xs) ∙ length-take-le n xs (omega arith) ∙ e)
      ]

  before_all : (n : ℕ) → n ≤ length xs → ((j : ℕ) → j < n → k < start j) → position (reverse (take n xs)) k ≡ 0
  before_all zero w h = refl
  before_all (suc n) w h =
      shorter n (omega arith)
      ∙ cond-true _ _ _ (lt-ltb k (start n) (h n (omega arith)))
      ∙ before_all n (omega arith) (λ j l. h j (omega arith))

  pub latest_from : (r : Option ℕ)
      → MatchOption r ((j : ℕ) → j < length xs → k < start j) (λ i. (i < length xs) × (start i ≤ k) × ((j : ℕ) → i < j → j < length xs → k < start j))
      → unwrap_or r 0 ≡ position (reverse xs) k
  latest_from None h = sym (ap (λ rs. position (reverse rs) k) (sym (take_all (length xs) xs (omega arith))) ∙ before_all (length xs) (omega arith) h)
  latest_from (Some i) h = sym (ap (λ rs. position (reverse rs) k) (sym (take_all (length xs) xs (omega arith))) ∙ settled_by i (length xs) h.0 (omega arith) h.1 h.2)
