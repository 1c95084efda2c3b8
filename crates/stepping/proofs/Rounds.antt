-- What links make of labels in so many rounds, from the beginning of a run on, and how much that is.
use Rattle.std.proofs.Common.{◌≡◌, ℕ, zero, suc, ◌+◌, ◌*◌, ◌^◌, ◌≤◌, Bool, true, ◌&&◌, eqb, [], ◌∷◌, ◌++◌, length, Some, None, Option, mul_comm, pow-suc, mul-add, arith, length-append}
use native.Mathlib.Nat.{one-le-pow}
use Rattle.std.specs.List.{range_with_len}
use Rattle.std.proofs.lemmas.Nat.{mul-le}
use Rattle.std.proofs.lemmas.List.FromFn.{length-range_with_len}
use Rattle.std.proofs.lemmas.Bool.{cond_both}
use Rattle.weights.specs.Algebra.{Algebra}
use Rattle.carriers.specs.declared.sides.Side.{Side}
use Rattle.carriers.specs.declared.sides.Side.TheVariants.{Inside, Onward}
use Rattle.carriers.specs.Carrier.{Link}
use Rattle.stepping.specs.declared.Label.{Label}
use Rattle.stepping.specs.Labels.{Labels}
use Rattle.stepping.specs.View.{View}
use Rattle.stepping.specs.Candidates.{made, of_labels, of_side, of_place, candidates}
use Rattle.stepping.specs.Crossing.{beginning_at, beginning}
use Rattle.stepping.proofs.Joined.{length_joined}

le_pow : (b m : ℕ) → 1 ≤ b → b ≤ b ^ suc m
le_pow b m h =
    let p = one-le-pow m b h in
    let q : 1 * b ≤ b ^ m * b = mul-le 1 b (b ^ m) b p (omega arith) in
    let r = pow-suc b m in
    omega arith

-- one round more: at most one label to begin with, and what p links make of w labels or of e of the run before
grown : (p e w m : ℕ) → w ≤ (p + e + 2) ^ suc m → suc (p * (w + e)) ≤ (p + e + 2) ^ suc (suc m)
grown p e w m h =
    let b = p + e + 2 in
    let x = b ^ suc m in
    let power : b ^ suc (suc m) ≡ x * b = pow-suc b (suc m) in
    let pos : 1 ≤ x = one-le-pow (suc m) b (omega arith) in
    let large : b ≤ x = le_pow b m (omega arith) in
    let s0 : p * (w + e) ≡ p * w + p * e = mul-add p w e in
    let s1 : p * w ≤ p * x = mul-le p w p x (omega arith) h in
    let s2 : p * e ≤ x * e = mul-le p e x e (omega arith) (omega arith) in
    let s3 : x * b ≡ x * (p + e) + x * 2 = mul-add x (p + e) 2 in
    let s4 : x * (p + e) ≡ x * p + x * e = mul-add x p e in
    let s5 : p * x ≡ x * p = mul_comm p x in
    omega arith

module _ (A : Algebra) (V : View A) where
  abbrev pub rounds : ℕ → Labels A
  rounds zero = []
  rounds (suc m) = beginning A V ++ candidates A V (rounds m)

  length_labels : (p : ℕ) (l : Link A.Weight) (pass : Label A.Weight → Bool) (k : ℕ) (ys : Labels A)
      → length (of_labels A V p l pass k ys) ≤ length ys
  length_labels p l pass k [] = omega arith
  length_labels p l pass k (y ∷ ys) =
      let b = length_labels p l pass (suc k) ys in
      cond_both
      (eqb y.node l.head && pass y)
      (made A V p l k y ∷ of_labels A V p l pass (suc k) ys)
      (of_labels A V p l pass (suc k) ys)
      (λ zs. length zs ≤ suc (length ys))
      (λ _. omega arith)
      (λ _. omega arith)

  module _ (run : Labels A) where
    length_side : (p : ℕ) (l : Link A.Weight) (s : Side)
        → length (of_side A V run p l s) ≤ length run + length V.before
    length_side p l Inside = let h = length_labels p l (λ y. true) V.start run in omega arith
    length_side p l Onward = let h = length_labels p l (λ y. y.mark) V.before_start V.before in omega arith

    length_place : (p : ℕ) (o : Option (Link A.Weight))
        → length (of_place A V run p o) ≤ length run + length V.before
    length_place p None = omega arith
    length_place p (Some l) = length_side p l l.side

    length_candidates : length (candidates A V run) ≤ V.places * (length run + length V.before)
    length_candidates =
        rw (length-range_with_len 0 V.places) at
        (length_joined
        (λ p. of_place A V run p (V.at p))
        (range_with_len 0 V.places)
        (length run + length V.before)
        (λ p. length_place p (V.at p)))

  length_beginning_at : (o : Option ℕ) → length (beginning_at A V o) ≤ 1
  length_beginning_at None = omega arith
  length_beginning_at (Some t) = omega arith

  pub length_beginning : length (beginning A V) ≤ 1
  length_beginning = length_beginning_at V.destination

  pub length_rounds : (m : ℕ) → length (rounds m) ≤ (V.places + length V.before + 2) ^ suc m
  length_rounds zero = omega arith
  length_rounds (suc m) =
      let a = length-append (beginning A V) (candidates A V (rounds m)) in
      let b = length_beginning in
      let c = length_candidates (rounds m) in
      let d = grown V.places (length V.before) (length (rounds m)) m (length_rounds m) in
      omega arith
