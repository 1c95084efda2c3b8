-- Numbers up to a cap.
--   UpTo cap    a number that is at most cap
--   cut cap n   the lesser of n and cap
use Rattle.std.specs.Prelude.{◌≡◌, ℕ, ◌≤◌, min, T, nat_le}
use Rattle.std.proofs.Common.{ap, subst, leb→le, le→leb}
use Rattle.std.proofs.Math.Dec.{T_prop}
use Rattle.std.proofs.Math.Nat.{min-le_right}

pub record UpTo (cap : ℕ) : Type 0 where
  pub amount : ℕ
  pub low : T (nat_le amount cap)

abbrev pub cut : (cap n : ℕ) → UpTo cap
cut cap n = record { amount = min n cap; low = le→leb (min n cap) cap (min-le_right n cap) }

pub within : {cap : ℕ} (a : UpTo cap) → a.amount ≤ cap
within {cap} a = leb→le a.amount cap a.low

made : (cap n : ℕ) → T (nat_le n cap) → UpTo cap
made cap n p = record { amount = n; low = p }

pub same_amount : (cap : ℕ) (a b : UpTo cap) → a.amount ≡ b.amount → a ≡ b
unfolding made
same_amount cap a b e =
    subst
    (λ (k : ℕ). (q : T (nat_le k cap)) → a ≡ made cap k q)
    e
    (λ q. ap (made cap a.amount) (T_prop _ a.low q))
    b.low
