-- Laws of bitwise and and or: and is associative, an and absorbs an or, and an or spreads over an and.
use Rattle.std.specs.Prelude.{◌≡◌, ℕ, zero, suc, ◌+◌, ◌/◌, ◌%◌, ◌≤◌, min, max, bit_and, bit_or}
use Rattle.std.proofs.Common.{sym, ap, ◌∙◌, arith}
use Rattle.std.specs.Int.Bits.{and_step, or_step}

and_half : (a b : ℕ) → bit_and a b / 2 ≡ bit_and (a / 2) (b / 2)
and_half a b = let e = and_step a b in omega arith

and_odd : (a b : ℕ) → bit_and a b % 2 ≡ min (a % 2) (b % 2)
and_odd a b = let e = and_step a b in omega arith

or_half : (a b : ℕ) → bit_or a b / 2 ≡ bit_or (a / 2) (b / 2)
or_half a b = let e = or_step a b in omega arith

or_odd : (a b : ℕ) → bit_or a b % 2 ≡ max (a % 2) (b % 2)
or_odd a b = let e = or_step a b in omega arith

same_bits : (x y : ℕ) → x / 2 ≡ y / 2 → x % 2 ≡ y % 2 → x ≡ y
same_bits x y h l = omega arith

-- in each of these k is any number that none of a, b and c exceeds
and_assoc_to : (k a b c : ℕ) → a ≤ k → b ≤ k → c ≤ k → bit_and (bit_and a b) c ≡ bit_and a (bit_and b c)
and_assoc_to zero a b c ha hb hc = let ea : a ≡ 0 = omega arith in rw ea
and_assoc_to (suc k) a b c ha hb hc =
    same_bits _ _
    (and_half (bit_and a b) c ∙ ap (λ (x : ℕ). bit_and x (c / 2)) (and_half a b)
    ∙ and_assoc_to k (a / 2) (b / 2) (c / 2) (omega arith) (omega arith) (omega arith)
    ∙ sym (and_half a (bit_and b c) ∙ ap (bit_and (a / 2)) (and_half b c)))
    (let e1 = and_odd (bit_and a b) c in
    let e2 = and_odd a b in
    let e3 = and_odd a (bit_and b c) in
    let e4 = and_odd b c in
    omega arith)

absorb_to : (k a b : ℕ) → a ≤ k → b ≤ k → bit_and a (bit_or a b) ≡ a
absorb_to zero a b ha hb = let ea : a ≡ 0 = omega arith in rw ea
absorb_to (suc k) a b ha hb =
    same_bits _ _
    (and_half a (bit_or a b) ∙ ap (bit_and (a / 2)) (or_half a b) ∙ absorb_to k (a / 2) (b / 2) (omega arith) (omega arith))
    (let e1 = and_odd a (bit_or a b) in let e2 = or_odd a b in omega arith)

spread_to : (k c a b : ℕ) → c ≤ k → a ≤ k → b ≤ k → bit_and (bit_or c a) (bit_or c b) ≡ bit_or c (bit_and a b)
spread_to zero c a b hc ha hb =
    let ea : a ≡ 0 = omega arith in let eb : b ≡ 0 = omega arith in let ec : c ≡ 0 = omega arith in rw (ea, eb, ec)
spread_to (suc k) c a b hc ha hb =
    same_bits _ _
    (and_half (bit_or c a) (bit_or c b) ∙ ap (λ (x : ℕ). bit_and x (bit_or c b / 2)) (or_half c a)
    ∙ ap (bit_and (bit_or (c / 2) (a / 2))) (or_half c b)
    ∙ spread_to k (c / 2) (a / 2) (b / 2) (omega arith) (omega arith) (omega arith)
    ∙ sym (or_half c (bit_and a b) ∙ ap (bit_or (c / 2)) (and_half a b)))
    (let e1 = and_odd (bit_or c a) (bit_or c b) in
    let e2 = or_odd c a in
    let e3 = or_odd c b in
    let e4 = or_odd c (bit_and a b) in
    let e5 = and_odd a b in
    omega arith)

pub and_assoc : (a b c : ℕ) → bit_and (bit_and a b) c ≡ bit_and a (bit_and b c)
and_assoc a b c = and_assoc_to (a + b + c) a b c (omega arith) (omega arith) (omega arith)

pub and_absorbs_or : (a b : ℕ) → bit_and a (bit_or a b) ≡ a
and_absorbs_or a b = absorb_to (a + b) a b (omega arith) (omega arith)

pub or_spreads : (c a b : ℕ) → bit_and (bit_or c a) (bit_or c b) ≡ bit_or c (bit_and a b)
or_spreads c a b = spread_to (a + b + c) c a b (omega arith) (omega arith) (omega arith)
