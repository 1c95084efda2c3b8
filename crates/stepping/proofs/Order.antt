-- The order in which candidates are settled: by weight, then node, then link, then next.
use Rattle.std.proofs.Common.{◌≡◌, ℕ, ◌<◌, Bool, true, false, not, ◌&&◌, ◌||◌, T, eqb, ltb, ◌⊎◌, inl, inr, arith}
use Rattle.std.proofs.lemmas.Bool.{and_parts, and_cases, or_cases, or_parts, not-true, not-false, cases_Bool}
use Rattle.std.proofs.lemmas.Bool.Decides.{nat_tests}
use Rattle.std.proofs.lemmas.Float.{T_from_true}
use Rattle.weights.specs.Algebra.{Algebra, Laws}
use Rattle.stepping.specs.declared.Label.{Label}
use Rattle.stepping.specs.Crossing.{precedes, lower}
use Rattle.stepping.specs.Choice.{Precedes, by_weight, by_node, by_link, by_next}
use Rattle.stepping.proofs.Tests.{false_T}
use Rattle.stepping.proofs.Weights.{NotBefore, not_before_trans, before_not_after, same_weight}

-- the order of three numbers, of which `lower` is the case of labels
abbrev low : ℕ → ℕ → ℕ → ℕ → ℕ → ℕ → Bool
low a b c d e f = ltb a d || (eqb a d && (ltb b e || (eqb b e && ltb c f)))

low_trans : (a b c d e f g h i : ℕ) → low d e f a b c ≡ false → low g h i d e f ≡ false
    → low g h i a b c ≡ false
low_trans a b c d e f g h i p q = grind (arith, nat_tests)

low_one_way : (a b c d e f : ℕ) → low a b c d e f ≡ true → low d e f a b c ≡ false
low_one_way a b c d e f p = grind (arith, nat_tests)

low_refl : (a b c : ℕ) → low a b c a b c ≡ false
low_refl a b c = grind (arith, nat_tests)

low_cases : (a b c d e f : ℕ) → low d e f a b c ≡ false
    → (a < d) ⊎ ((a ≡ d) × ((b < e) ⊎ ((b ≡ e) × ((c < f) ⊎ (c ≡ f)))))
low_cases a b c d e f p = grind (arith, nat_tests)

-- x may be settled no later than y
abbrev pub NotAfter : (A : Algebra) → Label A.Weight → Label A.Weight → Type 0
NotAfter A x y =
    T (A.before x.weight y.weight) ⊎ (NotBefore A y.weight x.weight × (lower y x ≡ false))

-- x and y are settled from one link and one label
pub record Tied (A : Algebra) (x y : Label A.Weight) : Type 0 where
  pub weight : x.weight ≡ y.weight
  pub node : x.node ≡ y.node
  pub link : x.link ≡ y.link
  pub next : x.next ≡ y.next

module _ (A : Algebra) (laws : Laws A) where
  pub not_after_refl : (x : Label A.Weight) → NotAfter A x x
  not_after_refl x = inr (laws.before_irrefl x.weight, low_refl x.node x.link x.next)

  pub not_after_trans : (x y z : Label A.Weight) → NotAfter A x y → NotAfter A y z → NotAfter A x z
  not_after_trans x y z p q =
      elim (cases_Bool (A.before x.weight z.weight)) [
        | inl e ↦ inl (T_from_true (A.before x.weight z.weight) e)
        | inr e ↦
            let h = false_T (A.before x.weight z.weight) e in
            elim p [
              | inl k ↦
                  absurd (elim q [
                    | inl m ↦ h (laws.before_trans x.weight y.weight z.weight k m)
                    | inr m ↦ not_before_trans A laws y.weight z.weight x.weight m.0 h k
                  ])
              | inr k ↦
                  elim q [
                    | inl m ↦ absurd (not_before_trans A laws z.weight x.weight y.weight h k.0 m)
                    | inr m ↦
                        inr (
                          not_before_trans A laws x.weight y.weight z.weight k.0 m.0,
                          low_trans x.node x.link x.next y.node y.link y.next z.node z.link z.next k.1 m.1,
                        )
                  ]
            ]
      ]

  pub precedes_won : (x y : Label A.Weight) → precedes A x y ≡ true → NotAfter A x y
  precedes_won x y e =
      let back = A.before y.weight x.weight in
      elim (or_cases (A.before x.weight y.weight) (not back && lower x y) e) [
        | inl k ↦ inl (T_from_true (A.before x.weight y.weight) k)
        | inr k ↦
            let h = and_parts (not back) (lower x y) k in
            inr (
              false_T back (not-true back h.0),
              low_one_way x.node x.link x.next y.node y.link y.next h.1,
            )
      ]

  pub precedes_lost : (x y : Label A.Weight) → precedes A x y ≡ false → NotAfter A y x
  precedes_lost x y e =
      let back = A.before y.weight x.weight in
      let h = or_parts (A.before x.weight y.weight) (not back && lower x y) e in
      elim (and_cases (not back) (lower x y) h.1) [
        | inl k ↦ inl (T_from_true back (not-false back k))
        | inr k ↦ inr (false_T (A.before x.weight y.weight) h.0, k)
      ]

  pub not_after_weight : (x y : Label A.Weight) → NotAfter A x y → NotBefore A y.weight x.weight
  not_after_weight x y p =
      elim p [ inl k ↦ before_not_after A laws x.weight y.weight k | inr k ↦ k.0 ]

  pub not_after_cases : (x y : Label A.Weight) → NotAfter A x y → Tied A x y ⊎ Precedes A x y
  not_after_cases x y (inl k) = inr (by_weight k)
  not_after_cases x y (inr k) =
      elim (cases_Bool (A.before x.weight y.weight)) [
        | inl t ↦ inr (by_weight (T_from_true (A.before x.weight y.weight) t))
        | inr t ↦
            let w = same_weight A laws x.weight y.weight (false_T (A.before x.weight y.weight) t) k.0 in
            elim (low_cases x.node x.link x.next y.node y.link y.next k.1) [
              | inl n ↦ inr (by_node w n)
              | inr n ↦
                  elim n.1 [
                    | inl l ↦ inr (by_link w n.0 l)
                    | inr l ↦
                        elim l.1 [
                          | inl h ↦ inr (by_next w n.0 l.0 h)
                          | inr h ↦ inl (record { weight = w; node = n.0; link = l.0; next = h })
                        ]
                  ]
            ]
      ]
