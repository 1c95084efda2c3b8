-- What the laws of a weight kind give of its two orders.
use Rattle.std.proofs.Common.{◌≡◌, T, sym, subst, inl, inr}
use Rattle.std.proofs.lemmas.Bool.{cases_Bool}
use Rattle.std.proofs.lemmas.Float.{T_from_true}
use Rattle.weights.specs.Algebra.{Algebra, Laws}
use Rattle.stepping.proofs.Tests.{false_T}

-- x is not before y
abbrev pub NotBefore : (A : Algebra) → A.Weight → A.Weight → Type 0
NotBefore A x y = T (A.before x y) → ⊥

module _ (A : Algebra) (laws : Laws A) where
  pub not_before_trans : (x y z : A.Weight) → NotBefore A y x → NotBefore A z y → NotBefore A z x
  not_before_trans x y z yx zy h =
      elim (laws.before_total x y (λ e. zy (subst (λ w. T (A.before z w)) e h))) [
        | inl k ↦ zy (laws.before_trans z x y h k)
        | inr k ↦ yx k
      ]

  pub before_not_after : (x y : A.Weight) → T (A.before x y) → NotBefore A y x
  before_not_after x y h k = laws.before_irrefl x (laws.before_trans x y x h k)

  -- what is not unlike is as good
  good_unless : (x y : A.Weight) → ((x ≡ y → ⊥) → ⊥) → T (A.good x y)
  good_unless x y h =
      elim (cases_Bool (A.good x y)) [
        | inl t ↦ T_from_true (A.good x y) t
        | inr t ↦ absurd (h (λ e. false_T (A.good x y) t (subst (λ w. T (A.good x w)) e (laws.good_refl x))))
      ]

  pub same_weight : (x y : A.Weight) → NotBefore A x y → NotBefore A y x → x ≡ y
  same_weight x y xy yx =
      let alike : (x ≡ y → ⊥) → ⊥ = λ d. elim (laws.before_total x y d) [ inl k ↦ xy k | inr k ↦ yx k ] in
      laws.good_antisym x y (good_unless x y alike) (good_unless y x (λ d. alike (λ e. d (sym e))))

  pub good_not_before : (x y : A.Weight) → T (A.good x y) → NotBefore A y x
  good_not_before x y g h =
      before_not_after y x h
      (laws.beats_before x y (g, λ e. laws.before_irrefl x (subst (λ w. T (A.before w x)) (sym e) h)))

  pub neutral_good : (x : A.Weight) → T (A.good A.neutral x)
  neutral_good x =
      subst (λ w. T (A.good A.neutral w)) (laws.neutral_left x) (laws.join_left A.neutral x)

  -- where x comes no later and is not as good, y is not as good either
  pub not_good_back : (x y : A.Weight) → NotBefore A y x → (T (A.good x y) → ⊥) → T (A.good y x) → ⊥
  not_good_back x y nb ng g =
      nb (laws.beats_before y x (g, λ e. ng (subst (λ w. T (A.good w y)) e (laws.good_refl y))))
