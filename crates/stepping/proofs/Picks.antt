-- What the best of a list is, by a rule that says which of two comes first and a test of which may be taken.
use Rattle.std.proofs.Common.{◌≡◌, Bool, true, false, cond, List, [], ◌∷◌, Some, None, fold, Option, sym, refl, ◌∙◌, subst}
use Rattle.std.specs.List.{AllByRecursion as All}
use Rattle.std.proofs.lemmas.Bool.{cond_both, false≢true}
use Rattle.stepping.specs.Crossing.{better}
use Rattle.stepping.proofs.Places.{none_some, some_same}

-- the best of cs, from a best so far
abbrev pub pick : {X : Type 0} → (X → X → Bool) → (X → Bool) → Option X → List X → Option X
pick prior pass best cs = fold (λ b c. better prior (pass c) b c) best cs

module _ {X : Type 0} (prior : X → X → Bool) (pass : X → Bool) where
  -- where there is a best so far, there is a best
  pick_some : (cs : List X) (a : X) → pick prior pass (Some a) cs ≡ None → ⊥
  pick_some [] a e = none_some a (sym e)
  pick_some (c ∷ cs) a e =
      (elim (pass c) as (λ b. pick prior pass (better prior b (Some a) c) cs ≡ None → ⊥) [
        | true ↦ λ h. pick_some cs (cond (prior c a) c a) h
        | false ↦ λ h. pick_some cs a h
      ]) e

  -- where there is no best, none passes
  pub pick_none : (cs : List X) → pick prior pass None cs ≡ None → All (λ c. pass c ≡ false) cs
  pick_none [] e = tt
  pick_none (c ∷ cs) e =
      let None_pass : Bool → Type 0 =
      λ b. pass c ≡ b → pick prior pass (better prior b None c) cs ≡ None → All (λ x. pass x ≡ false) (c ∷ cs) in
      (elim (pass c) as None_pass [
        | true ↦ λ p h. absurd (pick_some cs c h)
        | false ↦ λ p h. (p, pick_none cs h)
      ]) refl e

  better_from : (Q : X → Type 0) (b : Bool) (o : Option X) (c : X) → ((a : X) → o ≡ Some a → Q a)
      → (b ≡ true → Q c) → (a : X) → better prior b o c ≡ Some a → Q a
  better_from Q false o c q h a e = q a e
  better_from Q true None c q h a e = subst Q (some_same c a e) (h refl)
  better_from Q true (Some x) c q h a e =
      subst Q (some_same (cond (prior c x) c x) a e) (cond_both (prior c x) c x Q (λ _. h refl) (λ _. q x refl))

  -- what holds of each that passes holds of the best
  pub pick_from : (Q : X → Type 0) (cs : List X) (o : Option X) (r : X) → ((a : X) → o ≡ Some a → Q a)
      → All (λ c. pass c ≡ true → Q c) cs → pick prior pass o cs ≡ Some r → Q r
  pick_from Q [] o r q all e = q r e
  pick_from Q (c ∷ cs) o r q all e =
      pick_from Q cs (better prior (pass c) o c) r (better_from Q (pass c) o c q all.0) all.1 e

  module _
      (R : X → X → Type 0)
      (R_trans : (x y z : X) → R x y → R y z → R x z)
      (won : (x y : X) → prior x y ≡ true → R x y)
      (lost : (x y : X) → prior x y ≡ false → R y x)
    where
      better_least : (b : Bool) (o : Option X) (c r : X) → ((a : X) → better prior b o c ≡ Some a → R r a)
          → ((a : X) → o ≡ Some a → R r a) × (b ≡ true → R r c)
      better_least false o c r h = (h, λ e. absurd (false≢true e))
      better_least true None c r h = (λ a e. none_some a e, λ _. h c refl)
      better_least true (Some x) c r h =
          let both : R r x × R r c =
          (elim (prior c x) as (λ b. prior c x ≡ b → R r (cond b c x) → R r x × R r c) [
            | true ↦ λ p k. (R_trans r c x k (won c x p), k)
            | false ↦ λ p k. (k, R_trans r x c k (lost c x p))
          ]) refl (h (cond (prior c x) c x) refl) in
          (λ a e. subst (R r) (some_same x a e) both.0, λ _. both.1)

      -- none that passes comes before the best, nor does the best so far
      pub pick_least : (R_refl : (x : X) → R x x) (cs : List X) (o : Option X) (r : X)
          → pick prior pass o cs ≡ Some r → ((a : X) → o ≡ Some a → R r a) × All (λ c. pass c ≡ true → R r c) cs
      pick_least R_refl [] o r e = (λ a k. subst (R r) (some_same r a (sym e ∙ k)) (R_refl r), tt)
      pick_least R_refl (c ∷ cs) o r e =
          let more = pick_least R_refl cs (better prior (pass c) o c) r e in
          let here = better_least (pass c) o c r more.0 in
          (here.0, (here.1, more.1))
