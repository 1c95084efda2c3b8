-- What following the nexts of labels gives, at a label without a link and at one with a link.
use Rattle.std.proofs.Common.{◌≡◌, ℕ, zero, suc, ◌<◌, ◌≤◌, Bool, true, false, cond, eqb, ltb, List, [], ◌∷◌, length, Some, None, Option, sym, refl, ap, ◌∙◌, arith}
use Rattle.std.specs.Option.{option_map}
use Rattle.std.specs.List.{slice_get}
use Rattle.std.proofs.lemmas.Bool.{eq-eqb, ne_eqb, lt-ltb, le-ltb, ltb-true, ltb-false, cond-true, cond-false}
use Rattle.stepping.specs.declared.Label.{Label}
use Rattle.stepping.specs.Labels.{no_link}
use Rattle.stepping.proofs.Places.{none_some, some_same}
use Rattle.stepping.specs.declared.Run.{Run}
use Rattle.histories.specs.declared.Hop.{Hop}
use Rattle.histories.specs.Runs.{position}
use Rattle.histories.specs.Expansion.{hop_of, follow_from, follow}
use Rattle.histories.specs.Routes.{hop}

module _ {W : Type 0} (rs : List Run) (m : List (Label W)) (k : ℕ) (y : Label W) (e : slice_get m k ≡ Some y) where
  pub follow_end : y.link ≡ no_link → (n : ℕ) → k < n → follow rs m n k ≡ Some []
  follow_end l zero h = absurd (omega arith)
  follow_end l (suc n) h =
      ap (follow_from rs k (λ i. follow rs m n i)) e
      ∙ cond-true (eqb y.link no_link) _ _ (eq-eqb y.link no_link l)

  pub follow_hop : (i : ℕ) (hops : List Hop) → position rs k ≡ i → (y.link ≡ no_link → ⊥) → y.next < k
      → ((n : ℕ) → y.next < n → follow rs m n y.next ≡ Some hops) → (n : ℕ) → k < n
      → follow rs m n k ≡ Some (hop i y.link ∷ hops)
  follow_hop i hops p l b f zero h = absurd (omega arith)
  follow_hop i hops p l b f (suc n) h =
      ap (follow_from rs k (λ i. follow rs m n i)) e
      ∙ (cond-false (eqb y.link no_link) _ _ (ne_eqb y.link no_link l)
      ∙ (cond-true (ltb y.next k) _ _ (lt-ltb y.next k b)
      ∙ (ap (option_map (λ hs. hop_of rs k y ∷ hs)) (f n (omega arith)) ∙ ap (λ z. Some (hop z y.link ∷ hops)) p)))

-- following takes no more labels than lie below, so it does not matter how many it may take
module _ {W : Type 0} (rs : List Run) (m : List (Label W)) where
  from_same : (k : ℕ) (f g : ℕ → Option (List Hop)) → ((i : ℕ) → i < k → f i ≡ g i)
      → (o : Option (Label W)) → follow_from rs k f o ≡ follow_from rs k g o
  from_same k f g h None = refl
  from_same k f g h (Some l) =
      let more : Bool → (ℕ → Option (List Hop)) → Option (List Hop) =
      λ b e. cond b (option_map (λ hops. hop_of rs k l ∷ hops) (e l.next)) None in
      ap
      (cond (eqb l.link no_link) (Some []))
      ((elim (ltb l.next k) as (λ b. ltb l.next k ≡ b → more b f ≡ more b g) [
        | true ↦ λ e. ap (option_map (λ hops. hop_of rs k l ∷ hops)) (h l.next (ltb-true l.next k e))
        | false ↦ λ e. refl
      ])
      refl)

  follow_same : (a b k : ℕ) → k < a → k < b → follow rs m a k ≡ follow rs m b k
  follow_same zero b k h i = absurd (omega arith)
  follow_same (suc a) zero k h i = absurd (omega arith)
  follow_same (suc a) (suc b) k h i =
      from_same k (follow rs m a) (follow rs m b)
      (λ j l. follow_same a b j (omega arith) (omega arith))
      (slice_get m k)

  -- at a label with a link, whose next is below it or not
  module _ (k : ℕ) (y : Label W) (e : slice_get m k ≡ Some y) (l : y.link ≡ no_link → ⊥) where
    at_link : follow rs m (suc k) k
        ≡ cond (ltb y.next k) (option_map (λ hops. hop_of rs k y ∷ hops) (follow rs m k y.next)) None
    at_link =
        ap (follow_from rs k (follow rs m k)) e
        ∙ cond-false (eqb y.link no_link) _ _ (ne_eqb y.link no_link l)

    pub follow_on : y.next < k
        → follow rs m (suc k) k ≡ option_map (λ hops. hop_of rs k y ∷ hops) (follow rs m (suc y.next) y.next)
    follow_on b =
        at_link
        ∙ (cond-true (ltb y.next k) _ _ (lt-ltb y.next k b)
        ∙ ap (option_map (λ hops. hop_of rs k y ∷ hops)) (follow_same k (suc y.next) y.next b (omega arith)))

    pub follow_astray : k ≤ y.next → follow rs m (suc k) k ≡ None
    follow_astray b = at_link ∙ cond-false (ltb y.next k) _ _ (le-ltb y.next k b)

  -- a label stands where hops are followed from
  pub follow_there : (k n : ℕ) → option_map length (follow rs m (suc k) k) ≡ Some n
      → (y : Label W) × (slice_get m k ≡ Some y)
  follow_there k n =
      (elim (slice_get m k) as (λ o. slice_get m k ≡ o → option_map length (follow_from rs k (follow rs m k) o) ≡ Some n → (y : Label W) × (slice_get m k ≡ Some y)) [
        | None ↦ λ e h. none_some n h
        | Some y ↦ λ e h. (y, e)
      ])
      refl

  rest_length : (x : Hop) (n : ℕ) (o : Option (List Hop))
      → option_map length (option_map (λ hops. x ∷ hops) o) ≡ Some (suc n) → option_map length o ≡ Some n
  rest_length x n None h = none_some (suc n) h
  rest_length x n (Some hops) h =
      let e : length hops ≡ n = omega (arith, some_same (suc (length hops)) (suc n) h) in
      ap Some e

  -- the label y at k, where there is a hop more
  module _ (k : ℕ) (y : Label W) (e : slice_get m k ≡ Some y) (n : ℕ) (h : option_map length (follow rs m (suc k) k) ≡ Some (suc n)) where
    linked : y.link ≡ no_link → ⊥
    linked l =
        let none = ap (option_map length) (follow_end rs m k y e l (suc k) (omega arith)) in
        let z : ◌≡◌ {A = ℕ} 0 (suc n) = some_same 0 (suc n) (sym none ∙ h) in
        omega arith

    falls : y.next < k
    falls =
        (elim (ltb y.next k) as (λ b. ltb y.next k ≡ b → y.next < k) [
          | true ↦ λ t. ltb-true y.next k t
          | false ↦ λ t.
              none_some (suc n) (sym (ap (option_map length) (follow_astray k y e linked (ltb-false y.next k t))) ∙ h)
        ])
        refl

    pub hop_first : follow rs m (suc k) k
        ≡ option_map (λ hops. hop_of rs k y ∷ hops) (follow rs m (suc y.next) y.next)
    hop_first = follow_on k y e linked falls

    pub hops_after : option_map length (follow rs m (suc y.next) y.next) ≡ Some n
    hops_after = rest_length (hop_of rs k y) n _ (sym (ap (option_map length) hop_first) ∙ h)
