-- Following the labels of a memory by the meaning of their weights, one label more.
use Rattle.std.proofs.Common.{◌≡◌, ℕ, suc, ◌+◌, ◌<◌, List, [], ◌∷◌, ◌++◌, length, get_or, take, set, Some, None, Option, sym, refl, ap, ◌∙◌, append_assoc, arith}
use Rattle.std.specs.Option.{option_map}
use Rattle.std.specs.List.{slice_get}
use Rattle.std.proofs.lemmas.List.{length-map, get_or-map, take_more_set}
use Rattle.std.proofs.lemmas.Option.{slice_get_read, slice_get_within}
use Rattle.stepping.specs.declared.Label.{Label}
use Rattle.stepping.specs.Labels.{meant, meanings, no_link}
use Rattle.stepping.specs.declared.Run.{Run}
use Rattle.histories.specs.Expansion.{hop_of, follow}
use Rattle.histories.proofs.Followed.{follow_on, follow_there, hop_first, hops_after}

counted : {X : Type 0} (x : X) (o : Option (List X)) → option_map length (option_map (λ xs. x ∷ xs) o) ≡ option_map suc (option_map length o)
counted x None = refl
counted x (Some xs) = refl

pub one_more : (n : ℕ) (o : Option ℕ) → option_map (λ k. n + k) (option_map suc o) ≡ option_map (λ k. (n + 1) + k) o
one_more n None = refl
one_more n (Some k) = let e : n + suc k ≡ (n + 1) + k = omega arith in ap Some e

-- what is written goes to the front of what is left
pub written_more : {X : Type 0} (xs : List X) (i : ℕ) (x : X) → i < length xs → (o : Option (List X))
    → option_map (λ ys. take i xs ++ ys) (option_map (λ ys. x ∷ ys) o) ≡ option_map (λ ys. take (i + 1) (set xs i x) ++ ys) o
written_more xs i x l None = refl
written_more xs i x l (Some ys) =
    ap Some (sym (ap (λ zs. zs ++ ys) (take_more_set xs i x l) ∙ append_assoc (take i xs) (x ∷ []) ys))

module _ {W V : Type 0} (f : W → V) (rs : List Run) (m : List (Label W)) where
  pub there : (k n : ℕ) → option_map length (follow rs (meanings f m) (suc k) k) ≡ Some n → k < length m
  there k n h =
      let it = follow_there rs (meanings f m) k n h in
      omega (arith, slice_get_within (meanings f m) k it.0 it.1, length-map m (meant f))

  module _ (k : ℕ) (x : Label W) (within : k < length m) (read : x ≡ get_or m k x) where
    stands : slice_get (meanings f m) k ≡ Some (meant f x)
    stands =
        slice_get_read (meanings f m) (length m) k (meant f x) (sym (length-map m (meant f))) within
        (sym (get_or-map (meant f) m k x (meant f x) within ∙ ap (meant f) (sym read)))

    pub one_here : (x.link ≡ no_link → ⊥) → x.next < k
        → option_map length (follow rs (meanings f m) (suc k) k) ≡ option_map suc (option_map length (follow rs (meanings f m) (suc x.next) x.next))
    one_here l b =
        ap (option_map length) (follow_on rs (meanings f m) k (meant f x) stands l b)
        ∙ counted (hop_of rs k (meant f x)) (follow rs (meanings f m) (suc x.next) x.next)

    module _ (n : ℕ) (h : option_map length (follow rs (meanings f m) (suc k) k) ≡ Some (suc n)) where
      pub hop_here : follow rs (meanings f m) (suc k) k
          ≡ option_map (λ hops. hop_of rs k x ∷ hops) (follow rs (meanings f m) (suc x.next) x.next)
      hop_here = hop_first rs (meanings f m) k (meant f x) stands n h

      pub hops_left : option_map length (follow rs (meanings f m) (suc x.next) x.next) ≡ Some n
      hops_left = hops_after rs (meanings f m) k (meant f x) stands n h
