-- An array that is made by calls of a function, one for each index.
use Rattle.std.proofs.Common.{◌≡◌, ℕ, zero, suc, ◌+◌, ◌<◌, List, get_or, sym, ap, ◌∙◌, subst, arith}
use Rattle.std.specs.Array.{IsFromFnResultFrom}
use Rattle.std.specs.Fn.{Called}
use denote.Param.Members.{Mut}

module _ {F B : Type 0} (g : Mut F (ℕ × Unit {0}) B) (h : ℕ → B) (f : F) (gives : (x : ℕ) (y : B) (q : F) → Called g f (x, tt) y q → (q ≡ f) × (y ≡ h x)) where
  pub made_from : (ys : List B) (n i k j : ℕ) (d : B) → IsFromFnResultFrom g f ys i n → k < n → i + k ≡ j → get_or ys j d ≡ h j
  made_from ys zero i k j d m l e = absurd (omega arith)
  made_from ys (suc n) i zero j d m l e =
      let same : i ≡ j = omega arith in
      let y = gives i m.1 m.0 m.3 in
      ap (λ x. get_or ys x d) (sym same) ∙ (m.2.1 d ∙ (y.1 ∙ ap h same))
  made_from ys (suc n) i (suc k) j d m l e =
      let y = gives i m.1 m.0 m.3 in
      made_from ys n (i + 1) k j d (subst (λ q. IsFromFnResultFrom g q ys (i + 1) n) y.0 m.4) (omega arith) (omega arith)
