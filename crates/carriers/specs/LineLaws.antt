-- A line of at least one node is a sound carrier.
use Rattle.std.specs.Prelude.{◌≡◌, ℕ, ◌+◌, ◌<◌, ◌≤◌, Bool, true, false, cond, ◌⊎◌, Some, None, ◌==◌, nat_lt, refl}
use Rattle.std.proofs.Common.{ap, ◌∙◌, inl, inr, ⊎_elim, arith, eqb→eq}
use Rattle.std.proofs.lemmas.Bool.{ltb-true, eqb-true, le-ltb, ne_eqb, cond-false}
use Rattle.carriers.specs.declared.sides.Side.TheVariants.{Inside}
use Rattle.carriers.specs.Carrier.{Link, Sound}
use Rattle.carriers.specs.Lines.{onto_next, onward, link_in_line, line}

-- of two links and none, the one that stands
which : {V : Type 0} (b c : Bool) (x y l : Link V) → cond b (Some x) (cond c (Some y) None) ≡ Some l → ((b ≡ true) × (x ≡ l)) ⊎ ((c ≡ true) × (y ≡ l))
which true c x y l e = inl (refl, cc)
which false true x y l e = inr (refl, cc)
which false false x y l e = absurd (let z : ◌≡◌ {A = ℕ} 0 1 = cc in omega arith)

module _ {V : Type 0} (n : ℕ) (w : V) where
  found : (i : ℕ) (l : Link V) → link_in_line n w i ≡ Some l → ((i + 1 < n) × (onto_next i w ≡ l)) ⊎ ((i + 1 ≡ n) × (onward i w ≡ l))
  found i l e =
      ⊎_elim
      (λ x. inl (ltb-true (i + 1) n x.0, x.1))
      (λ x. inr (eqb-true (i + 1) n x.0, x.1))
      (which (nat_lt (i + 1) n) (i + 1 == n) (onto_next i w) (onward i w) l e)

  tail_below : (i : ℕ) (l : Link V) → link_in_line n w i ≡ Some l → l.tail < n
  tail_below i l e =
      ⊎_elim
      (λ x. let t : i ≡ l.tail = ap (λ k. k.tail) x.1 in let h = x.0 in omega arith)
      (λ x. let t : i ≡ l.tail = ap (λ k. k.tail) x.1 in let h = x.0 in omega arith)
      (found i l e)

  head_below : (i : ℕ) (l : Link V) → link_in_line n w i ≡ Some l → l.side ≡ Inside → l.head < n
  head_below i l e inside =
      ⊎_elim
      (λ x. let t : i + 1 ≡ l.head = ap (λ k. k.head) x.1 in let h = x.0 in omega arith)
      (λ x. absurd (let s = ap (λ k. k.side) x.1 ∙ inside in let z : ◌≡◌ {A = ℕ} 0 1 = cc in omega arith))
      (found i l e)

  none_past : (i : ℕ) → n ≤ i → link_in_line n w i ≡ None
  none_past i past =
      cond-false _ _ _ (le-ltb (i + 1) n (omega arith)) ∙ cond-false _ _ _ (ne_eqb (i + 1) n (λ e. omega arith))

  pub line_sound : 1 ≤ n → Sound (line n w)
  line_sound some =
      record {
        tails = tail_below;
        heads = head_below;
        none_past = none_past;
        entries = λ v t. let e = eqb→eq v 0 t in omega arith;
      }
