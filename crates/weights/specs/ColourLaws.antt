-- The laws of colour sets.
use Rattle.std.specs.Prelude.{◌≡◌, ℕ, T, ◌==◌, bit_and, bit_or}
use Rattle.std.proofs.Common.{sym, ap, subst, ◌∙◌, inl, inr, ⊎_elim, arith, lt→ltb, ltb→lt, eqb→eq}
use Rattle.std.proofs.lemmas.Nat.{and_comm, or_comm, and_le_r}
use Rattle.std.specs.Int.Bits.{or_zero_l, or_zero_r, and_self}
use Rattle.std.proofs.Math.Dec.{eqb_refl}
use Rattle.std.proofs.lemmas.Bool.{cases_order}
use Rattle.weights.specs.Algebra.{Laws}
use Rattle.weights.specs.BitLaws.{and_assoc, and_absorbs_or, or_spreads}
use Rattle.weights.specs.ColourSets.{colour_sets}

test : (m n : ℕ) → m ≡ n → T (m == n)
test m n e = subst (λ (k : ℕ). T (m == k)) e (eqb_refl m)

pub colour_laws : Laws colour_sets
colour_laws =
    record {
      neutral_left = λ a. or_zero_l a;
      neutral_right = λ a. or_zero_r a;
      good_refl = λ a. test _ _ (and_self a);
      good_trans = λ a b c p q.
          let p' = eqb→eq (bit_and a b) a p in
          let q' = eqb→eq (bit_and b c) b q in
          test (bit_and a c) a (ap (λ (x : ℕ). bit_and x c) (sym p') ∙ and_assoc a b c ∙ ap (bit_and a) q' ∙ p');
      good_antisym = λ a b p q. sym (eqb→eq (bit_and a b) a p) ∙ and_comm a b ∙ eqb→eq (bit_and b a) b q;
      good_join = λ a b c p.
          test (bit_and (bit_or c a) (bit_or c b)) (bit_or c a) (or_spreads c a b ∙ ap (bit_or c) (eqb→eq (bit_and a b) a p));
      join_left = λ a b. test (bit_and a (bit_or a b)) a (and_absorbs_or a b);
      join_right = λ a b. test (bit_and b (bit_or a b)) b (ap (bit_and b) (or_comm a b) ∙ and_absorbs_or b a);
      before_trans = λ a b c p q. let p' = ltb→lt a b p in let q' = ltb→lt b c q in lt→ltb a c (omega arith);
      before_irrefl = λ a p. let p' = ltb→lt a a p in omega arith;
      before_total = λ a b n.
          ⊎_elim (λ e. absurd (n e)) (⊎_elim (λ l. inl (lt→ltb a b l)) (λ l. inr (lt→ltb b a l))) (cases_order a b);
      beats_before = λ a b p.
          let p' = eqb→eq (bit_and a b) a p.0 in
          let h = and_le_r a b in
          ⊎_elim (λ e. absurd (p.1 e)) (⊎_elim (λ l. lt→ltb a b l) (λ l. absurd (omega arith))) (cases_order a b);
      neutral_bound = tt;
    }
