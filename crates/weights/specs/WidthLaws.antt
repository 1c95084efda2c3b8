-- The laws of widths, at every cap.
use Rattle.std.proofs.Common.{inl, inr, ⊎_elim, arith, leb→le, le→leb, lt→ltb, ltb→lt}
use Rattle.std.specs.Prelude.{ℕ, min}
use Rattle.std.proofs.lemmas.Bool.{cases_order}
use Rattle.weights.specs.Algebra.{Laws}
use Rattle.weights.specs.Capped.{same_amount, within}
use Rattle.weights.specs.Widths.{widths}

pub width_laws : (cap : ℕ) → Laws (widths cap)
width_laws cap =
    record {
      neutral_left = λ a. let h = within a in same_amount cap _ a (omega arith);
      neutral_right = λ a. let h = within a in same_amount cap _ a (omega arith);
      good_refl = λ a. le→leb a.amount a.amount (omega arith);
      good_trans = λ a b c p q.
          let p' = leb→le b.amount a.amount p in
          let q' = leb→le c.amount b.amount q in
          le→leb c.amount a.amount (omega arith);
      good_antisym = λ a b p q.
          let p' = leb→le b.amount a.amount p in
          let q' = leb→le a.amount b.amount q in
          same_amount cap a b (omega arith);
      good_join = λ a b c p.
          let p' = leb→le b.amount a.amount p in
          le→leb (min (min c.amount b.amount) cap) (min (min c.amount a.amount) cap) (omega arith);
      join_left = λ a b. le→leb (min (min a.amount b.amount) cap) a.amount (omega arith);
      join_right = λ a b. le→leb (min (min a.amount b.amount) cap) b.amount (omega arith);
      before_trans = λ a b c p q.
          let p' = ltb→lt b.amount a.amount p in
          let q' = ltb→lt c.amount b.amount q in
          lt→ltb c.amount a.amount (omega arith);
      before_irrefl = λ a p. let p' = ltb→lt a.amount a.amount p in omega arith;
      before_total = λ a b n.
          ⊎_elim
          (λ e. absurd (n (same_amount cap a b e)))
          (⊎_elim (λ l. inr (lt→ltb a.amount b.amount l)) (λ l. inl (lt→ltb b.amount a.amount l)))
          (cases_order a.amount b.amount);
      beats_before = λ a b p.
          let p' = leb→le b.amount a.amount p.0 in
          ⊎_elim
          (λ e. absurd (p.1 (same_amount cap a b e)))
          (⊎_elim (λ l. absurd (omega arith)) (λ l. lt→ltb b.amount a.amount l))
          (cases_order a.amount b.amount);
      neutral_bound = tt;
    }
