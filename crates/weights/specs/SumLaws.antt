-- The laws of sums, at every ceiling from 1 on.
use Rattle.std.specs.Prelude.{ℕ, ◌+◌, ◌≤◌, min}
use Rattle.std.proofs.Common.{inl, inr, ⊎_elim, arith, lit≤, leb→le, le→leb, lt→ltb, ltb→lt}
use Rattle.std.proofs.lemmas.Bool.{cases_order}
use Rattle.weights.specs.Capped.{same_amount, within}
use Rattle.weights.specs.Sums.{top, LawfulAtEveryCeiling}

pub top_from_one : 1 ≤ top
top_from_one = lit≤ tt

more : (cap c a b : ℕ) → a ≤ b → min (c + a) cap ≤ min (c + b) cap
more cap c a b h = omega arith

first_part : (cap a b : ℕ) → a ≤ cap → a ≤ min (a + b) cap
first_part cap a b h = omega arith

second_part : (cap a b : ℕ) → b ≤ cap → b ≤ min (a + b) cap
second_part cap a b h = omega arith

pub sum_laws : LawfulAtEveryCeiling
sum_laws cap positive =
    record {
      neutral_left = λ a. let h = within a in same_amount cap _ a (omega arith);
      neutral_right = λ a. let h = within a in same_amount cap _ a (omega arith);
      good_refl = λ a. le→leb a.amount a.amount (omega arith);
      good_trans = λ a b c p q.
          let p' = leb→le a.amount b.amount p in
          let q' = leb→le b.amount c.amount q in
          le→leb a.amount c.amount (omega arith);
      good_antisym = λ a b p q.
          let p' = leb→le a.amount b.amount p in
          let q' = leb→le b.amount a.amount q in
          same_amount cap a b (omega arith);
      good_join = λ a b c p. le→leb _ _ (more cap c.amount a.amount b.amount (leb→le a.amount b.amount p));
      join_left = λ a b. le→leb a.amount _ (first_part cap a.amount b.amount (within a));
      join_right = λ a b. le→leb b.amount _ (second_part cap a.amount b.amount (within b));
      before_trans = λ a b c p q.
          let p' = ltb→lt a.amount b.amount p in
          let q' = ltb→lt b.amount c.amount q in
          lt→ltb a.amount c.amount (omega arith);
      before_irrefl = λ a p. let p' = ltb→lt a.amount a.amount p in omega arith;
      before_total = λ a b n.
          ⊎_elim
          (λ e. absurd (n (same_amount cap a b e)))
          (⊎_elim (λ l. inl (lt→ltb a.amount b.amount l)) (λ l. inr (lt→ltb b.amount a.amount l)))
          (cases_order a.amount b.amount);
      beats_before = λ a b p.
          let p' = leb→le a.amount b.amount p.0 in
          ⊎_elim
          (λ e. absurd (p.1 (same_amount cap a b e)))
          (⊎_elim (λ l. lt→ltb a.amount b.amount l) (λ l. absurd (omega arith)))
          (cases_order a.amount b.amount);
      neutral_bound = lt→ltb (min 0 cap) cap (omega arith);
    }
