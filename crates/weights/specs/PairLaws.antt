-- The laws of pairs, from those of their parts.
use Rattle.std.specs.Prelude.{◌≡◌, Bool, true, false, cond, ◌&&◌, T, ◌⊎◌, ◌≢◌}
use Rattle.std.proofs.Common.{sym, ap, subst, ◌∙◌}
use Rattle.std.proofs.Math.Logic.{inl, inr, ⊎_elim}
use Rattle.weights.specs.Algebra.{Algebra, Laws}
use Rattle.weights.specs.Pairs.{Both, pair_before, pairs}

both : (a b : Bool) → T a → T b → T (a && b)
both true b p q = q
both false b p q = p

left : (a b : Bool) → T (a && b) → T a
left true b p = tt
left false b p = p

right : (a b : Bool) → T (a && b) → T b
right true b p = p
right false b p = absurd p

-- a test holds or does not
known : (b : Bool) → T b ⊎ (T b → ⊥)
known true = inl tt
known false = inr (λ x. x)

-- what the test of two parts in turn says
in_turn : (p q r : Bool) → T p ⊎ ((T q → ⊥) × T r) → T (cond p true (cond q false r))
in_turn true q r h = tt
in_turn false true r h = ⊎_elim (λ x. x) (λ x. x.0 tt) h
in_turn false false r h = ⊎_elim (λ x. absurd x) (λ x. x.1) h

from_turn : (p q r : Bool) → T (cond p true (cond q false r)) → T p ⊎ ((T q → ⊥) × T r)
from_turn true q r h = inl tt
from_turn false true r h = absurd h
from_turn false false r h = inr (λ x. x, h)

pair_of : {F S : Type 0} → F → S → Both F S
pair_of a b = record { first = a; second = b }

same_pair : {F S : Type 0} (x y : Both F S) → x.first ≡ y.first → x.second ≡ y.second → x ≡ y
unfolding pair_of
same_pair x y e f = ap (λ a. pair_of a x.second) e ∙ ap (λ b. pair_of y.first b) f

module _ (F S : Algebra) (f_laws : Laws F) (s_laws : Laws S) where
  -- equal or not, where the one is as good as the other
  same_or_not : (x y : F.Weight) → T (F.good x y) → (x ≡ y) ⊎ (x ≢ y)
  same_or_not x y g =
      ⊎_elim
      (λ h. inl (f_laws.good_antisym x y g h))
      (λ n. inr (λ e. n (subst (λ (z : F.Weight). T (F.good z x)) e (f_laws.good_refl x))))
      (known (F.good y x))

  -- neither before the other: not different
  same_if_neither : (x y : F.Weight) → (T (F.before x y) → ⊥) → (T (F.before y x) → ⊥) → (x ≢ y) → ⊥
  same_if_neither x y p q n = ⊎_elim p q (f_laws.before_total x y n)

  -- before, in two ways
  Lex : Both F.Weight S.Weight → Both F.Weight S.Weight → Type 0
  Lex x y =
      T (F.before x.first y.first)
      ⊎ ((T (F.before y.first x.first) → ⊥) × T (S.before x.second y.second))

  lex_in : (x y : Both F.Weight S.Weight) → Lex x y → T (pair_before F S x y)
  unfolding Lex
  lex_in x y h = in_turn _ _ _ h

  lex_out : (x y : Both F.Weight S.Weight) → T (pair_before F S x y) → Lex x y
  unfolding Lex
  lex_out x y h =
      from_turn
      (F.before x.first y.first)
      (F.before y.first x.first)
      (S.before x.second y.second)
      h

  weak_right : (x y z : F.Weight) → (T (F.before z y) → ⊥) → T (F.before x y) → T (F.before x z)
  weak_right x y z n p =
      ⊎_elim
      (λ t. t)
      (λ m.
      absurd
      (⊎_elim
      (λ q. m (f_laws.before_trans x y z p q))
      n
      (f_laws.before_total y z (λ e. m (subst (λ (w : F.Weight). T (F.before x w)) e p)))))
      (known (F.before x z))

  weak_left : (x y z : F.Weight) → (T (F.before y x) → ⊥) → T (F.before y z) → T (F.before x z)
  weak_left x y z n q =
      ⊎_elim
      (λ t. t)
      (λ m.
      absurd
      (⊎_elim
      (λ p. m (f_laws.before_trans x y z p q))
      n
      (f_laws.before_total x y (λ e. m (subst (λ (w : F.Weight). T (F.before w z)) (sym e) q)))))
      (known (F.before x z))

  lex_trans : (x y z : Both F.Weight S.Weight) → Lex x y → Lex y z → Lex x z
  unfolding Lex
  lex_trans x y z (inl p) (inl q) = inl (f_laws.before_trans _ _ _ p q)
  lex_trans x y z (inl p) (inr q) = inl (weak_right _ _ _ q.0 p)
  lex_trans x y z (inr p) (inl q) = inl (weak_left _ _ _ p.0 q)
  lex_trans x y z (inr p) (inr q) =
      inr (λ s. q.0 (weak_right _ _ _ p.0 s), s_laws.before_trans _ _ _ p.1 q.1)

  lex_irrefl : (x : Both F.Weight S.Weight) → Lex x x → ⊥
  unfolding Lex
  lex_irrefl x (inl p) = f_laws.before_irrefl _ p
  lex_irrefl x (inr p) = s_laws.before_irrefl _ p.1

  lex_total : (x y : Both F.Weight S.Weight) → (x ≢ y) → Lex x y ⊎ Lex y x
  unfolding Lex
  lex_total x y n =
      ⊎_elim
      (λ p. inl (inl p))
      (λ m.
      ⊎_elim
      (λ p. inr (inl p))
      (λ k.
      ⊎_elim
      (λ r. inl (inr (k, r)))
      (λ r. inr (inr (m, r)))
      (s_laws.before_total x.second y.second (λ e. same_if_neither x.first y.first m k (λ f. n (same_pair x y f e)))))
      (known (F.before y.first x.first)))
      (known (F.before x.first y.first))

  lex_beats : (x y : Both F.Weight S.Weight) → T (F.good x.first y.first) → T (S.good x.second y.second) → (x ≢ y) → Lex x y
  unfolding Lex
  lex_beats x y g h n =
      ⊎_elim
      (λ e.
      inr (
        λ p. f_laws.before_irrefl x.first (subst (λ (w : F.Weight). T (F.before w x.first)) (sym e) p),
        s_laws.beats_before x.second y.second (h, λ f. n (same_pair x y e f)),
      ))
      (λ m. inl (f_laws.beats_before x.first y.first (g, m)))
      (same_or_not x.first y.first g)

  pub pair_laws : Laws (pairs F S)
  pair_laws =
      record {
        neutral_left = λ x. same_pair _ x (f_laws.neutral_left x.first) (s_laws.neutral_left x.second);
        neutral_right = λ x. same_pair _ x (f_laws.neutral_right x.first) (s_laws.neutral_right x.second);
        good_refl = λ x. both _ _ (f_laws.good_refl x.first) (s_laws.good_refl x.second);
        good_trans = λ x y z p q.
            both _ _
            (f_laws.good_trans _ _ _ (left _ _ p) (left _ _ q))
            (s_laws.good_trans _ _ _ (right (F.good x.first y.first) _ p) (right (F.good y.first z.first) _ q));
        good_antisym = λ x y p q.
            same_pair x y
            (f_laws.good_antisym _ _ (left _ _ p) (left _ _ q))
            (s_laws.good_antisym _ _ (right (F.good x.first y.first) _ p) (right (F.good y.first x.first) _ q));
        good_join = λ x y z p.
            both _ _ (f_laws.good_join _ _ _ (left _ _ p)) (s_laws.good_join _ _ _ (right (F.good x.first y.first) _ p));
        join_left = λ x y. both _ _ (f_laws.join_left _ _) (s_laws.join_left _ _);
        join_right = λ x y. both _ _ (f_laws.join_right _ _) (s_laws.join_right _ _);
        before_trans = λ x y z p q. lex_in x z (lex_trans x y z (lex_out x y p) (lex_out y z q));
        before_irrefl = λ x p. lex_irrefl x (lex_out x x p);
        before_total = λ x y n. ⊎_elim (λ p. inl (lex_in x y p)) (λ p. inr (lex_in y x p)) (lex_total x y n);
        beats_before = λ x y p.
            lex_in x y (lex_beats x y (left _ _ p.0) (right (F.good x.first y.first) _ p.0) p.1);
        neutral_bound = both _ _ f_laws.neutral_bound s_laws.neutral_bound;
      }
