-- What a weight kind means: a set of weights with a join and two orders, and the laws that every kind keeps.
--   good a b      a is as good as b: it matches b, being the same weight, or beats it
--   Beats A a b   a is as good as b and another weight
--   before a b    a stands before b in the order of settling and listing
--   bound a       a may serve as a request's bound; a weight is within a bound if it is as good as the bound
use Rattle.std.specs.Prelude.{◌≡◌, Bool, T, ◌⊎◌, ◌≢◌}

pub record Algebra : Type 1 where
  pub Weight : Type 0
  pub neutral : Weight
  pub join : Weight → Weight → Weight
  pub good : Weight → Weight → Bool
  pub before : Weight → Weight → Bool
  pub bound : Weight → Bool

abbrev pub Beats : (A : Algebra) → A.Weight → A.Weight → Type 0
Beats A a b = T (A.good a b) × (a ≢ b)

pub record Laws (A : Algebra) : Type 0 where
  pub neutral_left : (a : A.Weight) → A.join A.neutral a ≡ a
  pub neutral_right : (a : A.Weight) → A.join a A.neutral ≡ a
  pub good_refl : (a : A.Weight) → T (A.good a a)
  pub good_trans : (a b c : A.Weight) → T (A.good a b) → T (A.good b c) → T (A.good a c)
  pub good_antisym : (a b : A.Weight) → T (A.good a b) → T (A.good b a) → a ≡ b
  pub good_join : (a b c : A.Weight) → T (A.good a b) → T (A.good (A.join c a) (A.join c b))
  pub join_left : (a b : A.Weight) → T (A.good a (A.join a b))
  pub join_right : (a b : A.Weight) → T (A.good b (A.join a b))
  pub before_trans : (a b c : A.Weight) → T (A.before a b) → T (A.before b c) → T (A.before a c)
  pub before_irrefl : (a : A.Weight) → T (A.before a a) → ⊥
  pub before_total : (a b : A.Weight) → (a ≢ b) → T (A.before a b) ⊎ T (A.before b a)
  pub beats_before : (a b : A.Weight) → Beats A a b → T (A.before a b)
  pub neutral_bound : T (A.bound A.neutral)
