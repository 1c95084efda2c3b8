-- A whole run: when it is settled at all, and what it leaves in the memory.
use Rattle.std.proofs.Common.{refl, ◌-◌, ◌≡◌, ℕ, ◌+◌, ◌≤◌, List, ◌++◌, map, length, take, drop, None, sym, ap, ◌∙◌, arith}
use Rattle.std.proofs.lemmas.Bool.{le-ltb, cond-false}
use Rattle.std.proofs.lemmas.List.{take_all, take_at, length-map, length-take, take-append-drop, drop-map, map-append}
use Rattle.std.proofs.Math.Seq.{drop-append-add}
use Rattle.weights.specs.Algebra.{Algebra}
use Rattle.carriers.specs.Carrier.{Carrier}
use Rattle.stepping.specs.declared.Label.{Label}
use Rattle.stepping.specs.Memory.{written}
use Rattle.crossing.specs.declared.scopes.Scope.{Scope}
use Rattle.stepping.specs.Crossing.{crossing}
use Rattle.crossing.specs.declared.scopes.Before.{Before}
use Rattle.crossing.specs.declared.scopes.Before.TheVariants.{Destination, Run}
use Rattle.crossing.specs.Scopes.{view, before_labels}
use Rattle.crossing.specs.Crossed.{outcome, unfit}

before_same : {W : Type 0} (b : Before) (n : ℕ) (m u : List (Label W)) → u ≡ take n m → before_labels b (length u) u ≡ before_labels b n m
before_same (Destination d) n m u e = refl
before_same (Run r) n m u e = ap (λ x. take r.length (drop r.start x)) (take_all (length u) u (omega arith) ∙ e)

module _ {W : Type 0} (A : Algebra) (f : W → A.Weight) (s : Scope W) (c : Carrier W) (m : List (Label W)) where
  pub fits : s.used ≤ length m → c.places ≤ 8192 → unfit s c m ≡ None
  fits l h = cond-false _ _ _ (le-ltb (length m) s.used l) ∙ cond-false _ _ _ (le-ltb 8192 c.places h)

  -- u are the labels in use, n are free, and the run before, b, is looked for in u
  pub outcome_is : (u b : List (Label W)) (n : ℕ) → u ≡ take s.used m → n + s.used ≡ length m → b ≡ before_labels s.before (length u) u
      → outcome A f s c m ≡ crossing A (view A f s c b) n
  outcome_is u b n e l h =
      ap (λ x. crossing A (view A f s c x) (length m - s.used)) (sym (h ∙ before_same s.before s.used m u e))
      ∙ ap (crossing A (view A f s c b)) (omega arith)

-- what follows n labels after the labels u
pub drop_past : {X : Type 0} (u p : List X) (k n : ℕ) → length u ≡ k → drop (k + n) (u ++ p) ≡ drop n p
drop_past u p k n e = ap (λ j. drop (j + n) (u ++ p)) (sym e) ∙ drop-append-add u p n

-- u are the labels in use, and m and p those after them, before and after n labels are settled
pub run_written : {X Y : Type 0} (f : X → Y) (u m p : List X) (k n : ℕ) → length u ≡ k → n ≤ length p → drop n p ≡ drop n m
    → written k (map f (u ++ m)) (map f (take n p)) ≡ map f (u ++ p)
run_written f u m p k n e l rest =
    let r = map f (take n p) in
    let r_long : length r ≡ n = omega (arith, length-map (take n p) f, length-take n p) in
    let u_long : length (map f u) ≡ k = omega (arith, length-map u f) in
    let front : take k (map f (u ++ m)) ≡ map f u = ap (take k) (map-append f u m) ∙ take_at (map f u) (map f m) k u_long in
    let back : drop (k + length r) (map f (u ++ m)) ≡ map f (drop n p) =
    ap (λ j. drop (k + j) (map f (u ++ m))) r_long
    ∙ ap (drop (k + n)) (map-append f u m)
    ∙ drop_past (map f u) (map f m) k n u_long
    ∙ drop-map f n m
    ∙ ap (map f) (sym rest) in
    ap (λ x. x ++ (r ++ drop (k + length r) (map f (u ++ m)))) front
    ∙ ap (λ x. map f u ++ (r ++ x)) back
    ∙ ap (λ x. map f u ++ x) (sym (map-append f (take n p) (drop n p)) ∙ ap (map f) (take-append-drop n p))
    ∙ sym (map-append f u p)

pub ruleset parts = (drop_past, run_written)
