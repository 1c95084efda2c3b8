-- The best over one place more.
use Rattle.std.proofs.Common.{◌≡◌, ℕ, suc, ◌+◌, ◌-◌, ◌<◌, List, fold, ap, ◌∙◌, arith}
use Rattle.std.proofs.lemmas.List.Sums.{fold-append}
use Rattle.std.specs.List.{range_with_len, flat_map}

-- n places in all, of which p are behind
pub places_more : {X Y : Type 0} (f : Y → X → Y) (part : ℕ → List X) (n p : ℕ) (a : Y) → p < n
    → fold f a (flat_map part (range_with_len p (n - p))) ≡ fold f (fold f a (part p)) (flat_map part (range_with_len (p + 1) (n - (p + 1))))
places_more f part n p a l =
    let e : n - p ≡ suc (n - (p + 1)) = omega arith in
    ap (λ k. fold f a (flat_map part (range_with_len p k))) e ∙ fold-append f a (part p) (flat_map part (range_with_len (p + 1) (n - (p + 1))))
