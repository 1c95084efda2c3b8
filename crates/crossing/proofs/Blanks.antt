-- The labels from one on, all blank.
use Rattle.std.proofs.Common.{◌≡◌, ℕ, ◌-◌, ◌≤◌, List, ◌++◌, map, length, take, drop, replicate, sym, ap, ◌∙◌, arith, append-nil, length-drop}
use Rattle.std.proofs.lemmas.List.{length-map, take_all, drop_all, take-map, map-append}

-- ys are the labels that follow the first n of xs, as they are now, and i of them have been blanked
pub blanks_all : {X Y : Type 0} (f : X → Y) (b : Y) (xs ys : List X) (n i : ℕ) → length ys ≡ length xs - n → length ys ≤ i → i ≤ length ys
    → map f (take i ys) ≡ replicate i b
    → map f (take n xs ++ (ys ++ drop (length xs - n) (drop n xs))) ≡ take n (map f xs) ++ replicate (length (map f xs) - n) b
blanks_all f b xs ys n i long past within blank =
    let k : i ≡ length (map f xs) - n = omega (arith, length-map xs f) in
    ap (λ r. map f (take n xs ++ (ys ++ r))) (drop_all (length xs - n) (drop n xs) (omega (arith, length-drop n xs)))
    ∙ ap (λ r. map f (take n xs ++ r)) (append-nil ys)
    ∙ map-append f (take n xs) ys
    ∙ ap (λ r. r ++ map f ys) (sym (take-map f n xs))
    ∙ ap (λ r. take n (map f xs) ++ r) (sym (ap (map f) (take_all i ys past)) ∙ blank ∙ ap (λ j. replicate j b) k)
