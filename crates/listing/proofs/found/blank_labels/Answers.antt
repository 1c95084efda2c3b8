use Rattle.std.proofs.Common.{◌≡◌, List, [], ◌∷◌, ◌++◌, map, length, replicate, refl, ap, ap₂, ◌∙◌, arith, rules, take}
use Rattle.std.proofs.lemmas.Grind.{common_steps}
use Rattle.std.specs.List.{FoldsTo}
use Rattle.stepping.specs.Labels.{meant, meanings, blank}
use Rattle.listing.proofs.found.blank_labels.Goals as goal

-- where each call gives what means b, they give so many of b
all_mean : {P A B : Type 0} (R : P → A → P → Type 0) (f : A → B) (b : B) (p q : P) (xs : List A) → FoldsTo R p xs q
    → ((p : P) (x : A) (q : P) → R p x q → f x ≡ b) → map f xs ≡ replicate (length xs) b
all_mean R f b p q [] r h = refl
all_mean R f b p q (x ∷ xs) r h = ap₂ (λ y ys. y ∷ ys) (h p x r.0 r.1) (all_mean R f b r.0 q xs r.2 h)

pub returns : goal.returns
returns g c =
    let f = g.W.Kind.means in
    let made = c.in_ok-resize_with.ensures.items in
    let it : c.resize_with.new.self.items ≡ made.0 = made.2 ∙ ap (λ ls. take c.args.count ls ++ made.0) c.new-labels.ensures.items ∙ grind (arith, common_steps) in
    let labels = all_mean _ (meant f) (blank g.W.Kind.algebra.neutral) _ _ made.0 made.3 (λ p x q r. search rules) in
    ap (meanings f) it ∙ labels ∙ ap (λ n. replicate n (blank g.W.Kind.algebra.neutral)) (let n : length made.0 ≡ c.args.count = omega (arith, c.in_ok-resize_with.ensures.len, ap length it) in n)
