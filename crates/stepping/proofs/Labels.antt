-- Labels with equal parts are equal.
use Rattle.std.proofs.Common.{◌≡◌, ℕ, Bool, ap, ◌∙◌}
use Rattle.stepping.specs.declared.Label.{Label}

abbrev label_of : {W : Type 0} → ℕ → W → ℕ → ℕ → Bool → Label W
label_of v w p k m = record { node = v; weight = w; link = p; next = k; mark = m }

pub same_label : {W : Type 0} (x y : Label W) → x.node ≡ y.node → x.weight ≡ y.weight → x.link ≡ y.link
    → x.next ≡ y.next → x.mark ≡ y.mark → x ≡ y
same_label x y a b c d e =
    ap (λ v. label_of v x.weight x.link x.next x.mark) a
    ∙ (ap (λ w. label_of y.node w x.link x.next x.mark) b
    ∙ (ap (λ p. label_of y.node y.weight p x.next x.mark) c
    ∙ (ap (λ k. label_of y.node y.weight y.link k x.mark) d
    ∙ ap (λ m. label_of y.node y.weight y.link y.next m) e)))
