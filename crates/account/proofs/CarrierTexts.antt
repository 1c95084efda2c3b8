-- One carrier more in the lines of an account.
use Rattle.std.proofs.Common.{◌≡◌, ℕ, suc, ◌+◌, List, ◌∷◌, ◌++◌, sym, ap, ◌∙◌, append_assoc, add-one}
use Rattle.account.specs.Texts.{carrier_text, carriers_text}

-- the book b of the carrier at position i was the first of those that were left, and its line has been added to w
pub carriers_more : (w line all : List ℕ) (i k j : ℕ) (b : List ℕ) (left rest : List (List ℕ)) → line ≡ carrier_text i b → left ≡ b ∷ rest → i ≡ k → j ≡ k + 1 → w ++ carriers_text k left ≡ all → (w ++ line) ++ carriers_text j rest ≡ all
carriers_more w line all i k j b left rest said first at next before =
    let after : carriers_text j rest ≡ carriers_text (suc k) rest = ap (λ n. carriers_text n rest) (next ∙ add-one k) in
    let here : carrier_text i b ++ carriers_text (suc k) rest ≡ carriers_text k left =
    ap (λ n. carrier_text n b ++ carriers_text (suc k) rest) at ∙ ap (carriers_text k) (sym first) in
    append_assoc w line (carriers_text j rest)
    ∙ ap (λ t. w ++ (line ++ t)) after
    ∙ ap (λ t. w ++ (t ++ carriers_text (suc k) rest)) said
    ∙ ap (λ t. w ++ t) here
    ∙ before
