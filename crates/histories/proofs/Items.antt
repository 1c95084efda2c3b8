-- What is listed of a run at a node: the marked labels there, in their order.
use Rattle.std.proofs.Common.{◌≡◌, ℕ, zero, suc, ◌+◌, Bool, true, false, cond, ◌&&◌, eqb, List, [], ◌∷◌, Some, refl, ap, ◌∙◌, subst, arith}
use Rattle.std.specs.List.{slice_get}
use Rattle.std.proofs.lemmas.Bool.{eqb-true, eq-eqb, and_parts, and_from}
use Rattle.stepping.specs.declared.Label.{Label}
use Rattle.stepping.proofs.Places.{none_some, some_same, Pairs}
use Rattle.histories.specs.declared.Item.{Item}
use Rattle.histories.specs.Lists.{items}

abbrev pub item_of : {W : Type 0} → Label W → ℕ → Item W
item_of l k = record { weight = l.weight; key = k }

-- the item is of a marked label at v, where the first label of the run has the key s
pub record ItemOf {W : Type 0} (v s : ℕ) (run : List (Label W)) (it : Item W) : Type 0 where
  pub index : ℕ
  pub label : Label W
  pub stands : slice_get run index ≡ Some label
  pub there : label.node ≡ v
  pub is : item_of label (s + index) ≡ it

module _ {W : Type 0} (v : ℕ) where
  abbrev test : Label W → Bool
  test l = eqb l.node v && l.mark

  -- the items of a run that begins with l, if l passes or not
  abbrev front : Bool → Label W → ℕ → List (Label W) → List (Item W)
  front b l s ls = cond b (item_of l s ∷ items v (suc s) ls) (items v (suc s) ls)

  later : (s : ℕ) (l : Label W) (ls : List (Label W)) (it : Item W) → ItemOf v (suc s) ls it
      → ItemOf v s (l ∷ ls) it
  later s l ls it o =
      let key : s + suc o.index ≡ suc s + o.index = omega arith in
      record {
        index = suc o.index;
        label = o.label;
        stands = o.stands;
        there = o.there;
        is = ap (item_of o.label) key ∙ o.is;
      }

  here : (s : ℕ) (l : Label W) (ls : List (Label W)) (it : Item W) → test l ≡ true → item_of l s ≡ it
      → ItemOf v s (l ∷ ls) it
  here s l ls it t e =
      let key : s + 0 ≡ s = omega arith in
      record {
        index = 0;
        label = l;
        stands = refl;
        there = eqb-true l.node v (and_parts (eqb l.node v) l.mark t).0;
        is = ap (item_of l) key ∙ e;
      }

  pub items_from : (run : List (Label W)) (s i : ℕ) (it : Item W) → slice_get (items v s run) i ≡ Some it
      → ItemOf v s run it
  items_from [] s i it e = none_some it e
  items_from (l ∷ ls) s i it e =
      (elim (test l) as (λ b. test l ≡ b → (n : ℕ) → slice_get (front b l s ls) n ≡ Some it → ItemOf v s (l ∷ ls) it) [
        | true ↦
            λ t.
            elim [
              | zero ↦ λ h. here s l ls it t (some_same (item_of l s) it h)
              | suc n ↦ λ h. later s l ls it (items_from ls (suc s) n it h)
            ]
        | false ↦ λ t n h. later s l ls it (items_from ls (suc s) n it h)
      ]) refl i e

  pub items_have : (run : List (Label W)) (s k : ℕ) (y : Label W) → slice_get run k ≡ Some y → y.node ≡ v
      → y.mark ≡ true → (i : ℕ) × (slice_get (items v s run) i ≡ Some (item_of y (s + k)))
  items_have [] s k y e n m = none_some y e
  items_have (l ∷ ls) s zero y e n m =
      let q = some_same l y e in
      let t : test l ≡ true = and_from (eqb l.node v) l.mark (eq-eqb l.node v (rw q n)) (rw q m) in
      let key : s ≡ s + 0 = omega arith in
      (0, ap (λ b. slice_get (front b l s ls) 0) t ∙ (ap (λ z. Some (item_of z s)) q ∙ ap (λ z. Some (item_of y z)) key))
  items_have (l ∷ ls) s (suc k) y e n m =
      let h = items_have ls (suc s) k y e n m in
      let key : suc s + k ≡ s + suc k = omega arith in
      let g : slice_get (items v (suc s) ls) h.0 ≡ Some (item_of y (s + suc k)) = h.1 ∙ ap (λ z. Some (item_of y z)) key in
      elim (test l) as (λ b. (i : ℕ) × (slice_get (front b l s ls) i ≡ Some (item_of y (s + suc k)))) [
        | true ↦ (suc h.0, g)
        | false ↦ (h.0, g)
      ]

  -- what holds of each two labels at v, in their order, holds of each two items
  module _ (R : W → W → Type 0) where
    abbrev LabelsSo : Label W → Label W → Type 0
    LabelsSo x y = x.node ≡ v → y.node ≡ v → R x.weight y.weight

    abbrev ItemsSo : Item W → Item W → Type 0
    ItemsSo x y = R x.weight y.weight

    pairs_here : (s : ℕ) (l : Label W) (ls : List (Label W)) → Pairs LabelsSo (l ∷ ls) → test l ≡ true
        → Pairs ItemsSo (items v (suc s) ls) → Pairs ItemsSo (item_of l s ∷ items v (suc s) ls)
    pairs_here s l ls h t rest i zero x y e f o = absurd (omega arith)
    pairs_here s l ls h t rest zero (suc j) x y e f o =
        let z = items_from ls (suc s) j y f in
        let there = eqb-true l.node v (and_parts (eqb l.node v) l.mark t).0 in
        let r : R l.weight z.label.weight =
        h 0 (suc z.index) l z.label refl z.stands (omega arith) there z.there in
        subst
        (λ w. R w.weight y.weight)
        (some_same (item_of l s) x e)
        (subst (λ w. R l.weight w.weight) z.is r)
    pairs_here s l ls h t rest (suc i) (suc j) x y e f o = rest i j x y e f (omega arith)

    pub items_pairs : (run : List (Label W)) (s : ℕ) → Pairs LabelsSo run → Pairs ItemsSo (items v s run)
    items_pairs [] s h = λ i j x y e f o. none_some x e
    items_pairs (l ∷ ls) s h =
        let rest = items_pairs ls (suc s) (λ i j x y e f o. h (suc i) (suc j) x y e f (omega arith)) in
        (elim (test l) as (λ b. test l ≡ b → Pairs ItemsSo (front b l s ls)) [
          | true ↦ λ t. pairs_here s l ls h t rest
          | false ↦ λ t. rest
        ]) refl
