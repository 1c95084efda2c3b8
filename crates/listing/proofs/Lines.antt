-- The items of a list one at a time, and their lines.
use Rattle.std.proofs.Common.{◌≡◌, ℕ, suc, ◌+◌, ◌-◌, ◌<◌, ◌≤◌, List, [], ◌∷◌, ◌++◌, map, length, take, get_or, Ok, Err, Some, None, Option, Result, sym, refl, ap, ◌∙◌, append_assoc, append-nil, arith, length-take, IfOk, String, Global, string_bytes}
use Rattle.std.specs.Option.{option_map}
use Rattle.std.proofs.lemmas.Result.{IfOk-weaker}
use Rattle.std.proofs.lemmas.List.{length-map, take_more}
use Rattle.carriers.specs.declared.refusals.Refusal.{Refusal}
use Rattle.stepping.specs.declared.Label.{Label}
use Rattle.histories.specs.declared.Item.{Item}
use Rattle.histories.specs.Stages.{Stage}
use Rattle.histories.specs.Lists.{on_item}
use Rattle.requests.specs.Listed.{item_meant}
use Rattle.listing.specs.Found.{then_if, items_from}
use Rattle.listing.specs.Texts.{row_text, lines, list_text, answer_text}
use Rattle.listing.specs.Items.{Listed}

-- the items in r after those of front
abbrev pub after : {V : Type 0} → List (Item V) → Result (List (Item V)) Refusal → Result (List (Item V)) Refusal
after front r = then_if r (λ its. Ok (front ++ its))

module _ {V : Type 0} (s : Stage V) (v : ℕ) (m : List (Label V)) where
  next : (n k : ℕ) → k < n → items_from s v m (n - k) k ≡ then_if (on_item s v k m) (λ i. after (i ∷ []) (items_from s v m (n - (k + 1)) (k + 1)))
  next n k l =
      let e : n - k ≡ suc (n - (k + 1)) = omega arith in
      grind (arith, e)

  one_more : (front : List (Item V)) (i : Item V) (r : Result (List (Item V)) Refusal) → after (front ++ i ∷ []) r ≡ after front (after (i ∷ []) r)
  one_more front i (Ok its) = ap Ok (append_assoc front (i ∷ []) its)
  one_more front i (Err r) = refl

  pub item_on : (n k : ℕ) (front : List (Item V)) (i : Item V) → k < n → Ok i ≡ on_item s v k m → after (front ++ i ∷ []) (items_from s v m (n - (k + 1)) (k + 1)) ≡ after front (items_from s v m (n - k) k)
  item_on n k front i l e = cc (one_more front i (items_from s v m (n - (k + 1)) (k + 1)), next n k l, e)

  pub item_off : (n k : ℕ) (front : List (Item V)) (r : Refusal) → k < n → Err r ≡ on_item s v k m → Err r ≡ after front (items_from s v m (n - k) k)
  item_off n k front r l e = cc (next n k l, e)

  pub items_end : (n k : ℕ) (front : List (Item V)) → n ≤ k → Ok front ≡ after front (items_from s v m (n - k) k)
  items_end n k front l = grind (arith, append-nil front)

module _ {W : Type 0} (t : W → List ℕ) where
  lines_append : (k : ℕ) (xs ys : List (Item W)) → lines t k (xs ++ ys) ≡ lines t k xs ++ lines t (k + length xs) ys
  lines_append k [] ys = grind arith
  lines_append k (x ∷ xs) ys = grind (arith, append_assoc, lines_append (suc k) xs ys)

  -- the line of the item i at the position k, after those before it
  pub lines_more : (its : List (Item W)) (k : ℕ) (i : Item W) → k < length its → i ≡ get_or its k i
      → lines t 0 (take k its) ++ row_text (k + 1) (t i.weight) i.key ≡ lines t 0 (take (k + 1) its)
  lines_more its k i l e =
      grind (arith, take_more its k i l, lines_append 0 (take k its) (get_or its k i ∷ []), append-nil, length-take k its, e)

module _ {W V : Type 0} (t : V → List ℕ) (f : W → V) where
  lines_meant : (k : ℕ) (its : List (Item W)) → lines (λ w. t (f w)) k its ≡ lines t k (map (item_meant f) its)
  lines_meant k [] = refl
  lines_meant k (i ∷ its) = cc (lines_meant (suc k) its)

  list_text_meant : (l : Option (List (Item W))) → list_text (λ w. t (f w)) l ≡ list_text t (option_map (map (item_meant f)) l)
  list_text_meant None = refl
  list_text_meant (Some its) = cc (length-map its (item_meant f), lines_meant 0 its)

  listed_is : (r : Result (Option (List (Item V))) Refusal) (s : List ℕ) → Listed (λ w. t (f w)) f r s → s ≡ answer_text t r
  listed_is r s it = sym it.2 ∙ list_text_meant it.0 ∙ ap (answer_text t) it.1

  -- what is written of weights is written of what they mean
  pub listed_ok : {E : Type 0} (r : Result (Option (List (Item V))) Refusal) (out : List ℕ) (a : Result (String Global) E)
      → IfOk a (λ s. Listed (λ w. t (f w)) f r (string_bytes s)) → answer_text t r ≡ out → IfOk a (λ s. string_bytes s ≡ out)
  listed_ok r out a l e =
      IfOk-weaker a (λ s. Listed (λ w. t (f w)) f r (string_bytes s)) (λ s. string_bytes s ≡ out) (λ s q. listed_is r (string_bytes s) q ∙ e) l
