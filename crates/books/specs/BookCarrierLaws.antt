-- A book's carrier is sound, whatever its bytes are.
use Rattle.std.specs.Prelude.{◌≡◌, ℕ, ◌+◌, ◌<◌, Bool, true, false, cond, ◌&&◌, ◌||◌, T, List, Some, ◌==◌, nat_le, nat_lt, refl}
use Rattle.std.proofs.Common.{ap, subst, ◌∙◌, ⊎_elim, arith}
use Rattle.std.specs.Option.{option_map}
use Rattle.std.proofs.lemmas.Bool.{ltb-true, eqb-true, le-ltb, cond-false, and_parts, and_left, or_cases}
use Rattle.carriers.specs.declared.sides.Side.TheVariants.{Inside, Onward}
use Rattle.carriers.specs.Carrier as map
use Rattle.carriers.specs.Present.{from_tested, from_mapped}
use Rattle.books.specs.Bytes.{byte_at, u16_at}
use Rattle.books.specs.BookLayout.{node_count, link_count, link_start, link_at, link_of, link_sound}
use Rattle.books.specs.BookCarrier.{is_entry, placed, book_carrier}

inside_zero : (t : Bool) → cond t Inside Onward ≡ Inside → t ≡ true
inside_zero true e = refl
inside_zero false e = absurd (let z : ◌≡◌ {A = ℕ} 0 1 = cc in omega arith)

T_true : (b : Bool) → T b → b ≡ true
T_true true t = refl
T_true false t = absurd t

module _ (b : List ℕ) where
  -- a link that is present is the record at its place, and keeps the rules
  present : (i : ℕ) (l : map.Link (List ℕ)) → (book_carrier b).at i ≡ Some l → (link_sound b (node_count b) (link_start b i) ≡ true) × (placed (link_at b (link_start b i)) ≡ l)
  present i l e =
      let k = from_mapped placed (link_of b i) l e in
      let t = from_tested (nat_lt i (link_count b) && link_sound b (node_count b) (link_start b i)) (link_at b (link_start b i)) k.0 k.1 in
      ((and_parts (nat_lt i (link_count b)) _ t.0).1, ap placed t.1 ∙ k.2)

  tail_sound : (n p : ℕ) → link_sound b n p ≡ true → (link_at b p).tail < n
  tail_sound n p h = ltb-true (u16_at b p) n (and_parts (nat_lt (u16_at b p) n) _ h).0

  head_sound : (n p : ℕ) → link_sound b n p ≡ true → (link_at b p).side ≡ Inside → (link_at b p).head < n
  head_sound n p h inside =
      let side = byte_at b (p + 2) in
      let zero = eqb-true side 0 (inside_zero (side == 0) inside) in
      let after_tail = (and_parts (nat_lt (u16_at b p) n) _ h).1 in
      let after_side = (and_parts (nat_le side 1) _ after_tail).1 in
      let after_space = (and_parts (byte_at b (p + 3) == 0) _ after_side).1 in
      let head = (and_parts (side == 1 || nat_lt (u16_at b (p + 4)) n) _ after_space).0 in
      ⊎_elim
      (λ t. absurd (let one = eqb-true side 1 t in omega arith))
      (λ t. ltb-true (u16_at b (p + 4)) n t)
      (or_cases (side == 1) (nat_lt (u16_at b (p + 4)) n) head)

  tail_below : (i : ℕ) (l : map.Link (List ℕ)) → (book_carrier b).at i ≡ Some l → l.tail < node_count b
  tail_below i l e =
      let r = present i l e in
      subst
      (λ (x : map.Link (List ℕ)). x.tail < node_count b)
      r.1
      (tail_sound (node_count b) (link_start b i) r.0)

  head_below : (i : ℕ) (l : map.Link (List ℕ)) → (book_carrier b).at i ≡ Some l → l.side ≡ Inside → l.head < node_count b
  head_below i l e inside =
      let r = present i l e in
      subst
      (λ (x : map.Link (List ℕ)). x.head < node_count b)
      r.1
      (head_sound (node_count b) (link_start b i) r.0 (ap (λ x. x.side) r.1 ∙ inside))

  pub book_carrier_sound : map.Sound (book_carrier b)
  book_carrier_sound =
      record {
        tails = tail_below;
        heads = head_below;
        none_past = λ i past. ap (option_map placed) (cond-false _ _ _ (and_left (nat_lt i (link_count b)) _ (le-ltb i (link_count b) past)));
        entries = λ v t. ltb-true v (node_count b) (and_parts (nat_lt v (node_count b)) _ (T_true (is_entry b v) t)).0;
      }
