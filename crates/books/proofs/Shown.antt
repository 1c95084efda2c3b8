-- The carrier of a book whose fields are sound shows all of it.
use Rattle.std.proofs.Common.{◌≡◌, ℕ, ◌<◌, true, false, cond, eqb, ltb, nat_eq, nat_lt, nat_le, ◌&&◌, List, drop, Some, None, sym, refl, ap, ◌∙◌, arith}
use Rattle.std.specs.Option.{option_map}
use Rattle.std.proofs.lemmas.Bool.{and_parts, and_from, eq-eqb, eqb-true, lt-ltb, cond-true}
use Rattle.books.specs.BookLayout.{node_count, link_count, entry_count, entry_at, link_start, link_at, link_of, link_sound, entry_sound, entries_sound, fields_sound, below}
use Rattle.std.proofs.lemmas.List.FromFn.{length-range_with_len}
use Rattle.std.proofs.lemmas.List.Folds.{Any-from_list_any}
use Rattle.books.specs.Bytes.{byte_at}
use Rattle.books.specs.BookCarrier.{is_entry, lists_entry, placed, ShowsAll}
use Rattle.books.proofs.Below.{at, every_holds, some_passes}
use Rattle.books.proofs.Starts.{record_link, record_sound}

module _ (b : List ℕ) where
  entry_there : (i : ℕ) → i < entry_count b → entry_sound b i ≡ true → is_entry b (entry_at b i) ≡ true
  entry_there i l e =
      let v = entry_at b i in
      and_from
      (ltb v (node_count b))
      _
      (and_parts (ltb v (node_count b)) _ e).0
      (some_passes (λ k. eqb (entry_at b k) v) (entry_count b) i l (eq-eqb v v refl))

module _ (b : List ℕ) (h : fields_sound b ≡ true) where
  sound_at : (i : ℕ) → i < link_count b → link_sound b (node_count b) (link_start b i) ≡ true
  sound_at = λ i l. every_holds (λ k. link_sound b (node_count b) (link_start b k)) (link_count b) i (and_parts (entries_sound b) _ h).1 l

  entry_at_below : (i : ℕ) → i < entry_count b → entry_sound b i ≡ true
  entry_at_below i l = every_holds (entry_sound b) (entry_count b) i (and_parts (entries_sound b) _ h).0 l

  link_there : (i : ℕ) → i < link_count b → link_of b i ≡ Some (link_at b (link_start b i))
  link_there i l =
      cond-true _ _ None (and_from (nat_lt i (link_count b)) _ (lt-ltb i (link_count b) l) (sound_at i l))

  pub shows_all : ShowsAll b
  shows_all =
      record {
        links = λ i l. ap (option_map placed) (link_there i l);
        entries = λ i l. entry_there b i l (entry_at_below i l);
      }

  -- a record is read at its place
  pub read_there : (i : ℕ) (r : List ℕ) → r ≡ drop (link_start b i) b → i < link_count b → cond (nat_le (byte_at r 2) 1) (Some (link_at r 0)) None ≡ link_of b i
  read_there i r e l =
      let s = link_start b i in
      let sound = and_parts _ _ (record_sound b (node_count b) s ∙ sound_at i l) in
      let side = and_parts (nat_le (byte_at (drop s b) 2) 1) _ sound.1 in
      ap (λ x. cond (nat_le (byte_at x 2) 1) (Some (link_at x 0)) None) e
      ∙ cond-true _ (Some (link_at (drop s b) 0)) None side.0
      ∙ ap Some (record_link b s)
      ∙ sym (link_there i l)

  -- what is listed as an entry is a node
  pub listed : (v : ℕ) → lists_entry b v ≡ is_entry b v
  listed v =
      (elim (lists_entry b v) as (λ t. lists_entry b v ≡ t → t ≡ (nat_lt v (node_count b) && t)) [
        | true ↦ λ t. let k = Any-from_list_any (λ i. nat_eq (entry_at b i) v) (below (entry_count b)) t in
            let within : k.0 < entry_count b = omega (arith, length-range_with_len 0 (entry_count b)) in
            let here : k.1 ≡ k.0 = sym k.3 ∙ at (entry_count b) k.0 k.1 within in
            let sound : entry_sound b k.1 ≡ true = entry_at_below k.1 (omega arith) in
            let node = and_parts (nat_lt (entry_at b k.1) (node_count b)) _ sound in
            let same = eqb-true (entry_at b k.1) v k.4 in
            sym (and_from (nat_lt v (node_count b)) true (ap (λ x. nat_lt x (node_count b)) (sym same) ∙ node.0) refl)
        | false ↦ λ t. grind arith
      ])
      refl
