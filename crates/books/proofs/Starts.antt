-- A link record that is read from the bytes where it begins.
use Rattle.std.proofs.Common.{◌≡◌, ℕ, List, drop, add-zero, add_assoc}
use Rattle.std.proofs.lemmas.List.{get_or-drop}
use Rattle.books.specs.BookLayout.{link_at, link_sound}

pub record_link : (b : List ℕ) (s : ℕ) → link_at (drop s b) 0 ≡ link_at b s
record_link b s = simp (get_or-drop, add_assoc, add-zero)

pub record_sound : (b : List ℕ) (n s : ℕ) → link_sound (drop s b) n 0 ≡ link_sound b n s
record_sound b n s = simp (get_or-drop, add_assoc, add-zero)
