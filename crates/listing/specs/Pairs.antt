-- The text of a pair.
--   spaced_text o p   the text o, a space, and the text p
use Rattle.std.proofs.Common.{◌≡◌, ℕ, List, ◌++◌, Some, codes, Option, ap₂}
use Rattle.weights.specs.PairTexts.{spaced}

abbrev pub spaced_text : List ℕ → List ℕ → List ℕ
spaced_text o p = o ++ (codes " " ++ p)

pub spaced_is : (o p : Option (List ℕ)) (s t : List ℕ) → o ≡ Some s → p ≡ Some t → spaced o p ≡ Some (spaced_text s t)
spaced_is o p s t d e = ap₂ spaced d e
