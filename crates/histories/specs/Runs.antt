-- The runs of a request, latest first: where the labels of each crossing stand in the memory.
--   latest rs       the latest run; before the first crossing, the empty run at 0
--   used rs         how many labels are in use: those below the end of the latest run
--   labels_of r m   the labels of the run r in the memory m
--   position rs k   the position in the chain of the carrier whose crossing settled the label with the key k, that
--                   is, how many crossings came before
use Rattle.std.specs.Prelude.{ℕ, ◌+◌, cond, List, [], ◌∷◌, length, take, drop, nat_lt}
use Rattle.stepping.specs.declared.Run.{Run}

abbrev pub latest : List Run → Run
latest [] = record { start = 0; length = 0 }
latest (r ∷ rs) = r

abbrev pub used : List Run → ℕ
used rs = (latest rs).start + (latest rs).length

abbrev pub labels_of : {X : Type 0} → Run → List X → List X
labels_of r m = take r.length (drop r.start m)

abbrev pub position : List Run → ℕ → ℕ
position [] k = 0
position (r ∷ rs) k = cond (nat_lt k r.start) (position rs k) (length rs)
