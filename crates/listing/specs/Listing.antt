-- The list of routes of a chain file, in the weights that its selection names.
--   listed_text A f reads t w c   what is written of the chain c within the bounds w, in a memory of 1,024 labels
--   selected_text c b             the same in the weights of a selection
--   listing_text bs               what is written of the byte string bs
use Rattle.std.specs.Prelude.{ℕ, List, ◌++◌, Ok, Err, codes, decimal, Result}
use Rattle.weights.specs.Algebra.{Algebra}
use Rattle.weights.specs.Capped.{UpTo, cut}
use Rattle.weights.specs.ColourSets.{colour_sets}
use Rattle.weights.specs.Pairs.{Both, pairs}
use Rattle.weights.specs.Sums.{top, sums}
use Rattle.weights.specs.Widths.{all, widths}
use Rattle.weights.specs.declared.colour_sets.Colours.{Colours}
use Rattle.weights.specs.declared.pairs.Pair.{Pair}
use Rattle.weights.specs.declared.sums.Sum.{Sum}
use Rattle.weights.specs.declared.widths.Width.{Width}
use Rattle.carriers.specs.declared.refusals.Refusal.{Refusal}
use Rattle.books.specs.ChainLayout.{Contents, chain_of}
use Rattle.books.specs.Columns.{sum_from, width_from, colours_from, pair_from}
use Rattle.books.specs.declared.bounds.Bounds.{Bounds}
use Rattle.books.specs.declared.bounds.Bounds.TheVariants.{Delay, DelayFee, All}
use Rattle.listing.specs.Found.{found_of}
use Rattle.listing.specs.Texts.{refused_text, answer_text}

-- what the weights mean
abbrev pub sum_means : {U : Type 0} → Sum U → UpTo top
sum_means s = cut top s.number

abbrev pub width_means : Width → UpTo all
width_means w = cut all w.mbits

abbrev pub colours_means : Colours → ℕ
colours_means c = c.bits

abbrev pub pair_means : {F S X Y : Type 0} → (F → X) → (S → Y) → Pair F S → Both X Y
pair_means f s p = record { first = f p.first; second = s p.second }

-- their texts
abbrev pub amount_text : {cap : ℕ} → UpTo cap → List ℕ
amount_text a = decimal a.amount

abbrev pub pair_text : {X Y : Type 0} → (X → List ℕ) → (Y → List ℕ) → Both X Y → List ℕ
pair_text f s p = f p.first ++ (codes " " ++ s p.second)

abbrev pub listed_text : {W : Type 0} (A : Algebra) → (W → A.Weight) → (List ℕ → W) → (A.Weight → List ℕ) → W
    → Contents → List ℕ
listed_text A f reads t w c = answer_text t (found_of A f reads w c)

-- of the kind of weights that the selection names: what they mean, how a book's columns are read, and their text
abbrev pub by_selection {ℓ} : {R : Type ℓ}
    → ((W : Type 0) (A : Algebra) → (W → A.Weight) → (List ℕ → W) → (A.Weight → List ℕ) → W → R) → Bounds → R
by_selection of (Delay w) = of _ (sums top) sum_means sum_from amount_text w
by_selection of (DelayFee w) =
    of
    _
    (pairs (sums top) (sums top))
    (pair_means sum_means sum_means)
    (pair_from 1 sum_from sum_from)
    (pair_text amount_text amount_text)
    w
by_selection of (All w) =
    of
    _
    (pairs (sums top) (pairs (sums top) (pairs (widths all) colour_sets)))
    (pair_means sum_means (pair_means sum_means (pair_means width_means colours_means)))
    (pair_from 1 sum_from (pair_from 1 sum_from (pair_from 1 width_from colours_from)))
    (pair_text amount_text (pair_text amount_text (pair_text amount_text decimal)))
    w

abbrev pub selected_text : Contents → Bounds → List ℕ
selected_text c (Delay w) = listed_text (sums top) sum_means sum_from amount_text w c
selected_text c (DelayFee w) =
    listed_text
    (pairs (sums top) (sums top))
    (pair_means sum_means sum_means)
    (pair_from 1 sum_from sum_from)
    (pair_text amount_text amount_text)
    w
    c
selected_text c (All w) =
    listed_text
    (pairs (sums top) (pairs (sums top) (pairs (widths all) colour_sets)))
    (pair_means sum_means (pair_means sum_means (pair_means width_means colours_means)))
    (pair_from 1 sum_from (pair_from 1 sum_from (pair_from 1 width_from colours_from)))
    (pair_text amount_text (pair_text amount_text (pair_text amount_text decimal)))
    w
    c

abbrev pub verdict_text : Result Contents Refusal → List ℕ
verdict_text (Ok c) = selected_text c c.bounds
verdict_text (Err r) = refused_text r

abbrev pub listing_text : List ℕ → List ℕ
listing_text bs = verdict_text (chain_of bs)
