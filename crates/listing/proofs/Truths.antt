-- What is written of every byte string is true of the routes of its chain.
use Rattle.std.proofs.Common.{ℕ, List, Ok, Err, Result, refl, inl, inr, ⊎_elim}
use Rattle.weights.specs.Algebra.{Algebra, Laws}
use Rattle.weights.specs.ColourLaws.{colour_laws}
use Rattle.weights.specs.ColourSets.{colour_sets}
use Rattle.weights.specs.PairLaws.{pair_laws}
use Rattle.weights.specs.Pairs.{pairs}
use Rattle.weights.specs.SumLaws.{sum_laws, top_from_one}
use Rattle.weights.specs.Sums.{top, sums}
use Rattle.weights.specs.WidthLaws.{width_laws}
use Rattle.weights.specs.Widths.{all, widths}
use Rattle.carriers.specs.Carrier.{meant}
use Rattle.carriers.specs.declared.refusals.Refusal.{Refusal}
use Rattle.stepping.specs.Memory.{blanks}
use Rattle.books.specs.ChainLayout.{Contents, chain_of}
use Rattle.books.specs.declared.bounds.Bounds.{Bounds}
use Rattle.books.specs.declared.bounds.Bounds.TheVariants.{Delay, DelayFee, All}
use Rattle.books.specs.BookCarrier.{book_carrier}
use Rattle.listing.specs.Calls.{plain, behind}
use Rattle.listing.specs.Found.{found_of}
use Rattle.listing.specs.Listing.{by_selection, listed_text, selected_text, verdict_text}
use Rattle.listing.specs.Truth.{query, TrueOfChain, TrueVerdict, TrueListing}
use Rattle.listing.proofs.Unfenced.{Within, fence_within, routed_within, routed_from, says_same}
use Rattle.listing.proofs.Written.{listed_truly}

sums_lawful : Laws (sums top)
sums_lawful = sum_laws top top_from_one

module _ {W : Type 0} (A : Algebra) (laws : Laws A) (f : W → A.Weight) (reads : List ℕ → W) (t : A.Weight → List ℕ) (w : W) (c : Contents) where
  fences : (b : List ℕ) → Within A (f w) (plain f reads b) (behind A f reads w b)
  fences b = fence_within A f w (meant reads (book_carrier b))

  true_chain : TrueOfChain A f reads t w c (listed_text A f reads t w c)
  unfolding found_of
  true_chain =
      ⊎_elim
      inl
      (λ says.
      inr
      (says_same A (query A (behind A f reads w) (f w) c) (query A (plain f reads) (f w) c)
      (routed_from A laws c.books (plain f reads) (behind A f reads w) (f w) fences c.destination c.source)
      (routed_within A laws c.books (plain f reads) (behind A f reads w) (f w) fences c.destination c.source)
      t
      _
      says))
      (listed_truly A laws (behind A f reads w) (f w) c (blanks A 1024) t)

true_selected : (c : Contents) (b : Bounds)
    → by_selection (λ W A f reads t w. TrueOfChain A f reads t w c (selected_text c b)) b
true_selected c (Delay w) = true_chain (sums top) sums_lawful _ _ _ w c
true_selected c (DelayFee w) =
    true_chain (pairs (sums top) (sums top)) (pair_laws (sums top) (sums top) sums_lawful sums_lawful) _ _ _ w c
true_selected c (All w) =
    let last = pairs (widths all) colour_sets in
    let last_lawful = pair_laws (widths all) colour_sets (width_laws all) colour_laws in
    true_chain (pairs (sums top) (pairs (sums top) last)) (pair_laws (sums top) (pairs (sums top) last) sums_lawful (pair_laws (sums top) last sums_lawful last_lawful)) _ _ _ w c

true_verdict : (v : Result Contents Refusal) → TrueVerdict v (verdict_text v)
true_verdict (Ok c) = true_selected c c.bounds
true_verdict (Err r) = refl

pub true_listing : TrueListing
true_listing bs = true_verdict (chain_of bs)
