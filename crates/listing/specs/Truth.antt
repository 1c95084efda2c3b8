-- What the list of a chain says of its routes.
--   query A g b c    the routes from the source of the chain c to its destination within the bounds b, where g gives the
--                    carrier of a book
--   Says A t q out   out is the one line that there is no route, and q has none; or out is a heading with the number of
--                    the routes that matter, at least one, and a line for each, and no other sequence of weights is theirs
--   TrueOfChain    out is the refusal of the calls along the chain in a memory of 1,024 labels, or says what the routes
--                    through its books are
--   TrueListing     so it is with what is written of every byte string that is a chain file, and of any other its refusal
--                    is written
--   ListedTruly     what is written after the calls along a chain is their first refusal, or says what its routes are
use Rattle.std.specs.Prelude.{◌≡◌, ℕ, ◌<◌, ◌⊎◌, List, ◌++◌, map, length, Ok, Err, codes, Result}
use Rattle.weights.specs.Algebra.{Algebra}
use Rattle.carriers.specs.Carrier.{Carrier}
use Rattle.carriers.specs.declared.refusals.Refusal.{Refusal}
use Rattle.stepping.specs.Labels.{Labels}
use Rattle.stepping.specs.Memory.{blanks}
use Rattle.histories.specs.declared.Item.{Item}
use Rattle.histories.specs.Stages.{idle}
use Rattle.histories.specs.Promise.{Query, Front, Routed, weights}
use Rattle.books.specs.ChainLayout.{Contents, chain_of}
use Rattle.listing.specs.Calls.{plain, behind, calls}
use Rattle.listing.specs.Listing.{by_selection, listing_text}
use Rattle.listing.specs.Texts.{refused_text, heading_text, lines, after_text}

abbrev pub query : (A : Algebra) → (List ℕ → Carrier A.Weight) → A.Weight → Contents → Query A
query A g b c =
    record { chain = map g c.books; bounds = b; destination = c.destination; source = c.source }

pub data Says (A : Algebra) (t : A.Weight → List ℕ) (q : Query A) (out : List ℕ) : Type 0 where
  none : ((x : A.Weight) → Routed A q x → ⊥) → codes "no route\n" ≡ out → Says A t q out
  routes : (its : List (Item A.Weight))
      → 0 < length its
      → Front A (Routed A q) (weights its)
      → ((ws : List A.Weight) → Front A (Routed A q) ws → ws ≡ weights its)
      → heading_text (length its) ++ lines t 0 its ≡ out
      → Says A t q out

abbrev pub ListedTruly : Algebra → Type 0
ListedTruly A =
    (g : List ℕ → Carrier A.Weight) (b : A.Weight) (c : Contents) (m : Labels A) (t : A.Weight → List ℕ)
    → ((r : Refusal) × ((calls A g b c idle m).answer ≡ Err r) × (after_text t c.source (calls A g b c idle m) ≡ refused_text r))
    ⊎ Says A t (query A g b c) (after_text t c.source (calls A g b c idle m))

abbrev pub TrueOfChain : {W : Type 0} (A : Algebra) → (W → A.Weight) → (List ℕ → W) → (A.Weight → List ℕ) → W
    → Contents → List ℕ → Type 0
TrueOfChain A f reads t w c out =
    ((r : Refusal) × ((calls A (behind A f reads w) (f w) c idle (blanks A 1024)).answer ≡ Err r) × (out ≡ refused_text r))
    ⊎ Says A t (query A (plain f reads) (f w) c) out

abbrev pub TrueVerdict : Result Contents Refusal → List ℕ → Type 0
TrueVerdict (Ok c) out = by_selection (λ W A f reads t w. TrueOfChain A f reads t w c out) c.bounds
TrueVerdict (Err r) out = out ≡ refused_text r

abbrev pub TrueListing : Type 0
TrueListing = (bs : List ℕ) → TrueVerdict (chain_of bs) (listing_text bs)
