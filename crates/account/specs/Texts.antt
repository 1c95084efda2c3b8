-- The account of a chain file, letter by letter.
--   account_text bs   what is written of the byte string bs
use Rattle.std.specs.Prelude.{ℕ, suc, ◌-◌, min, List, [], ◌∷◌, ◌++◌, length, Ok, Err, codes, decimal, Result}
use Rattle.weights.specs.Sums.{top}
use Rattle.weights.specs.declared.sums.Sum.{Sum}
use Rattle.carriers.specs.declared.refusals.Refusal.{Refusal}
use Rattle.carriers.specs.declared.sides.Side.TheVariants.{Inside, Onward}
use Rattle.carriers.specs.Refusals.{refusal_text}
use Rattle.books.specs.BookLayout.{node_count, entry_count, link_count}
use Rattle.books.specs.ChainLayout.{Contents, chain_of}
use Rattle.books.specs.Sides.{links_on}
use Rattle.books.specs.Told.{told_chain}
use Rattle.books.specs.declared.bounds.Bounds.{Bounds}
use Rattle.books.specs.declared.bounds.Bounds.TheVariants.{Delay, DelayFee, All}
use Rattle.account.specs.declared.Account.{Account}
use Rattle.account.specs.declared.lines.Heading.{Heading}

abbrev pub amount_text : {U : Type 0} → Sum U → List ℕ
amount_text s = decimal (min s.number top)

abbrev pub selection_text : Bounds → List ℕ
selection_text (Delay b) = codes "1 (delay)"
selection_text (DelayFee b) = codes "2 (delay and fee)"
selection_text (All b) = codes "3 (delay, fee, width and colours)"

abbrev pub limits_text : Bounds → List ℕ
limits_text (Delay b) = codes "delay " ++ (amount_text b ++ codes " microseconds")
limits_text (DelayFee b) =
    codes "delay " ++ (amount_text b.first ++ (codes " microseconds, fee " ++ (amount_text b.second ++ codes " cents")))
limits_text (All b) =
    codes "delay " ++ (amount_text b.first
    ++ (codes " microseconds, fee " ++ (amount_text b.second.first
    ++ (codes " cents, width " ++ (decimal b.second.second.first.mbits
    ++ (codes " Mbit/s, colours " ++ decimal b.second.second.second.bits))))))

-- what is said of a chain of n carriers
abbrev pub chain_heading : Bounds → ℕ → ℕ → ℕ → List ℕ
chain_heading bounds n destination source =
    (codes "selection: " ++ (selection_text bounds ++ (codes "\ncarriers: " ++ (decimal n ++ codes "\n"))))
    ++ ((codes "destination: node " ++ (decimal destination
    ++ (codes " of carrier 0\nsource: node " ++ (decimal source ++ (codes " of carrier " ++ (decimal (n - 1) ++ codes "\n"))))))
    ++ (codes "bounds: " ++ (limits_text bounds ++ codes "\n")))

abbrev pub heading_of : Heading → List ℕ
heading_of h = chain_heading h.bounds h.carriers h.destination h.source

abbrev pub heading_text : Contents → List ℕ
heading_text c = chain_heading c.bounds (length c.books) c.destination c.source

-- a carrier by its position and its counts
abbrev pub counts_text : ℕ → ℕ → ℕ → ℕ → ℕ → ℕ → List ℕ
counts_text i nodes entries links inside onward =
    codes "carrier " ++ (decimal i
    ++ (codes ": nodes " ++ (decimal nodes
    ++ (codes ", entries " ++ (decimal entries
    ++ (codes ", links " ++ (decimal links
    ++ (codes " (inside " ++ (decimal inside ++ (codes ", onward " ++ (decimal onward ++ codes ")\n")))))))))))

-- the carrier at position i, whose book is b
abbrev pub carrier_text : ℕ → List ℕ → List ℕ
carrier_text i b =
    counts_text i
    (node_count b)
    (entry_count b)
    (link_count b)
    (links_on Inside b (link_count b))
    (links_on Onward b (link_count b))

-- the carriers from position i on
abbrev pub carriers_text : ℕ → List (List ℕ) → List ℕ
carriers_text i [] = []
carriers_text i (b ∷ bs) = carrier_text i b ++ carriers_text (suc i) bs

abbrev pub chain_text : Contents → List ℕ
chain_text c = heading_text c ++ carriers_text 0 c.books

abbrev pub refused_text : Refusal → List ℕ
refused_text r = codes "refused " ++ (refusal_text r ++ codes "\n")

abbrev pub verdict_text : Result Contents Refusal → List ℕ
verdict_text (Ok c) = chain_text c
verdict_text (Err r) = refused_text r

abbrev pub account_text : List ℕ → List ℕ
account_text bs = verdict_text (chain_of bs)

-- what an account writes
abbrev pub text_of : Account → List ℕ
text_of a = verdict_text (told_chain a.verdict)
