-- The chain of two carriers worked through: what each call answers, and what is listed and shown.
--   lists r n          what a finish answers that lists r and settles n labels
--   item d f k         what item answers with the delay d, the fee f and the key k
--   log_of, end_of     the log of the calls within the delay d and the fee f, and the request after them
--   expanded slice     what expand of the key 6 then does, within delay 8 and fee 6
--   alone              the log and the request where the destination's carrier is finished alone
use Rattle.std.specs.Prelude.{◌≡◌, ℕ, true, false, List, [], ◌∷◌, replicate, Some, Ok, Err, Result, None, Option}
use Rattle.weights.specs.Capped.{cut}
use Rattle.weights.specs.Sums.{top, sums}
use Rattle.weights.specs.ColourSets.{colour_sets}
use Rattle.carriers.specs.declared.refusals.Refusal.{Refusal}
use Rattle.carriers.specs.declared.refusals.Refusal.TheVariants as refusals
use Rattle.histories.specs.declared.Ending.{Ending}
use Rattle.histories.specs.declared.Item.{Item}
use Rattle.histories.specs.declared.Hop.{Hop}
use Rattle.histories.specs.Crossings.{blanks}
use Rattle.histories.specs.Expansion.{Expanded, on_expand}
use Rattle.histories.specs.Routes.{hop}
use Rattle.histories.specs.Histories.{to_open, to_cross, to_finish, Log, State, History, last_finish}
use Rattle.histories.specs.Example.{costs, cost, carrier_0, carrier_1, label, played, whole, item_at, asked}

abbrev lists : Option ℕ → ℕ → Ending
lists r n = record { routes = r; settled = n }

abbrev item : ℕ → ℕ → ℕ → Result (Item costs.Weight) Refusal
item d f k = Ok (record { weight = cost d f; key = k })

abbrev log_of : ℕ → ℕ → Log costs.Weight
log_of d f = (played 7 (whole d f)).0

abbrev end_of : ℕ → ℕ → State costs.Weight
end_of d f = (played 7 (whole d f)).1

abbrev expanded : List Hop → Expanded
expanded slice = on_expand (end_of 8 6).stage 6 (end_of 8 6).labels slice

abbrev alone : Log costs.Weight × State costs.Weight
alone = played 7 (to_open (cost 8 6) 2 ∷ to_finish carrier_0 2 ∷ [])

pub record Worked : Type 0 where
  -- within delay 8 and fee 6: the cross settles 4 labels and the finish 3, and two routes are listed
  pub history : History costs (log_of 8 6) (end_of 8 6)
  pub answers : log_of 8 6
      ≡ (to_finish carrier_1 0, Ok (lists (Some 2) 3))
      ∷ (to_cross carrier_0, Ok 4)
      ∷ (to_open (cost 8 6) 2, Ok tt)
      ∷ []
  pub labels : (end_of 8 6).labels
      ≡ label 2 0 0 65535 0 false
      ∷ label 1 2 3 2 0 true
      ∷ label 0 3 4 1 1 true
      ∷ label 0 5 1 0 0 true
      ∷ label 1 5 3 2 1 false
      ∷ label 0 5 6 1 2 true
      ∷ label 0 6 3 0 4 true
      ∷ []
  pub item_0 : asked 8 6 0 ≡ item 5 6 5
  pub item_1 : asked 8 6 1 ≡ item 6 3 6
  pub item_2 : asked 8 6 2 ≡ Err refusals.Key
  pub hops : expanded (replicate 4 (hop 9 9))
      ≡ record { slice = hop 1 0 ∷ hop 1 2 ∷ hop 0 2 ∷ hop 9 9 ∷ []; answer = Ok 3 }
  pub short : expanded (replicate 2 (hop 9 9))
      ≡ record { slice = replicate 2 (hop 9 9); answer = Err refusals.Short }
  -- within lower bounds
  pub one_8_5 : last_finish (log_of 8 5) ≡ Some (0, lists (Some 1) 2)
  pub item_8_5 : asked 8 5 0 ≡ item 6 3 5
  pub one_6_3 : last_finish (log_of 6 3) ≡ Some (0, lists (Some 1) 2)
  pub item_6_3 : asked 6 3 0 ≡ item 6 3 4
  pub none_6_2 : last_finish (log_of 6 2) ≡ Some (0, lists None 0)
  pub none_5_3 : last_finish (log_of 5 3) ≡ Some (0, lists None 1)
  -- over 6 labels the finish is refused, and leaves those that are not in use blank
  pub full : (played 6 (whole 8 6)).0
      ≡ (to_finish carrier_1 0, Err refusals.Full)
      ∷ (to_cross carrier_0, Ok 4)
      ∷ (to_open (cost 8 6) 2, Ok tt)
      ∷ []
  pub unused : (played 6 (whole 8 6)).1.labels
      ≡ label 2 0 0 65535 0 false
      ∷ label 1 2 3 2 0 true
      ∷ label 0 3 4 1 1 true
      ∷ label 0 5 1 0 0 true
      ∷ blanks costs 2
  -- the destination's carrier finished alone, with the destination as the source
  pub one_alone : last_finish alone.0 ≡ Some (2, lists (Some 1) 4)
  pub item_alone : item_at alone.1 2 0 ≡ item 0 0 0
  -- sums stop at the ceiling, which is no bound; and a set of colours is within one that has them all
  pub ceiling : (sums top).join (cut top 600_000_000) (cut top 400_000_001) ≡ cut top 1_000_000_000
  pub no_bound : (sums top).bound (cut top 1_000_000_000) ≡ false
  pub colours_within : colour_sets.good 5 7 ≡ true
  pub colours_beyond : colour_sets.good 5 3 ≡ false
