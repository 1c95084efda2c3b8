-- The hops that a key stands for, and what expand does with the slice that it is handed.
--   hop_of rs k l          the hop of the label l with the key k
--   follow rs m n k        the hops from the label with the key k on, found by way of at most n labels: none from a
--                          label without a link, and else its own hop and those from its next, which must be below k
--   hops_of p k m          the hops of the key k, or why there are none
--   Expanded               what is left in the slice, and the answer
--   into slice h           the slice with the hops h at its front, if it has room for them
--   on_expand s k m slice  what expand leaves in the slice and answers, at the stage s: how many hops there are
use Rattle.std.specs.Prelude.{ℕ, zero, suc, cond, List, [], ◌∷◌, ◌++◌, length, drop, Some, None, Ok, Err, Option, Result, ◌==◌, nat_lt}
use Rattle.std.specs.Option.{ok_or, option_map}
use Rattle.std.specs.List.{slice_get}
use Rattle.carriers.specs.declared.refusals.Refusal.{Refusal}
use Rattle.carriers.specs.declared.refusals.Refusal.TheVariants as refusals
use Rattle.stepping.specs.declared.Label.{Label}
use Rattle.stepping.specs.Labels.{no_link}
use Rattle.stepping.specs.declared.Run.{Run}
use Rattle.histories.specs.declared.Hop.{Hop}
use Rattle.histories.specs.Runs.{position}
use Rattle.histories.specs.Stages.{Progress, Stage, if_begun}
use Rattle.histories.specs.Rules.{refusal, unless, expand_rules}

abbrev pub hop_of : {W : Type 0} → List Run → ℕ → Label W → Hop
hop_of rs k l = record { position = position rs k; link = l.link }

abbrev pub follow_from : {W : Type 0} → List Run → ℕ → (ℕ → Option (List Hop)) → Option (Label W)
    → Option (List Hop)
follow_from rs k more None = None
follow_from rs k more (Some l) =
    cond
    (l.link == no_link)
    (Some [])
    (cond (nat_lt l.next k) (option_map (λ hops. hop_of rs k l ∷ hops) (more l.next)) None)

abbrev pub follow : {W : Type 0} → List Run → List (Label W) → ℕ → ℕ → Option (List Hop)
follow rs m zero k = None
follow rs m (suc n) k = follow_from rs k (λ i. follow rs m n i) (slice_get m k)

abbrev pub hops_of : {W : Type 0} → Progress W → ℕ → List (Label W) → Result (List Hop) Refusal
hops_of p k m =
    unless (refusal (expand_rules p k m)) Err (ok_or (follow p.runs m (suc k) k) refusals.Key)

pub record Expanded : Type 0 where
  pub slice : List Hop
  pub answer : Result ℕ Refusal

abbrev pub into : List Hop → Result (List Hop) Refusal → Expanded
into slice (Err r) = record { slice = slice; answer = Err r }
into slice (Ok hops) =
    cond
    (nat_lt (length slice) (length hops))
    (record { slice = slice; answer = Err refusals.Short })
    (record { slice = hops ++ drop (length hops) slice; answer = Ok (length hops) })

abbrev pub on_expand : {W : Type 0} → Stage W → ℕ → List (Label W) → List Hop → Expanded
on_expand s k m slice = into slice (if_begun s (Err refusals.Stage) (λ p. hops_of p k m))
