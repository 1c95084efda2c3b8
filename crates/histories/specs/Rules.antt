-- The rules by which a call is refused, each a test with the refusal if it holds.
--   unless o refuse accept  refuse of the refusal o, and accept where there is none
--   outside n o             o is a node, and not below n
--   open_rules and so on    the rules of each call, in the order of their refusals' numbers; the stage goes before
--                           them all, and full and short come after
use Rattle.std.specs.Prelude.{ℕ, Bool, false, not, ◌||◌, List, [], ◌∷◌, length, Some, None, Option, ◌==◌, nat_le, nat_lt}
use Rattle.weights.specs.Algebra.{Algebra}
use Rattle.carriers.specs.Carrier.{Carrier}
pub use Rattle.carriers.specs.Rules.{Rule, refusal}
use Rattle.carriers.specs.declared.refusals.Refusal.{Refusal}
use Rattle.carriers.specs.declared.refusals.Refusal.TheVariants as refusals
use Rattle.stepping.specs.declared.Label.{Label}
use Rattle.stepping.specs.Labels.{Labels}
use Rattle.histories.specs.Runs.{used}
use Rattle.histories.specs.Stages.{Progress, due}

abbrev pub unless : {X : Type 0} → Option Refusal → (Refusal → X) → X → X
unless (Some r) refuse accept = refuse r
unless None refuse accept = accept

abbrev pub outside : ℕ → Option ℕ → Bool
outside n None = false
outside n (Some t) = nat_le n t

abbrev pub memory_rule : {W : Type 0} → Progress W → List (Label W) → Rule
memory_rule p m = (not (length m == p.memory), refusals.Memory)

abbrev pub size_rule : {W : Type 0} → Carrier W → Rule
size_rule c = (c.nodes == 0 || (nat_lt 1024 c.nodes || nat_lt 8192 c.places), refusals.Size)

abbrev pub open_rules : (A : Algebra) → A.Weight → Labels A → List Rule
open_rules A b m = (nat_lt 65536 (length m), refusals.Memory) ∷ (not (A.bound b), refusals.Bound) ∷ []

abbrev pub cross_rules : {W : Type 0} → Progress W → Carrier W → List (Label W) → List Rule
cross_rules p c m =
    memory_rule p m
    ∷ size_rule c
    ∷ (nat_le 15 (length p.runs), refusals.Chain)
    ∷ (outside c.nodes (due p), refusals.Node)
    ∷ []

abbrev pub finish_rules : {W : Type 0} → Progress W → Carrier W → ℕ → List (Label W) → List Rule
finish_rules p c v m =
    memory_rule p m
    ∷ size_rule c
    ∷ (outside c.nodes (due p) || nat_le c.nodes v, refusals.Node)
    ∷ []

-- of withdraw, count and item
abbrev pub begun_rules : {W : Type 0} → Progress W → List (Label W) → List Rule
begun_rules p m = memory_rule p m ∷ []

abbrev pub expand_rules : {W : Type 0} → Progress W → ℕ → List (Label W) → List Rule
expand_rules p k m = memory_rule p m ∷ (nat_le (used p.runs) k, refusals.Key) ∷ []
