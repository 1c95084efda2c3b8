-- The theorems on what a request has found, after every history.
--   Query A              routes from the source, a node of the last carrier of the chain, to the destination, a node
--                        of the first, within the bounds
--   Weighs A q hops x    a route of the query q has these hops and the weight x
--   Front A R ws         ws are the weights that matter of those that R holds of: each stands before the next, R holds
--                        of each, one of them matches or beats every weight that R holds of, and none matches or beats
--                        another
--   Routed A q x         x is the weight of a route of q
--   weights its          the weights of the items its
--   Shown A q r it       the key of the item it expands, in the request r, to the hops of a route of the item's weight
--   Found A q r          what r lists at the source of q
--   Staged               the stage is the one that calls and answers tell
--   Finished, Underway   of every history that ends finished, and of every one that ends open
--   FinishedAsTold, UnderwayAsTold   the same where calls and answers tell that it ends so
--   Unchanged            a refused call, handed the request's own labels, leaves all as it was
use Rattle.std.specs.Prelude.{◌≡◌, ℕ, suc, ◌<◌, ◌≤◌, T, List, ◌++◌, map, length, drop, Some, Ok, Err, ◌≢◌, None}
use Rattle.std.specs.Option.{ok_or}
use Rattle.std.specs.List.{slice_get}
use Rattle.weights.specs.Algebra.{Algebra}
use Rattle.carriers.specs.Carrier.{Carrier}
use Rattle.carriers.specs.declared.refusals.Refusal.{Refusal}
use Rattle.carriers.specs.declared.refusals.Refusal.TheVariants as refusals
use Rattle.histories.specs.declared.Ending.{Ending}
use Rattle.histories.specs.declared.Item.{Item}
use Rattle.histories.specs.declared.Hop.{Hop}
use Rattle.histories.specs.Stages.{Progress, opened, finished}
use Rattle.histories.specs.Lists.{on_count, on_item}
use Rattle.histories.specs.Expansion.{on_expand}
use Rattle.histories.specs.Routes.{Route}
use Rattle.histories.specs.Histories.{Call, does, Log, State, left, History, last_open, chain, last_finish, when_open, when_finished, phase_of, phase_told}

pub record Query (A : Algebra) : Type 0 where
  pub chain : List (Carrier A.Weight)
  pub bounds : A.Weight
  pub destination : ℕ
  pub source : ℕ

pub record Weighs (A : Algebra) (q : Query A) (hops : List Hop) (x : A.Weight) : Type 0 where
  pub last : ℕ
  pub is_last : length q.chain ≡ suc last
  pub route : Route A q.chain q.destination last q.source hops x
  pub within : T (A.good x q.bounds)

pub record Front (A : Algebra) (R : A.Weight → Type 0) (ws : List A.Weight) : Type 0 where
  pub ascending : (i : ℕ) (x y : A.Weight) → slice_get ws i ≡ Some x → slice_get ws (suc i) ≡ Some y → T (A.before x y)
  pub sound : (i : ℕ) (x : A.Weight) → slice_get ws i ≡ Some x → R x
  pub complete : (x : A.Weight) → R x → (i : ℕ) × (y : A.Weight) × (slice_get ws i ≡ Some y) × T (A.good y x)
  pub apart : (i j : ℕ) (x y : A.Weight)
      → slice_get ws i ≡ Some x
      → slice_get ws j ≡ Some y
      → (i ≢ j)
      → T (A.good x y)
      → ⊥

-- Of every slice that has room for the hops; and a slice that has not is refused.
pub record Shown (A : Algebra) (q : Query A) (r : State A.Weight) (it : Item A.Weight) : Type 0 where
  pub hops : List Hop
  pub weighs : Weighs A q hops it.weight
  pub expands : (slice : List Hop)
      → length hops ≤ length slice
      → on_expand r.stage it.key r.labels slice
      ≡ record { slice = hops ++ drop (length hops) slice; answer = Ok (length hops) }
  pub short : (slice : List Hop)
      → length slice < length hops
      → on_expand r.stage it.key r.labels slice ≡ record { slice = slice; answer = Err refusals.Short }

abbrev pub weights : {W : Type 0} → List (Item W) → List W
weights its = map (λ it. it.weight) its

abbrev pub Routed : (A : Algebra) → Query A → A.Weight → Type 0
Routed A q x = (hops : List Hop) × Weighs A q hops x

pub record Found (A : Algebra) (q : Query A) (r : State A.Weight) : Type 0 where
  -- what item answers for k = 0, 1 and so on, until it is refused
  pub listed : List (Item A.Weight)
  pub items : (k : ℕ) → on_item r.stage q.source k r.labels ≡ ok_or (slice_get listed k) refusals.Key
  pub count : on_count r.stage q.source r.labels ≡ Ok (length listed)
  -- the listed weights are those that matter of all routes, no other sequence is, and each key shows a route
  pub front : Front A (Routed A q) (weights listed)
  pub only : (ws : List A.Weight) → Front A (Routed A q) ws → ws ≡ weights listed
  pub shown : (k : ℕ) (it : Item A.Weight) → slice_get listed k ≡ Some it → Shown A q r it

pub record Promise (A : Algebra) (log : Log A.Weight) (r : State A.Weight) : Type 0 where
  pub query : Query A
  pub ending : Ending
  pub chain_was : chain log ≡ query.chain
  pub open_was : last_open log ≡ Some (query.bounds, query.destination)
  pub finish_was : last_finish log ≡ Some (query.source, ending)
  pub found : Found A query r
  -- the finish answered that there is no route exactly if there is none, and else how many are listed
  pub none_so : ending.routes ≡ None → (x : A.Weight) → Routed A query x → ⊥
  pub none_then : ((x : A.Weight) → Routed A query x → ⊥) → ending.routes ≡ None
  pub number : (ending.routes ≢ None) → ending.routes ≡ Some (length found.listed)

abbrev pub Staged : Algebra → Type 0
Staged A =
    (log : Log A.Weight) (r : State A.Weight) → History A log r → phase_of r.stage ≡ phase_told log

abbrev pub Finished : Algebra → Type 0
Finished A =
    (log : Log A.Weight) (r : State A.Weight) (p : Progress A.Weight)
    → History A log r
    → r.stage ≡ finished p
    → Promise A log r

abbrev pub FinishedAsTold : Algebra → Type 0
FinishedAsTold A =
    (log : Log A.Weight) (r : State A.Weight)
    → History A log r
    → phase_told log ≡ when_finished
    → Promise A log r

-- What has been found so far at the node v, as if it were the source.
pub record SoFar (A : Algebra) (log : Log A.Weight) (r : State A.Weight) (v : ℕ) : Type 0 where
  pub query : Query A
  pub chain_was : chain log ≡ query.chain
  pub open_was : last_open log ≡ Some (query.bounds, query.destination)
  pub source_is : v ≡ query.source
  pub found : Found A query r

-- At each entry node v of the last carrier crossed, c.
abbrev pub Underway : Algebra → Type 0
Underway A =
    (log : Log A.Weight) (r : State A.Weight) (p : Progress A.Weight)
    → History A log r
    → r.stage ≡ opened p
    → (i : ℕ) (c : Carrier A.Weight) (v : ℕ)
    → length (chain log) ≡ suc i
    → slice_get (chain log) i ≡ Some c
    → T (c.entry v)
    → SoFar A log r v

abbrev pub UnderwayAsTold : Algebra → Type 0
UnderwayAsTold A =
    (log : Log A.Weight) (r : State A.Weight)
    → History A log r
    → phase_told log ≡ when_open
    → (i : ℕ) (c : Carrier A.Weight) (v : ℕ)
    → length (chain log) ≡ suc i
    → slice_get (chain log) i ≡ Some c
    → T (c.entry v)
    → SoFar A log r v

abbrev pub Unchanged : Algebra → Type 0
Unchanged A =
    (log : Log A.Weight) (r : State A.Weight) (c : Call A.Weight) (why : Refusal)
    → History A log r
    → (does A r.stage c r.labels).answer ≡ Err why
    → left (does A r.stage c r.labels) ≡ r
