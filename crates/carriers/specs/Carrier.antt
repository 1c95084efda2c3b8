-- What a carrier is: its nodes, what stands at each of its link places, and its entry nodes.
--   Link V            a present link: from tail to head, with a weight in V; the head is a node of this carrier
--                     (Inside), or of the next carrier towards the destination (Onward)
--   Carrier V         nodes 0 to nodes - 1, link places 0 to places - 1, each absent or with a link,
--                     and the entries, the nodes at which routes may come in from the carrier before
--   Sound c           present tails, heads inside and entries are nodes of c, and past the last place is no link
--   ends_of o         tail, side and head of a link that may be present
--   weight_of n f o   f of its weight, and n where it is absent
--   meant f c         the carrier c with f of each link's weight for its weight
use Rattle.std.specs.Prelude.{◌≡◌, ℕ, ◌<◌, ◌≤◌, Bool, T, Some, None, Option}
use Rattle.std.specs.Option.{option_map}
use Rattle.carriers.specs.declared.sides.Side.{Side}
use Rattle.carriers.specs.declared.sides.Side.TheVariants.{Inside}

pub record Link (V : Type 0) : Type 0 where
  pub tail : ℕ
  pub side : Side
  pub head : ℕ
  pub weight : V

pub record Carrier (V : Type 0) : Type 0 where
  pub nodes : ℕ
  pub places : ℕ
  pub at : ℕ → Option (Link V)
  pub entry : ℕ → Bool

pub record Sound {V : Type 0} (c : Carrier V) : Type 0 where
  pub tails : (p : ℕ) (l : Link V) → c.at p ≡ Some l → l.tail < c.nodes
  pub heads : (p : ℕ) (l : Link V) → c.at p ≡ Some l → l.side ≡ Inside → l.head < c.nodes
  pub none_past : (p : ℕ) → c.places ≤ p → c.at p ≡ None
  pub entries : (v : ℕ) → T (c.entry v) → v < c.nodes

abbrev pub ends_of : {V : Type 0} → Option (Link V) → Option (ℕ × Side × ℕ)
ends_of None = None
ends_of (Some l) = Some (l.tail, l.side, l.head)

abbrev pub weight_of : {W V : Type 0} → V → (W → V) → Option (Link W) → V
weight_of n f None = n
weight_of n f (Some l) = f l.weight

abbrev pub link_meant : {W V : Type 0} → (W → V) → Link W → Link V
link_meant f l = record { tail = l.tail; side = l.side; head = l.head; weight = f l.weight }

abbrev pub meant : {W V : Type 0} → (W → V) → Carrier W → Carrier V
meant f c = record { nodes = c.nodes; places = c.places; at = λ p. option_map (link_meant f) (c.at p); entry = c.entry }
