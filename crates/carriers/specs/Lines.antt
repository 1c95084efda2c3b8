-- The carrier that a line of nodes is.
--   onto_next i w   the link at place i of a line, to the node after i
--   onward i w      the link at the last place i of a line, to node 0 of the next carrier
--   line n w        n nodes in a row, every link of weight w, node 0 the only entry
use Rattle.std.specs.Prelude.{ℕ, ◌+◌, cond, Some, None, Option, ◌==◌, nat_lt}
use Rattle.carriers.specs.declared.sides.Side.TheVariants.{Inside, Onward}
use Rattle.carriers.specs.Carrier.{Link, Carrier}

abbrev pub onto_next : {V : Type 0} → ℕ → V → Link V
onto_next i w = record { tail = i; side = Inside; head = i + 1; weight = w }

abbrev pub onward : {V : Type 0} → ℕ → V → Link V
onward i w = record { tail = i; side = Onward; head = 0; weight = w }

abbrev pub link_in_line : {V : Type 0} → ℕ → V → ℕ → Option (Link V)
link_in_line n w i =
    cond (nat_lt (i + 1) n) (Some (onto_next i w)) (cond (i + 1 == n) (Some (onward i w)) None)

abbrev pub line : {V : Type 0} → ℕ → V → Carrier V
line n w = record { nodes = n; places = n; at = link_in_line n w; entry = λ v. (v == 0) }
