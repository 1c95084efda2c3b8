use Rattle.std.proofs.Common.{◌≡◌, ◌-◌, fold}
use Rattle.std.specs.List.{range_with_len, flat_map}
use Rattle.std.specs.Option.{option_map}
use Rattle.stepping.specs.Labels.{meant, meanings}
use Rattle.stepping.specs.Candidates.{of_place}
use Rattle.stepping.specs.Crossing.{first}
use Rattle.crossing.specs.Offers.{chosen}
use Rattle.crossing.specs.Scopes.{view}
use Rattle.crossing.proofs.stepping_rule.Crossing.first_candidate.Given as goal

-- the places that are left give the answer
abbrev pub invariant-loop-place : goal.invariant-loop-place
invariant-loop-place g l =
    let k = g.W.Kind in
    let V = view k.algebra k.means l.self.scope (g.M.Map.carrier l.self.map.now) l.self.before.now.labels.now in
    let run = meanings k.means l.run in
    first k.algebra V run
    ≡ fold
    (chosen k.algebra V.bounds run)
    (option_map (meant k.means) l.best)
    (flat_map (λ p. of_place k.algebra V run p (V.at p)) (range_with_len l.place (V.places - l.place)))
