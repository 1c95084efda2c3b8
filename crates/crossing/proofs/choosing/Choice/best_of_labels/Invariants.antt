use Rattle.std.proofs.Common.{◌≡◌, ◌+◌, map, drop, fold}
use Rattle.std.specs.Option.{option_map}
use Rattle.stepping.specs.Labels.{meant}
use Rattle.crossing.specs.Offers.{offer_meant, chosen, offers}
use Rattle.crossing.proofs.choosing.Choice.best_of_labels.Given as goal

-- the labels that are left give the answer
abbrev pub invariant-loop-i : goal.invariant-loop-i
invariant-loop-i g l =
    let k = g.W.Kind in
    let choose = chosen k.algebra (k.means l.self.bounds) (map (meant k.means) l.self.run.labels.now) in
    let o = offer_meant k.means l.offer in
    fold choose (option_map (meant k.means) l.initial.best) (offers k.algebra o l.met.first_key (map (meant k.means) l.met.labels.now))
    ≡ fold choose (option_map (meant k.means) l.best) (offers k.algebra o (l.met.first_key + l.i) (map (meant k.means) (drop l.i l.met.labels.now)))
