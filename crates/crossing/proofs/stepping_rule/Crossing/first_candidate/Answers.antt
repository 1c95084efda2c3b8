use Rattle.std.proofs.Common.{◌≡◌, ◌+◌, ◌-◌, ◌<◌, fold, sym, ap, ◌∙◌, arith}
use Rattle.std.specs.List.{range_with_len, flat_map}
use Rattle.std.specs.Option.{option_map}
use Rattle.stepping.specs.Labels.{meant, meanings}
use Rattle.stepping.specs.Candidates.{of_place}
use Rattle.crossing.specs.Offers.{offer_meant, chosen, offers_of}
use Rattle.crossing.specs.Scopes.{view}
use Rattle.crossing.proofs.Links.{offers_place, none_place}
use Rattle.crossing.proofs.Places.{places_more}
use Rattle.crossing.proofs.stepping_rule.Crossing.first_candidate.Goals as goal
use Rattle.crossing.proofs.stepping_rule.Crossing.first_candidate.Goals.{in-Some, in_default}

pub loop-place-preserved : goal.loop-place-preserved
loop-place-preserved g c =
    let k = g.W.Kind in
    let f = k.means in
    let s = c.args.self.now in
    let V = view k.algebra f s.scope (g.M.Map.carrier s.map.now) s.before.now.labels.now in
    let run = meanings f c.args.run.now in
    let choose = chosen k.algebra V.bounds run in
    let best = option_map (meant f) c.loop-place.best in
    let p = c.loop-place.place in
    let l : p < V.places = omega (arith, c.place_count-place-end.ensures) in
    let step : option_map (meant f) c.match-offer.best ≡ fold choose best (of_place k.algebra V run p (V.at p)) =
    elim c.match-offer.branch [
      | in-Some w ↦
          let d = offer_meant f w.in-Some.offer in
          ap (option_map (meant f)) w.best-is
          ∙ w.best_of_link-best.ensures
          ∙ ap (λ j. fold choose best (offers_of k.algebra d d.side V.start run j V.before)) s.start
          ∙ ap (fold choose best) (offers_place k.algebra V run p (V.at p) d w.in-Some.ensures)
      | in_default w ↦
          ap (option_map (meant f)) w.best-is ∙ ap (fold choose best) (sym (none_place k.algebra V run p (V.at p) w.in_default.ensures))
    ] in
    c.loop-place.invariant
    ∙ places_more choose (λ q. of_place k.algebra V run q (V.at q)) V.places p best l
    ∙ ap (λ t. fold choose t (flat_map (λ q. of_place k.algebra V run q (V.at q)) (range_with_len (p + 1) (V.places - (p + 1))))) (sym step)
