use Rattle.std.proofs.Common.{◌≤◌, ◌∙◌, length, take, None, Ok, sym, ap, arith}
use Rattle.std.proofs.lemmas.List.{length-map, length-take}
use Rattle.std.proofs.lemmas.Grind.{common_steps}
use Rattle.stepping.specs.Labels.{meant}
use Rattle.crossing.specs.Crossed.{outcome, answer_of}
use Rattle.crossing.proofs.Whole.{fits, outcome_is, run_written}
use Rattle.crossing.proofs.crossings.cross.Goals as goal

pub returns-in-Some-clause-answer : goal.returns-in-Some-clause-answer
returns-in-Some-clause-answer g c =
    let k = g.W.Kind in
    let m = c.args.memory.now in
    let carrier = g.M.Map.carrier c.args.map.now in
    let split = c.split_at_mut-used in
    let before = c.labels-before in
    let n = c.in-Some.settled in
    let p = c.settle.new.free in
    let fit = fits k.algebra k.means c.args.scope carrier m (omega arith) (omega (arith, c.place_count.ensures)) in
    let told = outcome_is k.algebra k.means c.args.scope carrier m split.result.0.now before.result.labels.now (length split.result.1.now) split.ensures.front split.ensures.back_len before.ensures.labels ∙ c.in-Some.ensures.run in
    let run = c.in-Some.ensures in
    let within : n ≤ length p = omega arith in
    ap Ok (omega (arith, length-map (take n p) (meant k.means), length-take n p))
    ∙ ap (answer_of None) (sym told)
    ∙ ap (λ u. answer_of u (outcome k.algebra k.means c.args.scope carrier m)) (sym fit)

pub returns-in-Some-clause-labels : goal.returns-in-Some-clause-labels
returns-in-Some-clause-labels g c =
    let k = g.W.Kind in
    let split = c.split_at_mut-used in
    let told = c.in-Some.ensures in
    let within : c.in-Some.settled ≤ length c.settle.new.free = omega arith in
    grind (arith, common_steps, run_written (meant k.means) split.result.0.now split.result.1.now c.settle.new.free c.args.scope.used c.in-Some.settled split.ensures.front_len within told.rest)

pub returns-in-None-clause-labels : goal.returns-in-None-clause-labels
returns-in-None-clause-labels g c =
    let k = g.W.Kind in
    let m = c.args.memory.now in
    let carrier = g.M.Map.carrier c.args.map.now in
    let split = c.split_at_mut-used in
    let before = c.labels-before in
    let fit = fits k.algebra k.means c.args.scope carrier m (omega arith) (omega (arith, c.place_count.ensures)) in
    let told = outcome_is k.algebra k.means c.args.scope carrier m split.result.0.now before.result.labels.now (length split.result.1.now) split.ensures.front split.ensures.back_len before.ensures.labels ∙ c.in-None.ensures.run in
    grind (arith, common_steps, fit, told)
