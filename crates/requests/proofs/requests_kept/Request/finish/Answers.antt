use Rattle.std.proofs.Common.{◌≡◌, Err, ap, ◌∙◌, length, rules}
use Rattle.carriers.specs.Carrier.{meant as carrier_meant}
use Rattle.requests.proofs.Moving.{finish_ends, finish_refused, finish_stops}
use Rattle.requests.proofs.requests_kept.Request.finish.Goals as goal

pub returns-in_err-check_finish-clause-call : goal.returns-in_err-check_finish-clause-call
returns-in_err-check_finish-clause-call g c =
    let k = g.W.Kind in
    let e = c.in_err-check_finish.field-0.0 in
    let err : c.from_residual-in_err-check_finish.result ≡ Err e = search rules in
    finish_refused k.algebra k.means c.in_ok-progress.progress c.args.memory.now e c.args.self.now.stage (carrier_meant k.means (g.M.Map.carrier c.args.map.now)) c.args.source _ err c.in_ok-progress.ensures.begun (c.in_err-check_finish.ensures.judged c.args.memory.now c.in_ok-progress.ensures.memory)

pub returns-in_err-settled-clause-call : goal.returns-in_err-settled-clause-call
returns-in_err-settled-clause-call g c =
    let k = g.W.Kind in
    let e = c.in_err-settled.field-0.0 in
    let err : c.from_residual-in_err-settled.result ≡ Err e = search rules in
    finish_stops k.algebra k.means c.in_ok-progress.progress c.args.memory.now c.cross.new.self c.cross.new.memory e c.args.self.now.stage _ (carrier_meant k.means (g.M.Map.carrier c.args.map.now)) c.args.source err c.in_ok-progress.ensures.begun (c.in_ok-check_finish.ensures.judged c.args.memory.now c.in_ok-progress.ensures.memory) c.in_err-settled.ensures.call

pub returns-clause-call : goal.returns-clause-call
returns-clause-call g c =
    let k = g.W.Kind in
    finish_ends k.algebra k.means c.in_ok-progress.progress c.args.memory.now c.args.source (carrier_meant k.means (g.M.Map.carrier c.args.map.now)) c.args.self.now.stage c.cross.new.self c.cross.new.memory c.in_ok-settled.settled c.count-listed.result c.then_some.result c.in_ok-progress.ensures.begun (c.in_ok-check_finish.ensures.judged c.args.memory.now c.in_ok-progress.ensures.memory) c.in_ok-progress.ensures.memory c.in_ok-settled.ensures.call
    (c.count-listed.ensures ∙ ap length (c.latest_labels.ensures c.args.source)) c.then_some.ensures
