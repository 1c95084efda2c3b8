use Rattle.std.proofs.Common.{◌≡◌, Err, ◌∙◌, rules}
use Rattle.carriers.specs.Carrier.{meant as carrier_meant}
use Rattle.requests.proofs.Moving.{crosses, cross_refused, cross_stops}
use Rattle.requests.proofs.requests_kept.Request.cross.Goals as goal

pub returns-in_err-check_cross-clause-call : goal.returns-in_err-check_cross-clause-call
returns-in_err-check_cross-clause-call g c =
    let k = g.W.Kind in
    let e = c.in_err-check_cross.field-0.0 in
    let err : c.from_residual-in_err-check_cross.result ≡ Err e = search rules in
    cross_refused k.algebra k.means c.in_ok-progress.progress c.args.memory.now e c.args.self.now.stage (carrier_meant k.means (g.M.Map.carrier c.args.map.now)) _ err c.in_ok-progress.ensures.begun (c.in_err-check_cross.ensures.judged c.args.memory.now c.in_ok-progress.ensures.memory)

pub returns-in_err-settled-clause-call : goal.returns-in_err-settled-clause-call
returns-in_err-settled-clause-call g c =
    let k = g.W.Kind in
    let e = c.in_err-settled.field-0.0 in
    let err : c.from_residual-in_err-settled.result ≡ Err e = search rules in
    cross_stops k.algebra k.means c.in_ok-progress.progress c.args.memory.now c.cross.new.self c.cross.new.memory e c.args.self.now.stage _ (carrier_meant k.means (g.M.Map.carrier c.args.map.now)) err c.in_ok-progress.ensures.begun (c.in_ok-check_cross.ensures.judged c.args.memory.now c.in_ok-progress.ensures.memory) c.in_err-settled.ensures.call

pub returns-clause-call : goal.returns-clause-call
returns-clause-call g c =
    let k = g.W.Kind in
    c.in_ok-settled.ensures.call
    ∙ crosses k.algebra k.means c.in_ok-progress.progress c.args.memory.now (carrier_meant k.means (g.M.Map.carrier c.args.map.now)) c.args.self.now.stage c.in_ok-progress.ensures.begun (c.in_ok-check_cross.ensures.judged c.args.memory.now c.in_ok-progress.ensures.memory)
