use Rattle.std.proofs.Common.{◌≡◌, Ok, Err, refl, ap, ◌∙◌, arith, rules}
use Rattle.histories.specs.Crossings.{with_run}
use Rattle.requests.specs.declared.stages.Progress.{Progress}
use Rattle.requests.specs.Kept.{progress_of, did}
use Rattle.requests.specs.declared.stages.Stage.TheVariants.{Open}
use Rattle.requests.proofs.Seen.{stops, ends, fits}
use Rattle.requests.proofs.stages.Progress.cross.Goals as goal

pub returns-in_err-settled-clause-call : goal.returns-in_err-settled-clause-call
returns-in_err-settled-clause-call g c =
    let k = g.W.Kind in
    let e = c.in_err-settled.field-0.0 in
    let l = c.cross.new.memory in
    let err : c.from_residual.result ≡ Err e = search rules in
    ap (did k.means (Open c.args.self.now) l) err
    ∙ stops k.algebra k.means c.args.self.now c.args.marks (g.M.Map.carrier c.args.map.now) c.args.memory.now c.scope-scope.result c.scope-scope.ensures c.requires.memory c.requires.places
    (Err e) l c.in_err-settled.ensures.answer c.in_err-settled.ensures.labels e refl

pub push-requires-clause-within : goal.push-requires-clause-within
push-requires-clause-within g c =
    let k = g.W.Kind in
    let n = c.in_ok-settled.settled in
    let at = ap (λ t. t.used) c.scope-scope.ensures in
    let end = fits k.algebra k.means c.args.self.now c.args.marks (g.M.Map.carrier c.args.map.now) c.args.memory.now c.scope-scope.result c.scope-scope.ensures c.requires.memory c.requires.places
    (Ok n) c.cross.new.memory c.in_ok-settled.ensures.answer c.in_ok-settled.ensures.labels n refl c.cross.auto.memory in
    omega (arith, end, at)

pub returns-clause-call : goal.returns-clause-call
returns-clause-call g c =
    let k = g.W.Kind in
    let n = c.in_ok-settled.settled in
    let at = ap (λ t. t.used) c.scope-scope.ensures in
    let q : Progress g.row.W.Denot = record { bounds = c.args.self.now.bounds; destination = c.args.self.now.destination; runs = c.push.new.self } in
    let more : progress_of k.means q ≡ with_run (progress_of k.means c.args.self.now) n = cc (at, c.push.ensures.runs, c.push.ensures.memory) in
    ends k.algebra k.means c.args.self.now c.args.marks (g.M.Map.carrier c.args.map.now) c.args.memory.now c.scope-scope.result c.scope-scope.ensures c.requires.memory c.requires.places
    (Ok n) c.cross.new.memory c.in_ok-settled.ensures.answer c.in_ok-settled.ensures.labels q n refl more
