use Rattle.std.proofs.Common.{◌≡◌, suc, ◌+◌, true, false, map, drop, sym, ap, ◌∙◌, arith}
use Rattle.std.specs.List.{slice_get}
use Rattle.std.proofs.lemmas.List.{drop_all}
use Rattle.stepping.specs.Labels.{meant}
use Rattle.histories.specs.Lists.{items}
use Rattle.requests.proofs.Items.{items_more, nth_after}
use Rattle.requests.proofs.lists.item_at.Goals as goal
use Rattle.requests.proofs.lists.item_at.Goals.{then-is_listed+else-left-eq0, else-is_listed}

pub returns-then-left-eq0 : goal.returns-then-left-eq0
returns-then-left-eq0 g c =
    let f = g.W.Kind.means in
    let ys = c.args.labels.now in
    let v = c.args.node in
    let i = c.loop-i.i in
    let k = c.args.first_key + i in
    let j = c.args.first_key + (i + 1) in
    let x = c.index-labels-i in
    let next : suc k ≡ j = omega arith in
    sym
    (c.loop-i.invariant
    ∙ ap (λ n. slice_get (items v k (map (meant f) (drop i ys))) n) c.if-left-eq0.true
    ∙ ap (λ r. slice_get r 0) (items_more f ys v i k j next x.result c.loop-i-test.true x.is true (sym c.is_listed.ensures ∙ c.if-is_listed.true)))

pub loop-i-preserved : goal.loop-i-preserved
loop-i-preserved g c =
    let f = g.W.Kind.means in
    let ys = c.args.labels.now in
    let v = c.args.node in
    let i = c.loop-i.i in
    let k = c.args.first_key + i in
    let j = c.args.first_key + (i + 1) in
    let n = c.loop-i.left in
    let x = c.index-labels-i in
    let next : suc k ≡ j = omega arith in
    let rest = items v j (map (meant f) (drop (i + 1) ys)) in
    let more = items_more f ys v i k j next x.result c.loop-i-test.true x.is in
    elim c.if-is_listed.branch [
      | then-is_listed+else-left-eq0 w ↦
          c.loop-i.invariant
          ∙ ap (λ r. slice_get r n) (more true (sym c.is_listed.ensures ∙ w.if-is_listed.true))
          ∙ nth_after (record { weight = f x.result.weight; key = k }) rest n w.if-left-eq0.false
          ∙ ap (slice_get rest) (sym w.left-is)
      | else-is_listed w ↦
          c.loop-i.invariant
          ∙ ap (λ r. slice_get r n) (more false (sym c.is_listed.ensures ∙ w.if-is_listed.false))
          ∙ ap (slice_get rest) (sym w.left-is)
    ]

pub returns : goal.returns
returns g c =
    let f = g.W.Kind.means in
    let ys = c.args.labels.now in
    let i = c.loop-i.i in
    sym
    (c.loop-i.invariant
    ∙ ap (λ r. slice_get (items c.args.node (c.args.first_key + i) (map (meant f) r)) c.loop-i.left) (drop_all i ys c.loop-i-test.false))
