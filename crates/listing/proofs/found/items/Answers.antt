use Rattle.std.proofs.Common.{◌≡◌, ◌+◌, ◌<◌, [], ◌∷◌, ◌++◌, map, vec_items, ap, ◌∙◌, arith, rules}
use mathlib.Core.List.{map-append}
use Rattle.std.proofs.lemmas.Result.{err_from_is_err_and}
use Rattle.stepping.specs.Labels.{meanings}
use Rattle.requests.specs.Kept.{stage_of}
use Rattle.requests.specs.Listed.{item_meant}
use Rattle.listing.proofs.Lines.{item_on, item_off, items_end}
use Rattle.listing.proofs.found.items.Goals as goal

pub returns-in_err-item-clause-refused : goal.returns-in_err-item-clause-refused
returns-in_err-item-clause-refused g c r e =
    let f = g.W.Kind.means in
    let l : c.loop-k.k < c.args.count = omega arith in
    let p = err_from_is_err_and c.from_residual-in_err-item.result c.from_residual-in_err-item.ensures.1 in
    cc (p.1, p.2, item_off (stage_of f c.args.request.now.stage) c.args.node (meanings f c.args.memory.now) c.args.count c.loop-k.k (map (item_meant f) (vec_items c.loop-k.items)) _ l c.in_err-item.ensures, c.loop-k.invariant.so_far)

pub loop-k-preserved : goal.loop-k-preserved
loop-k-preserved g c =
    let f = g.W.Kind.means in
    let l : c.loop-k.k < c.args.count = omega arith in
    let its = vec_items c.loop-k.items in
    let pushed : vec_items c.push.new.self ≡ its ++ c.in_ok-item.field-0 ∷ [] = rw c.unwrap.ensures at c.push.ensures.items in
    let more = ap (map (item_meant f)) pushed ∙ map-append (item_meant f) its (c.in_ok-item.field-0 ∷ []) in
    let s = stage_of f c.args.request.now.stage in
    let m = meanings f c.args.memory.now in
    record {
      so_far = cc (more, item_on s c.args.node m c.args.count c.loop-k.k (map (item_meant f) its) (item_meant f c.in_ok-item.field-0) l c.in_ok-item.ensures, c.loop-k.invariant.so_far);
      length = (rw c.unwrap.ensures at c.push.ensures.len) ∙ ap (λ n. n + 1) c.loop-k.invariant.length;
      room = omega arith;
    }

pub returns-clause-found : goal.returns-clause-found
returns-clause-found g c = search (rules, items_end)
