use Rattle.std.proofs.Common.{◌≡◌, suc, ◌+◌, ◌-◌, ◌<◌, ◌∷◌, ◌++◌, length, take, set, Some, sym, ap, ◌∙◌, arith, length-set}
use Rattle.std.specs.Option.{option_map}
use Rattle.stepping.specs.Labels.{meanings}
use Rattle.histories.specs.Expansion.{follow}
use Rattle.requests.specs.Table.{runs_of}
use Rattle.requests.proofs.Hops.{there, hop_here, hops_left, written_more}
use Rattle.requests.proofs.runs.Runs.write_hops.Goals as goal

pub loop-hop-preserved : goal.loop-hop-preserved
loop-hop-preserved g c =
    let f = g.W.Kind.means in
    let rs = runs_of c.args.self.now in
    let m = c.args.memory.now in
    let at = c.loop-hop.at in
    let i = c.loop-hop.hop-index in
    let hops = c.loop-hop.hops in
    let x = c.index-memory-at in
    let next = x.result.next in
    let within = there f rs m at _ c.loop-hop.invariant.1 in
    let short : i < length hops = omega (arith, c.loop-hop.auto.hops) in
    let one : length hops - i ≡ suc (length hops - (i + 1)) = omega arith in
    let left = c.loop-hop.invariant.1 ∙ ap Some one in
    let rest = follow rs (meanings f m) (suc next) next in
    let long : length hops - (i + 1) ≡ length (set hops i (record { position = c.position.result; link = x.result.link })) - (i + 1) =
    ap (λ n. n - (i + 1)) (sym (length-set hops i (record { position = c.position.result; link = x.result.link }))) in (
      c.loop-hop.invariant.0
          ∙ (ap (option_map (λ hs. take i hops ++ hs)) (hop_here f rs m at x.result within x.is (length hops - (i + 1)) left)
          ∙ (ap (λ k. option_map (λ hs. take i hops ++ hs) (option_map (λ hs. record { position = k; link = x.result.link } ∷ hs) rest)) (sym c.position.ensures)
          ∙ written_more hops i (record { position = c.position.result; link = x.result.link }) short rest)),
      hops_left f rs m at x.result within x.is (length hops - (i + 1)) left ∙ ap Some long,
    )
