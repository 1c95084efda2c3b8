use Rattle.std.proofs.Common.{refl}
use Rattle.std.proofs.Output.{has_written_append}
use Rattle.account.proofs.CarrierTexts.{carriers_more}
use Rattle.account.proofs.lines.CarrierLinesDisplay.fmt.Goals as goal

pub loop-position-preserved : goal.loop-position-preserved
loop-position-preserved g c =
    let steps = c.in-Some.ensures.steps in
    record {
      can = c.in-Some.ensures.goes.keeps;
      finite = tt;
      written = λ p.
          let before = c.loop-position.invariant.written p in
          let line = c.in_ok-write.ensures.writes before.1.plain refl in (
            _,
            has_written_append g.W.Write.write_str_gives _ _ _ _ _ before.1 line,
            carriers_more before.0 _ _ c.in-Some.position _ _ _ _ _ c.of.ensures steps.0 steps.1 steps.2 before.2,
          );
    }
