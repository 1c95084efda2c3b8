use Rattle.std.proofs.Common.{refl, append_assoc}
use Rattle.std.proofs.Output.{has_written_of_eq, has_written_append}
use Rattle.account.proofs.lines.HeadingDisplay.fmt.Goals as goal

pub returns-clause-writes : goal.returns-clause-writes
returns-clause-writes g c p e =
    let took = g.W.Write.write_str_gives in
    let one = c.in_ok-write.ensures.writes p refl in
    let two = c.in_ok-write-2.ensures.writes one.plain refl in
    let three = c.write-3.ensures.writes two.plain e in
    has_written_of_eq took _ _ _ _
    (simp (append_assoc, c.selection_name.ensures, c.saturating_sub.ensures))
    (has_written_append took _ _ _ _ _ one (has_written_append took _ _ _ _ _ two three))
