use Rattle.account.proofs.lines.HeadingFromRefChain.from.Goals as goal

pub returns : goal.returns
returns c = cc
