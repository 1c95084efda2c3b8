-- The line of a carrier that has been counted.
use Rattle.std.specs.Prelude.{ℕ, List}
use Rattle.account.specs.declared.lines.CarrierLine.{CarrierLine}
use Rattle.account.specs.Texts.{counts_text}

abbrev pub line_text : CarrierLine → List ℕ
line_text l = counts_text l.position l.nodes l.entries l.links l.inside l.onward
