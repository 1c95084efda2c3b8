use Rattle.std.proofs.Common.{◌||◌, ◌==◌, nat_lt, ◌≡◌, false, length, List, [], ◌∷◌, ℕ, codes, rules}
use Rattle.std.proofs.lemmas.Result.{err_from_is_err_and}
use Rattle.carriers.specs.declared.refusals.Refusal.TheVariants.{Length, Field}
use Rattle.books.specs.Bytes.{byte_at}
use Rattle.books.specs.ChainLayout.{bounds_of, header_of}
use Rattle.carriers.specs.Rules.{Rule}
use Rattle.books.proofs.Verdicts.{broken, kept, unmarked, marked}
use Rattle.books.proofs.header.Header.read.Goals as goal

-- the rules that follow the mark and the version
abbrev field_rules : List ℕ → List Rule
field_rules bs =
    (byte_at bs 5 == 0 || nat_lt 3 (byte_at bs 5), Field)
    ∷ (byte_at bs 6 == 0 || nat_lt 16 (byte_at bs 6), Field)
    ∷ []

pub returns-in_err-check_mark-clause-answer : goal.returns-in_err-check_mark-clause-answer
returns-in_err-check_mark-clause-answer c =
    let bs = c.args.bytes.now in
    let p = err_from_is_err_and c.from_residual.result c.from_residual.ensures.1 in
    let misfit = nat_lt (length bs) 27 || nat_lt 65536 (length bs) in
    let fits : misfit ≡ false = search rules in
    rw (p.1, p.2) (unmarked misfit Length (codes "CHN") bs (field_rules bs) _ (header_of bs) _ fits c.in_err-check_mark.ensures)

pub returns-in_err-bounds-clause-answer : goal.returns-in_err-bounds-clause-answer
returns-in_err-bounds-clause-answer c =
    let bs = c.args.bytes.now in
    let p = err_from_is_err_and c.from_residual-in_err-bounds.result c.from_residual-in_err-bounds.ensures.1 in
    let m = marked (codes "CHN") bs _ _ c.in_ok-check_mark.ensures in
    let selection = byte_at bs 5 in
    let k = broken (selection == 0 || nat_lt 3 selection) Field _ (bounds_of selection bs) c.in_err-bounds.ensures in
    search rules

pub returns-then-carriers-eq0-clause-answer : goal.returns-then-carriers-eq0-clause-answer
returns-then-carriers-eq0-clause-answer c =
    let bs = c.args.bytes.now in
    let m = marked (codes "CHN") bs _ _ c.in_ok-check_mark.ensures in
    let selection = byte_at bs 5 in
    let k = kept (selection == 0 || nat_lt 3 selection) Field (bounds_of selection bs) _ c.in_ok-bounds.ensures in
    search rules

pub returns-clause-answer : goal.returns-clause-answer
returns-clause-answer c =
    let bs = c.args.bytes.now in
    let m = marked (codes "CHN") bs _ _ c.in_ok-check_mark.ensures in
    let selection = byte_at bs 5 in
    let k = kept (selection == 0 || nat_lt 3 selection) Field (bounds_of selection bs) _ c.in_ok-bounds.ensures in
    search rules
