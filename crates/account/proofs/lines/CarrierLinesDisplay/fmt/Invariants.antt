use Rattle.std.proofs.Common.{◌≡◌, ℕ, List, ◌++◌}
use Rattle.std.specs.Fmt.{HasWritten, IsPlainFormatter}
use Rattle.books.specs.Told.{contents_of, books_left}
use Rattle.account.specs.Texts.{carriers_text}
use Rattle.account.proofs.lines.CarrierLinesDisplay.fmt.Given as goal

-- what has been written, followed by the lines of the books that are left, is the whole text
abbrev pub invariant-loop-position : goal.invariant-loop-position
invariant-loop-position g l =
    record {
      can : (goal.iterator-loop-position g).can_next l.position-iterator;
      finite : (goal.iterator-loop-position g).is_finite l.position-iterator;
      written : IsPlainFormatter l.initial.f → (w : List ℕ)
          × HasWritten g.W.Write.write_str_gives l.initial.f w l.f
          × (w ++ carriers_text l.position-iterator.count (books_left l.position-iterator.iter) ≡ carriers_text 0 (contents_of l.self.chain).books);
    }
