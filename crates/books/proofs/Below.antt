-- What a test of the numbers below n says of each of them.
use Rattle.std.proofs.Common.{◌≡◌, ℕ, ◌<◌, Bool, true, get_or, sym, ◌∙◌, ap, zero-add, arith}
use Rattle.std.specs.List.{list_all, list_any}
use Rattle.std.proofs.lemmas.List.FromFn.{length-range_with_len, get_or-range_with_len}
use Rattle.std.proofs.lemmas.List.Sums.{AllPass-from_list_all}
use Rattle.std.proofs.lemmas.List.Folds.{list_any_at}
use Rattle.books.specs.BookLayout.{below}

pub at : (n k d : ℕ) → k < n → get_or (below n) k d ≡ k
at n k d l = get_or-range_with_len 0 n k d l ∙ zero-add k

pub every_holds : (p : ℕ → Bool) (n k : ℕ) → list_all p (below n) ≡ true → k < n → p k ≡ true
every_holds p n k h l =
    sym (ap p (at n k 0 l)) ∙ AllPass-from_list_all p (below n) h k 0 (omega (arith, length-range_with_len 0 n))

pub some_passes : (p : ℕ → Bool) (n k : ℕ) → k < n → p k ≡ true → list_any p (below n) ≡ true
some_passes p n k l e = list_any_at p (below n) k 0 (omega (arith, length-range_with_len 0 n)) (ap p (at n k 0 l) ∙ e)
