use Rattle.std.proofs.Common.{◌≡◌, ℕ, List, take, Some, None, IfSome, Option, ap, ◌∙◌, arith}
use Rattle.std.specs.Option.{option_map}
use Rattle.std.proofs.lemmas.List.{take-take}
use Rattle.input.proofs.chain_file.Goals as goal

-- what is left of the known bytes when no more than n of them were read
first_known : (n : ℕ) (known : Option (List ℕ)) (read left : List ℕ) → IfSome (option_map (take n) known) (λ xs. read ≡ xs) → left ≡ take n read
    → IfSome known (λ xs. left ≡ take n xs)
first_known n None read left r l = tt
first_known n (Some xs) read left r l = l ∙ ap (take n) r ∙ take-take n n xs (omega arith)

pub returns-clause-bytes : goal.returns-clause-bytes
returns-clause-bytes g c =
    let known = g.R.Read.remaining c.args.reader in
    first_known 65537 known c.read_to_end.new.buf.items _
    (rw (c.take.ensures.limit, c.take.ensures.inner, c.new-bytes.ensures.items) at c.in_ok-read_to_end.ensures.bytes)
    c.truncate.ensures.items
