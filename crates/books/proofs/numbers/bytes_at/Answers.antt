use Rattle.std.proofs.Common.{rules, ap, ◌∙◌, zero-add}
use Rattle.std.proofs.lemmas.List.{get_or-drop}
use Rattle.books.specs.Bytes.{byte_at}
use Rattle.books.proofs.Made.{made_from}
use Rattle.books.proofs.numbers.bytes_at.Goals as goal

pub returns : goal.returns
returns g c k l =
    made_from _ (λ i. byte_at c.rest_at-rest.result.now i) _ (λ x y q e. search rules) c.from_fn.result g.row.N 0 k k 0 c.from_fn.ensures.items.each l (zero-add k)
    ∙ ap (λ b. byte_at b k) c.rest_at-rest.ensures ∙ get_or-drop c.args.start c.args.bytes.now k 0
