use Rattle.std.proofs.Common.{decimal, ap, ◌∙◌}
use Rattle.books.specs.Told.{contents_of}
use Rattle.listing.specs.Listing.{sum_means, width_means, colours_means, pair_means, amount_text, pair_text, selected_text}
use Rattle.listing.specs.Texts.{answer_text}
use Rattle.listing.proofs.Lines.{listed_ok}
use Rattle.listing.proofs.selected_routes.Goals as goal

pub returns-in-Delay-clause-text : goal.returns-in-Delay-clause-text
returns-in-Delay-clause-text c =
    listed_ok amount_text sum_means _ _ _ c.routes_text.ensures.text
    (ap (selected_text (contents_of c.args.chain.now)) c.in-Delay.ensures)

pub returns-in-DelayFee-clause-text : goal.returns-in-DelayFee-clause-text
returns-in-DelayFee-clause-text c =
    listed_ok (pair_text amount_text amount_text) (pair_means sum_means sum_means) _ _ _ c.routes_text-in-DelayFee.ensures.text
    (ap (selected_text (contents_of c.args.chain.now)) c.in-DelayFee.ensures)

pub returns-in-All-clause-text : goal.returns-in-All-clause-text
returns-in-All-clause-text c =
    listed_ok (pair_text amount_text (pair_text amount_text (pair_text amount_text decimal))) (pair_means sum_means (pair_means sum_means (pair_means width_means colours_means))) _ _ _ c.routes_text-in-All.ensures.text
    (ap (selected_text (contents_of c.args.chain.now)) c.in-All.ensures)

pub returns-in-All-clause-refused : goal.returns-in-All-clause-refused
returns-in-All-clause-refused c r e =
    ap (answer_text (pair_text amount_text (pair_text amount_text (pair_text amount_text decimal)))) (c.routes_text-in-All.ensures.refused r e) ∙ ap (selected_text (contents_of c.args.chain.now)) c.in-All.ensures
