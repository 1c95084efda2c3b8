use Rattle.listing.proofs.Truths.{true_listing}
use Rattle.listing.proofs.truth.lists_are_true.Goals as goal

pub returns : goal.returns
returns c = true_listing
