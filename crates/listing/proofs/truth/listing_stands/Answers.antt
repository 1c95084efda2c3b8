use Rattle.listing.proofs.Written.{listed_truly}
use Rattle.listing.proofs.truth.listing_stands.Goals as goal

pub returns : goal.returns
returns g c = listed_truly g.W.Kind.algebra g.W.Kind.laws
