use Rattle.std.proofs.lemmas.Result.{IfOk-weaker}
use Rattle.listing.specs.Found.{found_of}
use Rattle.listing.proofs.journey.Journey.find_routes.Goals as goal

pub returns-clause-found : goal.returns-clause-found
unfolding found_of
returns-clause-found g c =
    IfOk-weaker c.find_in.result _ _
    (λ l q. cc (q, c.as_mut_slice.ensures.value, c.in_ok-memory.ensures))
    c.find_in.ensures.found

pub returns-clause-refused : goal.returns-clause-refused
unfolding found_of
returns-clause-refused g c r e =
    cc (c.find_in.ensures.refused r e, c.as_mut_slice.ensures.value, c.in_ok-memory.ensures)
