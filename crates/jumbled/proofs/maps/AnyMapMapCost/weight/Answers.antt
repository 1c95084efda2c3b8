use Rattle.jumbled.proofs.maps.AnyMapMapCost.weight.Goals as goal

pub returns-in-FencedBook : goal.returns-in-FencedBook
returns-in-FencedBook c = rw c.in-FencedBook.is c.weight-in-FencedBook.ensures
