use Rattle.std.proofs.Common.{refl}
use Rattle.histories.specs.Histories.{to_cross, to_finish, new, over, own}
use Rattle.histories.specs.Example.{cost, carrier_0, carrier_1, soiled}
use Rattle.histories.proofs.worked_cases.Goals as goal

pub returns : goal.returns
returns c =
    record {
      history = own (to_finish carrier_1 0) (own (to_cross carrier_0) (over (cost 8 6) 2 (soiled 7) new refl));
      answers = refl;
      labels = refl;
      item_0 = refl;
      item_1 = refl;
      item_2 = refl;
      hops = refl;
      short = refl;
      one_8_5 = refl;
      item_8_5 = refl;
      one_6_3 = refl;
      item_6_3 = refl;
      none_6_2 = refl;
      none_5_3 = refl;
      full = refl;
      unused = refl;
      one_alone = refl;
      item_alone = refl;
      ceiling = refl;
      no_bound = refl;
      colours_within = refl;
      colours_beyond = refl;
    }
