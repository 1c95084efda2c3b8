-- A test as a fact, and as an equation.
use Rattle.std.proofs.Common.{◌≡◌, Bool, true, false, T, refl}
use Rattle.std.proofs.lemmas.Bool.{both_ways}

pub T_true : (b : Bool) → T b → b ≡ true
T_true true t = refl
T_true false t = absurd t

pub false_T : (b : Bool) → b ≡ false → T b → ⊥
false_T b e t = both_ways b e (T_true b t)
