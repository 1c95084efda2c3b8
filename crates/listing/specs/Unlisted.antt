-- What holds where a chain has no list.
--   IfRefused result P   P of the refusal, if there is no result because of one
--   IsLine u s           s is the line of the refusal u; there is no line where memory ran out
use Rattle.std.specs.Prelude.{◌≡◌, ℕ, List, Err, Result}
use Rattle.carriers.specs.declared.refusals.Refusal.{Refusal}
use Rattle.listing.specs.declared.unlisted.Unlisted.{Unlisted}
use Rattle.listing.specs.declared.unlisted.Unlisted.TheVariants.{Refused, Memory}
use Rattle.listing.specs.Texts.{refused_text}

abbrev pub IfRefused : {X : Type 0} → Result X Unlisted → (Refusal → Type 0) → Type 0
IfRefused result P = (r : Refusal) → result ≡ Err (Refused r) → P r

abbrev pub IsLine : Unlisted → List ℕ → Type 0
IsLine (Refused r) s = s ≡ refused_text r
IsLine (Memory e) s = ⊥
