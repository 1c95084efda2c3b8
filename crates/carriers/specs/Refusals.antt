-- The number and the word of each refusal.
use Rattle.std.specs.Prelude.{ℕ, List, ◌++◌, codes, decimal}
use Rattle.carriers.specs.declared.refusals.Refusal.{Refusal}
use Rattle.carriers.specs.declared.refusals.Refusal.TheVariants.{Stage, Memory, Bound, Size, Chain, Node, Full, Key, Short, Mark, Version, Length, Field}

abbrev pub number_of : Refusal → ℕ
number_of Stage = 1
number_of Memory = 2
number_of Bound = 3
number_of Size = 4
number_of Chain = 5
number_of Node = 6
number_of Full = 7
number_of Key = 8
number_of Short = 9
number_of Mark = 10
number_of Version = 11
number_of Length = 12
number_of Field = 13

abbrev pub word_of : Refusal → List ℕ
word_of Stage = codes "stage"
word_of Memory = codes "memory"
word_of Bound = codes "bound"
word_of Size = codes "size"
word_of Chain = codes "chain"
word_of Node = codes "node"
word_of Full = codes "full"
word_of Key = codes "key"
word_of Short = codes "short"
word_of Mark = codes "mark"
word_of Version = codes "version"
word_of Length = codes "length"
word_of Field = codes "field"

-- what is written of a refusal: its number, a space, its word
abbrev pub refusal_text : Refusal → List ℕ
refusal_text r = decimal (number_of r) ++ (codes " " ++ word_of r)
