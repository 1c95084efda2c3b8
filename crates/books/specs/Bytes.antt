-- Big-endian numbers in a byte string.
--   byte_at bs i   the byte at i; 0 past the end
--   u16_at bs i    the number in the two bytes from i on, the higher first
--   u32_at bs i    the number in the four bytes from i on, the highest first
use Rattle.std.specs.Prelude.{ℕ, ◌+◌, ◌*◌, List, slice_index}

abbrev pub byte_at : List ℕ → ℕ → ℕ
byte_at bs i = slice_index bs i

abbrev pub u16_at : List ℕ → ℕ → ℕ
u16_at bs i = byte_at bs i * 256 + byte_at bs (i + 1)

abbrev pub u32_at : List ℕ → ℕ → ℕ
u32_at bs i = u16_at bs i * 65536 + u16_at bs (i + 2)
