-- Little-endian numbers of two and of four bytes.
--   u16_at bs i, u32_at bs i   the number that begins at byte i; what lies past the end counts 0
--   le16 n, le32 n             the bytes of a number
use Rattle.std.specs.Prelude.{ℕ, ◌+◌, ◌*◌, ◌/◌, ◌%◌, List, [], ◌∷◌, slice_index}

abbrev pub u16_at : List ℕ → ℕ → ℕ
u16_at bs i = slice_index bs i + slice_index bs (i + 1) * 256

abbrev pub u32_at : List ℕ → ℕ → ℕ
u32_at bs i = slice_index bs i + slice_index bs (i + 1) * 256 + slice_index bs (i + 2) * 65536 + slice_index bs (i + 3) * 16777216

abbrev pub le16 : ℕ → List ℕ
le16 n = (n % 256) ∷ (n / 256 % 256) ∷ []

abbrev pub le32 : ℕ → List ℕ
le32 n = (n % 256) ∷ (n / 256 % 256) ∷ (n / 65536 % 256) ∷ (n / 16777216 % 256) ∷ []
