-- The head of the file: 18 bytes with the edition, the number of sections, and a pair of offset and length for each
-- of the four sections.
--   pair_byte k       where the pair of section k begins
--   offset, size      what the pair says
--   section_of bs k   the part of the file that the pair points to
use Rattle.std.specs.Prelude.{ℕ, ◌+◌, ◌*◌, ◌%◌, Bool, ◌&&◌, ◌||◌, List, [], ◌∷◌, ◌++◌, length, take, drop, ◌==◌, nat_le, slice_index}
use Rattle.certificate.specs.Bytes.{u16_at}
use Rattle.certificate.specs.Asked.{Asked, fault}
use Rattle.certificate.specs.declared.fault.Question.TheVariants.{Header, Layout}
use Rattle.certificate.specs.declared.layout.Section.{Section}
use Rattle.certificate.specs.declared.layout.Section.TheVariants.{Geometry, Resistance, Cracked, Uncracked}

abbrev pub number_of : Section → ℕ
number_of Geometry = 0
number_of Resistance = 1
number_of Cracked = 2
number_of Uncracked = 3

abbrev pub pair_byte : Section → ℕ
pair_byte s = 2 + 4 * number_of s

abbrev pub offset : List ℕ → Section → ℕ
offset bs s = u16_at bs (pair_byte s)

abbrev pub size : List ℕ → Section → ℕ
size bs s = u16_at bs (pair_byte s + 2)

abbrev pub section_end : List ℕ → Section → ℕ
section_end bs s = offset bs s + size bs s

abbrev pub section_of : List ℕ → Section → List ℕ
section_of bs s = take (size bs s) (drop (offset bs s) bs)

-- the numbers of the first section take 24 bytes, those of the second 60; a list has 1 to 64 entries of four bytes
abbrev pub right_size : Section → ℕ → Bool
right_size Geometry n = n == 24
right_size Resistance n = n == 60
right_size Cracked n = nat_le 4 n && nat_le n 256 && n % 4 == 0
right_size Uncracked n = nat_le 4 n && nat_le n 256 && n % 4 == 0

-- 18 to 4,096 bytes; byte 0 is the edition, 1 or 2; byte 1 is the number of sections, four
abbrev pub header_asked : List ℕ → Asked
header_asked bs =
    (nat_le 18 (length bs) && nat_le (length bs) 4096, fault Header 0)
    ∷ (slice_index bs 0 == 1 || (slice_index bs 0 == 2), fault Header 0)
    ∷ ((slice_index bs 1 == 4), fault Header 1)
    ∷ []

-- a section begins at byte `from` or later, ends inside the file, and has a right length
abbrev pub pair_asked : List ℕ → Section → ℕ → Asked
pair_asked bs s from =
    (nat_le from (offset bs s), fault Layout (pair_byte s))
    ∷ (nat_le (section_end bs s) (length bs), fault Layout (pair_byte s))
    ∷ (right_size s (size bs s), fault Layout (pair_byte s))
    ∷ []

-- the sections lie in order and apart, after the head
abbrev pub layout_asked : List ℕ → Asked
layout_asked bs =
    pair_asked bs Geometry 18
    ++ (pair_asked bs Resistance (section_end bs Geometry)
    ++ (pair_asked bs Cracked (section_end bs Resistance) ++ pair_asked bs Uncracked (section_end bs Cracked)))
