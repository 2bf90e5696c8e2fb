-- Decimal numbers of 1 to 9 digits.
--   digits ds       all bytes are digits
--   read_on n ds    the number that digits write after n
--   numeral ds      1 to 9 bytes, all digits
--   number_in ds    the value of a numeral; none where the bytes are none
use Rattle.std.specs.Prelude.{ℕ, ◌+◌, ◌-◌, ◌*◌, Bool, true, cond, ◌&&◌, List, [], ◌∷◌, length, Some, None, Option, nat_le}

abbrev pub digits : List ℕ → Bool
digits [] = true
digits (c ∷ cs) = (nat_le 48 c && nat_le c 57) && digits cs

abbrev pub read_on : ℕ → List ℕ → ℕ
read_on n [] = n
read_on n (c ∷ cs) = read_on (10 * n + (c - 48)) cs

abbrev pub numeral : List ℕ → Bool
numeral ds = (nat_le 1 (length ds) && nat_le (length ds) 9) && digits ds

unfoldable pub number_in : List ℕ → Option ℕ
number_in ds = cond (numeral ds) (Some (read_on 0 ds)) None
