-- Words that are numbers, of a known count.
--   ahead n ns        a number before those that follow; none where one of them is missing
--   numbers_in ws     the numbers that all words are; none where one of them is no number of 1 to 9 digits
--   exactly n ws      the same, where there are n words; none elsewhere
use Rattle.std.specs.Prelude.{ℕ, cond, List, [], ◌∷◌, length, Some, None, Option, ◌==◌}
use Rattle.text_pieces.specs.Numerals.{number_in}

abbrev pub ahead : Option ℕ → Option (List ℕ) → Option (List ℕ)
ahead None ns = None
ahead (Some n) None = None
ahead (Some n) (Some ns) = Some (n ∷ ns)

abbrev pub numbers_in : List (List ℕ) → Option (List ℕ)
numbers_in [] = Some []
numbers_in (w ∷ ws) = ahead (number_in w) (numbers_in ws)

unfoldable pub exactly : ℕ → List (List ℕ) → Option (List ℕ)
exactly n ws = cond (length ws == n) (numbers_in ws) None
