-- What a line of a job is made of.
--   name_of j         its first word
--   numbers_of j      its numbers, in the order of the line
--   Says line j       the line is the name, and for each number a space and 1 to 9 digits that write the number
--   printed j         the line with each number in decimals, without leading zeros
--   Small j           each number has at most 9 digits
use Rattle.std.specs.Prelude.{All, ◌≡◌, ℕ, ◌<◌, List, [], ◌∷◌, ◌++◌, map, Some, codes, decimal}
use Rattle.text_pieces.specs.Pieces.{after_spaces}
use Rattle.job_text.specs.Counted.{numbers_in}
use Rattle.job_text.specs.declared.line.JobLine.{JobLine}
use Rattle.job_text.specs.declared.line.JobLine.TheVariants.{Site, Place, Lift, Rate}

abbrev pub name_of : JobLine → List ℕ
name_of (Site n) = codes "site"
name_of (Place b) = codes "place"
name_of (Lift p) = codes "lift"
name_of Rate = codes "rate"

abbrev pub numbers_of : JobLine → List ℕ
numbers_of (Site n) =
    n.strength
    ∷ n.cracked
    ∷ n.edge_distance
    ∷ n.left_corner
    ∷ n.right_corner
    ∷ n.thickness
    ∷ n.dense
    ∷ n.edge_factor
    ∷ n.anchors
    ∷ n.spacing
    ∷ []
numbers_of (Place b) = b.position ∷ b.tension ∷ b.shear ∷ []
numbers_of (Lift p) = p ∷ []
numbers_of Rate = []

pub record Says (line : List ℕ) (j : JobLine) : Type 0 where
  pub numerals : List (List ℕ)
  pub numbers : numbers_in numerals ≡ Some (numbers_of j)
  pub written : line ≡ name_of j ++ after_spaces numerals

abbrev pub printed : JobLine → List ℕ
printed j = name_of j ++ after_spaces (map decimal (numbers_of j))

abbrev pub Small : JobLine → Type 0
Small j = All (λ n. n < 1000000000) (numbers_of j)
