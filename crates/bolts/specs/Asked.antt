-- Questions in order, each with the refusal that a no gives. The first no is the answer.
use Rattle.std.specs.Prelude.{Bool, cond, List, [], ◌∷◌, Ok, Err, Result}
use Rattle.bolts.specs.declared.refusal.Refusal.{Refusal}

abbrev pub Asked : Type 0
Asked = List (Bool × Refusal)

abbrev pub first_no : Asked → Result Unit Refusal
first_no [] = Ok tt
first_no (q ∷ qs) = cond q.0 (first_no qs) (Err q.1)
