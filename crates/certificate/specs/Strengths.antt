-- The lists of strength classes: entries of four bytes, a strength in N/mm² and a factor in hundredths.
use Rattle.std.specs.Prelude.{ℕ, ◌+◌, ◌-◌, ◌*◌, ◌/◌, ◌&&◌, ◌||◌, List, [], ◌∷◌, length, ◌==◌, nat_le, nat_lt}
use Rattle.std.specs.List.{range_with_len, flat_map}
use Rattle.certificate.specs.Bytes.{u16_at}
use Rattle.certificate.specs.Asked.{Asked, fault}
use Rattle.certificate.specs.declared.fault.Question.TheVariants.{Strengths}

abbrev pub strength_at : List ℕ → ℕ → ℕ
strength_at bs k = u16_at bs (4 * k)

abbrev pub factor_at : List ℕ → ℕ → ℕ
factor_at bs k = u16_at bs (4 * k + 2)

-- a strength is 12 to 75 and above the one before; a factor is 20 to 400
abbrev pub entry_asked : ℕ → List ℕ → ℕ → Asked
entry_asked place bs k =
    (nat_le 12 (strength_at bs k) && nat_le (strength_at bs k) 75, fault Strengths (place + 4 * k))
    ∷ (k == 0 || nat_lt (strength_at bs (k - 1)) (strength_at bs k), fault Strengths (place + 4 * k))
    ∷ (nat_le 20 (factor_at bs k) && nat_le (factor_at bs k) 400, fault Strengths (place + 4 * k + 2))
    ∷ []

abbrev pub list_asked : ℕ → List ℕ → Asked
list_asked place bs = flat_map (entry_asked place bs) (range_with_len 0 (length bs / 4))
