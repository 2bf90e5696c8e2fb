-- The strength factor of a strength class.
--   FactorIn bs f answer   the factor of the first entry of the class f in the list bs; none exactly where no entry has it
use Rattle.std.specs.Prelude.{◌≡◌, ℕ, List, Some, None, Option}
use Rattle.certificate.specs.Lookup.{First, Absent}
use Rattle.certificate.specs.Strengths.{factor_at}

abbrev pub FactorIn : List ℕ → ℕ → Option ℕ → Type 0
FactorIn bs f None = Absent bs f
FactorIn bs f (Some ψ) = (k : ℕ) × First bs f k × (ψ ≡ factor_at bs k)
