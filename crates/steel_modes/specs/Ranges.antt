-- What is made of numbers in range.
--   Made t P answer       something with P exactly where t is true
--   factor_well f         1.00 to 3.00, in hundredths
--   value_well v          1,000 to 500,000 N;   value_or_none v: that, or 0
--   strength_well s       0.20 to 4.00, in hundredths
--   bending_well v        100 to 10,000 newton-metres
--   spacing_well s        200 to 3,000 tenths
use Rattle.std.specs.Prelude.{◌≡◌, ℕ, Bool, true, false, ◌&&◌, ◌||◌, Some, None, Option, ◌==◌, nat_le}

abbrev pub Made : {T : Type 0} → Bool → (T → Type 0) → Option T → Type 0
Made t P (Some x) = (t ≡ true) × P x
Made t P None = t ≡ false

abbrev pub factor_well : ℕ → Bool
factor_well f = nat_le 100 f && nat_le f 300

abbrev pub value_well : ℕ → Bool
value_well v = nat_le 1000 v && nat_le v 500000

abbrev pub value_or_none : ℕ → Bool
value_or_none v = v == 0 || value_well v

abbrev pub strength_well : ℕ → Bool
strength_well s = nat_le 20 s && nat_le s 400

abbrev pub spacing_well : ℕ → Bool
spacing_well s = nat_le 200 s && nat_le s 3000

abbrev pub bending_well : ℕ → Bool
bending_well v = nat_le 100 v && nat_le v 10000
