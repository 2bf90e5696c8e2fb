-- Lawful lines can be read.
use Rattle.std.proofs.Common.{ℕ, ◌-◌, ◌<◌, List, inl, inr, arith}
use Rattle.std.proofs.lemmas.Bool.{cases_lt}
use Rattle.fractions.specs.Fractions.{Fraction, whole}
use Rattle.forces.specs.Cases.{Case}
use Rattle.failure.specs.Meanings.{Readings, Meaning}
use Rattle.verdict.specs.Lines.{line}
use Rattle.verdict.specs.Exact.{Readable, AllLawful}

-- a reading at a place; anything past the last
pick : (i n : ℕ) (R : Readings) → (i < n → (q : Fraction) × R q) → (q : Fraction) × (i < n → R q)
pick i n R some =
    elim (cases_lt i n) [
      | inl here ↦ let s = some here in (s.0, λ _. s.1)
      | inr past ↦ (whole 0, λ here. absurd (omega arith))
    ]

module _ (c : Case) (ms : List Meaning) (law : AllLawful c ms) (l i : ℕ) where
  abbrev count : ℕ
  count = (line ms l).places.count

  low_effect : (q : Fraction) × (i < count → (line ms l).low_effect i q)
  low_effect = pick i count ((line ms l).low_effect i) (λ h. (law (l - 1) i h).some_low_effect)

  high_effect : (q : Fraction) × (i < count → (line ms l).high_effect i q)
  high_effect = pick i count ((line ms l).high_effect i) (λ h. (law (l - 1) i h).some_high_effect)

  low_resistance : (q : Fraction) × (i < count → (line ms l).low_resistance i q)
  low_resistance = pick i count ((line ms l).low_resistance i) (λ h. (law (l - 1) i h).some_low_resistance)

  high_resistance : (q : Fraction) × (i < count → (line ms l).high_resistance i q)
  high_resistance = pick i count ((line ms l).high_resistance i) (λ h. (law (l - 1) i h).some_high_resistance)

pub readable : (c : Case) (ms : List Meaning) → AllLawful c ms → Readable ms
readable c ms law =
    record {
      some_mild = (
        record { effect = λ l i. (low_effect c ms law l i).0; resistance = λ l i. (high_resistance c ms law l i).0 },
        λ l i h. ((low_effect c ms law l i).1 h, (high_resistance c ms law l i).1 h),
      );
      some_harsh = (
        record { effect = λ l i. (high_effect c ms law l i).0; resistance = λ l i. (low_resistance c ms law l i).0 },
        λ l i h. ((high_effect c ms law l i).1 h, (low_resistance c ms law l i).1 h),
      );
    }
