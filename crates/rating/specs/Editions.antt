-- A mode by the rules of either edition.
--   edition_of first second m c     the meaning of m for the case c, where first and second are those of its two rules
use Rattle.forces.specs.Cases.{Case}
use Rattle.failure.specs.Meanings.{Meaning}
use Rattle.rating.specs.declared.edition.ByEdition.{ByEdition}
use Rattle.rating.specs.declared.edition.ByEdition.TheVariants.{First, Second}

abbrev pub edition_of : {A B : Type 0} → (A → Case → Meaning) → (B → Case → Meaning) → ByEdition A B → Case → Meaning
edition_of first second (First m) c = first m c
edition_of first second (Second m) c = second m c
