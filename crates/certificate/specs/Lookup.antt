-- Finding a strength class in a list of entries.
use Rattle.std.specs.Prelude.{◌≡◌, ℕ, ◌*◌, ◌/◌, ◌<◌, cond, List, length, drop, Some, None, Option, ◌≢◌, nat_lt}
use Rattle.std.specs.Borrow.{Bor}
use Rattle.certificate.specs.Strengths.{strength_at}
use Rattle.certificate.specs.Content.{entry_at}
use Rattle.certificate.specs.declared.fields.StrengthFactor.{StrengthFactor}
use Rattle.certificate.specs.declared.layout.Section.{Section}
use Rattle.certificate.specs.declared.layout.Section.TheVariants as section
use Rattle.certificate.specs.declared.lookup.Concrete.{Concrete}
use Rattle.certificate.specs.declared.lookup.Concrete.TheVariants.{Cracked, Uncracked}

abbrev pub chosen_list : List ℕ → List ℕ → Concrete → List ℕ
chosen_list cracked uncracked Cracked = cracked
chosen_list cracked uncracked Uncracked = uncracked

-- the section that holds the list
abbrev pub list_section : Concrete → Section
list_section Cracked = section.Cracked
list_section Uncracked = section.Uncracked

-- the k-th entry is the first of this strength
pub record First (bs : List ℕ) (strength k : ℕ) : Type 0 where
  pub inside : k < length bs / 4
  pub wanted : strength_at bs k ≡ strength
  pub earlier : (j : ℕ) → j < k → strength_at bs j ≢ strength

-- no entry has this strength
abbrev pub Absent : List ℕ → ℕ → Type 0
Absent bs strength = (j : ℕ) → j < length bs / 4 → strength_at bs j ≢ strength

abbrev pub FirstAt : List ℕ → ℕ → Option ℕ → Type 0
FirstAt bs strength None = Absent bs strength
FirstAt bs strength (Some k) = First bs strength k

-- the answer is the tail of the list that begins with the first such entry, or none where there is none
abbrev pub TailFrom : List ℕ → ℕ → Option (Bor (List ℕ)) → Type 0
TailFrom bs strength None = Absent bs strength
TailFrom bs strength (Some tail) = (k : ℕ) × First bs strength k × (tail.now ≡ drop (4 * k) bs)

abbrev pub at_place : List ℕ → ℕ → Option StrengthFactor
at_place bs k = cond (nat_lt k (length bs / 4)) (Some (entry_at bs k)) None
