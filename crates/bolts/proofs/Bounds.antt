-- What a loaded bolt bears at most, and what the bolts of a table bear together.
use Rattle.std.proofs.Common.{◌≡◌, ℕ, ◌≤◌, true, List, length, arith}
use Rattle.std.proofs.lemmas.Bool.Decides.{nat_tests}
use Rattle.std.proofs.lemmas.List.Elements.{All-from_get_or}
use Rattle.std.proofs.lemmas.List.Sums.{sum_by-le}
use Rattle.bolts.specs.Bolts.{no_bolt, Sound}
use Rattle.bolts.specs.Loads.{load_of, loaded, total_load}
use Rattle.bolts.specs.Tables.{held}
use Rattle.bolts.specs.declared.bolt.Bolt.{Bolt}
use Rattle.bolts.specs.declared.bolt.Direction.{Direction}
use Rattle.bolts.specs.declared.bolt.Direction.TheVariants.{Tension, Shear}
use Rattle.bolts.specs.declared.table.BoltTable.{BoltTable}

pub load_bound : (direction : Direction) (b : Bolt) → loaded b ≡ true → load_of direction b ≤ 200000
load_bound Tension b h = grind (arith, nat_tests)
load_bound Shear b h = grind (arith, nat_tests)

pub total_load_bound : (direction : Direction) (reach : ℕ) (xs : List Bolt) → Sound reach xs → length xs ≤ 16 → total_load direction xs ≤ 3200000
total_load_bound direction reach xs sound few =
    let each = All-from_get_or (λ b. load_of direction b ≤ 200000) xs no_bolt (λ k h. load_bound direction _ (sound k h).1) in
    omega (arith, sum_by-le (load_of direction) 200000 xs each)

pub table_load : (t : BoltTable) (direction : Direction) → total_load direction (held t) ≤ 3200000
table_load t direction = total_load_bound direction t.reach _ t.sound (omega (arith, t.few, t.bolts.ok.0))
