-- The loads of bolts, in N.
--   load_of direction b         the load of a bolt in a direction
--   loaded b                    both loads are in range, and not both 0
--   total_load direction xs     the sum of the loads in a direction
use Rattle.std.specs.Prelude.{ℕ, Bool, not, ◌&&◌, List, sum_by, ◌==◌, nat_le}
use Rattle.bolts.specs.declared.bolt.Bolt.{Bolt}
use Rattle.bolts.specs.declared.bolt.Direction.{Direction}
use Rattle.bolts.specs.declared.bolt.Direction.TheVariants.{Tension, Shear}

abbrev pub load_of : Direction → Bolt → ℕ
load_of Tension b = b.tension
load_of Shear b = b.shear

abbrev pub loaded : Bolt → Bool
loaded b = nat_le b.tension 200000 && nat_le b.shear 200000 && not (b.tension == 0 && b.shear == 0)

abbrev pub total_load : Direction → List Bolt → ℕ
total_load direction xs = sum_by (load_of direction) xs
