-- What a table holds.
--   held t              its bolts, in rising position
--   reaches t           the position of the last anchor, in tenths
--   Made reach answer   a new table with no bolt; refused exactly where reach is above 27,500 tenths
use Rattle.std.specs.Prelude.{◌≡◌, ℕ, ◌<◌, ◌≤◌, List, [], Ok, Err, vec_items, Result}
use Rattle.bolts.specs.declared.bolt.Bolt.{Bolt}
use Rattle.bolts.specs.declared.fault.Fault.{Fault}
use Rattle.bolts.specs.declared.fault.Fault.TheVariants.{Refused, Memory}
use Rattle.bolts.specs.declared.refusal.Refusal.TheVariants.{Opening}
use Rattle.bolts.specs.declared.table.BoltTable.{BoltTable}

abbrev pub held : BoltTable → List Bolt
held t = vec_items t.bolts

abbrev pub reaches : BoltTable → ℕ
reaches t = t.reach

abbrev pub Made : ℕ → Result BoltTable Fault → Type 0
Made reach (Ok t) = (reach ≤ 27500) × (reaches t ≡ reach) × (held t ≡ [])
Made reach (Err (Refused e)) = (27500 < reach) × (e ≡ Opening)
Made reach (Err Memory) = reach ≤ 27500
