-- The bending moment at a bolt, of the loads in its span. Lengths in µm, loads in mN, moments in thousandths of a
-- newton-metre; the spacing s in tenths.
--   offset s b              how far a bolt lies from the anchor on its left
--   same_span s a b         no anchor lies between two bolts, or over the right one
--   part_above s a b        the load of b, times the smaller offset, times the span less the greater; 0 over an anchor
--   part_below s            the span times 1,000,000
--   part_up, part_read      what b adds to the moment at a: the quotient, up, and exactly
--   moment_at c i           the moment at the i-th bolt;   moment_read c i: exactly
use Rattle.std.specs.Prelude.{ℕ, ◌+◌, ◌-◌, ◌*◌, ◌/◌, ◌%◌, min, Bool, cond, map, sum_by, ◌==◌}
use Rattle.fractions.specs.Fractions.{Fraction, whole, total}
use Rattle.bolts.specs.Bolts.{bolt_at}
use Rattle.bolts.specs.declared.bolt.Bolt.{Bolt}
use Rattle.roots.specs.Division.{up}
use Rattle.forces.specs.Readings.{quotient}
use Rattle.forces.specs.Cases.{Case, um, mn}

abbrev pub greater : ℕ → ℕ → ℕ
greater x y = x + (y - x)

abbrev pub offset : ℕ → Bolt → ℕ
offset s b = um (b.position % s)

abbrev pub same_span : ℕ → Bolt → Bolt → Bool
same_span s a b = a.position / s == b.position / s

abbrev pub part_above : ℕ → Bolt → Bolt → ℕ
part_above s a b = mn b.tension * min (offset s a) (offset s b) * (um s - greater (offset s a) (offset s b))

abbrev pub part_below : ℕ → ℕ
part_below s = um s * 1000000

abbrev pub part_up : ℕ → Bolt → Bolt → ℕ
part_up s a b = cond (same_span s a b) (up (part_above s a b) (part_below s)) 0

abbrev pub part_read : ℕ → Bolt → Bolt → Fraction
part_read s a b = cond (same_span s a b) (quotient (part_above s a b) (part_below s)) (whole 0)

abbrev pub moment_at : Case → ℕ → ℕ
moment_at c i = sum_by (part_up c.opening.spacing (bolt_at c.bolts i)) c.bolts

abbrev pub moment_read : Case → ℕ → Fraction
moment_read c i = total (map (part_read c.opening.spacing (bolt_at c.bolts i)) c.bolts)
