-- Opening a case: 2 to 12 anchors, spacing 500 to 2,500 tenths, moment of inertia 4,000 to 200,000 mm⁴.
use Rattle.std.specs.Prelude.{◌≡◌, Bool, ◌&&◌, [], ◌∷◌, Ok, Err, Result, nat_le}
use Rattle.bolts.specs.Asked.{Asked, first_no}
use Rattle.bolts.specs.declared.refusal.Refusal.TheVariants as refusal
use Rattle.bolts.specs.declared.fault.Fault.{Fault}
use Rattle.bolts.specs.declared.fault.Fault.TheVariants.{Refused, Memory}
use Rattle.forces.specs.declared.opening.Opening.{Opening}
use Rattle.loadcase.specs.Held.{case_of}
use Rattle.loadcase.specs.declared.open.OpenCase.{OpenCase}

abbrev pub in_range : Opening → Bool
in_range o =
    (nat_le 2 o.anchors && nat_le o.anchors 12)
    && ((nat_le 500 o.spacing && nat_le o.spacing 2500) && (nat_le 4000 o.inertia && nat_le o.inertia 200000))

abbrev pub opening_asked : Opening → Asked
opening_asked o = (in_range o, refusal.Opening) ∷ []

-- granted: a case with these numbers and no bolt; refused: by the question; memory is wanting only where it was granted
abbrev pub Opened : Opening → Result OpenCase Fault → Type 0
Opened o (Ok c) = (first_no (opening_asked o) ≡ Ok tt) × (case_of c ≡ record { opening = o; bolts = [] })
Opened o (Err (Refused e)) = first_no (opening_asked o) ≡ Err e
Opened o (Err Memory) = first_no (opening_asked o) ≡ Ok tt
