use Rattle.std.proofs.Common.{◌≡◌, ℕ, List, Some, None, Ok, Option}
use Rattle.std.specs.Prelude.{ok_or}
use Rattle.certificate.specs.Reading.{refusal}
use Rattle.site.specs.declared.numbers.SiteNumbers.{SiteNumbers}
use Rattle.site.specs.declared.site.Site as declared
use Rattle.rating.specs.Sheets.{SiteFor, PreparedOn, SheetFor}
use Rattle.rating.specs.declared.prepared.Prepared.{Prepared}
use Rattle.rating.specs.declared.fault.SheetFault.TheVariants.{Strength}
use Rattle.rating.proofs.prepared.Prepared.new.Goals as goal

-- what is known of the parts is what is known of the sheet
sheet_for : (bs : List ℕ) (n : SiteNumbers) (t : declared.Site) (r : Option Prepared) → refusal bs ≡ Ok tt → SiteFor bs n (Ok t) → PreparedOn bs t r → SheetFor bs n (ok_or r Strength)
sheet_for bs n t (Some p) accepted on h = (accepted, record { fits = on.0; site = t; numbers = on.1; holds = h })
sheet_for bs n t None accepted on h = (accepted, record { fits = on.0; site = t; numbers = on.1; holds = h })

pub returns : goal.returns
returns c =
    let held = c.in_ok-certificate.ensures.held in
    let t = c.in_ok-site.site in
    let on : SiteFor c.args.bytes.now c.args.numbers (Ok t) = rw held.0 at c.in_ok-site.ensures in
    let made : PreparedOn c.args.bytes.now t c.prepared_on.result = rw held.0 at c.prepared_on.ensures in
    rw c.ok_or.ensures.value (sheet_for _ _ t c.prepared_on.result held.1 on made)
