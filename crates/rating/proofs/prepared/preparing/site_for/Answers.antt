use Rattle.std.proofs.Common.{◌≡◌, ℕ, Bool, true, false, cond, List, Ok, Err, Result, refl}
use Rattle.bolts.specs.declared.refusal.Refusal.{Refusal}
use Rattle.bolts.specs.declared.refusal.Refusal.TheVariants.{Opening}
use Rattle.site.specs.Sites.{read_as}
use Rattle.site.specs.declared.numbers.SiteNumbers.{SiteNumbers}
use Rattle.site.specs.declared.site.Site.{Site}
use Rattle.rating.specs.Sheets.{in_range, SiteFor}
use Rattle.rating.proofs.prepared.preparing.site_for.Goals as goal

-- what the check's answer says
known : (bs : List ℕ) (n : SiteNumbers) (t : Bool) (r : Result Site Refusal) → in_range bs n ≡ t → read_as r ≡ cond t (Ok n) (Err Opening) → SiteFor bs n r
known bs n true (Ok s) is e = (is, (cc))
known bs n false (Err x) is e = (is, (cc))
known bs n true (Err x) is e = cc
known bs n false (Ok s) is e = cc

pub returns : goal.returns
returns c =
    let asked = rw (c.edition-edition.ensures, c.geometry-geometry.ensures.value) at c.check.ensures in
    known c.args.certificate.now.bytes.now c.args.numbers _ c.check.result refl asked
