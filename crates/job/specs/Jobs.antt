-- A job: the bytes bs of a certificate, and what each line of the text says.
--   BeginsWith said P        the first line is a site, with P of its numbers
--   WithoutSite said         there is a first line, and it is no site
--   Stopped bs said r        the certificate or the first line is refused, which ends the job
--   RatedBy p ls outs        the lines ls after the site come to the outcomes outs on the sheet p: there are answers of
--                            which the whole promise holds, to just the calls that the lines make, and these are told
--   Went bs said outs        neither is refused, and the lines come to these outcomes
--   Ran bs text answer       what is promised of a run
--   Comes bs said outs       the outcomes of a job; a refusal that ends it is the one outcome
--   Printed bs text answer   what is promised of the printed text
use Rattle.std.specs.Prelude.{◌≡◌, ℕ, ◌⊎◌, List, [], ◌∷◌, map, Some, None, Ok, Err, vec_items, string_bytes, Option, Result, Vec, String}
use Rattle.std.specs.List.{flat_map}
use Rattle.std.specs.declared.alloc.Global.{Global}
use Rattle.std.specs.declared.alloc.AllocError.{AllocError}
use Rattle.certificate.specs.Reading.{refusal}
use Rattle.text_pieces.specs.Pieces.{lines}
use Rattle.site.specs.declared.numbers.SiteNumbers.{SiteNumbers}
use Rattle.job_text.specs.Lines.{job_line}
use Rattle.job_text.specs.declared.line.JobLine.{JobLine}
use Rattle.job_text.specs.declared.line.JobLine.TheVariants.{Site, Place, Lift, Rate}
use Rattle.history.specs.Promises.{Promise}
use Rattle.history.specs.declared.call.Answer.{Answer}
use Rattle.rating.specs.Meanings.{channel_lines}
use Rattle.rating.specs.Sheets.{SheetFor}
use Rattle.rating.specs.declared.prepared.Prepared.{Prepared}
use Rattle.rating.specs.declared.fault.SheetFault.TheVariants as sheet
use Rattle.job.specs.Scripts.{script}
use Rattle.job.specs.Telling.{outcomes}
use Rattle.job.specs.Printed.{outcome_text}
use Rattle.job.specs.declared.fault.JobFault.{JobFault}
use Rattle.job.specs.declared.fault.JobFault.TheVariants as fault
use Rattle.job.specs.declared.fault.JobRefusal.{JobRefusal}
use Rattle.job.specs.declared.fault.JobRefusal.TheVariants.{Certificate, Case, Strength, Line}
use Rattle.job.specs.declared.outcome.Outcome.{Outcome}
use Rattle.job.specs.declared.outcome.Outcome.TheVariants.{Refused}

abbrev pub BeginsWith : List (Option JobLine) → (SiteNumbers → Type 0) → Type 0
BeginsWith [] P = ⊥
BeginsWith (None ∷ ls) P = ⊥
BeginsWith (Some (Site n) ∷ ls) P = P n
BeginsWith (Some (Place b) ∷ ls) P = ⊥
BeginsWith (Some (Lift p) ∷ ls) P = ⊥
BeginsWith (Some Rate ∷ ls) P = ⊥

abbrev pub WithoutSite : List (Option JobLine) → Type 0
WithoutSite [] = ⊥
WithoutSite (None ∷ ls) = Unit {0}
WithoutSite (Some (Site n) ∷ ls) = ⊥
WithoutSite (Some (Place b) ∷ ls) = Unit {0}
WithoutSite (Some (Lift p) ∷ ls) = Unit {0}
WithoutSite (Some Rate ∷ ls) = Unit {0}

abbrev pub Stopped : List ℕ → List (Option JobLine) → JobRefusal → Type 0
Stopped bs said (Certificate f) = refusal bs ≡ Err f
Stopped bs said (Line n) = (n ≡ 1) × (refusal bs ≡ Ok tt) × WithoutSite said
Stopped bs said (Case e n) = (n ≡ 1) × BeginsWith said (λ s. SheetFor bs s (Err (sheet.Site e)))
Stopped bs said (Strength n) = (n ≡ 1) × BeginsWith said (λ s. SheetFor bs s (Err sheet.Strength))

abbrev pub RatedBy : Prepared → List (Option JobLine) → List Outcome → Type 0
RatedBy p ls outs =
    (answers : List Answer) × Promise (channel_lines p.sheet) p.opening (script ls) answers × (outs ≡ outcomes 2 ls answers)

abbrev pub Went : List ℕ → List (Option JobLine) → List Outcome → Type 0
Went bs [] outs = (refusal bs ≡ Ok tt) × (outs ≡ [])
Went bs (l ∷ ls) outs = BeginsWith (l ∷ ls) (λ s. (p : Prepared) × SheetFor bs s (Ok p) × RatedBy p ls outs)

-- only memory can be wanting beside
abbrev pub RanAs : List ℕ → List (Option JobLine) → Result (Vec Outcome Global) JobFault → Type 0
RanAs bs said (Ok outs) = Went bs said (vec_items outs)
RanAs bs said (Err (fault.Refused r)) = Stopped bs said r
RanAs bs said (Err fault.Memory) = Unit {0}

abbrev pub Ran : List ℕ → List ℕ → Result (Vec Outcome Global) JobFault → Type 0
Ran bs text answer = RanAs bs (map job_line (lines text)) answer

-- the outcomes outs are those of the job, of which a refusal that ends it is the one outcome
abbrev pub Comes : List ℕ → List (Option JobLine) → List Outcome → Type 0
Comes bs said outs = ((r : JobRefusal) × Stopped bs said r × (outs ≡ Refused r ∷ [])) ⊎ Went bs said outs

abbrev pub PrintsFault : JobFault → String Global → Type 0
PrintsFault (fault.Refused r) s = string_bytes s ≡ flat_map outcome_text (Refused r ∷ [])
PrintsFault fault.Memory s = ⊥

abbrev pub Printed : List ℕ → List ℕ → Result (String Global) AllocError → Type 0
Printed bs text (Ok s) =
    (outs : List Outcome) × Comes bs (map job_line (lines text)) outs × (string_bytes s ≡ flat_map outcome_text outs)
Printed bs text (Err e) = Unit {0}
