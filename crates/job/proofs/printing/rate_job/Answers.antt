use Rattle.std.proofs.Common.{ℕ, List, [], ◌∷◌, IfOk, Ok, Err, Result, String, refl, inl}
use Rattle.std.specs.declared.alloc.AllocError.{AllocError}
use Rattle.std.specs.declared.alloc.Global.{Global}
use Rattle.job.specs.Jobs.{Ran, PrintsFault, Printed}
use Rattle.job.specs.declared.fault.JobFault.{JobFault}
use Rattle.job.specs.declared.fault.JobFault.TheVariants as fault
use Rattle.job.specs.declared.outcome.Outcome.TheVariants.{Refused}
use Rattle.job.proofs.printing.rate_job.Goals as goal

-- a refusal that ends the job is the one outcome printed
ended : (bs text : List ℕ) (f : JobFault) (r : Result (String Global) AllocError) → Ran bs text (Err f) → IfOk r (PrintsFault f) → Printed bs text r
ended bs text (fault.Refused f) (Ok s) stopped h = (Refused f ∷ [], inl (f, stopped, refl), h)
ended bs text (fault.Refused f) (Err e) stopped h = tt
ended bs text fault.Memory (Ok s) stopped h = elim h [ ]
ended bs text fault.Memory (Err e) stopped h = tt

pub returns-in-Err : goal.returns-in-Err
returns-in-Err c =
    ended c.args.certificate.now c.args.job.now c.in-Err.fault c.print_fault.result c.in-Err.ensures c.print_fault.ensures
