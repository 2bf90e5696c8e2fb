use Rattle.std.proofs.Common.{rules, append_assoc, arith}
use Rattle.certificate.specs.Writing.{written}
use Rattle.certificate.proofs.write.draft_of.Goals as goal

pub returns-clause-after : goal.returns-clause-after
unfolding written
returns-clause-after c = search (rules, append_assoc)

pub returns-clause-fits : goal.returns-clause-fits
returns-clause-fits c =
    record {
      shorts = rw c.geometry_shorts.ensures at c.put-3.ensures.fits;
      inertia = c.put-4.ensures.fits 0 0 (omega arith);
      values = rw c.values_list.ensures at c.put-5.ensures.fits;
      factors = rw c.factors_list.ensures at c.put-6.ensures.fits;
      cracked = c.put-7.ensures.fits;
      uncracked = c.put-8.ensures.fits;
    }
