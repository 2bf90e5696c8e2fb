-- The definition computes: a moment of inertia of 59,049 mm^4 and a spacing of 100 mm.
use Rattle.std.proofs.Common.{◌≡◌, refl}
use Rattle.roots.specs.Extremes.{by_bits, greatest_of}
use Rattle.influence.specs.Lengths.{twentieth_root_of, influence_length}

pub figure_root : twentieth_root_of 59049 ≡ 173205
unfolding greatest_of by_bits
figure_root = refl

pub figure_length : influence_length 59049 1000 ≡ 225166
unfolding influence_length greatest_of by_bits
figure_length = refl
