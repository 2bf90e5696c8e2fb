-- The ratio of an actual distance to a characteristic one.
use Rattle.fractions.specs.Fractions.{Fraction, over}
use Rattle.failure.specs.declared.scaling.Distances.{Distances}

abbrev pub ratio_of : Distances → Fraction
ratio_of d = over d.a d.b d.proper
