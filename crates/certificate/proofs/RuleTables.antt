-- The rules of the code are those of the format.
use Rattle.std.proofs.Common.{◌≡◌, refl}
use Rattle.certificate.specs.Rules.{geometry_rules, resistance_rules}
use Rattle.certificate.specs.declared.tables.TheConstants.{GEOMETRY, RESISTANCE}

pub geometry_table : GEOMETRY ≡ geometry_rules
unfolding geometry_rules
geometry_table = refl

pub resistance_table : RESISTANCE ≡ resistance_rules
unfolding resistance_rules
resistance_table = refl
