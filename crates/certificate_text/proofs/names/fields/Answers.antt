use Rattle.std.proofs.Common.{refl}
use Rattle.certificate_text.specs.Names.{fields}
use Rattle.certificate_text.proofs.names.fields.Goals as goal

pub returns : goal.returns
unfolding fields
returns c = refl
