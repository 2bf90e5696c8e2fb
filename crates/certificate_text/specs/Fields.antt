-- The fields of the code's table.
use Rattle.certificate_text.specs.Names.{Field}
use Rattle.certificate_text.specs.declared.names.Field as code

-- the name's bytes, and the largest number
abbrev pub field_of : code.Field → Field
field_of f = record { name = f.name.now; most = f.most }
