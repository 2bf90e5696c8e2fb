-- What is printed of a fault.
use Rattle.std.specs.Prelude.{ℕ, List, codes}
use Rattle.certificate.specs.Numbers.{refused_text}
use Rattle.certificate_text.specs.Faults.{fault_text}
use Rattle.certificate_tool.specs.declared.fault.ToolFault.{ToolFault}
use Rattle.certificate_tool.specs.declared.fault.ToolFault.TheVariants.{Text, Refused, Memory}

abbrev pub told : ToolFault → List ℕ
told (Text fault) = fault_text fault
told (Refused fault) = refused_text fault
told Memory = codes "out of memory"
