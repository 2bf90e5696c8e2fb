-- What is printed where a text is not taken.
use Rattle.std.specs.Prelude.{ℕ, List, ◌++◌, codes, decimal}
use Rattle.certificate_text.specs.declared.fault.TextFault.{TextFault}
use Rattle.certificate_text.specs.declared.fault.TextFault.TheVariants.{Line, Memory}

abbrev pub fault_text : TextFault → List ℕ
fault_text (Line n) = codes "line " ++ (decimal n ++ codes " of the text is not understood")
fault_text Memory = codes "out of memory"
