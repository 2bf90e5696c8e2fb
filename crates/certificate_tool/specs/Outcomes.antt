-- What comes of a text, and of a certificate's bytes.
use Rattle.std.specs.Prelude.{◌≡◌, ℕ, Bool, true, false, List, Ok, Err, vec_items, string_bytes, Result, Vec, String}
use Rattle.std.specs.declared.alloc.Global.{Global}
use Rattle.certificate.specs.Content.{Content, reading}
use Rattle.certificate.specs.Writing.{written, writing_refusal}
use Rattle.certificate_text.specs.Parsed.{parsed, Parses}
use Rattle.certificate_text.specs.Printed.{text_of}
use Rattle.certificate_tool.specs.declared.fault.ToolFault.{ToolFault}
use Rattle.certificate_tool.specs.declared.fault.ToolFault.TheVariants.{Text, Refused, Memory}

-- a certificate is made of what the text says, and reads as that; a text that is not understood, or whose certificate
-- would be refused, makes none
abbrev pub Makes : List ℕ → Result (Vec ℕ Global) ToolFault → Type 0
Makes text (Ok made) = (c : Content) × (parsed text ≡ Ok c) × (vec_items made ≡ written c) × (reading (vec_items made) ≡ Ok c)
Makes text (Err (Text e)) = Parses text (Err e)
Makes text (Err (Refused e)) = (c : Content) × (parsed text ≡ Ok c) × (writing_refusal c 4096 ≡ Err e)
Makes text (Err Memory) = (c : Content) × (parsed text ≡ Ok c) × (writing_refusal c 4096 ≡ Ok tt)

-- what is shown is the text of what the bytes say, and says it again when it is parsed; or the refusal that reading them
-- gives
abbrev pub Shows : List ℕ → Result (String Global) ToolFault → Type 0
Shows bytes (Ok shown) = (c : Content) × (reading bytes ≡ Ok c) × (string_bytes shown ≡ text_of c) × (parsed (string_bytes shown) ≡ Ok c)
Shows bytes (Err (Text e)) = ⊥
Shows bytes (Err (Refused e)) = reading bytes ≡ Err e
Shows bytes (Err Memory) = (c : Content) × (reading bytes ≡ Ok c)

-- a fault that is no refusal is no answer
abbrev pub is_failure : Result (String Global) ToolFault → Bool
is_failure (Ok shown) = false
is_failure (Err (Text e)) = true
is_failure (Err (Refused e)) = false
is_failure (Err Memory) = true
