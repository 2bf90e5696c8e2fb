-- What a text says: the content, or the first line that is not understood.
use Rattle.std.specs.Prelude.{◌≡◌, ℕ, ◌+◌, ◌<◌, cond, ◌&&◌, List, length, drop, Ok, Err, codes, Result, ◌==◌, nat_le}
use Rattle.certificate.specs.Content.{Content}
use Rattle.certificate.specs.declared.fields.StrengthFactor.{StrengthFactor}
use Rattle.certificate_text.specs.Names.{fields}
use Rattle.text_pieces.specs.Pieces.{lines}
use Rattle.certificate_text.specs.Fronts.{front_fields, front_entries}
use Rattle.certificate_text.specs.Content.{content_from, content_in}
use Rattle.certificate_text.specs.declared.text.CertificateText.{CertificateText}
use Rattle.certificate_text.specs.declared.fault.TextFault.{TextFault}
use Rattle.certificate_text.specs.declared.fault.TextFault.TheVariants.{Line, Memory}

-- the numbers of the fixed lines, as far as they are understood
unfoldable pub numbers_read : List ℕ → List ℕ
numbers_read text = front_fields fields (lines text)

-- the list for cracked concrete begins after the fixed lines
unfoldable pub cracked_read : List ℕ → List StrengthFactor
cracked_read text = front_entries (codes "cracked") (drop 32 (lines text))

-- the list for uncracked concrete follows it
unfoldable pub uncracked_read : List ℕ → List StrengthFactor
uncracked_read text = front_entries (codes "uncracked") (drop (32 + length (cracked_read text)) (lines text))

-- how many lines are understood before the first that is not
unfoldable pub understood : List ℕ → ℕ
understood text =
    cond (length (numbers_read text) == 32) (32 + length (cracked_read text) + length (uncracked_read text)) (length (numbers_read text))

-- the content, where no fixed line is missing and no line is left; else the line after those that are understood
unfoldable pub parsed : List ℕ → Result Content ℕ
parsed text =
    cond (nat_le 32 (understood text) && nat_le (length (lines text)) (understood text)) (Ok (content_from (numbers_read text) (cracked_read text) (uncracked_read text))) (Err (understood text + 1))

-- a result says what the text says; there is no memory only where there is an entry to keep
abbrev pub Parses : List ℕ → Result CertificateText TextFault → Type 0
Parses text (Ok c) = parsed text ≡ Ok (content_in c)
Parses text (Err (Line n)) = parsed text ≡ Err n
Parses text (Err Memory) = 0 < length (cracked_read text) + length (uncracked_read text)
