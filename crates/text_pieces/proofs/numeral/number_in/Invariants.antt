use Rattle.std.proofs.Common.{◌≡◌, ◌^◌, ◌<◌, drop}
use Rattle.text_pieces.specs.Numerals.{digits, read_on}
use Rattle.text_pieces.proofs.numeral.number_in.Given as goal

abbrev pub invariant-loop-byte : goal.invariant-loop-byte
invariant-loop-byte l =
    (digits (drop l.byte-index l.bytes) ≡ digits l.bytes) × (read_on l.number (drop l.byte-index l.bytes) ≡ read_on 0 l.bytes) × (l.number < 10 ^ l.byte-index)
