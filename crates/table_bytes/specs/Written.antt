-- What a word of a table writes.
--   fault_of e        the fault of the table for one of the library that reads hex digits
--   fault_text e      what is printed of a fault
--   lifted r          the library's answer with that fault
--   is_other c        the letter is no digit; an upper-case one is none
--   bytes_of w        no bytes for a dash; else two digits each, refused where one is left over, then where one is no digit,
--                     of which upper-case letters are none
use Rattle.std.specs.Prelude.{ℕ, ◌%◌, ◌==◌, ◌||◌, Bool, cond, is_none, List, [], length, codes, Result, Ok, Err}
use Rattle.std.specs.List.{list_any}
use Rattle.std.specs.Str.{bytes_eq}
use Rattle.std.specs.Char.{is_ascii_uppercase}
use Rattle.hex.specs.Hex.{hex_digit_value, decode_of}
use Rattle.hex.specs.declared.error.FromHexError.{FromHexError}
use Rattle.hex.specs.declared.error.FromHexError.TheVariants.{InvalidHexCharacter, OddLength, InvalidStringLength, OutOfMemory}
use Rattle.table_bytes.specs.declared.fault.TableFault.{TableFault}
use Rattle.table_bytes.specs.declared.fault.TableFault.TheVariants.{Half, Digit, Memory}

abbrev pub fault_of : FromHexError → TableFault
fault_of (InvalidHexCharacter c i) = Digit
fault_of OddLength = Half
fault_of InvalidStringLength = Half
fault_of OutOfMemory = Memory

abbrev pub fault_text : TableFault → List ℕ
fault_text Half = codes "half a byte"
fault_text Digit = codes "not a hex digit"
fault_text Memory = codes "memory allocation failed"

abbrev pub lifted : Result (List ℕ) FromHexError → Result (List ℕ) TableFault
lifted (Ok bs) = Ok bs
lifted (Err e) = Err (fault_of e)

abbrev pub bytes_of : List ℕ → Result (List ℕ) TableFault
bytes_of w =
    cond (bytes_eq w (codes "-")) (Ok [])
    (cond (length w % 2 == 1) (Err Half) (cond (list_any is_ascii_uppercase w) (Err Digit) (lifted (decode_of w))))

abbrev pub is_other : ℕ → Bool
is_other c = is_none (hex_digit_value c) || is_ascii_uppercase c
