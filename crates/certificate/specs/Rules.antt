-- The numbers of the first two sections, in file order, each with its range.
--   value_at bs rule     the number that stands where the rule says
--   allowed rule v       v is in the rule's range, or 0 where the rule allows it
use Rattle.std.specs.Prelude.{ℕ, ◌+◌, ◌*◌, Bool, true, false, ◌&&◌, ◌||◌, List, [], ◌∷◌, ◌==◌, nat_le}
use Rattle.std.specs.List.{flat_map}
use Rattle.certificate.specs.Bytes.{u16_at, u32_at}
use Rattle.certificate.specs.Asked.{Asked, fault}
use Rattle.certificate.specs.declared.fault.Question.TheVariants.{Range}
use Rattle.certificate.specs.declared.rules.Width.{Width}
use Rattle.certificate.specs.declared.rules.Width.TheVariants.{Two, Four}
use Rattle.certificate.specs.declared.rules.FieldRule.{FieldRule}

abbrev pub number_at : Width → List ℕ → ℕ → ℕ
number_at Two bs i = u16_at bs i
number_at Four bs i = u32_at bs i

abbrev pub value_at : List ℕ → FieldRule → ℕ
value_at bs rule = number_at rule.width bs rule.offset

abbrev pub allowed : FieldRule → ℕ → Bool
allowed rule v = (nat_le rule.least v && nat_le v rule.most) || (rule.or_zero && v == 0)

abbrev pub field_asked : ℕ → List ℕ → FieldRule → Asked
field_asked place bs rule = (allowed rule (value_at bs rule), fault Range (place + rule.offset)) ∷ []

abbrev pub fields_asked : ℕ → List ℕ → List FieldRule → Asked
fields_asked place bs rules = flat_map (field_asked place bs) rules

abbrev pub two : ℕ → ℕ → ℕ → FieldRule
two at least most = record { offset = at; width = Two; least = least; most = most; or_zero = false }

abbrev pub four : ℕ → ℕ → ℕ → FieldRule
four at least most = record { offset = at; width = Four; least = least; most = most; or_zero = false }

abbrev pub four_or_zero : ℕ → ℕ → ℕ → FieldRule
four_or_zero at least most = record { offset = at; width = Four; least = least; most = most; or_zero = true }

-- lengths in tenths of a millimetre, factors k in tenths, the moment of inertia in mm⁴
unfoldable pub geometry_rules : List FieldRule
geometry_rules =
    two 0 400 2500  -- embedment depth
    ∷ two 2 150 800  -- channel width
    ∷ two 4 100 600  -- channel height
    ∷ two 6 30 130  -- cone factor, cracked
    ∷ two 8 30 130  -- cone factor, uncracked
    ∷ two 10 10 110  -- edge factor, cracked
    ∷ two 12 10 110  -- edge factor, uncracked
    ∷ two 14 10 20  -- pry-out factor
    ∷ two 16 200 3000  -- lip spacing in tension
    ∷ two 18 200 3000  -- lip spacing in shear
    ∷ four 20 4000 200000  -- moment of inertia
    ∷ []

-- values in N, flexure in Nm, partial factors in hundredths
unfoldable pub resistance_rules : List FieldRule
resistance_rules =
    four 0 1000 500000  -- anchor
    ∷ four 4 1000 500000  -- connection
    ∷ four 8 1000 500000  -- lip
    ∷ four 12 1000 500000  -- bolt
    ∷ four 16 100 10000  -- flexure
    ∷ four 20 1000 500000  -- pull-out
    ∷ four 24 1000 500000  -- bolt in shear
    ∷ four 28 1000 500000  -- lip in shear
    ∷ four_or_zero 32 1000 500000  -- anchor in shear
    ∷ four_or_zero 36 1000 500000  -- connection in shear
    ∷ two 40 100 300  -- partial factor of the anchor
    ∷ two 42 100 300  -- of the connection
    ∷ two 44 100 300  -- of the lip
    ∷ two 46 100 300  -- of the bolt
    ∷ two 48 100 300  -- of flexure
    ∷ two 50 100 300  -- of the bolt in shear
    ∷ two 52 100 300  -- of the lip in shear
    ∷ two 54 100 300  -- of the anchor in shear
    ∷ two 56 100 300  -- of the connection in shear
    ∷ two 58 100 300  -- of concrete
    ∷ []

-- the channel's height is at most 0.4, its width at most 0.7 of the embedment depth
abbrev pub ratios_asked : ℕ → List ℕ → Asked
ratios_asked place bs =
    (nat_le (10 * u16_at bs 4) (4 * u16_at bs 0), fault Range (place + 4))
    ∷ (nat_le (10 * u16_at bs 2) (7 * u16_at bs 0), fault Range (place + 2))
    ∷ []
