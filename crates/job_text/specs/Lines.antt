-- What a line of a job says.
--   site_of ns, bolt_of ns     the numbers of a site, or of a bolt, in the order of the line
--   said_by name ws            what a name says with the words after it: `site` and 10 numbers, `place` and 3, `lift`
--                              and 1, or `rate` and none
--   job_line line              what a line says; none where it is not understood
use Rattle.std.specs.Prelude.{ℕ, cond, List, [], ◌∷◌, None, codes, Option, slice_index}
use Rattle.std.specs.Option.{option_map}
use Rattle.std.specs.Str.{bytes_eq}
use Rattle.text_pieces.specs.Pieces.{words}
use Rattle.bolts.specs.declared.bolt.Bolt.{Bolt}
use Rattle.site.specs.declared.numbers.SiteNumbers.{SiteNumbers}
use Rattle.job_text.specs.Counted.{exactly}
use Rattle.job_text.specs.declared.line.JobLine.{JobLine}
use Rattle.job_text.specs.declared.line.JobLine.TheVariants.{Site, Place, Lift, Rate}

abbrev pub site_of : List ℕ → SiteNumbers
site_of ns = record {
  strength = slice_index ns 0;
  cracked = slice_index ns 1;
  edge_distance = slice_index ns 2;
  left_corner = slice_index ns 3;
  right_corner = slice_index ns 4;
  thickness = slice_index ns 5;
  dense = slice_index ns 6;
  edge_factor = slice_index ns 7;
  anchors = slice_index ns 8;
  spacing = slice_index ns 9;
}

abbrev pub bolt_of : List ℕ → Bolt
bolt_of ns = record { position = slice_index ns 0; tension = slice_index ns 1; shear = slice_index ns 2 }

abbrev pub site_line : List (List ℕ) → Option JobLine
site_line ws = option_map (λ ns. Site (site_of ns)) (exactly 10 ws)

abbrev pub place_line : List (List ℕ) → Option JobLine
place_line ws = option_map (λ ns. Place (bolt_of ns)) (exactly 3 ws)

abbrev pub lift_line : List (List ℕ) → Option JobLine
lift_line ws = option_map (λ ns. Lift (slice_index ns 0)) (exactly 1 ws)

abbrev pub rate_line : List (List ℕ) → Option JobLine
rate_line ws = option_map (λ ns. Rate) (exactly 0 ws)

abbrev pub said_by : List ℕ → List (List ℕ) → Option JobLine
said_by name ws =
    cond (bytes_eq name (codes "site")) (site_line ws)
    (cond (bytes_eq name (codes "place")) (place_line ws)
    (cond (bytes_eq name (codes "lift")) (lift_line ws)
    (cond (bytes_eq name (codes "rate")) (rate_line ws) None)))

-- the first word is the name
abbrev pub said : List (List ℕ) → Option JobLine
said [] = None
said (w ∷ ws) = said_by w ws

unfoldable pub job_line : List ℕ → Option JobLine
job_line line = said (words line)
