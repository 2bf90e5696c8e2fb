-- Worked figures of modes and of a sheet, under one record.
--   worked_cone       factor 8.0, strength 25 N/mm², embedment depth 100 mm, multiple 1.0
--   worked_edge b     factor 7.5, strength 25 N/mm², edge distance 125 mm, channel width b, reinforcement 1.40
--   worked_factor     the partial factor 1.50
--   one_bolt u        a line with one bolt, used to u ten-thousandths
--   bolt_used t v     a sheet on which one bolt is used to t in tension (line 4) and to v in shear (line 8)
--   SheetFigures      what the definitions give
use Rattle.std.specs.Prelude.{◌≡◌, true, false, List, [], ◌∷◌, ℕ}
use Rattle.std.proofs.Common.{lit≤}
use Rattle.bolts.specs.declared.bolt.Direction.TheVariants.{Tension}
use Rattle.forces.specs.Cases.{Case}
use Rattle.failure.specs.Meanings.{Meaning}
use Rattle.failure.specs.declared.places.PlaceKind.TheVariants.{Bolts}
use Rattle.groups.specs.declared.spacing.CharacteristicSpacing.{CharacteristicSpacing}
use Rattle.steel_modes.specs.declared.design.PartialFactor.{PartialFactor}
use Rattle.concrete_modes.specs.Cones.{cone_meaning}
use Rattle.concrete_modes.specs.Edges.{second_meaning}
use Rattle.concrete_modes.specs.declared.cone.ConeBasis.{ConeBasis}
use Rattle.concrete_modes.specs.declared.edge.EdgeBasis.{EdgeBasis}
use Rattle.verdict.specs.Lines.{no_line}
use Rattle.verdict.specs.Checks.{check_1}

abbrev pub worked_cone : ConeBasis
worked_cone = record { k = 80; strength = 25; depth = 1000; multiple = 10 }

abbrev pub worked_edge : ℕ → EdgeBasis
worked_edge b = record { k = 75; strength = 25; distance = 1250; width = b; p = 140 }

abbrev pub worked_factor : PartialFactor
worked_factor = record { hundredths = 150; least = lit≤ tt; most = lit≤ tt }

abbrev pub one_bolt : ℕ → Meaning
one_bolt u = record {
  places = record { kind = Bolts; count = 1 };
  allowance = 0;
  direction = Tension;
  effect = λ _. u;
  resistance = λ _. 10000;
  low_effect = λ _ _. Unit {0};
  high_effect = λ _ _. Unit {0};
  low_resistance = λ _ _. Unit {0};
  high_resistance = λ _ _. Unit {0};
}

abbrev pub bolt_used : ℕ → ℕ → List Meaning
bolt_used t v = no_line ∷ no_line ∷ no_line ∷ one_bolt t ∷ no_line ∷ no_line ∷ no_line ∷ one_bolt v ∷ []

pub record SheetFigures : Type 0 where
  -- the cone's resistance in mN at every anchor of every case
  pub cone : (S : CharacteristicSpacing) (c : Case) (i : ℕ) → (cone_meaning Tension S worked_cone worked_factor c).resistance i ≡ 26666666
  -- the edge's by edition 2
  pub edge : (S : CharacteristicSpacing) (c : Case) (b i : ℕ) → (second_meaning S (worked_edge b) worked_factor c).resistance i ≡ 21875000
  -- the first combined check holds at 6,000 with 8,000, and not at 6,001
  pub check_holds : check_1 (bolt_used 6000 8000) ≡ true
  pub check_fails : check_1 (bolt_used 6001 8000) ≡ false
