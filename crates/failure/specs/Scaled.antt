-- A mode under a rule keeps the laws of the mode below it.
use Rattle.std.specs.Prelude.{ℕ, ◌≤◌}
use Rattle.std.proofs.Common.{ap, arith}
use Rattle.forces.specs.Cases.{Case}
use Rattle.failure.specs.Meanings.{Meaning, LawfulAt, Alike}
use Rattle.failure.specs.Scalings.{Scaling, Unscaled, ByRatio, ByRoot, allowed, under, RootsInRange}
use Rattle.failure.specs.Products.{straight_lawful}
use Rattle.failure.specs.Rooting.{root_lawful}

pub under_lawful : (w : ℕ) (s : Scaling) (c : Case) (m : Meaning) (i : ℕ) → RootsInRange s → LawfulAt w m i → LawfulAt w (under s c m) i
under_lawful w Unscaled c m i fits law = law
under_lawful w (ByRatio x) c m i fits law = straight_lawful w (x c m.places.kind) m i law
under_lawful w (ByRoot x) c m i fits law =
    let ends = fits c m.places.kind i in
    root_lawful w (x c m.places.kind) m i ends.0 ends.1 law

pub allowed_most : (s : Scaling) (a : ℕ) → a ≤ 2000 → allowed s a ≤ 2000
allowed_most Unscaled a h = h
allowed_most (ByRatio x) a h = omega arith
allowed_most (ByRoot x) a h = omega arith

pub under_alike : (s : Scaling) (c d : Case) (m n : Meaning) → Alike m n → Alike (under s c m) (under s d n)
under_alike s c d m n h = (ap (allowed s) h.0, h.1)
