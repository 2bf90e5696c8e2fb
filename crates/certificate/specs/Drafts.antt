-- What has been written into a draft so far.
use Rattle.std.specs.Prelude.{ℕ, List}
use Rattle.arrayvec.specs.ArrayVec.{ArrayVec}

abbrev pub drafted : ArrayVec ℕ → List ℕ
drafted d = d.items
