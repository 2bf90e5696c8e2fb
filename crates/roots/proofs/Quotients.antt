-- A quotient rounded up.
use Rattle.std.proofs.Common.{ℕ, ◌+◌, ◌*◌, ◌<◌, ◌≤◌, arith}
use Rattle.roots.specs.Division.{up}

pub up_least : (n d : ℕ) → 0 < d → n ≤ up n d * d
up_least n d p = omega arith

pub up_most : (n d : ℕ) → 0 < d → up n d * d < n + d
up_most n d p = omega arith
