-- Division rounded up.
--   up n d   the least number whose product with d is at least n
use Rattle.std.specs.Prelude.{ℕ, ◌+◌, ◌-◌, ◌/◌}

abbrev pub up : ℕ → ℕ → ℕ
up n d = (n + (d - 1)) / d
