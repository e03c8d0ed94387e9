-- By what a number is divided without a division.
use Rattle.std.specs.Prelude.{ℕ, ◌/◌}
use Rattle.rows.specs.declared.tasks.Row.{Row}

-- how many times the period of a row goes into the largest number of 32 bits
abbrev pub ratio_of : Row → ℕ
ratio_of r = 4294967295 / r.period
