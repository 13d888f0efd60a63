-- The greatest level from below that the calls of a part may have.
use Rattle.std.specs.Prelude.{ℕ, ◌-◌, Bool, if◌then◌else◌}

-- where those of the whole may have this one, and the part stands one deeper unless it stands still
abbrev pub below : Bool → ℕ → ℕ
below still levels = if still then levels else levels - 1
