-- The numbers that digits write.
use Rattle.std.specs.Prelude.{ℕ, ℤ, pos, ◌&&◌, List, length, Option, Some, None, nat_lt, nat_le, if◌then◌else◌}
use Rattle.std.specs.Char.{is_ascii_digit}
use Rattle.std.specs.List.{list_all}
use Rattle.std.specs.Str.Parse.{digits_value}

-- the text is at least one digit and nothing else, and the number that it writes is at most 9223372036854775807
abbrev pub number_of : List ℕ → Option ℤ
number_of text =
    if list_all is_ascii_digit text && (nat_lt 0 (length text) && nat_le (digits_value 10 text) 9223372036854775807)
    then Some (pos (digits_value 10 text)) else None
