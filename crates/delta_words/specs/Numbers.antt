-- The numbers of a command line.
use Rattle.std.specs.Prelude.{ℕ, Bool, ◌&&◌, List, length, map, Option, Some, None, nat_lt, nat_le, if◌then◌else◌}
use Rattle.std.specs.List.{list_all}
use Rattle.std.specs.Char.{digit_value}
use Rattle.std.specs.Str.{all_ascii_digits}
use Rattle.std.specs.Str.Parse.{digits_value}

-- one digit or more, and no more than `most`
abbrev pub has_digits : ℕ → List ℕ → Bool
has_digits most word = nat_lt 0 (length word) && (nat_le (length word) most && all_ascii_digits word)

-- the number that a word is, where it has so many digits and is within the limit
abbrev pub number_within : ℕ → ℕ → List ℕ → Option ℕ
number_within most limit word =
    if has_digits most word && nat_le (digits_value 10 word) limit then Some (digits_value 10 word) else None

-- the numbers of a schedule, a digit each: one to 64 of them, each below so many tables
abbrev pub schedule_of : ℕ → List ℕ → Option (List ℕ)
schedule_of tables word =
    if has_digits 64 word && list_all (λ digit. nat_lt (digit_value digit) tables) word then Some (map digit_value word) else None
