-- What stands at the front of a text: the longest token, a separator or a comment, or a character that starts none of them.
use Rattle.std.specs.Prelude.{ℕ, Bool, false, ◌&&◌, ◌||◌, ◌==◌, List, [], ◌∷◌, if◌then◌else◌}
use Rattle.std.specs.List.{prefix_len}
use Rattle.delta_lex.specs.declared.token.Kind.TheVariants.{Name, Number, Sign}
use Rattle.delta_lex.specs.declared.piece.Piece.{Piece}
use Rattle.delta_lex.specs.declared.piece.Piece.TheVariants.{Gap, Solid, Stray}
use Rattle.delta_lex.specs.declared.character.Run.TheVariants.{Letters, Digits, Comment}
use Rattle.delta_lex.specs.Characters.{is_separator, starts_name, is_digit, is_sign, goes_on}

-- the characters begin with this one
abbrev pub begins_with : ℕ → List ℕ → Bool
begins_with c [] = false
begins_with c (d ∷ cs) = d == c

-- the character and the next are one of the signs :: => ||
abbrev pub joins : ℕ → List ℕ → Bool
joins c behind = (c == 58 && begins_with 58 behind) || ((c == 61 && begins_with 62 behind) || (c == 124 && begins_with 124 behind))

-- what stands at the front of a character and those behind it; the number says how many of those behind belong to it
abbrev pub piece_of : ℕ → List ℕ → Piece
piece_of c behind =
    if is_separator c then Gap 0
    else (if starts_name c then Solid Name (prefix_len (goes_on Letters) behind)
    else (if is_digit c then Solid Number (prefix_len (goes_on Digits) behind)
    else (if c == 47 && begins_with 47 behind then Gap (prefix_len (goes_on Comment) behind)
    else (if joins c behind then Solid Sign 1
    else (if is_sign c then Solid Sign 0
    else Stray)))))
