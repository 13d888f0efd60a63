-- The words of the scanner's private steps: lengths in bytes.
use Rattle.std.specs.Prelude.{ℕ, ◌+◌, Bool, List, [], ◌∷◌, length, take, if◌then◌else◌}
use Rattle.std.specs.Char.{len_utf8}
use Rattle.std.specs.Str.{encode_utf8_all}
use Rattle.delta_lex.specs.declared.piece.Piece.{Piece}
use Rattle.delta_lex.specs.declared.piece.Piece.TheVariants.{Gap, Solid, Stray}

-- the length in bytes of the characters at the front that pass the test
abbrev pub run_bytes : (ℕ → Bool) → List ℕ → ℕ
run_bytes p [] = 0
run_bytes p (c ∷ cs) = if p c then len_utf8 c + run_bytes p cs else 0

-- the length in bytes of so many characters
abbrev pub bytes_of : ℕ → List ℕ → ℕ
bytes_of n cs = length (encode_utf8_all (take n cs))

-- the piece with its length in bytes
abbrev pub in_bytes : List ℕ → Piece → Piece
in_bytes cs (Gap n) = Gap (bytes_of n cs)
in_bytes cs (Solid kind n) = Solid kind (bytes_of n cs)
in_bytes cs Stray = Stray
