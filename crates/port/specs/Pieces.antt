-- Input that comes in pieces.
use Rattle.std.specs.Prelude.{ℕ, List, [], ◌∷◌, ◌++◌, Vec, drop}
use Rattle.std.specs.declared.alloc.Global.{Global}

-- a piece before others; one without bytes is passed over
abbrev pub put_piece : List ℕ → List (List ℕ) → List (List ℕ)
put_piece [] pieces = pieces
put_piece (byte ∷ bytes) pieces = (byte ∷ bytes) ∷ pieces

-- the bytes of some vectors, one list for each that has any
abbrev pub pieces_of : List (Vec ℕ Global) → List (List ℕ)
pieces_of [] = []
pieces_of (piece ∷ pieces) = put_piece piece.items (pieces_of pieces)

-- the first piece, or no bytes where there is none
abbrev pub first_piece : List (List ℕ) → List ℕ
first_piece [] = []
first_piece (piece ∷ pieces) = piece

-- what is left after so many bytes of the first piece
abbrev pub past : ℕ → List (List ℕ) → List (List ℕ)
past count [] = []
past count (piece ∷ pieces) = put_piece (drop count piece) pieces

-- the pieces one after another
abbrev pub joined : List (List ℕ) → List ℕ
joined [] = []
joined (piece ∷ pieces) = piece ++ joined pieces
