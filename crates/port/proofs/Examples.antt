-- Worked examples of the definitions.
use Rattle.std.proofs.Common.{◌≡◌, List, [], ◌∷◌, refl}
use Rattle.port.specs.declared.link.Move.{Move}
use Rattle.port.specs.declared.link.Move.TheVariants.{In, Out}
use Rattle.port.specs.Moves.{bytes_read, bytes_written}
use Rattle.port.specs.Pieces.{put_piece, first_piece, past, joined}

-- two reads round a write, and a read at the end
talk : List Move
talk = In (1 ∷ 2 ∷ []) ∷ Out (7 ∷ []) ∷ In (3 ∷ []) ∷ In [] ∷ []

read_in_talk : bytes_read talk ≡ 1 ∷ 2 ∷ 3 ∷ []
unfolding talk
read_in_talk = refl

written_in_talk : bytes_written talk ≡ 7 ∷ []
unfolding talk
written_in_talk = refl

-- a piece without bytes is passed over
empty_is_passed : put_piece [] ((1 ∷ []) ∷ []) ≡ (1 ∷ []) ∷ []
empty_is_passed = refl

-- the rest of a piece is a piece, until nothing of it is left
one_past : past 1 ((1 ∷ 2 ∷ []) ∷ (3 ∷ []) ∷ []) ≡ (2 ∷ []) ∷ (3 ∷ []) ∷ []
one_past = refl

two_past : first_piece (past 2 ((1 ∷ 2 ∷ []) ∷ (3 ∷ []) ∷ [])) ≡ 3 ∷ []
two_past = refl

all_joined : joined ((1 ∷ 2 ∷ []) ∷ (3 ∷ []) ∷ []) ≡ 1 ∷ 2 ∷ 3 ∷ []
all_joined = refl
