-- What the calls of the objects in memory do, as far as calls can tell.
use Rattle.std.specs.Prelude.{◌≡◌, ℕ, min, List, [], ◌∷◌, ◌++◌, Option, Some, Vec, String, length, take}
use Rattle.std.specs.declared.alloc.Global.{Global}
use Rattle.port.specs.Pieces.{first_piece, past, joined}
use Rattle.port.specs.declared.calm.CalmLink.{CalmLink}
use Rattle.port.specs.declared.calm.CalmShelf.{CalmShelf}
use Rattle.port.specs.declared.calm.CalmSink.{CalmSink}
use Rattle.port.specs.declared.link.Move.{Move}
use Rattle.port.specs.declared.link.Move.TheVariants.{In, Out}

-- the files of a shelf
abbrev pub files_in : CalmShelf → List (String Global × Vec ℕ Global)
files_in shelf = shelf.files.items

-- the pieces that a link has left; each has bytes
abbrev pub pieces_left : CalmLink → List (List ℕ)
pieces_left link = link.input

-- the bytes that a link has left
abbrev pub left_of : CalmLink → Option (List ℕ)
left_of link = Some (joined (pieces_left link))

-- the moves of a link so far
abbrev pub log_of : CalmLink → List Move
log_of link = link.log.items

-- the most bytes that one write to a link takes
abbrev pub most_of : CalmLink → ℕ
most_of link = link.most

-- the bytes that a sink was given so far
abbrev pub bytes_in : CalmSink → List ℕ
bytes_in sink = sink.bytes.items

-- nothing moved
pub record IsStill (old new : CalmLink) : Type 0 where
  pub pieces : pieces_left new ≡ pieces_left old
  pub log : log_of new ≡ log_of old
  pub most : most_of new ≡ most_of old

-- a read put this many bytes of the first piece at the front of a slice, as many as there was room for
pub record Gives (old new : CalmLink) (before after : List ℕ) (count : ℕ) : Type 0 where
  pub many : count ≡ min (length (first_piece (pieces_left old))) (length before)
  pub bytes : take count after ≡ take count (first_piece (pieces_left old))
  pub end : count ≡ 0 → pieces_left old ≡ []
  pub pieces : pieces_left new ≡ past count (pieces_left old)
  pub log : log_of new ≡ log_of old ++ In (take count after) ∷ []
  pub most : most_of new ≡ most_of old

-- a write took this many bytes, as many as one may take
pub record Takes (old new : CalmLink) (bytes : List ℕ) (count : ℕ) : Type 0 where
  pub many : count ≡ min (length bytes) (most_of old)
  pub pieces : pieces_left new ≡ pieces_left old
  pub log : log_of new ≡ log_of old ++ Out (take count bytes) ∷ []
  pub most : most_of new ≡ most_of old

-- a write took all of the bytes
pub record TakesAll (old new : CalmSink) (given : List ℕ) (count : ℕ) : Type 0 where
  pub many : count ≡ length given
  pub bytes : bytes_in new ≡ bytes_in old ++ given
