use Rattle.std.proofs.Common.{◌≡◌, ◌++◌, ◌+◌, List, ℕ, Option, false, take}
use Rattle.port.specs.declared.link.Move.{Move}
use Rattle.command_text.specs.Loop.{Feeds, given_to}
use Rattle.command_text.proofs.frame_writer.feed.Given as goal

abbrev pub invariant-loop-byte : goal.invariant-loop-byte
invariant-loop-byte g l =
    ((start : Option (List Move)) (input : List ℕ) → Feeds l.version start (g.L.Link.log l.fn.link) l.fn.reader (input ++ l.piece) input false
    → Feeds l.version start (g.L.Link.log l.link) l.reader (input ++ l.piece) (input ++ take l.byte-index l.piece) false)
    × (given_to l.reader ≡ given_to l.fn.reader + l.byte-index)
    × (g.L.Link.left l.link ≡ g.L.Link.left l.fn.link)
    × (g.L.Link.read_faults l.link ≡ g.L.Link.read_faults l.fn.link)
    × (g.L.Link.write_faults l.link ≡ g.L.Link.write_faults l.fn.link)
