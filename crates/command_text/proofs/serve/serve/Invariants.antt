use Rattle.std.proofs.Common.{◌≡◌, ◌-◌, ◌^◌, ◌≤◌, [], List, Option, length, false}
use Rattle.port.specs.declared.link.Move.{Move}
use Rattle.command_text.specs.Loop.{Feeds, Goes, given_to}
use Rattle.command_text.proofs.serve.serve.Given as goal

abbrev pub invariant-pieces : goal.invariant-pieces
invariant-pieces g l =
    ((start : Option (List Move)) → Feeds l.version start (g.L.Link.log l.fn.link) l.fn.reader [] [] false
    → Goes l.version start (g.L.Link.log l.link) (g.L.Link.left l.fn.link) (g.L.Link.left l.link) l.reader l.total)
    × (given_to l.reader ≡ l.total)
    × (l.total ≤ 2 ^ 40)
    × (length l.buffer ≡ 4096)
    × (g.L.Link.read_faults l.link ≡ g.L.Link.read_faults l.fn.link)
    × (g.L.Link.write_faults l.link ≡ g.L.Link.write_faults l.fn.link)

abbrev pub decreases-pieces : goal.decreases-pieces
decreases-pieces g l = 2 ^ 40 - l.total
