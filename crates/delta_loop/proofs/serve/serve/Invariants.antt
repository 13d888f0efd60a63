use Rattle.std.proofs.Common.{◌≡◌, ◌-◌, ◌^◌, ◌≤◌, [], List, Option, length}
use Rattle.port.specs.declared.link.Move.{Move}
use Rattle.delta_loop.specs.Meaning.{Meaning}
use Rattle.delta_loop.specs.Loop.{Serves, Goes, IsLive, given_to, room_of}
use Rattle.delta_loop.proofs.serve.serve.Given as goal

abbrev pub invariant-pieces : goal.invariant-pieces
invariant-pieces g l =
    ((P : Meaning) (start : Option (List Move)) → Serves g.M.Stepper.stands P start (g.L.Link.log l.fn.link) l.fn.machine [] []
    → Goes g.M.Stepper.stands P start (g.L.Link.log l.link) (g.L.Link.left l.fn.link) (g.L.Link.left l.link) l.machine l.reader l.total)
    × IsLive g.M.Stepper.stands l.machine l.reader
    × (given_to l.reader ≡ l.total)
    × (length l.reader.kept ≤ 40)
    × (4137 ≤ room_of l.reader)
    × (l.total ≤ 2 ^ 40)
    × (length l.buffer ≡ 4096)
    × (g.L.Link.read_faults l.link ≡ g.L.Link.read_faults l.fn.link)
    × (g.L.Link.write_faults l.link ≡ g.L.Link.write_faults l.fn.link)
    × g.M.Stepper.same_program l.fn.machine l.machine

abbrev pub decreases-pieces : goal.decreases-pieces
decreases-pieces g l = 2 ^ 40 - l.total
