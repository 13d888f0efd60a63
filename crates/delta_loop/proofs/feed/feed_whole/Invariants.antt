use Rattle.std.proofs.Common.{◌≡◌, List, ℕ, Option, length}
use Rattle.port.specs.declared.link.Move.{Move}
use Rattle.delta_loop.specs.Meaning.{Meaning}
use Rattle.delta_loop.specs.Loop.{Feeds, IsLive, given_to, room_of}
use Rattle.delta_loop.proofs.feed.feed_whole.Given as goal

abbrev pub invariant-frames : goal.invariant-frames
invariant-frames g l =
    ((P : Meaning) (start : Option (List Move)) (input : List ℕ) → Feeds g.M.Stepper.stands P start (g.L.Link.log l.fn.link) l.fn.machine l.fn.reader input
    → Feeds g.M.Stepper.stands P start (g.L.Link.log l.link) l.machine l.reader input)
    × IsLive g.M.Stepper.stands l.machine l.reader
    × (given_to l.reader ≡ given_to l.fn.reader)
    × (room_of l.reader ≡ room_of l.fn.reader)
    × (g.L.Link.left l.link ≡ g.L.Link.left l.fn.link)
    × (g.L.Link.read_faults l.link ≡ g.L.Link.read_faults l.fn.link)
    × (g.L.Link.write_faults l.link ≡ g.L.Link.write_faults l.fn.link)
    × g.M.Stepper.same_program l.fn.machine l.machine

abbrev pub decreases-frames : goal.decreases-frames
decreases-frames g l = length l.reader.kept
