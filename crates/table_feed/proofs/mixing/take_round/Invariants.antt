-- What came, and what comes at the numbers that are left, is all that comes.
use Rattle.std.proofs.Common.{◌≡◌, ◌++◌, length, map, drop}
use Rattle.table_feed.specs.Mixing.{take_at}
use Rattle.table_feed.specs.Room.{HasRoom}
use Rattle.table_feed.proofs.mixing.take_round.Given as goal

abbrev pub invariant-loop-number : goal.invariant-loop-number
invariant-loop-number l = record {
  events : l.mixed.items ++ (take_at (drop l.number-index l.schedule) (map (λ w. w.now) l.left.items)).events ≡ l.fn.mixed.items ++ (take_at l.schedule (map (λ w. w.now) l.fn.left.items)).events;
  left : (take_at (drop l.number-index l.schedule) (map (λ w. w.now) l.left.items)).left ≡ (take_at l.schedule (map (λ w. w.now) l.fn.left.items)).left;
  room : HasRoom 0 (map (λ w. w.now) l.left.items);
  len : length l.left.items ≡ length l.fn.left.items;
}
