-- What came, and what comes in the rounds that are left, is all that comes.
use Rattle.std.proofs.Common.{◌≡◌, ◌++◌, ◌-◌, length, map}
use Rattle.table_feed.specs.Room.{HasRoom, rest_of}
use Rattle.table_feed.proofs.mixing.take_rounds.Given as goal

abbrev pub invariant-loop-round : goal.invariant-loop-round
invariant-loop-round l = record {
  events : l.mixed.items ++ rest_of (l.most - l.round) l.schedule (map (λ w. w.now) l.left.items) ≡ l.fn.mixed.items ++ rest_of l.most l.schedule (map (λ w. w.now) l.fn.left.items);
  room : HasRoom 0 (map (λ w. w.now) l.left.items);
  len : length l.left.items ≡ length l.fn.left.items;
}
