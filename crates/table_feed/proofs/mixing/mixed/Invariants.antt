-- So many words were lent.
use Rattle.std.proofs.Common.{◌≡◌, map, take}
use Rattle.table_feed.proofs.mixing.mixed.Given as goal

abbrev pub invariant-loop-word : goal.invariant-loop-word
invariant-loop-word l = map (λ w. w.now) l.left.items ≡ map (λ w. w.items) (take l.word-index l.words)
