-- What the box holds is what was pushed.
use Rattle.std.proofs.Common.{Box, Global, ℕ, refl}
use Rattle.delta_keep.proofs.ReadLists.{pushes_as}
use Rattle.delta_keep.proofs.pushing.pushed.Goals as goal

pub returns-in-Ok : goal.returns-in-Ok
returns-in-Ok g c behind = rw c.in-Ok.is (pushes_as {V = Box g.row.T.Denot Global × ℕ} {U = g.row.T.Denot × ℕ} (λ x. x.0.value) (λ x. behind x.1) (λ x. x.0) (λ x. behind x.1) (λ n. behind n) c.args.items.now.items c.added.new.items.items (c.in-Ok.x, c.in-Ok.next) (c.into_inner.result, c.in-Ok.next) c.added.result c.into_inner.ensures refl (c.added.ensures behind))
