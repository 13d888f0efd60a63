-- A name is there where its place is within the names.
use Rattle.std.proofs.Common.{◌≡◌, ap, ◌∙◌, length}
use Rattle.bunch.specs.Names.{holds}
use Rattle.bunch.proofs.TableReads.{held}
use Rattle.bunch.proofs.order.Order.has.Goals as goal

pub returns : goal.returns
returns c =
    let names = c.self.inside.names in
    let long : c.len.result ≡ length names.items = c.len.ensures ∙ names.ok.0 in
    held names.items c.args.x.0 c.place_of.result c.len.result (rw c.deref.ensures.value at c.place_of.ensures) long ∙ ap (λ o. holds c.args.x.0 o.names) c.self.view_is
