-- A read of a calm link takes the front of what was left.
use Rattle.std.proofs.Common.{◌≡◌, length, take, drop, ap, ◌∙◌, arith, length-take}
use Rattle.port.specs.Pieces.{first_piece}
use Rattle.port.proofs.Passing.{takes_front}
use Rattle.port.proofs.calm.CalmLinkLink.read.Goals as goal

pub returns-clause-taken : goal.returns-clause-taken
returns-clause-taken c =
    let long : length c.copy_from_slice.new.self ≡ c.min-count.result = omega (arith, c.copy_from_slice.ensures.len, length-take c.min-count.result c.args.into.now) in
    let front : c.copy_from_slice.new.self ≡ take c.min-count.result (first_piece c.args.self.now.input) = c.copy_from_slice.ensures.after ∙ ap (take c.min-count.result) c.front-front.ensures.bytes in
    rw c.pass.ensures (takes_front c.args.self.now.input c.copy_from_slice.new.self (drop c.min-count.result c.args.into.now) c.min-count.result front long)
