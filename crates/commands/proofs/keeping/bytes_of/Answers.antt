-- The bytes are those of what the machine keeps.
use Rattle.std.proofs.lemmas.Result.{IfOk-weaker}
use Rattle.delta_keep.specs.KeptView.{kept_of, places_kept}
use Rattle.commands.specs.Leaving.{AreIts, AreTooMany}
use Rattle.commands.proofs.Leaving.{kept_as}
use Rattle.commands.proofs.keeping.bytes_of.Goals as goal

pub returns-in-Ok-clause-bytes : goal.returns-in-Ok-clause-bytes
returns-in-Ok-clause-bytes g c =
    IfOk-weaker c.spelled.result _ _
    (λ v is. kept_as g.M.Machine.seen g.M.Machine.stands g.met.M.Machine.stands_after c.args.runner.now c.in-Some.machine.now c.in-Some.ensures.opened (kept_of c.in-Ok.k)
    (places_kept c.in-Ok.k) c.in-Ok.ensures.kept c.in-Ok.ensures.output c.in-Ok.ensures.events (AreIts v.items) is)
    c.spelled.ensures.its

pub returns-in-Ok-clause-large : goal.returns-in-Ok-clause-large
returns-in-Ok-clause-large g c is =
    kept_as g.M.Machine.seen g.M.Machine.stands g.met.M.Machine.stands_after c.args.runner.now c.in-Some.machine.now c.in-Some.ensures.opened (kept_of c.in-Ok.k)
    (places_kept c.in-Ok.k) c.in-Ok.ensures.kept c.in-Ok.ensures.output c.in-Ok.ensures.events AreTooMany (c.spelled.ensures.many is)
