-- The bytes are those of what the machine keeps, or too many events came.
use Rattle.std.proofs.Common.{inl, inr, ⊎_elim}
use Rattle.std.proofs.lemmas.Result.{IfOk-weaker}
use Rattle.delta_keep.specs.KeptView.{kept_of, places_kept}
use Rattle.commands.specs.Leaving.{AreIts, AreTooMany}
use Rattle.commands.proofs.Leaving.{kept_again_as, too_far}
use Rattle.commands.proofs.keeping_again.bytes_again.Goals as goal

pub returns-in-Ok-clause-bytes : goal.returns-in-Ok-clause-bytes
returns-in-Ok-clause-bytes g c =
    IfOk-weaker c.spelled_again.result _ _
    (λ v is. kept_again_as g.M.Machine.seen g.M.Keeping.since g.met.M.Keeping.stands_since c.args.runner.now c.in-Some.woken.now c.in-Some.ensures.opened (kept_of c.in-Ok.k) c.in-Ok.ensures.events
    (places_kept c.in-Ok.k) c.in-Ok.ensures.kept_again c.in-Ok.ensures.output_again is.0 (AreIts v.items) is.1)
    c.spelled_again.ensures.its

pub returns-in-Ok-clause-large : goal.returns-in-Ok-clause-large
returns-in-Ok-clause-large g c is P d k word s from =
    ⊎_elim
    (λ many. inl (kept_again_as g.M.Machine.seen g.M.Keeping.since g.met.M.Keeping.stands_since c.args.runner.now c.in-Some.woken.now c.in-Some.ensures.opened (kept_of c.in-Ok.k) c.in-Ok.ensures.events
    (places_kept c.in-Ok.k) c.in-Ok.ensures.kept_again c.in-Ok.ensures.output_again many.0 AreTooMany many.1 P d k word s from))
    (λ far. inr (too_far g.M.Machine.seen g.M.Keeping.since g.met.M.Keeping.stands_since c.args.runner.now c.in-Some.woken.now c.in-Some.ensures.opened (kept_of c.in-Ok.k) c.in-Ok.ensures.events far P d k word s from))
    (c.spelled_again.ensures.many is)
