-- It isn't fit, or it is, and its type decides.
use Rattle.std.proofs.lemmas.Bool.{iff_false}
use Rattle.stream_type.specs.StreamType.{type_of}
use Rattle.bunch.specs.Names.{numbers_of}
use Rattle.delta_check.specs.Scopes.{context_in}
use Rattle.delta_keep.specs.KeptView.{later_of}
use Rattle.kept_check.specs.Judging.{funs_of}
use Rattle.kept_check.proofs.LaterRules.{good_unfit, good_typed}
use Rattle.kept_check.proofs.laters.is_good.Goals as goal

pub returns-in-Ok-true : goal.returns-in-Ok-true
returns-in-Ok-true c =
    good_typed (funs_of c.args.judge.now) c.args.judge.now.depth (context_in c.args.scope.now) (numbers_of c.args.others.now) (later_of c.args.l.now) (type_of c.args.r.now) c.has_type.result
    (c.in-Ok-true.ensures.0 c.in-Ok-true.field-0-test) c.has_type.ensures

pub returns-in-Ok-false : goal.returns-in-Ok-false
returns-in-Ok-false c =
    good_unfit (funs_of c.args.judge.now) c.args.judge.now.depth (context_in c.args.scope.now) (numbers_of c.args.others.now) (later_of c.args.l.now) (type_of c.args.r.now) (iff_false c.in-Ok-false.ensures c.in-Ok-false.field-0-test)
