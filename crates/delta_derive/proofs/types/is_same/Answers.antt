-- Types are equal exactly where the test is passed.
use Rattle.stream_type.specs.StreamType.{type_of}
use Rattle.delta_derive.proofs.Adding.{same_test}
use Rattle.delta_derive.proofs.types.is_same.Goals as goal

pub returns : goal.returns
returns c = same_test c.same.result (type_of c.args.a.now) (type_of c.args.b.now) c.same.ensures
