-- What was said is whole where the whole of the input has come.
use Rattle.stream_type.specs.StreamType.{type_of}
use Rattle.delta_session.proofs.Growth.{whole_at_end}
use Rattle.delta_session.proofs.session.Session.rest.Goals as goal

pub returns-clause-whole : goal.returns-clause-whole
returns-clause-whole g c course word stands ended =
    whole_at_end g.A.Answers.stands g.met.A.Answers.goes_on stands.machine (type_of c.args.self.now.rest) (type_of c.args.self.now.output) course word stands.at ended
