-- What follows a wait doesn't read its name as a stream name.
use Rattle.delta_meaning.proofs.FreeStreams.{waited_is_unread}
use Rattle.delta_meaning.proofs.laws.waited_is_unread.Goals as goal

pub returns : goal.returns
returns c = waited_is_unread
