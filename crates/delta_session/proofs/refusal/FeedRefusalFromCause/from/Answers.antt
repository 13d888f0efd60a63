-- A spent budget is told as one.
use Rattle.std.proofs.Common.{rules}
use Rattle.delta_session.proofs.refusal.FeedRefusalFromCause.from.Goals as goal

pub returns-in-Budget : goal.returns-in-Budget
returns-in-Budget c = search rules
