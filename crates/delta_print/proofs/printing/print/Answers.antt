-- The declarations stand first, and main behind them.
use Rattle.std.proofs.Common.{rules}
use Rattle.delta_print.proofs.printing.print.Goals as goal

pub returns : goal.returns
returns c = search rules
