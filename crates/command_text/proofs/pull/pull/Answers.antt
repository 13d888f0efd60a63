use Rattle.std.proofs.Common.{arith}
use Rattle.delta_loop.proofs.Logs.{read_more}
use Rattle.delta_loop.proofs.Lefts.{nothing_taken}
use Rattle.command_text.proofs.pull.pull.Goals as goal

pub returns-in-Ok-clause-pulled : goal.returns-in-Ok-clause-pulled
returns-in-Ok-clause-pulled g c = record {
  history = λ due start input output before met. read_more due start _ _ input output _ before met c.in-Ok.ensures.moved;
  taken = c.in-Ok.ensures.taken;
  used_up = λ none. c.in-Ok.ensures.end (nothing_taken c.in-Ok.count c.read.new.into (omega (arith, c.read.auto.into, c.in-Ok.ensures.bound)) none);
}
