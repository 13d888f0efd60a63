-- The law, as its lemma states it.
use Rattle.command_text.proofs.Lined.{output_is_lines}
use Rattle.command_text.proofs.laws.output_is_lines.Goals as goal

pub returns : goal.returns
returns c = output_is_lines
