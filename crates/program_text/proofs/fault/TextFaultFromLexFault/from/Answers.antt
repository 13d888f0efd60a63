-- A text that is too long is refused behind the last byte that it may have.
use Rattle.std.proofs.Common.{rules}
use Rattle.program_text.proofs.fault.TextFaultFromLexFault.from.Goals as goal

pub returns-in-LongText : goal.returns-in-LongText
returns-in-LongText c = search rules
