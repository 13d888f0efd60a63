-- What is told of each text with this program is told of this one.
use Rattle.commands.proofs.bounding.line_of_text.Goals as goal

pub returns-in-Ok-clause-told : goal.returns-in-Ok-clause-told
returns-in-Ok-clause-told c = c.line_of_program-told.ensures.told _ _ c.in-Ok.ensures.accepted c.in-Ok.ensures.places

pub returns-in-Ok-clause-ended : goal.returns-in-Ok-clause-ended
returns-in-Ok-clause-ended c = c.line_of_program-told.ensures.ended _ _ c.in-Ok.ensures.accepted c.in-Ok.ensures.places
