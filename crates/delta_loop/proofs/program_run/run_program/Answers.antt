use Rattle.delta_loop.proofs.Returning.{ran_prompt, ran_reads, ran_return}
use Rattle.delta_end.proofs.Statuses.{status_is, status_rose_in_link, status_still_in_link, note_whole}
use Rattle.delta_loop.proofs.Completeness.{good_end, good_status}
use Rattle.delta_loop.proofs.program_run.run_program.Goals as goal

pub returns-clause-prompt : goal.returns-clause-prompt
returns-clause-prompt g c P begun = ran_prompt P _ _ _ _ c.run_machine-end.result (c.run_machine-end.ensures.ran P begun).ran

pub returns-clause-answer : goal.returns-clause-answer
returns-clause-answer g c = (
  c.run_machine-end.result,
  c.run_machine-end.ensures.end,
  status_is _ _ _ _ _ c.answer.ensures c.note-said.ensures.cause,
  λ P begun. ran_reads P _ _ _ _ c.run_machine-end.result (c.run_machine-end.ensures.ran P begun).ran,
  λ P begun. ran_return P _ _ _ _ c.run_machine-end.result c.run_machine-end.ensures.end (c.run_machine-end.ensures.ran P begun).ran,
  c.run_machine-end.ensures.read,
  c.run_machine-end.ensures.write,
  note_whole _ _ _ _ _ _ _ _ c.answer.ensures c.note-said.ensures.cause c.note-said.ensures.said,
)

pub returns-clause-outside : goal.returns-clause-outside
returns-clause-outside g c seven =
    status_rose_in_link _ _ _ _ _ _ _ _ c.run_machine-end.ensures.end (status_is _ _ _ _ _ c.answer.ensures c.note-said.ensures.cause) seven c.run_machine-end.ensures.read c.run_machine-end.ensures.write

pub returns-clause-still : goal.returns-clause-still
returns-clause-still g c =
    status_still_in_link _ _ _ _ _ _ _ _ c.run_machine-end.ensures.end (status_is _ _ _ _ _ c.answer.ensures c.note-said.ensures.cause) c.run_machine-end.ensures.read c.run_machine-end.ensures.write

pub returns-clause-complete : goal.returns-clause-complete
returns-clause-complete g c P begun read write note v all word tells good cheap =
    good_status _ _ _ _ _ _ _ _ c.answer.ensures c.note-said.ensures.cause note
    (good_end P v all word good cheap _ _ _ _ tells c.run_machine-end.result c.run_machine-end.ensures.end (c.run_machine-end.ensures.ran P begun).ran _ _ _ _ read write
    c.run_machine-end.ensures.read c.run_machine-end.ensures.write)
