-- A line that shows something gets nothing but its line feed.
use Rattle.table_feed.proofs.writing.end_row.Goals as goal
use Rattle.table_feed.proofs.writing.end_row.Goals.{in-Ok, in-Err}

pub returns-clause-text : goal.returns-clause-text
returns-clause-text c = elim c.match-end_record.branch [
  | in-Ok w ↦ rw w.result-is (rw (c.requires.setup, c.requires.wrote) at w.in-Ok.ensures.bytes)
  | in-Err w ↦ rw w.result-is tt
]
