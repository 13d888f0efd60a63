-- Where the text has no core, the file isn't read.
use Rattle.std.proofs.Common.{[]}
use Rattle.commands.proofs.DerivedEnds.{derives_read, derives_write, derives_file, derives_usage, derives_text}
use Rattle.commands.proofs.derivation.derive_source.Goals as goal

pub returns-in-Err-clause-derived : goal.returns-in-Err-clause-derived
returns-in-Err-clause-derived g c files tells = derives_text _ _ c.in-Err.end (c.in-Err.ensures.ended _)

pub returns-in-Err-clause-derives : goal.returns-in-Err-clause-derives
returns-in-Err-clause-derives g c = derives_usage c.args.text.now [] c.in-Err.end (c.in-Err.ensures.ended [])

pub returns-in-Err-clause-file : goal.returns-in-Err-clause-file
returns-in-Err-clause-file g c = derives_file c.args.text.now [] c.in-Err.end (g.S.Shelf.faults c.args.shelf.now) (c.in-Err.ensures.ended [])

pub returns-in-Err-clause-read : goal.returns-in-Err-clause-read
returns-in-Err-clause-read g c count = derives_read c.args.text.now [] c.in-Err.end count (c.in-Err.ensures.ended [])

pub returns-in-Err-clause-write : goal.returns-in-Err-clause-write
returns-in-Err-clause-write g c count = derives_write c.args.text.now [] c.in-Err.end count (c.in-Err.ensures.ended [])
