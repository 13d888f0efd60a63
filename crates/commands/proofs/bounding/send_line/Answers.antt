-- What was written of the line tells what the line does.
use Rattle.std.proofs.Common.{rules, ap, inr}
use Rattle.std.specs.Prelude.{is_ok}
use Rattle.commands.proofs.SentLines.{front_told, all_told}
use Rattle.commands.proofs.bounding.send_line.Goals as goal

pub returns-in-Ok-clause-told : goal.returns-in-Ok-clause-told
returns-in-Ok-clause-told g c text told =
    let s = c.send.ensures.sent in
    (s.0, s.4, all_told text c.args.line.now s.0 s.1 told s.2 (s.3 (ap is_ok c.in-Ok.is)))

pub returns-in-Err-Memory-clause-told : goal.returns-in-Err-Memory-clause-told
returns-in-Err-Memory-clause-told g c text told =
    let s = c.send.ensures.sent in
    (s.0, s.4, inr (front_told text c.args.line.now s.0 s.1 told s.2))

pub returns-in-Err-Failed-clause-told : goal.returns-in-Err-Failed-clause-told
returns-in-Err-Failed-clause-told g c text told =
    let s = c.send.ensures.sent in
    (s.0, s.4, front_told text c.args.line.now s.0 s.1 told s.2)

pub returns-in-Err-Failed-clause-write : goal.returns-in-Err-Failed-clause-write
returns-in-Err-Failed-clause-write g c = search rules
