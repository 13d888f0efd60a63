-- The header, and then the loop.
use Rattle.std.proofs.Common.{List, [], ℕ, false, subst, sym, rules, Option}
use Rattle.command_text.specs.LineState.{LineState}
use Rattle.command_text.specs.Loop.{Feeds}
use Rattle.command_text.specs.Conversion.{frames_of_lines, Ran}
use Rattle.command_text.proofs.Serving.{opens, opens_in_part}
use Rattle.command_text.proofs.writing.write_frames.Goals as goal

pub returns-in-Err-Memory-clause-ran : goal.returns-in-Err-Memory-clause-ran
returns-in-Err-Memory-clause-ran g c =
    let s = c.open.ensures.sent in opens_in_part c.args.version _ _ _ _ s.0 s.1 _ s.2 s.4 c.open.ensures.left tt

pub returns-in-Err-Failed-clause-ran : goal.returns-in-Err-Failed-clause-ran
returns-in-Err-Failed-clause-ran g c =
    let s = c.open.ensures.sent in opens_in_part c.args.version _ _ _ _ s.0 s.1 _ s.2 s.4 c.open.ensures.left tt

pub returns-in-Ok-clause-ran : goal.returns-in-Ok-clause-ran
returns-in-Ok-clause-ran g c =
    let s = c.in-Ok.ensures.sent in
    let feeds = opens c.args.version (g.L.Link.log c.args.link.now) (g.L.Link.log c.open.new.link) s.0 s.1 s.2 (s.3 (search rules)) s.4 in
    let at_reader = subst (λ (r : LineState). Feeds c.args.version (g.L.Link.log c.args.link.now) (g.L.Link.log c.open.new.link) r [] [] false) (sym c.new-reader.ensures) feeds in
    let ran = c.serve.ensures.ran (g.L.Link.log c.args.link.now) at_reader in
    subst (λ (left : Option (List ℕ)). Ran (frames_of_lines c.args.version) (g.L.Link.log c.args.link.now) (g.L.Link.log c.serve.new.link) left (g.L.Link.left c.serve.new.link) c.serve.result)
    c.open.ensures.left ran
