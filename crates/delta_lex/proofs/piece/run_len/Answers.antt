-- The character of an iteration is the next of the text's.
use Rattle.std.proofs.Common.{length, ap, arith}
use Rattle.std.proofs.lemmas.Iterator.{YieldsList-from_chars}
use Rattle.std.proofs.lemmas.List.{at_drop_all, length_push}
use Rattle.std.proofs.lemmas.Iterator.Consumers.{YieldsList-turn, YieldsList-end}
use Rattle.std.proofs.lemmas.Bool.Decides.{nat_tests}
use Rattle.std.proofs.lemmas.Str.{encodes-chars}
use Rattle.std.specs.Str.{chars}
use Rattle.delta_lex.specs.Characters.{goes_on}
use Rattle.delta_lex.specs.Measures.{run_bytes}
use Rattle.delta_lex.proofs.Runs.{run_bytes-drop, run_bytes_le}
use Rattle.delta_lex.proofs.piece.run_len.Goals as goal

pub returns-then-not-goes_on : goal.returns-then-not-goes_on
returns-then-not-goes_on c =
    let t = YieldsList-turn (YieldsList-from_chars c.args.text.now c.utf8.text cc) c.loop-c.yielded _ c.loop-c.yielded_by _ _ c.in-Some.c c.in-Some.is c.next.ensures.steps in
    let e = run_bytes-drop (goes_on c.args.run) _ _ _ t in
    grind (arith, nat_tests)

pub overflow_add-len : goal.overflow_add-len
overflow_add-len c =
    let t = YieldsList-turn (YieldsList-from_chars c.args.text.now c.utf8.text cc) c.loop-c.yielded _ c.loop-c.yielded_by _ _ c.in-Some.c c.in-Some.is c.next.ensures.steps in
    let e = run_bytes-drop (goes_on c.args.run) _ _ _ t in
    let b = run_bytes_le (goes_on c.args.run) (chars c.args.text.now) in
    let w = ap length (encodes-chars c.args.text.now c.utf8.text) in
    grind (arith, nat_tests)

pub loop-c-preserved : goal.loop-c-preserved
loop-c-preserved c =
    let t = YieldsList-turn (YieldsList-from_chars c.args.text.now c.utf8.text cc) c.loop-c.yielded _ c.loop-c.yielded_by _ _ c.in-Some.c c.in-Some.is c.next.ensures.steps in
    let e = run_bytes-drop (goes_on c.args.run) _ _ _ t in
    let n = length_push c.loop-c.yielded c.in-Some.c in
    grind (arith, nat_tests)

pub returns : goal.returns
returns c =
    let t = YieldsList-end (YieldsList-from_chars c.args.text.now c.utf8.text cc) c.loop-c.yielded _ c.loop-c.yielded_by _ _ c.in-None.is c.next.ensures.steps in
    omega (arith, at_drop_all (run_bytes (goes_on c.args.run)) (chars c.args.text.now) (length c.loop-c.yielded) (omega (arith, t)))
