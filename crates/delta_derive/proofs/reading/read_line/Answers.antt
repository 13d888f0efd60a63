-- The bytes are cut at the first space.
use Rattle.std.proofs.Common.{◌≡◌, ◌+◌, ◌-◌, length, drop, subst, sym, arith, length-drop}
use Rattle.std.specs.Prelude.{Option, option_map, IfOk}
use Rattle.std.proofs.lemmas.List.{take_all}
use Rattle.bunch_rules.specs.Written.{Line}
use Rattle.delta_derive.specs.LineText.{line_of}
use Rattle.delta_derive.proofs.Spaces.{spaced}
use Rattle.delta_derive.proofs.reading.read_line.Goals as goal

pub returns-in-Some : goal.returns-in-Some
returns-in-Some c =
    let bytes = c.args.bytes.now in
    let rest = take_all (length bytes - (c.in-Some.i + 1)) (drop (c.in-Some.i + 1) bytes) (omega (arith, length-drop (c.in-Some.i + 1) bytes)) in
    subst (λ (l : Option Line). IfOk c.line_with_path.result (λ o. option_map line_of o ≡ l)) (sym (spaced bytes c.in-Some.i (sym c.in-Some.ensures))) (rw rest at c.line_with_path.ensures)
