use Rattle.std.proofs.Common.{◌≡◌, ◌∙◌, eqb, true, false, List, length, map, sym, arith}
use Rattle.std.proofs.lemmas.Bool.Decides.{nat_tests}
use Rattle.delta_tree.specs.Tree.{declaration_of, function_of}
use Rattle.delta_parse.specs.declared.plain.Plain.{Plain}
use Rattle.delta_parse.specs.Terminals.{plains}
use Rattle.delta_parse.proofs.Programs.{program_found, stuck_before, no_main, stuck_in_main, more_behind_main}
use Rattle.delta_parse.proofs.Steps.{plains_length}
use Rattle.delta_parse.proofs.whole_reader.read_whole.Goals as goal

-- what the test for an empty slice says of its tokens
none_left : (ts : List Plain) → true ≡ eqb (length ts) 0 → length (plains ts) ≡ 0
none_left ts k = (let z : length ts ≡ 0 = grind (arith, nat_tests) in plains_length ts ∙ z)

some_left : (ts : List Plain) → false ≡ eqb (length ts) 0 → length (plains ts) ≡ 0 → ⊥
some_left ts k e = (let z : length ts ≡ 0 = sym (plains_length ts) ∙ e in grind (arith, nat_tests))

pub returns-in-Err-At-clause-stopped : goal.returns-in-Err-At-clause-stopped
returns-in-Err-At-clause-stopped c =
    let stuck = rw c.in-Err-At.field-0-is at c.in-Err-At.ensures.given in
    rw c.in-Err-At.field-0-is (stuck_before (plains c.args.tokens.now) c.in-Err-At.left stuck)

pub returns-then-is_empty-clause-stopped : goal.returns-then-is_empty-clause-stopped
returns-then-is_empty-clause-stopped c =
    no_main (plains c.args.tokens.now) (map declaration_of c.in-Ok.found.0.items) (plains c.in-Ok.found.1.now) c.in-Ok.ensures.given (none_left c.in-Ok.found.1.now c.if-is_empty.ensures)

pub returns-in-Err-At-read_main-clause-stopped : goal.returns-in-Err-At-read_main-clause-stopped
returns-in-Err-At-read_main-clause-stopped c =
    let stuck = rw c.in-Err-At-read_main.field-0-is at c.in-Err-At-read_main.ensures.given in
    stuck_in_main (plains c.args.tokens.now) (map declaration_of c.in-Ok.found.0.items) (plains c.in-Ok.found.1.now) _ c.in-Ok.ensures.given
    (some_left c.in-Ok.found.1.now c.if-is_empty.ensures) stuck

pub returns-then-is_empty-2-clause-found : goal.returns-then-is_empty-2-clause-found
returns-then-is_empty-2-clause-found c =
    program_found (plains c.args.tokens.now) (map declaration_of c.in-Ok.found.0.items) (plains c.in-Ok.found.1.now) (function_of c.in-Ok-read_main.found.0) (plains c.in-Ok-read_main.found.1.now)
    c.in-Ok.ensures.given c.in-Ok-read_main.ensures.given (none_left c.in-Ok-read_main.found.1.now c.if-is_empty-2.ensures)

pub returns-else-is_empty-2-clause-stopped : goal.returns-else-is_empty-2-clause-stopped
returns-else-is_empty-2-clause-stopped c =
    let stops = more_behind_main (plains c.args.tokens.now) (map declaration_of c.in-Ok.found.0.items) (plains c.in-Ok.found.1.now) (function_of c.in-Ok-read_main.found.0) (plains c.in-Ok-read_main.found.1.now)
    c.in-Ok.ensures.given (some_left c.in-Ok.found.1.now c.if-is_empty.ensures) c.in-Ok-read_main.ensures.given (some_left c.in-Ok-read_main.found.1.now c.if-is_empty-2.ensures) in
    rw (plains_length c.in-Ok-read_main.found.1.now) at stops
