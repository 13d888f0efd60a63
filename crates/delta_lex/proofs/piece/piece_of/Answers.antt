-- The length of a run is that of its characters.
use Rattle.std.proofs.Common.{sym, ◌∙◌, arith}
use Rattle.std.specs.Str.{chars}
use Rattle.delta_lex.specs.declared.character.Run.TheVariants.{Letters, Digits, Comment}
use Rattle.delta_lex.specs.Characters.{goes_on}
use Rattle.delta_lex.proofs.Runs.{run_bytes_is, joins_bytes}
use Rattle.std.proofs.lemmas.Grind.{common_steps}
use Rattle.delta_lex.proofs.piece.piece_of.Goals as goal

pub returns-then-starts_name : goal.returns-then-starts_name
returns-then-starts_name c =
    let e = c.run_len.ensures ∙ run_bytes_is (goes_on Letters) (chars c.args.behind.now) in
    grind (arith, common_steps)

pub returns-then-is_digit : goal.returns-then-is_digit
returns-then-is_digit c =
    let e = c.run_len-then-is_digit.ensures ∙ run_bytes_is (goes_on Digits) (chars c.args.behind.now) in
    grind (arith, common_steps)

pub returns-then-begins_with : goal.returns-then-begins_with
returns-then-begins_with c =
    let e = c.run_len-then-begins_with.ensures ∙ run_bytes_is (goes_on Comment) (chars c.args.behind.now) in
    grind (arith, common_steps)

pub returns-then-joins : goal.returns-then-joins
returns-then-joins c =
    let e = joins_bytes c.args.first (chars c.args.behind.now) (sym c.joins.ensures ∙ c.if-joins.true) in
    grind (arith, common_steps)
