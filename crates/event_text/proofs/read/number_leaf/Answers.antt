-- A number is text, so only its value can be the reason that it isn't read.
use Rattle.std.proofs.Common.{List, ℕ, subst, sym}
use Rattle.std.specs.Prelude.{Err}
use Rattle.std.specs.Int.{w64}
use Rattle.std.specs.Str.Parse.{ParsesSigned}
use Rattle.event_text.proofs.Numbers.{number_too_big, number_text}
use Rattle.event_text.proofs.read.number_leaf.Goals as goal

pub returns-in_default : goal.returns-in_default
returns-in_default c = absurd (c.in_default.ensures.cases.0 (number_text c.args.word.now c.requires))

pub returns-in-Err : goal.returns-in-Err
returns-in-Err c =
    sym (number_too_big c.args.word.now c.in-Err.field-0 c.requires (subst (λ (bs : List ℕ). ParsesSigned w64 10 bs (Err c.in-Err.field-0)) c.in-Ok.ensures.cases.0 c.in-Err.ensures.value.0))
