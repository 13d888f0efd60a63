use Rattle.std.proofs.Common.{◌≡◌, true, false, refl}
use Rattle.std.specs.Prelude.{codes, decimal}
use Rattle.delta_end.proofs.Notes.{says_then, says_part}
use Rattle.delta_end.proofs.telling.say_file.Goals as goal

never : false ≡ true → ⊥
never e = cc

pub returns-in-Ok-clause-said : goal.returns-in-Ok-clause-said
returns-in-Ok-clause-said g c = says_then _ _ _ (codes " in ") (decimal c.args.file) (true ≡ true) _ refl c.in-Ok.ensures.said c.say_number.ensures.said

pub returns-in-Err-clause-said : goal.returns-in-Err-clause-said
returns-in-Err-clause-said g c = says_part _ _ (codes " in ") (decimal c.args.file) (false ≡ true) _ never c.in-Err.ensures.said
