use Rattle.std.proofs.Common.{◌≡◌, ◌+◌, ◌/◌, ◌%◌, [], ◌∷◌, true, false, refl, arith}
use Rattle.std.specs.Prelude.{decimal}
use Rattle.delta_end.proofs.Notes.{says_then, says_part, says_as, digit_is, digits_are}
use Rattle.delta_end.proofs.telling.+say_number.Goals as goal

never : false ≡ true → ⊥
never e = cc

pub returns-then-number-lt10-clause-said : goal.returns-then-number-lt10-clause-said
returns-then-number-lt10-clause-said g n c = says_as _ _ _ _ _ (digit_is c.args.number (omega arith)) c.say.ensures.said

pub returns-in-Ok-clause-said : goal.returns-in-Ok-clause-said
returns-in-Ok-clause-said g n c =
    says_as _ _ _ _ _ (digits_are c.args.number (omega arith) (omega arith))
    (says_then _ _ _ (decimal (c.args.number / 10)) ((48 + c.args.number % 10) ∷ []) (true ≡ true) _ refl c.in-Ok.ensures.said c.say-in-Ok.ensures.said)

pub returns-in-Err-clause-said : goal.returns-in-Err-clause-said
returns-in-Err-clause-said g n c =
    says_as _ _ _ _ _ (digits_are c.args.number (omega arith) (omega arith))
    (says_part _ _ (decimal (c.args.number / 10)) ((48 + c.args.number % 10) ∷ []) (false ≡ true) _ never c.in-Err.ensures.said)
