-- The bytes are those of what is kept, which were read again, or there are too many of them.
use Rattle.std.proofs.Common.{◌∙◌}
use Rattle.std.proofs.lemmas.Result.{IfOk-weaker}
use Rattle.commands.proofs.keeping.spelled.Goals as goal

pub returns-in-Ok-clause-its : goal.returns-in-Ok-clause-its
returns-in-Ok-clause-its c =
    IfOk-weaker c.read_again.result _ _
    (λ v same. record { same = same ∙ c.in-Ok.ensures.bytes; few = c.in-Ok.ensures.large; sizes = c.in-Ok.ensures.sizes })
    c.read_again.ensures.same
