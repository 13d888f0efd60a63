-- What is said of each text with this core.
use borrow.Author.Tests.{ltb-true, ltb-false}
use Rattle.std.proofs.Common.{arith}
use Rattle.commands.proofs.Faults.{too_long}
use Rattle.commands.proofs.derivation.derive_core.Goals as goal

pub returns-then-is_long : goal.returns-then-is_long
returns-then-is_long c text elaborated = c.too_long.ensures _ _ (too_long _ c.args.proof.now (omega (arith, ltb-true))) text elaborated

pub returns-in-Err : goal.returns-in-Err
returns-in-Err c text elaborated = c.end_of.ensures _ _ (omega (arith, ltb-false)) c.in-Err.ensures.invalid c.in-Err.ensures.first text elaborated
