-- The number that was found stays.
use Rattle.std.proofs.Common.{◌∙◌, ap, sym, rules}
use Rattle.std.proofs.lemmas.Int.{to_z-of_z}
use Rattle.std.specs.Int.{w64}
use Rattle.std.specs.Ordering.{int_eq}
use Rattle.state_shapes.specs.Beside.{beside}
use Rattle.state_shapes.specs.RegisterLists.{lists_in}
use Rattle.learned_table.proofs.ReckonedParts.{number_found}
use Rattle.learned_table.proofs.reckoning.found_now.Goals as goal

pub returns-in-Some : goal.returns-in-Some
returns-in-Some c =
    number_found (lists_in c.args.found.now) c.args.key c.in-Some.n _ (to_z-of_z w64 c.in-Some.n (search rules))
    (ap (beside int_eq c.args.found.now.keys.items c.args.found.now.numbers.items) (sym (to_z-of_z w64 c.args.key (search rules)))
    ∙ rw (c.deref.ensures.value, c.deref-2.ensures.value) at (sym c.beside.ensures ∙ c.in-Some.is))
