-- A number that is cut off, and one that is whole.
use Rattle.std.proofs.Common.{arith}
use Rattle.std.proofs.Common.{rules, ap, ◌∙◌}
use Rattle.std.proofs.lemmas.Int.{to_z-of_z}
use Rattle.std.specs.Int.{w64}
use Rattle.event_word.specs.declared.event.Leaf.TheVariants.{Int}
use Rattle.event_frame.proofs.Fronts.{number_part, number_tail}
use Rattle.event_frame.proofs.front.read_leaf.Goals as goal

pub returns-then-rest-lt8 : goal.returns-then-rest-lt8
returns-then-rest-lt8 c =
    number_part c.args.version c.args.at c.args.bytes.now c.in-Some.byte.now c.in-Some.rest.now c.in-Some.ensures.cases.0 c.if-byte-eq17.true c.if-rest-lt8.true

pub returns-then-byte-eq17 : goal.returns-then-byte-eq17
returns-then-byte-eq17 c =
    number_tail c.args.version c.args.bytes.now c.in-Some.byte.now c.in-Some.rest.now c.from_be_bytes-number.result c.new.result
    c.in-Some.ensures.cases.0 c.if-byte-eq17.true (λ short. omega arith) (λ i. omega (arith, c.type_inv.bytes i)) c.from_be_bytes-number.ensures c.new.ensures.path (c.new.ensures.leaf ∙ ap Int (to_z-of_z w64 c.from_be_bytes-number.result (search rules)))
