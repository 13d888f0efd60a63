-- A number of 64 bits has at most 19 digits, and a minus before them or not.
use Rattle.std.proofs.Common.{ap, string_len, arith}
use Rattle.std.specs.String.{string_capacity}
use Rattle.event_text.proofs.Digits.{few_digits}
use Rattle.event_text.proofs.write.append_number.Goals as goal
use Rattle.event_text.proofs.write.append_number.Goals.{then-n-lt0, else-n-lt0}

pub append_digits-requires : goal.append_digits-requires
append_digits-requires c =
    let few = few_digits c.unsigned_abs.result (omega (arith, c.unsigned_abs.ensures.bound)) in
    elim c.if-n-lt0.branch [
      | then-n-lt0 w ↦ omega (arith, few, ap string_len w.out-is, ap string_capacity w.out-is, w.append.ensures.len, w.append.ensures.room, c.requires)
      | else-n-lt0 w ↦ omega (arith, few, ap string_len w.out-is, ap string_capacity w.out-is, c.requires)
    ]

pub returns-clause-len : goal.returns-clause-len
returns-clause-len c =
    let few = few_digits c.unsigned_abs.result (omega (arith, c.unsigned_abs.ensures.bound)) in
    elim c.if-n-lt0.branch [
      | then-n-lt0 w ↦ omega (arith, few, ap string_len w.out-is, w.append.ensures.len, c.append_digits.ensures.len)
      | else-n-lt0 w ↦ omega (arith, few, ap string_len w.out-is, c.append_digits.ensures.len)
    ]
