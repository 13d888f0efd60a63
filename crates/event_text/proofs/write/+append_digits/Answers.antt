-- The last digit comes behind the others, where there are others.
use Rattle.std.proofs.Common.{ℕ, List, ◌+◌, ◌%◌, ◌++◌, ◌∷◌, [], ◌∙◌, ap, sym, append_assoc, string_len, string_bytes, arith}
use Rattle.std.specs.String.{string_capacity}
use Rattle.event_text.proofs.Digits.{last_digit, only_digit}
use Rattle.event_text.proofs.write.+append_digits.Goals as goal
use Rattle.event_text.proofs.write.+append_digits.Goals.{then-n-ge10, else-n-ge10}

pub append_digits-requires : goal.append_digits-requires
append_digits-requires t c =
    let digit = last_digit c.args.n c.if-n-ge10.true (omega arith) in
    (omega arith, omega (arith, digit.len, c.requires))

pub append_digit-requires-clause-room : goal.append_digit-requires-clause-room
append_digit-requires-clause-room t c =
    elim c.if-n-ge10.branch [
      | then-n-ge10 w ↦
          let digit = last_digit c.args.n w.if-n-ge10.true (omega arith) in
          omega (arith, digit.len, ap string_len w.out-is, ap string_capacity w.out-is, w.append_digits.ensures.len, w.append_digits.ensures.room, c.requires)
      | else-n-ge10 w ↦
          let digit = only_digit c.args.n (omega arith) in
          omega (arith, digit.len, ap string_len w.out-is, ap string_capacity w.out-is, c.requires)
    ]

pub returns-clause-bytes : goal.returns-clause-bytes
returns-clause-bytes t c =
    elim c.if-n-ge10.branch [
      | then-n-ge10 w ↦
          let digit = last_digit c.args.n w.if-n-ge10.true (omega arith) in
          c.append_digit.ensures.bytes
          ∙ ap (λ (bs : List ℕ). bs ++ (48 + c.args.n % 10) ∷ []) (ap string_bytes w.out-is ∙ w.append_digits.ensures.bytes)
          ∙ append_assoc (string_bytes c.args.out.now) _ _
          ∙ ap (λ (bs : List ℕ). string_bytes c.args.out.now ++ bs) (sym digit.text)
      | else-n-ge10 w ↦
          let digit = only_digit c.args.n (omega arith) in
          c.append_digit.ensures.bytes
          ∙ ap (λ (bs : List ℕ). bs ++ (48 + c.args.n % 10) ∷ []) (ap string_bytes w.out-is)
          ∙ ap (λ (bs : List ℕ). string_bytes c.args.out.now ++ bs) (sym digit.text)
    ]

pub returns-clause-len : goal.returns-clause-len
returns-clause-len t c =
    elim c.if-n-ge10.branch [
      | then-n-ge10 w ↦
          let digit = last_digit c.args.n w.if-n-ge10.true (omega arith) in
          omega (arith, digit.len, ap string_len w.out-is, w.append_digits.ensures.len, c.append_digit.ensures.len)
      | else-n-ge10 w ↦
          let digit = only_digit c.args.n (omega arith) in
          omega (arith, digit.len, ap string_len w.out-is, c.append_digit.ensures.len)
    ]
