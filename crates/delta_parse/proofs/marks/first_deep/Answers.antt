use Rattle.std.proofs.Common.{◌≡◌, ℕ, List, ◌+◌, ◌≤◌, ◌<◌, ◌∙◌, ap, sym, take, length, below_more, arith}
use Rattle.std.proofs.lemmas.List.{length-map}
use Rattle.delta_parse.specs.declared.plain.Plain.{Plain}
use Rattle.delta_parse.specs.Terminals.{plains, plain_of}
use Rattle.delta_parse.specs.Marks.{Opened, opened, opened_of, none_open, marks_before, after_token, IsShallow, IsFirstDeep}
use Rattle.delta_parse.proofs.MarkSteps.{opened_next}
use Rattle.delta_parse.proofs.marks.first_deep.Goals as goal

none_deep : (ts : List Plain) (i : ℕ) → length ts ≤ i → IsShallow (plains ts) i → IsFirstDeep (plains ts) (length ts)
none_deep ts i h s = (let count : length (plains ts) ≡ length ts = length-map ts plain_of in record { within = omega arith; shallow = λ k l. s k (omega arith); deep = λ l. absurd (omega arith) })

pub loop-i-preserved : goal.loop-i-preserved
loop-i-preserved c =
    let ts = plains c.args.tokens.now in
    let now = ap (λ (s : Opened). s.count) c.loop-i.invariant.marks_so_far in
    let low : marks_before ts c.loop-i.i ≤ 64 = omega (arith, now) in
    let below : c.loop-i.i < length c.args.tokens.now = omega arith in
    let e = opened_next none_open c.args.tokens.now c.loop-i.i c.index-tokens-i.result below in
    let f : opened none_open (take (c.loop-i.i + 1) ts) ≡ after_token (opened_of c.loop-i.marks) c.index-tokens-i.result.kind = (rw (c.loop-i.invariant.marks_so_far, ← c.index-tokens-i.is) at e) in
    record {
      within = omega arith;
      marks_so_far = f ∙ sym c.in_ok-take.ensures;
      shallow = below_more _ _ c.loop-i.invariant.shallow low;
    }

pub returns-then-marks-gt-MOST_MARKS : goal.returns-then-marks-gt-MOST_MARKS
returns-then-marks-gt-MOST_MARKS c =
    let ts = plains c.args.tokens.now in
    let count : length ts ≡ length c.args.tokens.now = length-map c.args.tokens.now plain_of in
    let now = ap (λ (s : Opened). s.count) c.loop-i.invariant.marks_so_far in
    record { within = omega arith; shallow = c.loop-i.invariant.shallow; deep = λ _. omega (arith, now) }

pub returns : goal.returns
returns c = none_deep c.args.tokens.now c.loop-i.i c.loop-i-test.false c.loop-i.invariant.shallow
