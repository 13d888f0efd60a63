-- The steps before the leaf.
use Rattle.std.proofs.Common.{◌≡◌, ℕ, ◌-◌, List, take, drop, length, length-drop, take_all, arith, subst}
use Rattle.event_frame.specs.Front.{IsTail}
use Rattle.event_frame.proofs.Fronts.{plain_tail}
use Rattle.event_frame.proofs.front.read_plain.Goals as goal

pub returns-in-Some : goal.returns-in-Some
returns-in-Some c =
    let bytes : List ℕ = c.args.bytes.now in
    let count : ℕ = c.args.count in
    let all : take (length bytes - count) (drop count bytes) ≡ drop count bytes
    = take_all (length bytes - count) (drop count bytes) (omega (arith, length-drop count bytes)) in
    plain_tail c.args.version count bytes c.in-Frame.event c.in-Some.longer c.in-Frame.used c.in-V1.is (omega arith)
    (subst (λ (bs : List ℕ). IsTail c.args.version 0 bs c.in-Frame.event c.in-Frame.used) all c.in-Frame.ensures) c.in-Some.ensures
