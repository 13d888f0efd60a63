use Rattle.std.proofs.Common.{◌≡◌, length, arith}
use Rattle.std.proofs.lemmas.List.{length-map}
use Rattle.delta_parse.specs.Terminals.{plains, plain_of}
use Rattle.delta_parse.specs.Marks.{IsFirstDeep}
use Rattle.delta_parse.specs.Bindings.{AreNamed, IsFaultAt, IsFirstFault}
use Rattle.delta_parse.proofs.Firsts.{cut_at_name, name_first, cut_before_name, cut_at_deep}
use Rattle.delta_parse.proofs.checked_reader.first_cut.Goals as goal

pub returns-then-n-deep : goal.returns-then-n-deep
returns-then-n-deep c =
    let ts = plains c.args.tokens.now in
    let deep : IsFirstDeep ts c.in_ok-deep.deep = c.in_ok-deep.ensures in
    let found : IsFirstFault ts c.in_ok-n.field-0 = c.in_ok-n.ensures in
    let fault : IsFaultAt ts c.in-Some.n c.in-Some.fault = (rw c.in-Some.is at found) in
    let n = c.in-Some.n in
    (cut_at_name ts n c.in_ok-deep.deep c.in-Some.fault deep fault c.if-n-deep.true, λ b. rw c.name_complaint.ensures (name_first ts n c.in_ok-deep.deep c.in-Some.fault deep fault c.if-n-deep.true b))

pub returns-else-n-deep : goal.returns-else-n-deep
returns-else-n-deep c =
    let ts = plains c.args.tokens.now in
    let deep : IsFirstDeep ts c.in_ok-deep.deep = c.in_ok-deep.ensures in
    let found : IsFirstFault ts c.in_ok-n.field-0 = c.in_ok-n.ensures in
    let fault : IsFaultAt ts c.in-Some.n c.in-Some.fault = (rw c.in-Some.is at found) in
    cut_before_name ts c.in-Some.n c.in_ok-deep.deep c.in-Some.fault deep fault c.if-n-deep.false

pub returns-then-deep-tokens : goal.returns-then-deep-tokens
returns-then-deep-tokens c =
    let ts = plains c.args.tokens.now in
    let deep : IsFirstDeep ts c.in_ok-deep.deep = c.in_ok-deep.ensures in
    let found : IsFirstFault ts c.in_ok-n.field-0 = c.in_ok-n.ensures in
    let named : AreNamed ts (length ts) = (rw c.in-None.is at found) in
    let count : length ts ≡ length c.args.tokens.now = length-map c.args.tokens.now plain_of in
    cut_at_deep ts c.in_ok-deep.deep deep named (omega arith)
