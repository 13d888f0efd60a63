-- What the next name adds, and what all do.
use Rattle.std.proofs.Common.{◌∙◌, ◌||◌, ◌&&◌, not, refl}
use Rattle.bunch.specs.declared.name.Name.{Name}
use Rattle.bunch.specs.Names.{holds, numbers_of}
use Rattle.kept_check.proofs.FreeLists.{next_added}
use Rattle.kept_check.proofs.HeldFacts.{all_facts}
use Rattle.kept_check.proofs.free.add_less.Goals as goal

pub loop-name-init : goal.loop-name-init
loop-name-init c = λ x. refl

pub loop-name-preserved : goal.loop-name-preserved
loop-name-preserved c = λ x.
    let d : Name = record { 0 = 0 } in
    next_added x c.args.more.now c.loop-name.name-index d (holds x (numbers_of c.loop-name.names.items)) (holds x (numbers_of c.add_unless.new.names.items)) (not (holds x (numbers_of c.args.less.now))) c.loop-name-test.true
    (c.in_ok-add_unless.ensures x)
    ∙ c.loop-name.invariant x

pub returns : goal.returns
returns c = λ x.
    let less = numbers_of c.args.less.now in
    all_facts (holds x (numbers_of c.loop-name.names.items)) (holds x (numbers_of c.args.names.now.items) || (holds x (numbers_of c.args.more.now) && not (holds x less))) (not (holds x less)) c.args.more.now c.loop-name.name-index x c.loop-name-test.false (c.loop-name.invariant x)
