-- The name is left out, or put in.
use Rattle.std.proofs.Common.{◌∙◌, ap, sym}
use Rattle.bunch.specs.Names.{holds, numbers_of}
use Rattle.kept_check.proofs.FreeLists.{left_out, put_in}
use Rattle.kept_check.proofs.free.add_unless.Goals as goal

pub returns-then-is_there : goal.returns-then-is_there
returns-then-is_there c = λ x. left_out x c.args.names.now.items c.args.y (numbers_of c.args.less.now) (sym c.is_there.ensures ∙ c.if-is_there.true)

pub returns : goal.returns
returns c = λ x.
    ap (λ l. holds x (numbers_of l)) c.in_ok-push.ensures.items ∙ put_in x c.args.names.now.items c.args.y (numbers_of c.args.less.now) (sym c.is_there.ensures ∙ c.if-is_there.false)
