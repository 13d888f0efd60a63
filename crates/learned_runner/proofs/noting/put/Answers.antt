-- The step is put behind the others, whether its number is noted or not.
use Rattle.learned_runner.specs.Book.{stations_of}
use Rattle.learned_runner.proofs.Growing.{known_with}
use Rattle.learned_runner.proofs.noting.put.Goals as goal

pub returns-in_err-push-2 : goal.returns-in_err-push-2
returns-in_err-push-2 c = λ p budget true known.
    known_with p budget (stations_of c.args.book.now) c.args.book.now.steps.items c.push.new.self.items c.args.known c.in_ok-push.ensures.items true known

pub returns-in_ok-push-2 : goal.returns-in_ok-push-2
returns-in_ok-push-2 c = λ p budget true known.
    known_with p budget (stations_of c.args.book.now) c.args.book.now.steps.items c.push.new.self.items c.args.known c.in_ok-push.ensures.items true known

pub returns-in_default : goal.returns-in_default
returns-in_default c = λ p budget true known.
    known_with p budget (stations_of c.args.book.now) c.args.book.now.steps.items c.push.new.self.items c.args.known c.in_ok-push.ensures.items true known
