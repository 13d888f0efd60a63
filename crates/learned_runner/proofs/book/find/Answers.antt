-- The step is one of the book, is from the station, and was laid on what is there.
use Rattle.std.proofs.Common.{rules, ◌∙◌, Ok, ap}
use Rattle.learned_runner.specs.Book.{known_of}
use Rattle.learned_runner.proofs.Books.{mapped_there}
use Rattle.learned_runner.proofs.book.find.Goals as goal

pub returns-then-branch : goal.returns-then-branch
returns-then-branch c = record {
  place = _;
  is_there = mapped_there known_of _ _ _ c.in-Some-get.known.now c.deref-in-loop-place.ensures.value c.in-Some-get.ensures.lookup.3.0 c.in-Some-get.ensures.lookup.1;
  is_from = search rules;
  suits = c.lay.ensures.suits (c.in_ok-lay.was ∙ ap Ok c.if-branch.true);
}
