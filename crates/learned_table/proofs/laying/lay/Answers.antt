-- The event, the numbers and what was asked, one after another, where nothing was found before.
use Rattle.std.proofs.Common.{◌≡◌, Ok, true, map, refl, sym, subst}
use Rattle.std.specs.Prelude.{All}
use Rattle.state_shapes.specs.RegisterLists.{IsParallel, lists_in}
use Rattle.state_shapes.proofs.Growing.{longer_still, longer_more, parallel_longer}
use Rattle.learned_table.specs.StepTree.{ask_of}
use Rattle.learned_table.specs.Suits.{GoesAlong}
use Rattle.learned_table.specs.FoundNumbers.{number_in}
use Rattle.learned_table.proofs.laying.lay.Goals as goal

pub returns-clause-suits : goal.returns-clause-suits
returns-clause-suits c =
    λ e. let numbers = c.numbers_go-registers.ensures in
    let event = c.event_goes-event.ensures in
    let asks = c.asks_go.ensures in
    let none : IsParallel (lists_in c.forget.new.found) = subst IsParallel (sym c.forget.ensures) (record { numbers = refl; depths = refl }) in
    let first : IsParallel (lists_in c.event_goes-event.new.found) = parallel_longer none event.grown in
    let second : IsParallel (lists_in c.numbers_go-registers.new.found) = parallel_longer first numbers.grown in
    let went : c.numbers_go-registers.result ≡ Ok true = asks.went second e in
    let came : c.event_goes-event.result ≡ Ok true = numbers.went first went in
    record {
      registers = subst (λ ks. map (number_in c.asks_go.new.found) ks ≡ c.args.numbers.now) c.deref.ensures.value (numbers.holds first went (lists_in c.asks_go.new.found) asks.grown);
      event = event.holds none came (lists_in c.asks_go.new.found) (longer_more numbers.grown asks.grown);
      asks = subst (λ as'. All (GoesAlong (number_in c.asks_go.new.found)) (map ask_of as')) c.deref-2.ensures.value (asks.holds second e (lists_in c.asks_go.new.found) (longer_still (lists_in c.asks_go.new.found)));
    }
