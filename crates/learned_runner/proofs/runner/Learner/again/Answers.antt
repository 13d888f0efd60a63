-- The step that was found is made again.
use Rattle.std.proofs.Common.{◌∙◌, ℤ, List, refl, ap, subst, arith}
use Rattle.std.proofs.lemmas.Option.{MatchOption-at_some}
use Rattle.event_frame.specs.Frames.{longest}
use Rattle.learned_table.specs.FoundNumbers.{number_in}
use Rattle.stations.specs.declared.station.Values.{Values}
use Rattle.learned_runner.specs.Finding.{Finds}
use Rattle.learned_runner.proofs.Paths.{paths}
use Rattle.learned_runner.proofs.Taking.{said_within, again_taken}
use Rattle.learned_runner.proofs.runner.Learner.again.Goals as goal

pub make-requires : goal.make-requires
make-requires c =
    let finds : Finds c.args.self.now.book c.in-Some.at c.args.self.now.values.numbers.items c.args.event.now c.find.new.found c.in-Ok-Some.known.now =
    subst (λ (ns : List ℤ). Finds c.args.self.now.book c.in-Some.at ns c.args.event.now c.find.new.found c.in-Ok-Some.known.now) c.deref.ensures.value
    (MatchOption-at_some _ _ c.in-Ok-Some.known c.in-Ok-Some.field-0-is c.in-Ok-Some.ensures) in
    said_within c.args.self.now c.args.event.now c.in-Some.at c.in-Ok-Some.known.now c.find.new.found c.in-Some.is finds c.requires
    (paths (longest c.args.self.now.version) (number_in c.find.new.found))

pub returns-in_ok-bytes-in-Ok-Some-clause-taken : goal.returns-in_ok-bytes-in-Ok-Some-clause-taken
returns-in_ok-bytes-in-Ok-Some-clause-taken c =
    let finds : Finds c.args.self.now.book c.in-Some.at c.args.self.now.values.numbers.items c.args.event.now c.find.new.found c.in-Ok-Some.known.now =
    subst (λ (ns : List ℤ). Finds c.args.self.now.book c.in-Some.at ns c.args.event.now c.find.new.found c.in-Ok-Some.known.now) c.deref.ensures.value
    (MatchOption-at_some _ _ c.in-Ok-Some.known c.in-Ok-Some.field-0-is c.in-Ok-Some.ensures) in
    again_taken c.args.self.now c.args.event.now c.in-Some.at c.in-Ok-Some.known.now c.find.new.found c.in-Some.is finds c.requires _ c.in_ok-bytes-in-Ok-Some.bytes.items
    refl refl (omega arith) refl refl refl refl
    (ap (λ (v : Values). v.numbers.items) c.swap.ensures.x_after ∙ c.in_ok-bytes-in-Ok-Some.ensures.numbers)
    (ap (λ (v : Values). v.depths.items) c.swap.ensures.x_after ∙ c.in_ok-bytes-in-Ok-Some.ensures.depths) refl
    c.in_ok-bytes-in-Ok-Some.ensures.bytes
