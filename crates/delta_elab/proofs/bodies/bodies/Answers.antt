-- One more function is done, and where none are left all are.
use Rattle.std.proofs.Common.{◌≡◌, ◌+◌, ◌++◌, [], ◌∷◌, map, drop, length, refl, ap, ◌∙◌, sym}
use Rattle.std.specs.List.{concat}
use Rattle.std.proofs.lemmas.List.{map-append}
use Rattle.core_term.specs.CoreTerm.{core_body_of, body_places}
use Rattle.delta_meaning.specs.SourceBody.{function_named, number_named}
use Rattle.delta_meaning.specs.NewNames.{new_in_bodies}
use Rattle.delta_meaning.specs.NodePlaces.{body_places as places_of_bodies}
use Rattle.delta_meaning.specs.Elaboration.{core_bodies}
use Rattle.delta_elab.specs.Numbering.{origins_of}
use Rattle.delta_elab.specs.Sources.{source_of, sources_of}
use Rattle.delta_elab.proofs.NextItems.{map-next, concat-more}
use Rattle.delta_elab.proofs.Numbered.{all_passed}
use Rattle.delta_elab.proofs.FunctionCores.{pass_core, pass_places, pass_variables}
use Rattle.delta_elab.proofs.bodies.bodies.Goals as goal

pub loop-function-preserved : goal.loop-function-preserved
loop-function-preserved c =
    let fs = c.args.functions.now in
    let bs = sources_of fs in
    let functions = function_named bs in
    let number = number_named bs in
    let i = c.loop-function.function-index in
    let left = sources_of (drop (i + 1) fs) in
    let b = source_of c.function-item.result in
    let start = origins_of c.args.origins.now.items in
    let origins = origins_of c.loop-function.origins.items in
    let more = origins_of c.body.new.origins.items in
    let old = c.loop-function.cores.items in
    let made = c.in_ok-body.field-0 in
    let inv = c.loop-function.invariant in
    let here : sources_of (drop i fs) ≡ b ∷ left = map-next source_of fs i c.function-item.result c.loop-function-test.true c.function-item.is in
    let items : c.push.new.self.items ≡ old ++ made ∷ [] = c.in_ok-push.ensures.items in
    let cores : map core_body_of c.push.new.self.items ≡ map core_body_of old ++ core_body_of made ∷ [] = ap (map core_body_of) items ∙ map-append core_body_of old (made ∷ []) in
    let places : concat (map body_places c.push.new.self.items) ≡ concat (map body_places old) ++ body_places made = ap (λ l. concat (map body_places l)) items ∙ concat-more body_places old made in
    let all-cores = core_bodies functions number bs (length start) in (
      pass_core functions number all-cores (map core_body_of old) origins more b left (core_body_of made)
          (inv.0 ∙ ap (λ l. map core_body_of old ++ core_bodies functions number l (length origins)) here) c.in_ok-body.ensures.body c.in_ok-body.ensures.next
          ∙ ap (λ l. l ++ core_bodies functions number left (length more)) (sym cores),
      pass_places (places_of_bodies bs) (concat (map body_places old)) b left (body_places made)
          (inv.1 ∙ ap (λ l. concat (map body_places old) ++ places_of_bodies l) here) c.in_ok-body.ensures.places
          ∙ ap (λ l. l ++ places_of_bodies left) (sym places),
      pass_variables (start ++ new_in_bodies bs) origins more b left (inv.2 ∙ ap (λ l. origins ++ new_in_bodies l) here) c.in_ok-body.ensures.next,
    )

pub loop-function-init : goal.loop-function-init
loop-function-init c =
    let bs = sources_of c.args.functions.now in
    let all = core_bodies (function_named bs) (number_named bs) bs (length (origins_of c.args.origins.now.items)) in (
      sym (ap (λ l. map core_body_of l ++ all) c.new-cores.ensures.items),
      sym (ap (λ l. concat (map body_places l) ++ places_of_bodies bs) c.new-cores.ensures.items),
      refl,
    )

pub returns-clause-bodies : goal.returns-clause-bodies
returns-clause-bodies c =
    let bs = sources_of c.args.functions.now in
    let next = length (origins_of c.loop-function.origins.items) in
    all_passed (λ l. core_bodies (function_named bs) (number_named bs) (sources_of l) next) c.args.functions.now c.loop-function.function-index
    (core_bodies (function_named bs) (number_named bs) bs (length (origins_of c.args.origins.now.items))) (map core_body_of c.loop-function.cores.items) c.loop-function-test.false refl c.loop-function.invariant.0

pub returns-clause-places : goal.returns-clause-places
returns-clause-places c =
    all_passed (λ l. places_of_bodies (sources_of l)) c.args.functions.now c.loop-function.function-index
    (places_of_bodies (sources_of c.args.functions.now)) (concat (map body_places c.loop-function.cores.items)) c.loop-function-test.false refl c.loop-function.invariant.1

pub returns-clause-next : goal.returns-clause-next
returns-clause-next c =
    all_passed (λ l. new_in_bodies (sources_of l)) c.args.functions.now c.loop-function.function-index
    (origins_of c.args.origins.now.items ++ new_in_bodies (sources_of c.args.functions.now)) (origins_of c.loop-function.origins.items) c.loop-function-test.false refl c.loop-function.invariant.2
