use Rattle.std.proofs.Common.{◌∙◌, ◌++◌, ◌∷◌, [], ap, sym, map, arith, string_bytes}
use Rattle.std.proofs.lemmas.List.{map-append}
use Rattle.delta_parse.specs.Plain.{texts_of}
use Rattle.delta_parse.proofs.NameSets.{same_place, added_texts, grown, place_within}
use Rattle.delta_parse.proofs.numbering.put_name.Goals as goal

pub overflow_cast-result : goal.overflow_cast-result
overflow_cast-result c =
    let h = place_within c.args.names.now.keys c.args.text in
    let e = c.in_ok-place.ensures.index in
    let few = c.requires.few in
    omega arith

pub overflow_cast-result-2 : goal.overflow_cast-result-2
overflow_cast-result-2 c =
    let h = place_within c.args.names.now.keys c.args.text in
    let e = c.in_ok-place.ensures.index in
    let few = c.requires.few in
    omega arith

pub returns-then-not-added-clause-number : goal.returns-then-not-added-clause-number
returns-then-not-added-clause-number c = c.in_ok-place.ensures.index ∙ same_place c.args.names.now.keys c.args.text

pub returns-clause-number : goal.returns-clause-number
returns-clause-number c = c.in_ok-place.ensures.index ∙ same_place c.args.names.now.keys c.args.text

pub returns-then-not-added-clause-names : goal.returns-then-not-added-clause-names
returns-then-not-added-clause-names c = ap (map (λ k. k.now)) c.in_ok-place.ensures.keys ∙ added_texts c.args.names.now.keys c.args.text

pub returns-clause-names : goal.returns-clause-names
returns-clause-names c = ap (map (λ k. k.now)) c.in_ok-place.ensures.keys ∙ added_texts c.args.names.now.keys c.args.text

pub returns-clause-same : goal.returns-clause-same
returns-clause-same c =
    let g = grown c.args.names.now.keys c.insert_full.new.self.keys c.args.text c.in_ok-place.added c.in_ok-place.ensures.keys c.in_ok-place.ensures.added c.if-not-added.false in
    ap (map string_bytes) c.in_ok-push.ensures.items ∙ map-append string_bytes c.args.texts.now.items (c.in_ok-from_str.field-0 ∷ [])
    ∙ ap (λ xs. xs ++ (string_bytes c.in_ok-from_str.field-0 ∷ [])) c.requires.same ∙ ap (λ x. texts_of c.args.names.now ++ (x ∷ [])) c.in_ok-from_str.ensures.ok ∙ sym g
