-- One more parameter is numbered, and where none are left all are.
use Rattle.std.proofs.Common.{◌≡◌, ◌+◌, ◌++◌, [], ◌∷◌, length, map, drop, Some, refl, sym, ap, ◌∙◌}
use Rattle.std.proofs.lemmas.List.{map-append}
use Rattle.stream_type.specs.StreamType.{type_of}
use Rattle.core_term.specs.CoreTerm.{typed_names_of}
use Rattle.delta_meaning.specs.Elaboration.{numbered_past}
use Rattle.delta_elab.specs.Numbering.{origins_of, number_entries, entries_from}
use Rattle.delta_elab.specs.Sources.{names_of}
use Rattle.delta_elab.proofs.NextItems.{map-next}
use Rattle.delta_elab.proofs.ParamNumbers.{number_entries-append}
use Rattle.delta_elab.proofs.Numbered.{pass_past, pass_entry, pass_name, all_passed}
use Rattle.delta_elab.proofs.bodies.number_past.Goals as goal

pub loop-x-preserved : goal.loop-x-preserved
loop-x-preserved c =
    let i = c.loop-x.x-index in
    let p = c.loop-x-item.result in
    let left = typed_names_of (drop (i + 1) c.args.past.now) in
    let before = origins_of c.loop-x.origins.items in
    let after = origins_of c.named.new.origins.items in
    let first = length before in
    let inv = c.loop-x.invariant in
    let here : typed_names_of (drop i c.args.past.now) ≡ (p.0.0, type_of p.1) ∷ left = map-next (λ q. (q.0.0, type_of q.1)) c.args.past.now i p c.loop-x-test.true c.loop-x-item.is in
    let n = c.in_ok-n.n in
    let t = c.in_ok-copy.field-0 in
    let done = typed_names_of c.loop-x.numbered.items in
    let entries = number_entries c.loop-x.numbers.items in
    let more : after ≡ before ++ Some p.0.0 ∷ [] = c.in_ok-n.ensures.next in
    let pasts : typed_names_of c.push-in-loop-x.new.self.items ≡ done ++ (n.0, type_of t) ∷ [] =
    ap typed_names_of c.in_ok-push-2.ensures.items ∙ map-append (λ q. (q.0.0, type_of q.1)) c.loop-x.numbered.items ((n, t) ∷ []) in
    let numbers : number_entries c.push.new.self.items ≡ entries ++ (p.0.0, n.0) ∷ [] =
    ap number_entries c.in_ok-push.ensures.items ∙ number_entries-append c.loop-x.numbers.items ((p.0, n) ∷ []) in
    let all-past = numbered_past (typed_names_of c.args.past.now) (length (origins_of c.args.origins.now.items)) in
    let all-entries = number_entries c.args.numbers.now.items ++ entries_from (names_of (typed_names_of c.args.past.now)) (length (origins_of c.args.origins.now.items)) in
    let all-names = origins_of c.args.origins.now.items ++ map Some (names_of (typed_names_of c.args.past.now)) in (
      pass_past all-past done before after p.0.0 n.0 (type_of p.1) (type_of t) left
          (inv.0 ∙ ap (λ l. done ++ numbered_past l first) here) c.in_ok-n.ensures.number c.in_ok-copy.ensures more
          ∙ ap (λ l. l ++ numbered_past left (length after)) (sym pasts),
      pass_entry all-entries entries before after p.0.0 n.0 (names_of left)
          (inv.1 ∙ ap (λ l. entries ++ entries_from (names_of l) first) here) c.in_ok-n.ensures.number more
          ∙ ap (λ l. l ++ entries_from (names_of left) (length after)) (sym numbers),
      pass_name all-names before after p.0.0 (names_of left) (inv.2 ∙ ap (λ l. before ++ map Some (names_of l)) here) more,
    )

pub loop-x-init : goal.loop-x-init
loop-x-init c =
    let all = numbered_past (typed_names_of c.args.past.now) (length (origins_of c.args.origins.now.items)) in
    (sym (ap (λ l. typed_names_of l ++ all) c.new-numbered.ensures.items), refl, refl)

pub returns-clause-past : goal.returns-clause-past
returns-clause-past c =
    let next = length (origins_of c.loop-x.origins.items) in
    all_passed (λ l. numbered_past (typed_names_of l) next) c.args.past.now c.loop-x.x-index (numbered_past (typed_names_of c.args.past.now) (length (origins_of c.args.origins.now.items)))
    (typed_names_of c.loop-x.numbered.items) c.loop-x-test.false refl c.loop-x.invariant.0

pub returns-clause-numbers : goal.returns-clause-numbers
returns-clause-numbers c =
    let next = length (origins_of c.loop-x.origins.items) in
    all_passed (λ l. entries_from (names_of (typed_names_of l)) next) c.args.past.now c.loop-x.x-index
    (number_entries c.args.numbers.now.items ++ entries_from (names_of (typed_names_of c.args.past.now)) (length (origins_of c.args.origins.now.items)))
    (number_entries c.loop-x.numbers.items) c.loop-x-test.false refl c.loop-x.invariant.1

pub returns-clause-next : goal.returns-clause-next
returns-clause-next c =
    all_passed (λ l. map Some (names_of (typed_names_of l))) c.args.past.now c.loop-x.x-index (origins_of c.args.origins.now.items ++ map Some (names_of (typed_names_of c.args.past.now)))
    (origins_of c.loop-x.origins.items) c.loop-x-test.false refl c.loop-x.invariant.2
