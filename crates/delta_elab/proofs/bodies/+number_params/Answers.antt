-- The numbers of the parameters on the left stand before those of the ones on the right.
use Rattle.std.proofs.Common.{◌≡◌, ◌+◌, ◌++◌, length, map, Some, sym, ap, ap₂, ◌∙◌}
use Rattle.std.proofs.lemmas.List.{map-append}
use Rattle.bunch.specs.BunchTree.{tree_of, leaf_names, comma, semi}
use Rattle.delta_meaning.specs.Elaboration.{numbered_params}
use Rattle.delta_elab.specs.Numbering.{origins_of, number_entries, entries_from}
use Rattle.delta_elab.proofs.ParamNumbers.{more-variables, entries-two}
use Rattle.delta_elab.proofs.Numbered.{is_made, on_ok, then_more}
use Rattle.delta_elab.proofs.bodies.+number_params.Goals as goal

pub returns-in_ok-b-in-Comma-clause-numbers : goal.returns-in_ok-b-in-Comma-clause-numbers
returns-in_ok-b-in-Comma-clause-numbers t c =
    let a = leaf_names (tree_of c.in-Comma.a.value) in
    let b = leaf_names (tree_of c.in-Comma.b.value) in
    let first = origins_of c.args.origins.now.items in
    let second = origins_of c.number_params.new.origins.items in
    let before = number_entries c.args.numbers.now.items in
    let middle = number_entries c.number_params.new.numbers.items in
    let after = number_entries c.number_params-in-Comma.new.numbers.items in
    let left : middle ≡ before ++ entries_from a (length first) = cc (c.in_ok-a-in-Comma.ensures.numbers, c.deref.ensures) in
    let next : second ≡ first ++ map Some a = cc (c.in_ok-a-in-Comma.ensures.next, c.deref.ensures) in
    let right : after ≡ middle ++ entries_from b (length second) = cc (c.in_ok-b-in-Comma.ensures.numbers, c.deref-in-Comma.ensures) in
    rw c.in-Comma.is (on_ok _ _ (entries-two before middle after first second a b left next right))

pub returns-in_ok-b-in-Semi-clause-numbers : goal.returns-in_ok-b-in-Semi-clause-numbers
returns-in_ok-b-in-Semi-clause-numbers t c =
    let a = leaf_names (tree_of c.in-Semi.a.value) in
    let b = leaf_names (tree_of c.in-Semi.b.value) in
    let first = origins_of c.args.origins.now.items in
    let second = origins_of c.number_params-in-Semi.new.origins.items in
    let before = number_entries c.args.numbers.now.items in
    let middle = number_entries c.number_params-in-Semi.new.numbers.items in
    let after = number_entries c.number_params-in-Semi-2.new.numbers.items in
    let left : middle ≡ before ++ entries_from a (length first) = cc (c.in_ok-a-in-Semi.ensures.numbers, c.deref-in-Semi.ensures) in
    let next : second ≡ first ++ map Some a = cc (c.in_ok-a-in-Semi.ensures.next, c.deref-in-Semi.ensures) in
    let right : after ≡ middle ++ entries_from b (length second) = cc (c.in_ok-b-in-Semi.ensures.numbers, c.deref-in-Semi-2.ensures) in
    rw c.in-Semi.is (on_ok _ _ (entries-two before middle after first second a b left next right))

pub returns-in_ok-b-in-Comma-clause-params : goal.returns-in_ok-b-in-Comma-clause-params
returns-in_ok-b-in-Comma-clause-params t c =
    let a = tree_of c.in-Comma.a.value in
    let b = tree_of c.in-Comma.b.value in
    let first = origins_of c.args.origins.now.items in
    let second = origins_of c.number_params.new.origins.items in
    let next : second ≡ first ++ map Some (leaf_names a) = c.in_ok-a-in-Comma.ensures.next ∙ ap (λ u. first ++ map Some (leaf_names (tree_of u))) c.deref.ensures in
    let left : tree_of c.in_ok-a-in-Comma.a.value ≡ numbered_params a (length first) = c.in_ok-a-in-Comma.ensures.params ∙ ap (λ u. numbered_params (tree_of u) (length first)) c.deref.ensures in
    let right : tree_of c.in_ok-b-in-Comma.b.value ≡ numbered_params b (length first + length (leaf_names a)) =
    c.in_ok-b-in-Comma.ensures.params ∙ ap₂ (λ u k. numbered_params (tree_of u) k) c.deref-in-Comma.ensures (more-variables first second (leaf_names a) next) in
    rw c.in-Comma.is (is_made c.boxed-in-Comma.result (λ r. tree_of r.value) (comma (tree_of c.in_ok-a-in-Comma.a.value) (tree_of c.in_ok-b-in-Comma.b.value)) (numbered_params (comma a b) (length first))
    (ap₂ comma left right) c.boxed-in-Comma.ensures)

pub returns-in_ok-b-in-Comma-clause-next : goal.returns-in_ok-b-in-Comma-clause-next
returns-in_ok-b-in-Comma-clause-next t c =
    let a = leaf_names (tree_of c.in-Comma.a.value) in
    let b = leaf_names (tree_of c.in-Comma.b.value) in
    let first = origins_of c.args.origins.now.items in
    let second = origins_of c.number_params.new.origins.items in
    let last = origins_of c.number_params-in-Comma.new.origins.items in
    let left : second ≡ first ++ map Some a = c.in_ok-a-in-Comma.ensures.next ∙ ap (λ u. first ++ map Some (leaf_names (tree_of u))) c.deref.ensures in
    let right : last ≡ second ++ map Some b = c.in_ok-b-in-Comma.ensures.next ∙ ap (λ u. second ++ map Some (leaf_names (tree_of u))) c.deref-in-Comma.ensures in
    rw c.in-Comma.is (on_ok (last ≡ first ++ map Some (a ++ b)) _ (then_more first second last (map Some a) (map Some b) left right ∙ ap (λ l. first ++ l) (sym (map-append Some a b))))

pub returns-in_ok-b-in-Semi-clause-params : goal.returns-in_ok-b-in-Semi-clause-params
returns-in_ok-b-in-Semi-clause-params t c =
    let a = tree_of c.in-Semi.a.value in
    let b = tree_of c.in-Semi.b.value in
    let first = origins_of c.args.origins.now.items in
    let second = origins_of c.number_params-in-Semi.new.origins.items in
    let next : second ≡ first ++ map Some (leaf_names a) = c.in_ok-a-in-Semi.ensures.next ∙ ap (λ u. first ++ map Some (leaf_names (tree_of u))) c.deref-in-Semi.ensures in
    let left : tree_of c.in_ok-a-in-Semi.a.value ≡ numbered_params a (length first) = c.in_ok-a-in-Semi.ensures.params ∙ ap (λ u. numbered_params (tree_of u) (length first)) c.deref-in-Semi.ensures in
    let right : tree_of c.in_ok-b-in-Semi.b.value ≡ numbered_params b (length first + length (leaf_names a)) =
    c.in_ok-b-in-Semi.ensures.params ∙ ap₂ (λ u k. numbered_params (tree_of u) k) c.deref-in-Semi-2.ensures (more-variables first second (leaf_names a) next) in
    rw c.in-Semi.is (is_made c.boxed-in-Semi.result (λ r. tree_of r.value) (semi (tree_of c.in_ok-a-in-Semi.a.value) (tree_of c.in_ok-b-in-Semi.b.value)) (numbered_params (semi a b) (length first))
    (ap₂ semi left right) c.boxed-in-Semi.ensures)

pub returns-in_ok-b-in-Semi-clause-next : goal.returns-in_ok-b-in-Semi-clause-next
returns-in_ok-b-in-Semi-clause-next t c =
    let a = leaf_names (tree_of c.in-Semi.a.value) in
    let b = leaf_names (tree_of c.in-Semi.b.value) in
    let first = origins_of c.args.origins.now.items in
    let second = origins_of c.number_params-in-Semi.new.origins.items in
    let last = origins_of c.number_params-in-Semi-2.new.origins.items in
    let left : second ≡ first ++ map Some a = c.in_ok-a-in-Semi.ensures.next ∙ ap (λ u. first ++ map Some (leaf_names (tree_of u))) c.deref-in-Semi.ensures in
    let right : last ≡ second ++ map Some b = c.in_ok-b-in-Semi.ensures.next ∙ ap (λ u. second ++ map Some (leaf_names (tree_of u))) c.deref-in-Semi-2.ensures in
    rw c.in-Semi.is (on_ok (last ≡ first ++ map Some (a ++ b)) _ (then_more first second last (map Some a) (map Some b) left right ∙ ap (λ l. first ++ l) (sym (map-append Some a b))))
