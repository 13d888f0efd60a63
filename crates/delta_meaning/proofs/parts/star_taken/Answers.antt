-- A star without a whole item is its end.
use Rattle.std.proofs.Common.{◌≡◌, List, [], ◌∷◌, length, map, refl, sym, ap, ◌∙◌, arith}
use Rattle.std.specs.Prelude.{vec_len}
use Rattle.std.proofs.lemmas.Bool.{eqb-true}
use Rattle.stream_prefix.specs.declared.prefix.Prefix.{Prefix}
use Rattle.stream_prefix.specs.Tree.{prefix_of, end_of, star_of}
use Rattle.stream_prefix.proofs.Rows.{prefix_of-star}
use Rattle.core_term.specs.Run.{star_run}
use Rattle.delta_meaning.proofs.parts.star_taken.Goals as goal

none : (ps : List Prefix) → length ps ≡ 0 → ps ≡ []
none [] h = refl
none (p ∷ ps) h = absurd (omega arith)

pub returns-then-is_empty : goal.returns-then-is_empty
returns-then-is_empty c =
    let z : vec_len c.in-Star.items ≡ 0 = eqb-true (vec_len c.in-Star.items) 0 (sym c.is_empty.ensures ∙ c.if-is_empty.true) in
    let l : length c.in-Star.items.items ≡ 0 = omega (arith, c.in-Star.items.ok.0, z) in
    let k : prefix_of c.args.p ≡ star_of (map prefix_of c.in-Star.items.items) (end_of c.in-Star.end) = rw c.in-Star.is (prefix_of-star c.in-Star.items c.in-Star.end) in
    let n : star_of (map prefix_of c.in-Star.items.items) (end_of c.in-Star.end) ≡ end_of c.in-Star.end = ap (λ (ps : List Prefix). star_of (map prefix_of ps) (end_of c.in-Star.end)) (none c.in-Star.items.items l) in
    λ r a b. ap (λ p. star_run r p a b) (k ∙ n) ∙ c.star_begun.ensures r a b
