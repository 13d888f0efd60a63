-- The grammar derives the tokens of each type, at each place where it may stand.
use Rattle.std.proofs.Common.{List, [], ◌∷◌, ◌++◌, refl, subst, append_assoc}
use Rattle.std.proofs.lemmas.List.{append-nil}
use Rattle.grammar.specs.Rules.{thing, list, token, part}
use Rattle.delta_tree.specs.SyntaxTree.{WrittenType, eps_written, one_written, int_written, named_written, cat_written, par_written, sum_written, star_written}
use Rattle.delta_tree.specs.Unplaced.{unplaced_type}
use Rattle.delta_parse.specs.declared.terminal.Terminal.TheVariants.{EpsWord, OneToken, IntWord, Open, Close, Plus, Bars, Dot}
use Rattle.delta_parse.specs.Terminals.{Tok}
use Rattle.delta_parse.specs.Parts.{type_thing, a_type, a_par, a_cat, a_star, more_stars, a_base}
use Rattle.delta_parse.specs.Actions.{starred}
use Rattle.delta_print.specs.declared.chunk.Chunk.{Chunk}
use Rattle.delta_print.specs.declared.chunk.Chunk.TheVariants.{Fixed, TypeStar}
use Rattle.delta_print.specs.declared.place.TypePlace.TheVariants as types
use Rattle.delta_print.specs.Chunks.{named}
use Rattle.delta_print.specs.Rows.{type_row, type_row_at}
use Rattle.delta_print.specs.Printable.{chunk_token}
use Rattle.delta_print.proofs.Deriving.{From, token_from, part_from, both_from, alone_from, left_from, right_from, none_from, some_from, placed_from, make_from, sign_from}

-- a row in brackets
abbrev pub brackets : List Chunk → List Chunk
brackets r = Fixed Open ∷ (r ++ Fixed Close ∷ [])

no_stars : From {s = list token} (part more_stars) [] []
no_stars = part_from more_stars (make_from none_from)

more_stars_from : (w : List Chunk) (ss : List Tok) → From {s = list token} (part more_stars) w ss → From {s = list token} (part more_stars) (TypeStar ∷ w) (chunk_token TypeStar ∷ ss)
more_stars_from w ss d = part_from more_stars (make_from (some_from (both_from (token_from TypeStar refl) d)))

star_from : (u w : List Chunk) (v : WrittenType) (ss : List Tok) → From {s = thing type_thing} (part a_base) u v → From {s = list token} (part more_stars) w ss
    → From {s = thing type_thing} (part a_star) (u ++ w) (starred 0 v ss)
star_from u w v ss d e = part_from a_star (make_from (placed_from (both_from d e)))

bracket_from : (u : List Chunk) (v : WrittenType) → From {s = thing type_thing} (part a_type) u v → From {s = thing type_thing} (part a_base) (brackets u) v
bracket_from u v d =
    part_from a_base (right_from (right_from (right_from (right_from (make_from (both_from (sign_from Open refl) (both_from d (sign_from Close refl))))))))

-- a type, derived as a whole and at each place, by the rows that stand there; at a star stars may follow
pub record Stands (v : WrittenType) (whole par cat star : List Chunk) : Type 0 where
  pub is_type : From {s = thing type_thing} (part a_type) whole v
  pub is_par : From {s = thing type_thing} (part a_par) par v
  pub is_cat : From {s = thing type_thing} (part a_cat) cat v
  pub is_star : (w : List Chunk) (ss : List Tok) → From {s = list token} (part more_stars) w ss → From {s = thing type_thing} (part a_star) (star ++ w) (starred 0 v ss)

cat_alone : (u : List Chunk) (v : WrittenType) → From {s = thing type_thing} (part a_star) u v → From {s = thing type_thing} (part a_cat) u v
cat_alone u v d = part_from a_cat (make_from (placed_from (alone_from d none_from)))

par_alone : (u : List Chunk) (v : WrittenType) → From {s = thing type_thing} (part a_cat) u v → From {s = thing type_thing} (part a_par) u v
par_alone u v d = part_from a_par (make_from (placed_from (alone_from d none_from)))

type_alone : (u : List Chunk) (v : WrittenType) → From {s = thing type_thing} (part a_par) u v → From {s = thing type_thing} (part a_type) u v
type_alone u v d = part_from a_type (make_from (placed_from (alone_from d none_from)))

-- with no star behind it
unstarred : (u : List Chunk) (v : WrittenType) → ((w : List Chunk) (ss : List Tok) → From {s = list token} (part more_stars) w ss → From {s = thing type_thing} (part a_star) (u ++ w) (starred 0 v ss))
    → From {s = thing type_thing} (part a_star) u v
unstarred u v d =
    let P : List Chunk → Type 0 = λ w. From {s = thing type_thing} (part a_star) w v in
    subst P (append-nil u) (d [] [] no_stars)

-- what stands bare everywhere, and under a star
at_star : (u : List Chunk) (v : WrittenType) → ((w : List Chunk) (ss : List Tok) → From {s = list token} (part more_stars) w ss → From {s = thing type_thing} (part a_star) (u ++ w) (starred 0 v ss))
    → Stands v u u u u
at_star u v d =
    let s : From {s = thing type_thing} (part a_star) u v = unstarred u v d in
    let c : From {s = thing type_thing} (part a_cat) u v = cat_alone u v s in
    let p : From {s = thing type_thing} (part a_par) u v = par_alone u v c in
    record { is_type = type_alone u v p; is_par = p; is_cat = c; is_star = d }

at_base : (u : List Chunk) (v : WrittenType) → From {s = thing type_thing} (part a_base) u v → Stands v u u u u
at_base u v d = at_star u v (λ w ss e. star_from u w v ss d e)

-- in brackets it stands everywhere
in_brackets : (u : List Chunk) (v : WrittenType) → From {s = thing type_thing} (part a_type) u v → Stands v (brackets u) (brackets u) (brackets u) (brackets u)
in_brackets u v d = at_base (brackets u) v (bracket_from u v d)

at_cat : (u : List Chunk) (v : WrittenType) → From {s = thing type_thing} (part a_cat) u v → Stands v u u u (brackets u)
at_cat u v d =
    let p : From {s = thing type_thing} (part a_par) u v = par_alone u v d in
    let t : From {s = thing type_thing} (part a_type) u v = type_alone u v p in
    record { is_type = t; is_par = p; is_cat = d; is_star = (in_brackets u v t).is_star }

at_par : (u : List Chunk) (v : WrittenType) → From {s = thing type_thing} (part a_par) u v → Stands v u u (brackets u) (brackets u)
at_par u v d =
    let t : From {s = thing type_thing} (part a_type) u v = type_alone u v d in
    record { is_type = t; is_par = d; is_cat = (in_brackets u v t).is_cat; is_star = (in_brackets u v t).is_star }

at_type : (u : List Chunk) (v : WrittenType) → From {s = thing type_thing} (part a_type) u v → Stands v u (brackets u) (brackets u) (brackets u)
at_type u v d = record { is_type = d; is_par = (in_brackets u v d).is_par; is_cat = (in_brackets u v d).is_cat; is_star = (in_brackets u v d).is_star }

-- one more star
starred_from : (u : List Chunk) (v : WrittenType) → ((w : List Chunk) (ss : List Tok) → From {s = list token} (part more_stars) w ss → From {s = thing type_thing} (part a_star) (u ++ w) (starred 0 v ss))
    → (w : List Chunk) (ss : List Tok) → From {s = list token} (part more_stars) w ss → From {s = thing type_thing} (part a_star) ((u ++ TypeStar ∷ []) ++ w) (starred 0 (star_written 0 v) ss)
starred_from u v d w ss e =
    rw append_assoc (d (TypeStar ∷ w) (chunk_token TypeStar ∷ ss) (more_stars_from w ss e))

-- the tokens of each type are derived
pub type_stands : (t : WrittenType) → Stands (unplaced_type t) (type_row t) (type_row_at types.Par t) (type_row_at types.Cat t) (type_row_at types.Star t)
type_stands (eps_written at) = at_base _ _ (part_from a_base (left_from (make_from (sign_from EpsWord refl))))
type_stands (one_written at) = at_base _ _ (part_from a_base (right_from (left_from (make_from (sign_from OneToken refl)))))
type_stands (int_written at) = at_base _ _ (part_from a_base (right_from (right_from (left_from (make_from (sign_from IntWord refl))))))
type_stands (named_written at x) = at_base _ _ (part_from a_base (right_from (right_from (right_from (left_from (make_from (token_from (named x) refl)))))))
type_stands (sum_written at a b) = at_type _ _ (part_from a_type (make_from (placed_from (both_from (type_stands a).is_par (some_from (both_from (sign_from Plus refl) (type_stands b).is_type))))))
type_stands (par_written at a b) = at_par _ _ (part_from a_par (make_from (placed_from (both_from (type_stands a).is_cat (some_from (both_from (sign_from Bars refl) (type_stands b).is_par))))))
type_stands (cat_written at a b) = at_cat _ _ (part_from a_cat (make_from (placed_from (both_from (unstarred _ _ (type_stands a).is_star) (some_from (both_from (sign_from Dot refl) (type_stands b).is_cat))))))
type_stands (star_written at a) = at_star _ _ (starred_from _ _ (type_stands a).is_star)
