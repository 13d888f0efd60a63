-- The canonical text of a type is read as that type.
use Rattle.std.proofs.Common.{◌≡◌, ℕ, Bool, true, false, ◌||◌, List, [], ◌∷◌, ◌++◌, None, refl, subst, append-nil, arith}
use Rattle.std.specs.Prelude.{nat_lt, ⊤}
use Rattle.stream_type.specs.StreamType.{StreamType, eps, one, int, cat, par, sum, star}
use Rattle.delta_parse.specs.declared.terminal.Terminal.{Terminal}
use Rattle.delta_parse.specs.declared.terminal.Terminal.TheVariants.{Close, OneToken, Plus, Bars, Dot}
use Rattle.delta_parse.specs.Terminals.{code_of, is_kind}
use Rattle.delta_parse.specs.Plain.{grammar_tokens}
use Rattle.delta_print.specs.declared.chunk.Chunk.{Chunk}
use Rattle.delta_print.specs.declared.chunk.Chunk.TheVariants.{Fixed, Named, Digits, Minus, TypeStar}
use Rattle.delta_print.specs.declared.place.TypePlace.{TypePlace}
use Rattle.delta_print.specs.declared.place.TypePlace.TheVariants as types
use Rattle.delta_print.specs.Layout.{laid_out}
use Rattle.delta_print.specs.Brackets.{enclosed, type_bare}
use Rattle.delta_print.specs.Rows.{type_row, type_row_at}
use Rattle.delta_print.specs.Canonical.{written, type_text}
use Rattle.delta_print.specs.ReadingBack.{AreSpelled, AreInOrder, AreDistinct, DividesInto}
use Rattle.delta_print.specs.Laws.{ShownIsRead}
use Rattle.delta_print.proofs.Dividing.{nothing_divides, nothing_apart, row_divides}
use Rattle.delta_print.proofs.Numbering.{AreNumbered, are_numbered}
use Rattle.delta_print.proofs.DerivedPrograms.{shown_is_derived}

-- words, signs and stars of types alone
abbrev AreFixed : List Chunk → Type 0
AreFixed [] = ⊤
AreFixed (Fixed k ∷ cs) = (nat_lt (code_of k) 39 || is_kind k OneToken ≡ true) × AreFixed cs
AreFixed (Named x ∷ cs) = ⊥
AreFixed (Digits n ∷ cs) = ⊥
AreFixed (Minus ∷ cs) = ⊥
AreFixed (TypeStar ∷ cs) = AreFixed cs

joined_fixed : (a b : List Chunk) → AreFixed a → AreFixed b → AreFixed (a ++ b)
joined_fixed [] b h k = k
joined_fixed (Fixed t ∷ a) b h k = (h.0, joined_fixed a b h.1 k)
joined_fixed (Named x ∷ a) b h k = absurd h
joined_fixed (Digits n ∷ a) b h k = absurd h
joined_fixed (Minus ∷ a) b h k = absurd h
joined_fixed (TypeStar ∷ a) b h k = joined_fixed a b h k

enclosed_fixed : (bare : Bool) (a : List Chunk) → AreFixed a → AreFixed (enclosed bare a)
enclosed_fixed true a h = h
enclosed_fixed false a h = (refl, joined_fixed a (Fixed Close ∷ []) h (refl, tt))

infix_fixed : (k : Terminal) (a b : List Chunk) → nat_lt (code_of k) 39 || is_kind k OneToken ≡ true → AreFixed a → AreFixed b → AreFixed (a ++ Fixed k ∷ b)
infix_fixed k a b is h l = joined_fixed a (Fixed k ∷ b) h (is, l)

at_fixed : (place : TypePlace) (t : StreamType) → AreFixed (type_row (written t)) → AreFixed (type_row_at place (written t))
at_fixed place t h = enclosed_fixed (type_bare place (written t)) (type_row (written t)) h

type_fixed : (t : StreamType) → AreFixed (type_row (written t))
type_fixed eps = (refl, tt)
type_fixed one = (refl, tt)
type_fixed int = (refl, tt)
type_fixed (cat a b) = infix_fixed Dot (type_row_at types.Star (written a)) (type_row_at types.Cat (written b)) refl (at_fixed types.Star a (type_fixed a)) (at_fixed types.Cat b (type_fixed b))
type_fixed (par a b) = infix_fixed Bars (type_row_at types.Cat (written a)) (type_row_at types.Par (written b)) refl (at_fixed types.Cat a (type_fixed a)) (at_fixed types.Par b (type_fixed b))
type_fixed (sum a b) = infix_fixed Plus (type_row_at types.Par (written a)) (type_row (written b)) refl (at_fixed types.Par a (type_fixed a)) (type_fixed b)
type_fixed (star a) = joined_fixed (type_row_at types.Star (written a)) (TypeStar ∷ []) (at_fixed types.Star a (type_fixed a)) tt

fixed_spelled : (row : List Chunk) → AreFixed row → AreSpelled [] row
fixed_spelled [] h = tt
fixed_spelled (Fixed k ∷ row) h = (h.0, fixed_spelled row h.1)
fixed_spelled (Named x ∷ row) h = absurd h
fixed_spelled (Digits n ∷ row) h = absurd h
fixed_spelled (Minus ∷ row) h = absurd h
fixed_spelled (TypeStar ∷ row) h = (tt, fixed_spelled row h)

fixed_ordered : (row : List Chunk) → AreFixed row → AreInOrder 0 0 row
fixed_ordered [] h = refl
fixed_ordered (Fixed k ∷ row) h = (tt, fixed_ordered row h.1)
fixed_ordered (Named x ∷ row) h = absurd h
fixed_ordered (Digits n ∷ row) h = absurd h
fixed_ordered (Minus ∷ row) h = absurd h
fixed_ordered (TypeStar ∷ row) h = (tt, fixed_ordered row h)

none_distinct : AreDistinct []
none_distinct i j less within same = absurd (omega arith)

row_alone : (row : List Chunk) → AreSpelled [] row → DividesInto [] (laid_out [] row) row 0
row_alone row s =
    let P : List ℕ → Type 0 = λ r. DividesInto [] r (row ++ []) 0 in
    let Q : List Chunk → Type 0 = λ r. DividesInto [] (laid_out [] row) r 0 in
    subst Q (append-nil row) (subst P (append-nil (laid_out [] row)) (row_divides [] None row [] [] s nothing_apart (nothing_divides []) 0))

-- the text of each type
pub shown_is_read : ShownIsRead
shown_is_read t =
    let row : List Chunk = type_row (written t) in
    let s : AreSpelled [] row = fixed_spelled row (type_fixed t) in
    let k : DividesInto [] (type_text t) row 0 = row_alone row s in
    let m : AreNumbered [] 0 row k.tokens = are_numbered [] 0 row k.tokens none_distinct (omega arith) s (fixed_ordered row (type_fixed t)) k.are in
    record { tokens = k.tokens; divides = k.divides; are_type = shown_is_derived t (grammar_tokens k.tokens) m.tokens }
