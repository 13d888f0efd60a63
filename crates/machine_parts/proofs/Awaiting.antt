-- What is awaited after a prefix of a context's type, and the names that come behind it.
use Rattle.std.proofs.Common.{◌≡◌, ◌∙◌, List, ◌∷◌, ◌++◌, map, ap, ap₂, refl, sym}
use Rattle.std.proofs.Common.{true, false}
use Rattle.stream_prefix.specs.StreamPrefix.{StreamPrefix, emp, der, join}
use Rattle.stream_prefix.proofs.Derivations.{Derives, eps_has_emp, par_has_both, cat_has_fst, cat_has_both}
use Rattle.stream_prefix.proofs.Joins.{der-emp, der-join}
use Rattle.bunch.specs.BunchTree.{BunchTree, empty, leaf, comma, semi, as_type}
use Rattle.delta_state.specs.StateTree.{HeldName, held_names}
use Rattle.delta_state.specs.StateMeaning.{types_held}
use Rattle.delta_state.specs.PlaceTree.{cuts_of, place_at}
use Rattle.main_steps.specs.Splitting.{empty_entries, split_entries, over_entries, later_entries}
use Rattle.main_steps.proofs.SplitLists.{over_lists}
use Rattle.machine_parts.specs.AwaitedTree.{stream_awaited, both_awaited, turns_awaited, whole_of, left_of, still_entries, entries_on, awaited_after, marks_of, place_in}

-- at the beginning: the whole, with nothing or with a prefix on it
still_whole : (b : BunchTree) → still_entries (whole_of b) ≡ empty_entries b
still_whole empty = refl
still_whole (leaf x t) = refl
still_whole (comma a b) = ap₂ ◌++◌ (still_whole a) (still_whole b)
still_whole (semi a b) = ap₂ ◌++◌ (still_whole a) (still_whole b)

pub entries_whole : (b : BunchTree) {p : StreamPrefix} → Derives (as_type b) p → entries_on (whole_of b) p ≡ split_entries b p
entries_whole empty eps_has_emp = refl
entries_whole (leaf x t) h = refl
entries_whole (comma a b) (par_has_both h k) = ap₂ ◌++◌ (entries_whole a h) (entries_whole b k)
entries_whole (semi a b) (cat_has_fst h) = ap₂ ◌++◌ (entries_whole a h) (still_whole b)
entries_whole (semi a b) (cat_has_both h m k) = ap₂ ◌++◌ (entries_whole a h) (entries_whole b k)

pub whole_left : (b : BunchTree) → whole_of b ≡ left_of b (emp (as_type b))
whole_left empty = refl
whole_left (leaf x t) = ap (stream_awaited x) (sym (der-emp t))
whole_left (comma a b) = ap₂ both_awaited (whole_left a) (whole_left b)
whole_left (semi a b) = ap (λ l. turns_awaited false l (whole_of b)) (whole_left a)

-- after a prefix: nothing more, or more of it
still_left : (b : BunchTree) {p : StreamPrefix} → Derives (as_type b) p → still_entries (left_of b p) ≡ over_entries b p
still_left empty eps_has_emp = refl
still_left (leaf x t) h = refl
still_left (comma a b) (par_has_both h k) = ap₂ ◌++◌ (still_left a h) (still_left b k)
still_left (semi a b) (cat_has_fst h) = ap₂ ◌++◌ (still_left a h) (still_whole b)
still_left (semi a b) (cat_has_both h m k) = ap₂ ◌++◌ (still_left a h) (still_left b k)

pub entries_left : (b : BunchTree) {p d : StreamPrefix} → Derives (as_type b) p → Derives (der p (as_type b)) d → entries_on (left_of b p) d ≡ later_entries b p d
entries_left empty eps_has_emp eps_has_emp = refl
entries_left (leaf x t) h k = refl
entries_left (comma a b) (par_has_both h k) (par_has_both i j) = ap₂ ◌++◌ (entries_left a h i) (entries_left b k j)
entries_left (semi a b) (cat_has_fst h) (cat_has_fst i) = ap₂ ◌++◌ (entries_left a h i) (still_whole b)
entries_left (semi a b) (cat_has_fst h) (cat_has_both i m j) = ap₂ ◌++◌ (entries_left a h i) (entries_whole b j)
entries_left (semi a b) (cat_has_both h m k) i = ap₂ ◌++◌ (still_left a h) (entries_left b k i)

whole_after : (b : BunchTree) {p : StreamPrefix} → Derives (as_type b) p → awaited_after (whole_of b) p ≡ left_of b p
whole_after empty eps_has_emp = refl
whole_after (leaf x t) h = refl
whole_after (comma a b) (par_has_both h k) = ap₂ both_awaited (whole_after a h) (whole_after b k)
whole_after (semi a b) (cat_has_fst h) = ap (λ l. turns_awaited false l (whole_of b)) (whole_after a h)
whole_after (semi a b) (cat_has_both h m k) = ap₂ (turns_awaited true) (whole_after a h) (whole_after b k)

-- what is awaited after both is what is awaited after their join
pub left_after : (b : BunchTree) {p d : StreamPrefix} → Derives (as_type b) p → Derives (der p (as_type b)) d → awaited_after (left_of b p) d ≡ left_of b (join p d)
left_after empty eps_has_emp eps_has_emp = refl
left_after (leaf x t) h k = ap (stream_awaited x) (sym (der-join h k))
left_after (comma a b) (par_has_both h k) (par_has_both i j) = ap₂ both_awaited (left_after a h i) (left_after b k j)
left_after (semi a b) (cat_has_fst h) (cat_has_fst i) = ap (λ l. turns_awaited false l (whole_of b)) (left_after a h i)
left_after (semi a b) (cat_has_fst h) (cat_has_both i m j) = ap₂ (turns_awaited true) (left_after a h i) (whole_after b j)
left_after (semi a b) (cat_has_both {p = p} h m k) i = ap (turns_awaited true (left_of a p)) (left_after b k i)

-- the marks that came
marks_whole : (b : BunchTree) → marks_of (whole_of b) ≡ cuts_of b (emp (as_type b))
marks_whole empty = refl
marks_whole (leaf x t) = refl
marks_whole (comma a b) = ap₂ ◌++◌ (marks_whole a) (marks_whole b)
marks_whole (semi a b) = ap₂ (λ k l. false ∷ (k ++ l)) (marks_whole a) (marks_whole b)

marks_left : (b : BunchTree) {p : StreamPrefix} → Derives (as_type b) p → marks_of (left_of b p) ≡ cuts_of b p
marks_left empty eps_has_emp = refl
marks_left (leaf x t) h = refl
marks_left (comma a b) (par_has_both h k) = ap₂ ◌++◌ (marks_left a h) (marks_left b k)
marks_left (semi a b) (cat_has_fst h) = ap₂ (λ k l. false ∷ (k ++ l)) (marks_left a h) (marks_whole b)
marks_left (semi a b) (cat_has_both h m k) = ap₂ (λ k l. true ∷ (k ++ l)) (marks_left a h) (marks_left b k)

-- the types that are left of the names
types_left : (b : BunchTree) {p : StreamPrefix} → Derives (as_type b) p → map (types_held (still_entries (left_of b p))) (held_names (still_entries (left_of b p))) ≡ (place_at b p).ins
types_left b {p = p} h =
    let l = over_lists b h in
    ap (λ (es : List HeldName). map (types_held es) (held_names es)) (still_left b h) ∙ ap₂ map (λ i x. l.are_types x i) l.are_names

-- so what is awaited after a prefix tells its place
pub place_left : (b : BunchTree) {p : StreamPrefix} → Derives (as_type b) p → place_in (left_of b p) ≡ place_at b p
place_left b h = ap₂ (λ i c. record { ins = i; cuts = c }) (types_left b h) (marks_left b h)
