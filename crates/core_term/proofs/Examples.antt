-- The definitions at single bunches and environments: each answer was worked out by hand, and the check computes it.
use Rattle.std.proofs.Common.{◌≡◌, pos, true≢false, [], ◌∷◌, inl, ⊎_elim, refl, sym}
use Rattle.stream_type.specs.StreamType.{eps, one, int}
use Rattle.stream_prefix.specs.StreamPrefix.{StreamPrefix, eps_emp, one_full, int_emp, int_full, par_both, cat_fst, cat_both, is_maximal, IsPrefix}
use Rattle.bunch.specs.BunchTree.{BunchTree, IsDistinct, as_type, empty, leaf, comma, semi, stands_before}
use Rattle.core_term.proofs.Sides.{all-holds}
use Rattle.bunch.specs.Names.{put}
use Rattle.core_term.specs.Environment.{Environment, empty_at, left_at, joined}
use Rattle.core_term.specs.Agreement.{types_in, AgreesInTree, Agrees}
use Rattle.core_term.specs.Split.{split, split_after, gathered}

-- `0 : Int, (1 : 1; 2 : Int)`
abbrev sample : BunchTree
sample = comma (leaf 0 int) (semi (leaf 1 one) (leaf 2 int))

-- a name has the type of its leaf, and any other name `eps`
type_of-last : types_in sample 2 ≡ int
type_of-last = refl

type_of-other : types_in sample 7 ≡ eps
type_of-other = refl

-- the number of 0 came and 1, but not the mark after it
abbrev before_mark : StreamPrefix
before_mark = par_both (int_full (pos 5)) (cat_fst one_full)

split-first : split sample before_mark 0 ≡ int_full (pos 5)
split-first = refl

split-left : split sample before_mark 1 ≡ one_full
split-left = refl

-- on the right of the semicolon nothing has come
split-right : split sample before_mark 2 ≡ int_emp
split-right = refl

split-other : split sample before_mark 7 ≡ eps_emp
split-other = refl

-- then the mark and a number came: 2 has the number, and the others have what they had
abbrev later : StreamPrefix
later = par_both eps_emp (cat_both eps_emp (int_full (pos 3)))

after-right : split_after sample before_mark later 2 ≡ int_full (pos 3)
after-right = refl

after-left : split_after sample before_mark later 1 ≡ eps_emp
after-left = refl

joined-right : joined (split sample before_mark) (split_after sample before_mark later) 2 ≡ int_full (pos 3)
joined-right = refl

left_at-left : left_at (split sample before_mark) (types_in sample) 1 ≡ eps
left_at-left = refl

-- no name sees the mark alone: the prefix after it splits into the same
abbrev after_mark : StreamPrefix
after_mark = par_both (int_full (pos 5)) (cat_both one_full int_emp)

mark-left : split sample after_mark 1 ≡ split sample before_mark 1
mark-left = refl

mark-right : split sample after_mark 2 ≡ split sample before_mark 2
mark-right = refl

-- so two prefixes can split into one environment, here that of `0 : 1; .`
not_injective : ((b : BunchTree) → IsDistinct b → (p q : StreamPrefix) → IsPrefix (as_type b) p → IsPrefix (as_type b) q → split b p ≡ split b q → p ≡ q) → ⊥
not_injective h =
    absurd (cc (h (semi (leaf 0 one) empty) (tt, tt, λ x m. absurd (true≢false (sym m))) (cat_fst one_full) (cat_both one_full eps_emp) tt (tt, refl, tt) refl))

-- the one with the mark is gathered from the sample's
gathered-mark : gathered sample (split sample before_mark) ≡ after_mark
gathered-mark = refl

-- a number on 2 before 1 is whole agrees in neither form
abbrev early : Environment
early = put 2 (int_full (pos 3)) (empty_at (types_in sample))

early-tree : AgreesInTree sample early → ⊥
early-tree h = ⊎_elim (λ w. true≢false (sym (w 1 refl))) (λ e. absurd (cc (e 2 refl))) h.1.2

early-order : Agrees (types_in sample) (stands_before sample) early → ⊥
early-order h = ⊎_elim (λ m. true≢false (sym m)) (λ e. absurd (cc e)) (h 1 2 refl)

-- once 1 is whole it agrees
abbrev in_time : Environment
in_time = put 1 one_full early

in_time-tree : AgreesInTree sample in_time
in_time-tree = (tt, (tt, tt, inl (all-holds (λ x. is_maximal (in_time x)) (1 ∷ []) refl)))
