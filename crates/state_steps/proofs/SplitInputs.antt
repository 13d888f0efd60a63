-- What comes of an input in two parts, as the names that it is split over see it.
use Rattle.std.proofs.Common.{◌≡◌, ◌∙◌, ℕ, ap, subst, sym}
use Rattle.stream_type.specs.StreamType.{StreamType}
use Rattle.stream_prefix.specs.StreamPrefix.{StreamPrefix, der, join, IsPart}
use Rattle.stream_prefix.proofs.Derivations.{Derives}
use Rattle.stream_prefix.proofs.Joins.{der-join, join_assoc, join_is_prefix, join_cancel}
use Rattle.stream_prefix.proofs.Parts.{part}
use Rattle.bunch.specs.BunchTree.{BunchTree, as_type}
use Rattle.core_term.specs.Agreement.{types_in}
use Rattle.core_term.specs.Environment.{Environment, NameTypes, left_at}
use Rattle.core_term.specs.Split.{split, split_after}
use Rattle.core_term.proofs.Splits.{split_derives, split_after_derives, split_join}

-- an input of type S is split over names of the types T: `before p` is what each name has of p, and `after p q` what
-- each has of q, which comes after p
pub record IsSplit (S : StreamType) (T : NameTypes) (before : StreamPrefix → Environment) (after : StreamPrefix → StreamPrefix → Environment) : Type 0 where
  pub before_derives : {p : StreamPrefix} → Derives S p → (x : ℕ) → Derives (T x) (before p x)
  pub after_derives : {p q : StreamPrefix} → Derives S p → Derives (der p S) q → (x : ℕ) → Derives (left_at (before p) T x) (after p q x)
  pub joins : {p q : StreamPrefix} → Derives S p → Derives (der p S) q → (x : ℕ) → before (join p q) x ≡ join (before p x) (after p q x)

-- what comes in a second part after p and d
pub second_derives : {S : StreamType} {p d q : StreamPrefix} → Derives S p → Derives (der p S) d → Derives (der d (der p S)) q → Derives (der (join p d) S) q
second_derives {q = q} h k l = subst (λ t. Derives t q) (sym (der-join h k)) l

module _ {S : StreamType} {T : NameTypes} {before : StreamPrefix → Environment} {after : StreamPrefix → StreamPrefix → Environment} (s : IsSplit S T before after) where
  -- what comes in two parts after p comes so on each name
  pub after_join : {p d q : StreamPrefix} → Derives S p → Derives (der p S) d → Derives (der d (der p S)) q → (x : ℕ) → after p (join d q) x ≡ join (after p d x) (after (join p d) q x)
  after_join {p = p} {d = d} {q = q} h k l x =
      let t = T x in
      let A = before p x in
      let B = after p d x in
      let E = after (join p d) q x in
      let a = s.before_derives h x in
      let i = s.after_derives h k x in
      let o = second_derives h k l in
      let e : Derives (der (join A B) t) E = subst (λ w. Derives (der w t) E) (s.joins h k x) (s.after_derives (join_is_prefix h k) o x) in
      let j : Derives (der B (der A t)) E = subst (λ t. Derives t E) (der-join a i) e in
      join_cancel a (s.after_derives h (join_is_prefix k l) x) (join_is_prefix i j)
      (sym (s.joins h (join_is_prefix k l) x)
      ∙ (ap (λ w. before w x) (sym (join_assoc h k l))
      ∙ (s.joins (join_is_prefix h k) o x ∙ (ap (λ w. join w E) (s.joins h k x) ∙ join_assoc a i j))))

  -- what two parts leave of a name's type
  pub left_of_both : {p d : StreamPrefix} → Derives S p → Derives (der p S) d → (x : ℕ) → left_at (before (join p d)) T x ≡ left_at (after p d) (left_at (before p) T) x
  left_of_both h k x = ap (λ w. der w (T x)) (s.joins h k x) ∙ der-join (s.before_derives h x) (s.after_derives h k x)

  -- what comes on a name in one part after p is a part of what comes in two
  pub after_is_part : {p d q : StreamPrefix} → Derives S p → Derives (der p S) d → Derives (der d (der p S)) q → (x : ℕ) → IsPart (left_at (before p) T x) (after p d x) (after p (join d q) x)
  after_is_part {p = p} {d = d} {q = q} h k l x =
      part (subst (λ t. Derives t (after (join p d) q x)) (left_of_both h k x) (s.after_derives (join_is_prefix h k) (second_derives h k l) x)) (sym (after_join h k l x))

-- the input of a program is split over the names of its bunch
pub bunch_is_split : (b : BunchTree) → IsSplit (as_type b) (types_in b) (split b) (split_after b)
bunch_is_split b = record { before_derives = split_derives b; after_derives = split_after_derives b; joins = split_join b }

-- what comes of it in two parts after p comes so on each name
pub split_after_join : (b : BunchTree) {p d q : StreamPrefix} → Derives (as_type b) p → Derives (der p (as_type b)) d → Derives (der d (der p (as_type b))) q → (x : ℕ) → split_after b p (join d q) x ≡ join (split_after b p d x) (split_after b (join p d) q x)
split_after_join b h k l x = after_join (bunch_is_split b) h k l x

-- what two parts of it leave of a name's type
pub left_after : (b : BunchTree) {p d : StreamPrefix} → Derives (as_type b) p → Derives (der p (as_type b)) d → (x : ℕ) → left_at (split b (join p d)) (types_in b) x ≡ left_at (split_after b p d) (left_at (split b p) (types_in b)) x
left_after b h k x = left_of_both (bunch_is_split b) h k x

-- what comes of it on a name in one part after p is a part of what comes in two
pub first_is_part : (b : BunchTree) {p d q : StreamPrefix} → Derives (as_type b) p → Derives (der p (as_type b)) d → Derives (der d (der p (as_type b))) q → (x : ℕ)
    → IsPart (left_at (split b p) (types_in b) x) (split_after b p d x) (split_after b p (join d q) x)
first_is_part b h k l x = after_is_part (bunch_is_split b) h k l x
