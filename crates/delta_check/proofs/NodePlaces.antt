-- There are as many places as nodes.
use mathlib.Core.Former.{Count}
use Rattle.std.proofs.Common.{◌≡◌, ℕ, suc, arith, ◌+◌, List, [], ◌∷◌, ◌++◌, length, length-append, refl}
use Rattle.core_term.specs.declared.term.Node.{Node}
use Rattle.core_term.specs.declared.term.Term.{Term, Row_of-Node, end_of-Node, more_of-Node}
use Rattle.core_term.specs.declared.term.Term.TheVariants.{Var, Eps, Unit as IsUnit, Past, Par', Cat', Inl', Inr', Nil, Cons', Let', LetPar', LetCat', CaseSum', CaseStar', Wait', Call'}
use Rattle.core_term.specs.CoreTerm.{term_of, term_in, terms_of, places_of, places_in, places_among, node_count, node_counts}

both : (i j : ℕ) (ps qs : List ℕ) (m n : ℕ) → suc (length ps) ≡ m → suc (length qs) ≡ n → suc (length ((i ∷ ps) ++ (j ∷ qs))) ≡ 1 + (m + n)
both i j ps qs m n h k = let e = length-append (i ∷ ps) (j ∷ qs) in omega (arith, e, h, k)

one : (i : ℕ) (ps : List ℕ) (m : ℕ) → suc (length ps) ≡ m → suc (length (i ∷ ps)) ≡ 1 + m
one i ps m h = omega arith

more : (i : ℕ) (ps qs : List ℕ) (m n : ℕ) → suc (length ps) ≡ m → length qs ≡ n → length ((i ∷ ps) ++ qs) ≡ m + n
more i ps qs m n h k = let e = length-append (i ∷ ps) qs in omega (arith, e, h, k)

mutual
  -- a term's own place comes before those of its parts
  pub length-places_in : (t : Term) → suc (length (places_in t)) ≡ node_count (term_in t)
  length-places_in (Var x) = refl
  length-places_in Eps = refl
  length-places_in IsUnit = refl
  length-places_in (Past m) = refl
  length-places_in (Par' p i a q j b) = both i j (places_in a) (places_in b) (node_count (term_in a)) (node_count (term_in b)) (length-places_in a) (length-places_in b)
  length-places_in (Cat' p i a q j b) = both i j (places_in a) (places_in b) (node_count (term_in a)) (node_count (term_in b)) (length-places_in a) (length-places_in b)
  length-places_in (Inl' p i a) = one i (places_in a) (node_count (term_in a)) (length-places_in a)
  length-places_in (Inr' p i a) = one i (places_in a) (node_count (term_in a)) (length-places_in a)
  length-places_in Nil = refl
  length-places_in (Cons' p i a q j b) = both i j (places_in a) (places_in b) (node_count (term_in a)) (node_count (term_in b)) (length-places_in a) (length-places_in b)
  length-places_in (Let' x s p i a q j b) = both i j (places_in a) (places_in b) (node_count (term_in a)) (node_count (term_in b)) (length-places_in a) (length-places_in b)
  length-places_in (LetPar' x y z p i a) = one i (places_in a) (node_count (term_in a)) (length-places_in a)
  length-places_in (LetCat' x y z p i a) = one i (places_in a) (node_count (term_in a)) (length-places_in a)
  length-places_in (CaseSum' z t x p i a y q j b) = both i j (places_in a) (places_in b) (node_count (term_in a)) (node_count (term_in b)) (length-places_in a) (length-places_in b)
  length-places_in (CaseStar' z t p i a y ys q j b) = both i j (places_in a) (places_in b) (node_count (term_in a)) (node_count (term_in b)) (length-places_in a) (length-places_in b)
  length-places_in (Wait' x t p i a) = one i (places_in a) (node_count (term_in a)) (length-places_in a)
  length-places_in (Call' f ms shape es) = let e = length-places_among _ es in omega (arith, e)

  length-places_among : (m : Count) (k : Row_of-Node m) → length (places_among k) ≡ node_counts (terms_of k)
  length-places_among m end_of-Node = refl
  length-places_among m (more_of-Node i a k) = more i (places_in a) (places_among k) (node_count (term_in a)) (node_counts (terms_of k)) (length-places_in a) (length-places_among _ k)

-- those of a node
pub length-places : (n : Node) → length (places_of n) ≡ node_count (term_of n)
length-places n = length-places_in n.term
