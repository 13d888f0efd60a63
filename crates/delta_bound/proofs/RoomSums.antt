-- What names can hold together, and the first of them without a size, one name more.
use Rattle.std.proofs.Common.{◌≡◌, ◌∙◌, ◌<◌, ◌+◌, ℕ, zero, suc, Bool, true, false, add-one, take, drop, List, [], ◌∷◌, length, if◌then◌else◌, eqb, ap, refl, sym, arith}
use Rattle.std.specs.Prelude.{Ok, Err, Option, Some, None, slice_index_or}
use Rattle.bunch.specs.declared.name.Name.{Name}
use Rattle.bunch.specs.Names.{numbers_of}
use Rattle.core_term.specs.FreeNames.{without}
use Rattle.state_bounds.specs.Bounds.{Bound, both, total}
use Rattle.state_bounds.specs.ProgramBound.{or_large, first_large}
use Rattle.delta_bound.specs.Measured.{with_room, with_name}
use Rattle.delta_bound.proofs.Totals.{total-next, total-other, total-same}

drop-suc : {A : Type 0} (xs : List A) (i : ℕ) (d : A) → i < length xs → drop i xs ≡ slice_index_or xs i d ∷ drop (suc i) xs
drop-suc [] i d h = absurd (omega (arith, h))
drop-suc (x ∷ xs) zero d h = refl
drop-suc (x ∷ xs) (suc i) d h = let less : i < length xs = omega (arith, h) in drop-suc xs i d less

drop-place : {A : Type 0} (xs : List A) (i : ℕ) (d : A) → i < length xs → drop i xs ≡ slice_index_or xs i d ∷ drop (i + 1) xs
drop-place xs i d h = drop-suc xs i d h ∙ ap (λ n. slice_index_or xs i d ∷ drop n xs) (sym (add-one i))

-- a name with a size is added, and the rest decide
room_next : (x : Name) (b all new sum : Bound) (rest whole : Option ℕ) → all ≡ sum → or_large x.0 b rest ≡ whole → with_room all x b ≡ Ok new → (new ≡ both sum b) × (rest ≡ whole)
room_next x None all new sum rest whole e k r = absurd (cc r)
room_next x (Some n) all new sum rest whole e k r = let same : both all (Some n) ≡ new = cc r in (sym same ∙ ap (λ b. both b (Some n)) e, k)

-- and one without is the first
room_stop : (x : Name) (b all : Bound) (rest whole : Option ℕ) (n : Name) → or_large x.0 b rest ≡ whole → with_room all x b ≡ Err n → whole ≡ Some n.0
room_stop x None all rest whole n k r = let same : x ≡ n = cc r in sym k ∙ ap (λ m. Some m.0) same
room_stop x (Some m) all rest whole n k r = absurd (cc r)

module _ (f : ℕ → Bound) (xs : List Name) (i : ℕ) (d : Name) (h : i < length xs) where
  large-next : first_large f (numbers_of (drop i xs)) ≡ or_large (slice_index_or xs i d).0 (f (slice_index_or xs i d).0) (first_large f (numbers_of (drop (i + 1) xs)))
  large-next = ap (λ l. first_large f (numbers_of l)) (drop-place xs i d h)

  pub wait_more : (all new : Bound) (whole : Option ℕ) → all ≡ total f (numbers_of (take i xs)) → first_large f (numbers_of (drop i xs)) ≡ whole
      → with_room all (slice_index_or xs i d) (f (slice_index_or xs i d).0) ≡ Ok new → (new ≡ total f (numbers_of (take (i + 1) xs))) × (first_large f (numbers_of (drop (i + 1) xs)) ≡ whole)
  wait_more all new whole e k r =
      let x = slice_index_or xs i d in
      let more = room_next x (f x.0) all new (total f (numbers_of (take i xs))) (first_large f (numbers_of (drop (i + 1) xs))) whole e (sym large-next ∙ k) r in
      (more.0 ∙ sym (total-next f xs i d h), more.1)

  pub wait_stops : (all : Bound) (whole : Option ℕ) (n : Name) → first_large f (numbers_of (drop i xs)) ≡ whole → with_room all (slice_index_or xs i d) (f (slice_index_or xs i d).0) ≡ Err n → whole ≡ Some n.0
  wait_stops all whole n k r = let x = slice_index_or xs i d in room_stop x (f x.0) all (first_large f (numbers_of (drop (i + 1) xs))) whole n (sym large-next ∙ k) r

  large-other : (z : ℕ) → eqb (slice_index_or xs i d).0 z ≡ false
      → first_large f (without z (numbers_of (drop i xs))) ≡ or_large (slice_index_or xs i d).0 (f (slice_index_or xs i d).0) (first_large f (without z (numbers_of (drop (i + 1) xs))))
  large-other z n =
      let x = (slice_index_or xs i d).0 in
      let rest = without z (numbers_of (drop (i + 1) xs)) in
      ap (λ l. first_large f (without z (numbers_of l))) (drop-place xs i d h) ∙ ap (λ b. first_large f (if b then rest else x ∷ rest)) n

  large-same : (z : ℕ) → eqb (slice_index_or xs i d).0 z ≡ true → first_large f (without z (numbers_of (drop i xs))) ≡ first_large f (without z (numbers_of (drop (i + 1) xs)))
  large-same z n =
      let x = (slice_index_or xs i d).0 in
      let rest = without z (numbers_of (drop (i + 1) xs)) in
      ap (λ l. first_large f (without z (numbers_of l))) (drop-place xs i d h) ∙ ap (λ b. first_large f (if b then rest else x ∷ rest)) n

  pub case_more : (z : ℕ) (all new : Bound) (whole : Option ℕ) → all ≡ total f (without z (numbers_of (take i xs))) → first_large f (without z (numbers_of (drop i xs))) ≡ whole
      → with_name f z all (slice_index_or xs i d) ≡ Ok new
      → (new ≡ total f (without z (numbers_of (take (i + 1) xs)))) × (first_large f (without z (numbers_of (drop (i + 1) xs))) ≡ whole)
  case_more z all new whole e k r = go (eqb (slice_index_or xs i d).0 z) refl
    where
      x : Name
      x = slice_index_or xs i d

      go : (b : Bool) → eqb x.0 z ≡ b → (new ≡ total f (without z (numbers_of (take (i + 1) xs)))) × (first_large f (without z (numbers_of (drop (i + 1) xs))) ≡ whole)
      go true n =
          let kept : Ok all ≡ Ok new = sym (ap (λ b. if b then Ok all else with_room all x (f x.0)) n) ∙ r in
          let same : all ≡ new = cc kept in
          (sym same ∙ (e ∙ sym (total-same f z xs i d h n)), sym (large-same z n) ∙ k)
      go false n =
          let added : with_room all x (f x.0) ≡ Ok new = sym (ap (λ b. if b then Ok all else with_room all x (f x.0)) n) ∙ r in
          let more = room_next x (f x.0) all new (total f (without z (numbers_of (take i xs)))) (first_large f (without z (numbers_of (drop (i + 1) xs)))) whole e (sym (large-other z n) ∙ k) added in
          (more.0 ∙ sym (total-other f z xs i d h n), more.1)

  pub case_stops : (z : ℕ) (all : Bound) (whole : Option ℕ) (n : Name) → first_large f (without z (numbers_of (drop i xs))) ≡ whole → with_name f z all (slice_index_or xs i d) ≡ Err n → whole ≡ Some n.0
  case_stops z all whole m k r = go (eqb (slice_index_or xs i d).0 z) refl
    where
      x : Name
      x = slice_index_or xs i d

      go : (b : Bool) → eqb x.0 z ≡ b → whole ≡ Some m.0
      go true n =
          let kept : Ok all ≡ Err m = sym (ap (λ b. if b then Ok all else with_room all x (f x.0)) n) ∙ r in
          absurd (cc kept)
      go false n =
          let stopped : with_room all x (f x.0) ≡ Err m = sym (ap (λ b. if b then Ok all else with_room all x (f x.0)) n) ∙ r in
          room_stop x (f x.0) all (first_large f (without z (numbers_of (drop (i + 1) xs)))) whole m (sym (large-other z n) ∙ k) stopped
