-- After as many rounds as there are functions no round marks another one, so what a reached function calls is
-- reached.
use Rattle.std.proofs.Common.{◌≡◌, ◌∙◌, ◌<◌, ◌≤◌, ◌+◌, ℕ, zero, suc, Bool, true, false, true≢false, ◌&&◌, ◌||◌, ◌⊎◌, inl, inr, ⊎_elim, List, [], ◌∷◌, ◌++◌, length, ap, ap₂, refl, sym, subst, arith}
use Rattle.std.proofs.lemmas.Bool.{or_left, or_right}
use Rattle.std.specs.Prelude.{slice_index_or}
use Rattle.bunch.specs.Names.{holds}
use Rattle.core_term.specs.CoreTerm.{CoreBody, CoreProgram, fun_at}
use Rattle.core_term.proofs.InertFunctions.{below_or_same}
use Rattle.state_bounds.specs.ProgramBound.{calls_in, is_marked, calls_from, tabulated, repeated, marks_after, first_marks, reached_marks, mark_count}
use Rattle.state_bounds.proofs.ProgramNumbers.{length-tabulated}

-- a longer list has at a place what the shorter has, or its last element
index_longer : {A : Type 0} (xs : List A) (x d : A) (f : ℕ) → f < length xs → slice_index_or (xs ++ x ∷ []) f d ≡ slice_index_or xs f d
index_longer [] x d f h = absurd (omega (arith, h))
index_longer (y ∷ ys) x d zero h = refl
index_longer (y ∷ ys) x d (suc f) h = let less : f < length ys = omega (arith, h) in index_longer ys x d f less

index_last : {A : Type 0} (xs : List A) (x d : A) (f : ℕ) → f ≡ length xs → slice_index_or (xs ++ x ∷ []) f d ≡ x
index_last [] x d zero h = refl
index_last [] x d (suc f) h = absurd (omega (arith, h))
index_last (y ∷ ys) x d zero h = absurd (omega (arith, h))
index_last (y ∷ ys) x d (suc f) h = let same : f ≡ length ys = omega (arith, h) in index_last ys x d f same

-- a table has at each of its places what it is made of
pub table_at : {A : Type 0} (n : ℕ) (g : ℕ → A) (d : A) (f : ℕ) → f < n → slice_index_or (tabulated n g) f d ≡ g f
table_at zero g d f h = absurd (omega (arith, h))
table_at (suc n) g d f h = ⊎_elim (below (table_at n g d f)) same (below_or_same f n h)
  where
    below : (f < n → slice_index_or (tabulated n g) f d ≡ g f) → f < n → slice_index_or (tabulated n g ++ g n ∷ []) f d ≡ g f
    below rest l = let k = length-tabulated n g in let less : f < length (tabulated n g) = omega (arith, l, k) in index_longer (tabulated n g) (g n) d f less ∙ rest l

    same : f ≡ n → slice_index_or (tabulated n g ++ g n ∷ []) f d ≡ g f
    same e = index_last (tabulated n g) (g n) d f (e ∙ sym (length-tabulated n g)) ∙ ap g (sym e)

-- a mark stands at a place of its row
pub marked_below : (ms : List Bool) (f : ℕ) → is_marked ms f ≡ true → f < length ms
marked_below [] f h = absurd (true≢false (sym h))
marked_below (m ∷ ms) zero h = omega arith
marked_below (m ∷ ms) (suc f) h = let less = marked_below ms f h in omega (arith, less)

count_at_most : (ms : List Bool) → mark_count ms ≤ length ms
count_at_most [] = omega arith
count_at_most (true ∷ ms) = let l = count_at_most ms in omega (arith, l)
count_at_most (false ∷ ms) = let l = count_at_most ms in omega (arith, l)

-- the second row has each mark of the first
abbrev HasMarks : List Bool → List Bool → Type 0
HasMarks ns ms = (f : ℕ) → is_marked ms f ≡ true → is_marked ns f ≡ true

-- then both are the same, or the second has more marks
same_or_more : (ms ns : List Bool) → length ms ≡ length ns → HasMarks ns ms → (ms ≡ ns) ⊎ (mark_count ms < mark_count ns)
same_or_more [] [] l h = inl refl
same_or_more [] (n ∷ ns) l h = absurd (omega (arith, l))
same_or_more (m ∷ ms) [] l h = absurd (omega (arith, l))
same_or_more (m ∷ ms) (n ∷ ns) l h =
    let same : length ms ≡ length ns = omega (arith, l) in
    go m n (h zero) (same_or_more ms ns same (λ f. h (suc f)))
  where
    go : (a b : Bool) → (a ≡ true → b ≡ true) → (ms ≡ ns) ⊎ (mark_count ms < mark_count ns) → (a ∷ ms ≡ b ∷ ns) ⊎ (mark_count (a ∷ ms) < mark_count (b ∷ ns))
    go true true k (inl e) = inl (ap (λ t. true ∷ t) e)
    go true true k (inr e) = inr (omega (arith, e))
    go true false k r = absurd (true≢false (sym (k refl)))
    go false true k (inl e) = let c = ap mark_count e in inr (omega (arith, c))
    go false true k (inr e) = inr (omega (arith, e))
    go false false k (inl e) = inl (ap (λ t. false ∷ t) e)
    go false false k (inr e) = inr (omega (arith, e))

-- what a marked function calls is called
called_from : (ms : List Bool) (i : ℕ) (bs : List CoreBody) (j f : ℕ) → j < length bs → is_marked ms (i + j) ≡ true → holds f (calls_in (fun_at bs j).body) ≡ true → calls_from ms i bs f ≡ true
called_from ms i [] j f l h k = absurd (omega (arith, l))
called_from ms i (b ∷ bs) zero f l h k =
    let marked : is_marked ms i ≡ true = subst (λ n. is_marked ms n ≡ true) (omega arith) h in
    or_left (is_marked ms i && holds f (calls_in b.body)) _ (ap₂ (λ x y. x && y) marked k)
called_from ms i (b ∷ bs) (suc j) f l h k =
    let less : j < length bs = omega (arith, l) in
    let marked : is_marked ms (suc i + j) ≡ true = subst (λ n. is_marked ms n ≡ true) (omega arith) h in
    or_right (is_marked ms i && holds f (calls_in b.body)) _ (called_from ms (suc i) bs j f less marked k)

module _ (funs : List CoreBody) (first : List Bool) (sized : length first ≡ length funs) where
  abbrev rounds : ℕ → List Bool
  rounds k = repeated k (marks_after funs) first

  length-rounds : (k : ℕ) → length (rounds k) ≡ length funs
  length-rounds zero = sized
  length-rounds (suc k) = length-tabulated (length funs) _

  -- a round takes no mark away
  more_marks : (k : ℕ) → HasMarks (rounds (suc k)) (rounds k)
  more_marks k f h =
      let below = marked_below (rounds k) f h in
      let number = length-rounds k in
      let less : f < length funs = omega (arith, below, number) in
      table_at (length funs) (λ g. is_marked (rounds k) g || calls_from (rounds k) 0 funs g) false f less ∙ or_left (is_marked (rounds k) f) _ h

  -- a round marks none more, or more are marked than there were rounds before it
  still_or_more : (k : ℕ) → (rounds (suc k) ≡ rounds k) ⊎ (k < mark_count (rounds (suc k)))
  still_or_more zero = ⊎_elim (λ e. inl (sym e)) (λ l. inr (omega (arith, l))) (same_or_more (rounds 0) (rounds 1) (length-rounds 0 ∙ sym (length-rounds 1)) (more_marks 0))
  still_or_more (suc k) =
      ⊎_elim (λ e. inl (ap (marks_after funs) e))
      (λ l. ⊎_elim (λ e. inl (sym e)) (λ m. inr (omega (arith, l, m))) (same_or_more (rounds (suc k)) (rounds (suc (suc k))) (length-rounds (suc k) ∙ sym (length-rounds (suc (suc k)))) (more_marks (suc k))))
      (still_or_more k)

  -- so after as many rounds as there are functions a round marks none more,
  still_at_last : rounds (suc (length funs)) ≡ rounds (length funs)
  still_at_last = ⊎_elim (λ e. e) none (still_or_more (length funs))
    where
      none : length funs < mark_count (rounds (suc (length funs))) → rounds (suc (length funs)) ≡ rounds (length funs)
      none l = let most = count_at_most (rounds (suc (length funs))) in let number = length-rounds (suc (length funs)) in absurd (omega (arith, l, most, number))

  -- what was marked at first is marked still,
  first_stays : (k : ℕ) → HasMarks (rounds k) first
  first_stays zero f h = h
  first_stays (suc k) f h = more_marks k f (first_stays k f h)

  -- and what a marked function calls is marked
  called_marked : (g f : ℕ) → is_marked (rounds (length funs)) g ≡ true → holds f (calls_in (fun_at funs g).body) ≡ true → f < length funs → is_marked (rounds (length funs)) f ≡ true
  called_marked g f h k l =
      let marks = rounds (length funs) in
      let below = marked_below marks g h in
      let number = length-rounds (length funs) in
      let less : g < length funs = omega (arith, below, number) in
      let there : is_marked marks (0 + g) ≡ true = subst (λ n. is_marked marks n ≡ true) (omega arith) h in
      let called : calls_from marks 0 funs f ≡ true = called_from marks 0 funs g f less there k in
      sym (ap (λ ms. is_marked ms f) still_at_last)
      ∙ (table_at (length funs) (λ n. is_marked marks n || calls_from marks 0 funs n) false f l ∙ or_right (is_marked marks f) _ called)

-- what the main program calls is reached,
pub main_reaches : (c : CoreProgram) (f : ℕ) → holds f (calls_in c.main.body) ≡ true → f < length c.funs → is_marked (reached_marks c) f ≡ true
main_reaches c f h l =
    first_stays c.funs (first_marks c) (length-tabulated (length c.funs) _) (length c.funs) f (table_at (length c.funs) (λ g. holds g (calls_in c.main.body)) false f l ∙ h)

-- and so is what a reached function calls
pub reached_reaches : (c : CoreProgram) (g f : ℕ) → is_marked (reached_marks c) g ≡ true → holds f (calls_in (fun_at c.funs g).body) ≡ true → f < length c.funs → is_marked (reached_marks c) f ≡ true
reached_reaches c g f h k l = called_marked c.funs (first_marks c) (length-tabulated (length c.funs) _) g f h k l
