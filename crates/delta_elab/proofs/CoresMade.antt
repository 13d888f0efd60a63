-- The core of each form that binds names, by what came of its parts: how far the numbers go after each, and the cores.
use Rattle.std.proofs.Common.{◌≡◌, ℕ, suc, ◌+◌, List, [], ◌∷◌, ◌++◌, length, Option, Some, None, refl, ap, ◌∙◌}
use Rattle.bunch.specs.Names.{put}
use Rattle.stream_type.specs.StreamType.{StreamType, one, sum}
use Rattle.hist_value.specs.HistExpr.{HistExpr}
use Rattle.delta_tree.specs.SyntaxTree.{WrittenHist, WrittenType, Expression, typed_at, let_at, let_par_at, let_cat_at, case_sum_at, case_star_at, if_at, Head, name_head, call_head, typed_head}
use Rattle.core_term.specs.CoreTerm.{CoreTerm, var_term, past_term, let_term, let_par_term, let_cat_term, case_sum_term, case_star_term}
use Rattle.core_term.specs.Environment.{NameTypes}
use Rattle.core_term.specs.Parts.{par_left, par_right, cat_first, cat_second, sum_left, sum_right, star_item, star_items}
use Rattle.delta_meaning.specs.TypeNames.{TypeNames, type_meant}
use Rattle.delta_meaning.specs.SourceBody.{SourceBody}
use Rattle.delta_meaning.specs.SourceMeaning.{head_type}
use Rattle.delta_meaning.specs.NewNames.{Origin, new_in_expr, new_in, new_in_head, new_in_subject}
use Rattle.delta_meaning.specs.Elaboration.{Numbers, numbered_expr, subject, round, core_at, core_of_head}
use Rattle.delta_elab.specs.Subjects.{bound_core, rounded}
use Rattle.delta_elab.proofs.Numbered.{counted, counted-one, same₂, same₃, same₄, same₅}

-- what stands round a form, by its head's subject
round-is : (h : Head) (numbers : Numbers) (z : ℕ) (s : StreamType) (a e : CoreTerm) → rounded (bound_core h a) (subject h numbers z) s e ≡ round h z s a e
round-is (name_head at x) numbers z s a e = refl
round-is (call_head at f ms es) numbers z s a e = refl
round-is (typed_head at b t) numbers z s a e = refl

rounded-is : (h : Head) (numbers : Numbers) (z' : ℕ) (bound : Option CoreTerm) (z : ℕ) (s s' : StreamType) (a e e' : CoreTerm)
    → bound ≡ bound_core h a → z ≡ subject h numbers z' → s ≡ s' → e ≡ e' → rounded bound z s e ≡ round h z' s' a e'
rounded-is h numbers z' bound z s s' a e e' p q r t =
    same₄ (λ b i k f. rounded b i k f) bound (bound_core h a) z (subject h numbers z') s s' e e' p q r t ∙ round-is h numbers z' s' a e'

module _ (functions : ℕ → SourceBody) (number : ℕ → ℕ) (names : TypeNames) (numbers : Numbers) (types : NameTypes) where
  abbrev core : Expression → Numbers → NameTypes → StreamType → ℕ → CoreTerm
  core e ns ts r n = core_at functions number names e ns ts r n

  abbrev head_core : Head → ℕ → CoreTerm
  head_core h n = core_of_head functions number names h numbers types n

  -- an expression after another
  pub core-next : (a b : Expression) (r : StreamType) (before middle : List Origin) (b' : CoreTerm)
      → middle ≡ before ++ new_in a → b' ≡ core b numbers types r (length middle) → b' ≡ core b numbers types r (length before + length (new_in a))
  core-next a b r before middle b' m h = h ∙ ap (core b numbers types r) (counted before middle (new_in a) m)

  -- an expression with its type
  pub typed-core : (at : ℕ) (a : Expression) (t : WrittenType) (r s : StreamType) (z : ℕ) (first second : List Origin) (a' : CoreTerm)
      → second ≡ first ++ None ∷ [] → z ≡ length first → s ≡ type_meant names t → a' ≡ core a numbers types s (length second)
      → let_term z s a' (var_term z) ≡ core (typed_at at a t) numbers types r (length first)
  typed-core at a t r s z first second a' e₂ is-z is-s is-a =
      let s' = type_meant names t in
      let part : a' ≡ core a numbers types s' (suc (length first)) = is-a ∙ same₂ (λ k n. core a numbers types k n) s s' (length second) (suc (length first)) is-s (counted-one first second None e₂) in
      same₃ (λ i k b. let_term i k b (var_term i)) z (length first) s s' a' (core a numbers types s' (suc (length first))) is-z is-s part

  -- a `let` of a name
  pub let-core : (at x : ℕ) (h : Head) (e : Expression) (r s : StreamType) (n : ℕ) (first second third : List Origin) (a' b' : CoreTerm)
      → second ≡ first ++ Some x ∷ [] → third ≡ second ++ new_in_head h
      → n ≡ length first → s ≡ head_type functions names h types
      → a' ≡ head_core h (length second) → b' ≡ core e (put x n numbers) (put x s types) r (length third)
      → let_term n s a' b' ≡ core (let_at at x h e) numbers types r (length first)
  let-core at x h e r s n first second third a' b' e₂ e₃ is-n is-s is-a is-b =
      let k = length first in
      let s' = head_type functions names h types in
      let second-is : length second ≡ suc k = counted-one first second (Some x) e₂ in
      let third-is : length third ≡ suc k + length (new_in_head h) = counted second third (new_in_head h) e₃ ∙ ap (λ i. i + length (new_in_head h)) second-is in
      same₄ let_term n k s s' a' (head_core h (suc k)) b' (core e (put x k numbers) (put x s' types) r (suc k + length (new_in_head h)))
      is-n is-s (is-a ∙ ap (head_core h) second-is)
      (is-b ∙ same₃ (λ i t j. core e (put x i numbers) (put x t types) r j) n k s s' (length third) (suc k + length (new_in_head h)) is-n is-s third-is)

  module _ (at x y : ℕ) (h : Head) (e : Expression) (r s left right : StreamType) (n m z : ℕ) (first second third fourth : List Origin) (bound : Option CoreTerm) (b' : CoreTerm)
      (e₂ : second ≡ first ++ Some x ∷ []) (e₃ : third ≡ second ++ Some y ∷ []) (e₄ : fourth ≡ third ++ new_in_subject h)
      (is-n : n ≡ length first) (is-m : m ≡ length second) (is-s : s ≡ head_type functions names h types)
      (is-z : z ≡ subject h numbers (length third)) (is-bound : bound ≡ bound_core h (head_core h (suc (length third))))
      (is-b : b' ≡ core e (put y m (put x n numbers)) (put y right (put x left types)) r (length fourth)) where
    second-is : length second ≡ suc (length first)
    second-is = counted-one first second (Some x) e₂

    third-is : length third ≡ suc (suc (length first))
    third-is = counted-one second third (Some y) e₃ ∙ ap suc second-is

    fourth-is : length fourth ≡ suc (suc (length first)) + length (new_in_subject h)
    fourth-is = counted third fourth (new_in_subject h) e₄ ∙ ap (λ i. i + length (new_in_subject h)) third-is

    -- what the names stand for inside
    inside : (left' right' : StreamType) → left ≡ left' → right ≡ right'
        → b' ≡ core e (put y (suc (length first)) (put x (length first) numbers)) (put y right' (put x left' types)) r (suc (suc (length first)) + length (new_in_subject h))
    inside left' right' p q =
        let k = length first in
        is-b ∙ same₅ (λ i j t u l. core e (put y j (put x i numbers)) (put y u (put x t types)) r l) n k m (suc k) left left' right right' (length fourth) (suc (suc k) + length (new_in_subject h))
        is-n (is-m ∙ second-is) p q fourth-is

    -- a `let` of two names at once
    pub let_par-core : left ≡ par_left s → right ≡ par_right s
        → rounded bound z s (let_par_term n m z b') ≡ core (let_par_at at x y h e) numbers types r (length first)
    let_par-core p q =
        let k = length first in
        let s' = head_type functions names h types in
        let z' = suc (suc k) in
        let subject-is : z ≡ subject h numbers z' = is-z ∙ ap (subject h numbers) third-is in
        let b'' = core e (put y (suc k) (put x k numbers)) (put y (par_right s') (put x (par_left s') types)) r (z' + length (new_in_subject h)) in
        let part : b' ≡ b'' = inside (par_left s') (par_right s') (p ∙ ap par_left is-s) (q ∙ ap par_right is-s) in
        rounded-is h numbers z' bound z s s' (head_core h (suc z')) (let_par_term n m z b') (let_par_term k (suc k) (subject h numbers z') b'')
        (is-bound ∙ ap (λ i. bound_core h (head_core h (suc i))) third-is) subject-is is-s
        (same₄ let_par_term n k m (suc k) z (subject h numbers z') b' b'' is-n (is-m ∙ second-is) subject-is part)

    -- a `let` of two names in a row
    pub let_cat-core : left ≡ cat_first s → right ≡ cat_second s
        → rounded bound z s (let_cat_term n m z b') ≡ core (let_cat_at at x y h e) numbers types r (length first)
    let_cat-core p q =
        let k = length first in
        let s' = head_type functions names h types in
        let z' = suc (suc k) in
        let subject-is : z ≡ subject h numbers z' = is-z ∙ ap (subject h numbers) third-is in
        let b'' = core e (put y (suc k) (put x k numbers)) (put y (cat_second s') (put x (cat_first s') types)) r (z' + length (new_in_subject h)) in
        let part : b' ≡ b'' = inside (cat_first s') (cat_second s') (p ∙ ap cat_first is-s) (q ∙ ap cat_second is-s) in
        rounded-is h numbers z' bound z s s' (head_core h (suc z')) (let_cat_term n m z b') (let_cat_term k (suc k) (subject h numbers z') b'')
        (is-bound ∙ ap (λ i. bound_core h (head_core h (suc i))) third-is) subject-is is-s
        (same₄ let_cat_term n k m (suc k) z (subject h numbers z') b' b'' is-n (is-m ∙ second-is) subject-is part)

  -- a case on a sum
  pub case_sum-core : (at x y : ℕ) (h : Head) (a b : Expression) (r s left right : StreamType) (z n m : ℕ) (first second third fourth fifth : List Origin) (bound : Option CoreTerm) (a' b' : CoreTerm)
      → second ≡ first ++ new_in_subject h → third ≡ second ++ Some x ∷ [] → fourth ≡ third ++ new_in a → fifth ≡ fourth ++ Some y ∷ []
      → s ≡ head_type functions names h types → z ≡ subject h numbers (length first) → bound ≡ bound_core h (head_core h (suc (length first)))
      → n ≡ length second → left ≡ sum_left s → a' ≡ core a (put x n numbers) (put x left types) r (length third)
      → m ≡ length fourth → right ≡ sum_right s → b' ≡ core b (put y m numbers) (put y right types) r (length fifth)
      → rounded bound z s (case_sum_term z r n a' m b') ≡ core (case_sum_at at h x a y b) numbers types r (length first)
  case_sum-core at x y h a b r s left right z n m first second third fourth fifth bound a' b' e₂ e₃ e₄ e₅ is-s is-z is-bound is-n is-left is-a is-m is-right is-b =
      let k = length first in
      let s' = head_type functions names h types in
      let i = k + length (new_in_subject h) in
      let j = suc i + length (new_in a) in
      let second-is : length second ≡ i = counted first second (new_in_subject h) e₂ in
      let third-is : length third ≡ suc i = counted-one second third (Some x) e₃ ∙ ap suc second-is in
      let fourth-is : length fourth ≡ j = counted third fourth (new_in a) e₄ ∙ ap (λ l. l + length (new_in a)) third-is in
      let fifth-is : length fifth ≡ suc j = counted-one fourth fifth (Some y) e₅ ∙ ap suc fourth-is in
      let a'' = core a (put x i numbers) (put x (sum_left s') types) r (suc i) in
      let b'' = core b (put y j numbers) (put y (sum_right s') types) r (suc j) in
      let one : a' ≡ a'' = is-a ∙ same₃ (λ p t l. core a (put x p numbers) (put x t types) r l) n i left (sum_left s') (length third) (suc i) (is-n ∙ second-is) (is-left ∙ ap sum_left is-s) third-is in
      let two : b' ≡ b'' = is-b ∙ same₃ (λ p t l. core b (put y p numbers) (put y t types) r l) m j right (sum_right s') (length fifth) (suc j) (is-m ∙ fourth-is) (is-right ∙ ap sum_right is-s) fifth-is in
      rounded-is h numbers k bound z s s' (head_core h (suc k)) (case_sum_term z r n a' m b') (case_sum_term (subject h numbers k) r i a'' j b'')
      is-bound is-z is-s
      (same₅ (λ u p c q d. case_sum_term u r p c q d) z (subject h numbers k) n i a' a'' m j b' b'' is-z (is-n ∙ second-is) one (is-m ∙ fourth-is) two)

  -- a case on a star
  pub case_star-core : (at y ys : ℕ) (h : Head) (a b : Expression) (r s left right : StreamType) (z n m : ℕ) (first second third fourth fifth : List Origin) (bound : Option CoreTerm) (a' b' : CoreTerm)
      → second ≡ first ++ new_in_subject h → third ≡ second ++ new_in a → fourth ≡ third ++ Some y ∷ [] → fifth ≡ fourth ++ Some ys ∷ []
      → s ≡ head_type functions names h types → z ≡ subject h numbers (length first) → bound ≡ bound_core h (head_core h (suc (length first)))
      → a' ≡ core a numbers types r (length second) → n ≡ length third → m ≡ length fourth → left ≡ star_item s → right ≡ star_items s
      → b' ≡ core b (put ys m (put y n numbers)) (put ys right (put y left types)) r (length fifth)
      → rounded bound z s (case_star_term z r a' n m b') ≡ core (case_star_at at h a y ys b) numbers types r (length first)
  case_star-core at y ys h a b r s left right z n m first second third fourth fifth bound a' b' e₂ e₃ e₄ e₅ is-s is-z is-bound is-a is-n is-m is-left is-right is-b =
      let k = length first in
      let s' = head_type functions names h types in
      let i = k + length (new_in_subject h) in
      let j = i + length (new_in a) in
      let second-is : length second ≡ i = counted first second (new_in_subject h) e₂ in
      let third-is : length third ≡ j = counted second third (new_in a) e₃ ∙ ap (λ l. l + length (new_in a)) second-is in
      let fourth-is : length fourth ≡ suc j = counted-one third fourth (Some y) e₄ ∙ ap suc third-is in
      let fifth-is : length fifth ≡ suc (suc j) = counted-one fourth fifth (Some ys) e₅ ∙ ap suc fourth-is in
      let a'' = core a numbers types r i in
      let b'' = core b (put ys (suc j) (put y j numbers)) (put ys (star_items s') (put y (star_item s') types)) r (suc (suc j)) in
      let one : a' ≡ a'' = is-a ∙ ap (core a numbers types r) second-is in
      let two : b' ≡ b'' = is-b ∙ same₅ (λ p q t u l. core b (put ys q (put y p numbers)) (put ys u (put y t types)) r l) n j m (suc j) left (star_item s') right (star_items s') (length fifth) (suc (suc j))
      (is-n ∙ third-is) (is-m ∙ fourth-is) (is-left ∙ ap star_item is-s) (is-right ∙ ap star_items is-s) fifth-is in
      rounded-is h numbers k bound z s s' (head_core h (suc k)) (case_star_term z r a' n m b') (case_star_term (subject h numbers k) r a'' j (suc j) b'')
      is-bound is-z is-s
      (same₅ (λ u c p q d. case_star_term u r c p q d) z (subject h numbers k) a' a'' n j m (suc j) b' b'' is-z one (is-n ∙ third-is) (is-m ∙ fourth-is) two)

  -- an `if`
  pub if-core : (at : ℕ) (m : WrittenHist) (a b : Expression) (r : StreamType) (z n k : ℕ) (first second third fourth fifth : List Origin) (test : HistExpr) (a' b' : CoreTerm)
      → second ≡ first ++ None ∷ [] → third ≡ second ++ None ∷ [] → fourth ≡ third ++ None ∷ [] → fifth ≡ fourth ++ new_in_expr m.expr
      → z ≡ length first → n ≡ length second → k ≡ length third
      → test ≡ numbered_expr m.expr numbers (length fourth)
      → a' ≡ core a numbers types r (length fifth) → b' ≡ core b numbers types r (length fifth + length (new_in a))
      → let_term z (sum one one) (past_term test) (case_sum_term z r n a' k b') ≡ core (if_at at m a b) numbers types r (length first)
  if-core at m a b r z n k first second third fourth fifth test a' b' e₂ e₃ e₄ e₅ is-z is-n is-k is-test is-a is-b =
      let l = length first in
      let i = suc (suc (suc l)) + length (new_in_expr m.expr) in
      let second-is : length second ≡ suc l = counted-one first second None e₂ in
      let third-is : length third ≡ suc (suc l) = counted-one second third None e₃ ∙ ap suc second-is in
      let fourth-is : length fourth ≡ suc (suc (suc l)) = counted-one third fourth None e₄ ∙ ap suc third-is in
      let fifth-is : length fifth ≡ i = counted fourth fifth (new_in_expr m.expr) e₅ ∙ ap (λ p. p + length (new_in_expr m.expr)) fourth-is in
      let test'' = numbered_expr m.expr numbers (suc (suc (suc l))) in
      let a'' = core a numbers types r i in
      let b'' = core b numbers types r (i + length (new_in a)) in
      let branches : case_sum_term z r n a' k b' ≡ case_sum_term l r (suc l) a'' (suc (suc l)) b'' =
      same₅ (λ u p c q d. case_sum_term u r p c q d) z l n (suc l) a' a'' k (suc (suc l)) b' b'' is-z (is-n ∙ second-is) (is-a ∙ ap (core a numbers types r) fifth-is) (is-k ∙ third-is)
      (is-b ∙ ap (λ p. core b numbers types r (p + length (new_in a))) fifth-is) in
      same₃ (λ p u d. let_term p (sum one one) (past_term u) d) z l test test'' (case_sum_term z r n a' k b') (case_sum_term l r (suc l) a'' (suc (suc l)) b'')
      is-z (is-test ∙ ap (numbered_expr m.expr numbers) fourth-is) branches
