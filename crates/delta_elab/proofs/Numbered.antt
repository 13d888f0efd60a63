-- How far the numbers of variables go after each part, and historical expressions by their numbered parts.
use Rattle.std.proofs.Common.{◌≡◌, ℕ, suc, ◌+◌, ◌≤◌, List, [], ◌∷◌, ◌++◌, length, drop, map, Some, Result, Ok, Err, IfOk, OnOk, arith, sym, ap, ap₂, ◌∙◌, append-nil, append_assoc, length-append, subst}
use Rattle.std.proofs.lemmas.List.{at_drop_all}
use Rattle.stream_type.specs.StreamType.{StreamType}
use Rattle.bunch.specs.Names.{put}
use Rattle.hist_value.specs.HistExpr.{HistExpr, choice, fold_expr}
use Rattle.delta_tree.specs.SyntaxTree.{WrittenHist}
use Rattle.delta_meaning.specs.NewNames.{Origin, new_in_expr, new_in_exprs}
use Rattle.delta_meaning.specs.Elaboration.{Numbers, numbered_expr, numbered_exprs, numbered_past}
use Rattle.delta_elab.specs.Numbering.{entries_from}

-- what was made is what it should be
pub is_made : {A E X : Type 0} (r : Result A E) (f : A → X) (x y : X) → x ≡ y → IfOk r (λ a. f a ≡ x) → IfOk r (λ a. f a ≡ y)
is_made r f x y e h = subst (λ z. IfOk r (λ a. f a ≡ z)) e h

-- a fact, where there is a result
pub on_ok : {A E : Type 0} (P : Type 0) (r : Result A E) → P → OnOk r P
on_ok P (Ok x) p = p
on_ok P (Err e) p = tt

-- as many variables more as a part has
pub counted : (before after more : List Origin) → after ≡ before ++ more → length after ≡ length before + length more
counted before after more e = ap length e ∙ length-append before more

-- one variable more
pub counted-one : (before after : List Origin) (o : Origin) → after ≡ before ++ o ∷ [] → length after ≡ suc (length before)
counted-one before after o e =
    let one : length before + length (o ∷ []) ≡ suc (length before) = omega arith in
    counted before after (o ∷ []) e ∙ one

-- the variables of one part and then those of the next
pub then_more : (before middle after xs ys : List Origin) → middle ≡ before ++ xs → after ≡ middle ++ ys → after ≡ before ++ (xs ++ ys)
then_more before middle after xs ys p q = q ∙ (ap (λ l. l ++ ys) p ∙ append_assoc before xs ys)

-- forms of the same parts
pub same₂ : {A B X : Type 0} (f : A → B → X) (a a' : A) (b b' : B) → a ≡ a' → b ≡ b' → f a b ≡ f a' b'
same₂ f a a' b b' p q = cc

pub same₃ : {A B D X : Type 0} (f : A → B → D → X) (a a' : A) (b b' : B) (d d' : D) → a ≡ a' → b ≡ b' → d ≡ d' → f a b d ≡ f a' b' d'
same₃ f a a' b b' d d' p q r = cc

pub same₄ : {A B D E X : Type 0} (f : A → B → D → E → X) (a a' : A) (b b' : B) (d d' : D) (e e' : E) → a ≡ a' → b ≡ b' → d ≡ d' → e ≡ e' → f a b d e ≡ f a' b' d' e'
same₄ f a a' b b' d d' e e' p q r s = cc

pub same₅ : {A B D E F X : Type 0} (f : A → B → D → E → F → X) (a a' : A) (b b' : B) (d d' : D) (e e' : E) (g g' : F)
    → a ≡ a' → b ≡ b' → d ≡ d' → e ≡ e' → g ≡ g' → f a b d e g ≡ f a' b' d' e' g'
same₅ f a a' b b' d d' e e' g g' p q r s t = cc

-- a part after another
pub numbered-next : (a b : HistExpr) (numbers : Numbers) (before middle : List Origin) (b' : HistExpr)
    → middle ≡ before ++ new_in_expr a → b' ≡ numbered_expr b numbers (length middle) → b' ≡ numbered_expr b numbers (length before + length (new_in_expr a))
numbered-next a b numbers before middle b' m h = h ∙ ap (numbered_expr b numbers) (counted before middle (new_in_expr a) m)

-- a choice
pub choice-numbered : (a b d : HistExpr) (x y i j : ℕ) (numbers : Numbers) (first second third fourth fifth : List Origin) (a' b' d' : HistExpr)
    → second ≡ first ++ new_in_expr a → third ≡ second ++ Some x ∷ [] → fourth ≡ third ++ new_in_expr b → fifth ≡ fourth ++ Some y ∷ []
    → i ≡ length second → j ≡ length fourth
    → a' ≡ numbered_expr a numbers (length first) → b' ≡ numbered_expr b (put x i numbers) (length third) → d' ≡ numbered_expr d (put y j numbers) (length fifth)
    → choice a' i b' j d' ≡ numbered_expr (choice a x b y d) numbers (length first)
choice-numbered a b d x y i j numbers first second third fourth fifth a' b' d' e₂ e₃ e₄ e₅ is-i is-j is-a is-b is-d =
    let at-i = length first + length (new_in_expr a) in
    let at-j = suc at-i + length (new_in_expr b) in
    let i-is : i ≡ at-i = is-i ∙ counted first second (new_in_expr a) e₂ in
    let third-is : length third ≡ suc at-i = counted-one second third (Some x) e₃ ∙ ap suc (counted first second (new_in_expr a) e₂) in
    let fourth-is : length fourth ≡ at-j = counted third fourth (new_in_expr b) e₄ ∙ ap (λ k. k + length (new_in_expr b)) third-is in
    let fifth-is : length fifth ≡ suc at-j = counted-one fourth fifth (Some y) e₅ ∙ ap suc fourth-is in
    let j-is : j ≡ at-j = is-j ∙ fourth-is in
    same₅ choice a' (numbered_expr a numbers (length first)) i at-i b' (numbered_expr b (put x at-i numbers) (suc at-i)) j at-j d' (numbered_expr d (put y at-j numbers) (suc at-j))
    is-a i-is (is-b ∙ ap₂ (λ p k. numbered_expr b (put x p numbers) k) i-is third-is) j-is (is-d ∙ ap₂ (λ p k. numbered_expr d (put y p numbers) k) j-is fifth-is)

-- a fold
pub fold-numbered : (a s b : HistExpr) (x y i j : ℕ) (numbers : Numbers) (first second third fourth : List Origin) (a' s' b' : HistExpr)
    → second ≡ first ++ (new_in_expr a ++ new_in_expr s) → third ≡ second ++ Some x ∷ [] → fourth ≡ third ++ Some y ∷ []
    → i ≡ length second → j ≡ length third
    → a' ≡ numbered_expr a numbers (length first) → s' ≡ numbered_expr s numbers (length first + length (new_in_expr a)) → b' ≡ numbered_expr b (put y j (put x i numbers)) (length fourth)
    → fold_expr a' s' i j b' ≡ numbered_expr (fold_expr a s x y b) numbers (length first)
fold-numbered a s b x y i j numbers first second third fourth a' s' b' e₂ e₃ e₄ is-i is-j is-a is-s is-b =
    let from-s = length first + length (new_in_expr a) in
    let at-i = from-s + length (new_in_expr s) in
    let second-is : length second ≡ at-i =
    let both = length-append (new_in_expr a) (new_in_expr s) in
    let whole = counted first second (new_in_expr a ++ new_in_expr s) e₂ in
    omega arith in
    let third-is : length third ≡ suc at-i = counted-one second third (Some x) e₃ ∙ ap suc second-is in
    let fourth-is : length fourth ≡ suc (suc at-i) = counted-one third fourth (Some y) e₄ ∙ ap suc third-is in
    let i-is : i ≡ at-i = is-i ∙ second-is in
    let j-is : j ≡ suc at-i = is-j ∙ third-is in
    same₅ fold_expr a' (numbered_expr a numbers (length first)) s' (numbered_expr s numbers from-s) i at-i j (suc at-i) b' (numbered_expr b (put y (suc at-i) (put x at-i numbers)) (suc (suc at-i)))
    is-a is-s i-is j-is
    (is-b ∙ (ap (λ p. numbered_expr b (put y j (put x p numbers)) (length fourth)) i-is ∙ ap₂ (λ p k. numbered_expr b (put y p (put x at-i numbers)) k) j-is fourth-is))

-- one more item stands right before those left
pub one_more : {A : Type 0} (all done : List A) (x : A) (left : List A) → all ≡ done ++ x ∷ left → all ≡ (done ++ x ∷ []) ++ left
one_more all done x left e = e ∙ sym (append_assoc done (x ∷ []) left)

-- one more historical argument
pub pass_expr : (all done : List HistExpr) (numbers : Numbers) (before after : List Origin) (m : WrittenHist) (left : List WrittenHist) (made : HistExpr)
    → all ≡ done ++ numbered_exprs (m ∷ left) numbers (length before) → made ≡ numbered_expr m.expr numbers (length before) → after ≡ before ++ new_in_expr m.expr
    → all ≡ (done ++ made ∷ []) ++ numbered_exprs left numbers (length after)
pass_expr all done numbers before after m left made e is more =
    one_more all done made (numbered_exprs left numbers (length after))
    (e ∙ ap₂ (λ a k. done ++ a ∷ numbered_exprs left numbers k) (sym is) (sym (counted before after (new_in_expr m.expr) more)))

-- and its variables
pub pass_new : (all before after : List Origin) (m : WrittenHist) (left : List WrittenHist)
    → all ≡ before ++ new_in_exprs (m ∷ left) → after ≡ before ++ new_in_expr m.expr → all ≡ after ++ new_in_exprs left
pass_new all before after m left e more = e ∙ (sym (append_assoc before (new_in_expr m.expr) (new_in_exprs left)) ∙ ap (λ l. l ++ new_in_exprs left) (sym more))

-- one more historical parameter
pub pass_past : (all done : List (ℕ × StreamType)) (before after : List Origin) (x n : ℕ) (t u : StreamType) (left : List (ℕ × StreamType))
    → all ≡ done ++ numbered_past ((x, t) ∷ left) (length before) → n ≡ length before → u ≡ t → after ≡ before ++ Some x ∷ []
    → all ≡ (done ++ (n, u) ∷ []) ++ numbered_past left (length after)
pass_past all done before after x n t u left e is-n is-u more =
    one_more all done (n, u) (numbered_past left (length after))
    (e ∙ same₃ (λ p v k. done ++ (p, v) ∷ numbered_past left k) (length before) n t u (suc (length before)) (length after) (sym is-n) (sym is-u) (sym (counted-one before after (Some x) more)))

-- its entry
pub pass_entry : (all done : List (ℕ × ℕ)) (before after : List Origin) (x n : ℕ) (left : List ℕ)
    → all ≡ done ++ entries_from (x ∷ left) (length before) → n ≡ length before → after ≡ before ++ Some x ∷ []
    → all ≡ (done ++ (x, n) ∷ []) ++ entries_from left (length after)
pass_entry all done before after x n left e is-n more =
    one_more all done (x, n) (entries_from left (length after))
    (e ∙ ap₂ (λ p k. done ++ (x, p) ∷ entries_from left k) (sym is-n) (sym (counted-one before after (Some x) more)))

-- and its name
pub pass_name : (all before after : List Origin) (x : ℕ) (left : List ℕ)
    → all ≡ before ++ map Some (x ∷ left) → after ≡ before ++ Some x ∷ [] → all ≡ after ++ map Some left
pass_name all before after x left e more = one_more all before (Some x) (map Some left) e ∙ ap (λ l. l ++ map Some left) (sym more)

-- where none are left all are done
pub all_passed : {A B : Type 0} (f : List A → List B) (xs : List A) (i : ℕ) (all done : List B) → length xs ≤ i → f [] ≡ [] → all ≡ done ++ f (drop i xs) → done ≡ all
all_passed f xs i all done none e h = sym (h ∙ (ap (λ l. done ++ l) (at_drop_all f xs i none ∙ e) ∙ append-nil done))
