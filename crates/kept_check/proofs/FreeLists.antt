-- The names of joined lists, less some.
use Rattle.std.proofs.Common.{◌≡◌, ◌∙◌, ◌<◌, ◌≤◌, ◌+◌, ℕ, Bool, true, false, true≢false, ◌&&◌, ◌||◌, not, eqb, if◌then◌else◌, List, [], ◌∷◌, ◌++◌, length, get_or, drop, refl, ap, sym}
use Rattle.std.proofs.lemmas.Bool.{eqb-true}
use Rattle.std.proofs.lemmas.List.{at_drop_more, drop_all}
use Rattle.bunch.specs.declared.name.Name.{Name}
use Rattle.bunch.specs.Names.{holds, numbers_of}
use Rattle.bunch.proofs.NameLists.{holds-append, numbers_of-append}
use Rattle.core_term.specs.FreeNames.{without, once}
use Rattle.core_term.proofs.OnceEach.{holds-once}
use Rattle.delta_state.specs.StateTree.{free_in_state, free_in_arguments}
use Rattle.delta_keep.specs.declared.kept.Argument.{Argument}
use Rattle.delta_keep.specs.KeptView.{state_of, arguments_from}
use Rattle.kept_check.specs.Free.{HasNames, without_all}
use Rattle.delta_check.proofs.Once.{and_true}

less_one : (h e : Bool) → e ≡ true → (h && not e) ≡ not e
less_one true e i = refl
less_one false true i = refl
less_one false false i = absurd (true≢false (sym i))

-- a list less a name has the others
pub holds-without : (x y : ℕ) (zs : List ℕ) → holds x (without y zs) ≡ (holds x zs && not (eqb x y))
holds-without x y [] = refl
holds-without x y (z ∷ zs) = go (eqb z y) (eqb x z) refl refl (holds-without x y zs)
  where
    go : (b c : Bool) → eqb z y ≡ b → eqb x z ≡ c → holds x (without y zs) ≡ (holds x zs && not (eqb x y)) → holds x (if b then without y zs else z ∷ without y zs) ≡ ((c || holds x zs) && not (eqb x y))
    go true true e f ih = ih ∙ less_one (holds x zs) (eqb x y) (ap (λ w. eqb w y) (eqb-true x z f) ∙ e)
    go true false e f ih = ih
    go false true e f ih = ap (λ c. c || holds x (without y zs)) f ∙ sym (ap not (ap (λ w. eqb w y) (eqb-true x z f) ∙ e))
    go false false e f ih = ap (λ c. c || holds x (without y zs)) f ∙ ih

less_both : (h a b : Bool) → ((h && not b) && not a) ≡ (h && not (a || b))
less_both false a b = refl
less_both true true true = refl
less_both true true false = refl
less_both true false true = refl
less_both true false false = refl

-- a list less others has the names that aren't among them
pub holds-without_all : (x : ℕ) (ys zs : List ℕ) → holds x (without_all ys zs) ≡ (holds x zs && not (holds x ys))
holds-without_all x [] zs = and_true (holds x zs)
holds-without_all x (y ∷ ys) zs =
    holds-without x y (without_all ys zs) ∙ (ap (λ b. b && not (eqb x y)) (holds-without_all x ys zs) ∙ less_both (holds x zs) (eqb x y) (holds x ys))

-- a list, and behind it one less others
pub holds-joined : (x : ℕ) (xs ys zs : List ℕ) → holds x (xs ++ without_all ys zs) ≡ (holds x xs || (holds x zs && not (holds x ys)))
holds-joined x xs ys zs = holds-append x xs (without_all ys zs) ∙ ap (λ b. holds x xs || b) (holds-without_all x ys zs)

-- the same of names that are the same
pub names_less : (v m : List Name) (xs ys zs : List ℕ) → HasNames v (xs ++ without_all ys (numbers_of m)) → HasNames m zs → HasNames v (xs ++ without_all ys zs)
names_less v m xs ys zs h k x = h x ∙ (holds-joined x xs ys (numbers_of m) ∙ (ap (λ b. holds x xs || (b && not (holds x ys))) (k x) ∙ sym (holds-joined x xs ys zs)))

-- names each once are the same names
pub names_once : (v : List Name) (xs : List ℕ) → numbers_of v ≡ once xs → HasNames v xs
names_once v xs e x = ap (holds x) e ∙ holds-once x xs

-- a name that is left out, or put in
module _ (x : ℕ) (found : List Name) (n : Name) (less : List ℕ) where
  same : (l : Bool) → holds n.0 less ≡ l → eqb x n.0 ≡ true → holds x less ≡ l
  same l k q = ap (λ y. holds y less) (eqb-true x n.0 q) ∙ k

  pub left_out : holds n.0 less ≡ true → holds x (numbers_of found) ≡ (holds x (numbers_of found) || (eqb x n.0 && not (holds x less)))
  left_out k = go (holds x (numbers_of found)) (eqb x n.0) (holds x less) (same true k)
    where
      go : (h b l : Bool) → (b ≡ true → l ≡ true) → h ≡ (h || (b && not l))
      go true b l e = refl
      go false false l e = refl
      go false true true e = refl
      go false true false e = absurd (true≢false (sym (e refl)))

  pub put_in : holds n.0 less ≡ false → holds x (numbers_of (found ++ n ∷ [])) ≡ (holds x (numbers_of found) || (eqb x n.0 && not (holds x less)))
  put_in k = ap (holds x) (numbers_of-append found (n ∷ [])) ∙ (holds-append x (numbers_of found) (n.0 ∷ []) ∙ go (holds x (numbers_of found)) (eqb x n.0) (holds x less) (same false k))
    where
      go : (h b l : Bool) → (b ≡ true → l ≡ false) → (h || (b || false)) ≡ (h || (b && not l))
      go true b l e = refl
      go false false l e = refl
      go false true false e = refl
      go false true true e = absurd (true≢false (e refl))

-- the names left, with what the next one adds
pub next_added : (x : ℕ) (more : List Name) (i : ℕ) (d : Name) (old new l : Bool) → i < length more → new ≡ (old || (eqb x (get_or more i d).0 && l))
    → (new || (holds x (numbers_of (drop (i + 1) more)) && l)) ≡ (old || (holds x (numbers_of (drop i more)) && l))
next_added x more i d old new l h e =
    ap (λ b. b || (holds x (numbers_of (drop (i + 1) more)) && l)) e
    ∙ (go old (eqb x (get_or more i d).0) (holds x (numbers_of (drop (i + 1) more))) l ∙ ap (λ b. old || (b && l)) (sym (at_drop_more (λ ns. holds x (numbers_of ns)) more i d h)))
  where
    go : (a b r l : Bool) → ((a || (b && l)) || (r && l)) ≡ (a || ((b || r) && l))
    go true b r l = refl
    go false false r l = refl
    go false true r true = refl
    go false true true false = refl
    go false true false false = refl

-- the names of lists one after the other
pub holds-behind : (x : ℕ) (xs ys zs : List ℕ) → (holds x (xs ++ ys) || holds x zs) ≡ (holds x xs || holds x (ys ++ zs))
holds-behind x xs ys zs = ap (λ b. b || holds x zs) (holds-append x xs ys) ∙ (assoc (holds x xs) (holds x ys) (holds x zs) ∙ ap (λ b. holds x xs || b) (sym (holds-append x ys zs)))
  where
    assoc : (a b c : Bool) → ((a || b) || c) ≡ (a || (b || c))
    assoc true b c = refl
    assoc false b c = refl

-- the arguments left, where the names of the next are put in
module _ (x : ℕ) (found inside : List Name) (a : Argument) (args : List Argument) (i : ℕ) (h : i < length args) (e : a ≡ get_or args i a) (k : HasNames inside (free_in_state (state_of a.state.value))) where
  next_argument : holds x (free_in_arguments (arguments_from (drop i args))) ≡ holds x (free_in_state (state_of a.state.value) ++ free_in_arguments (arguments_from (drop (i + 1) args)))
  next_argument =
      at_drop_more (λ l. holds x (free_in_arguments (arguments_from l))) args i a h
      ∙ ap (λ (b : Argument). holds x (free_in_state (state_of b.state.value) ++ free_in_arguments (arguments_from (drop (i + 1) args)))) (sym e)

  pub argument_put_in : (holds x (numbers_of (found ++ inside)) || holds x (free_in_arguments (arguments_from (drop (i + 1) args)))) ≡ (holds x (numbers_of found) || holds x (free_in_arguments (arguments_from (drop i args))))
  argument_put_in =
      let rest = free_in_arguments (arguments_from (drop (i + 1) args)) in
      ap (λ l. holds x l || holds x rest) (numbers_of-append found inside)
      ∙ (holds-behind x (numbers_of found) (numbers_of inside) rest
      ∙ ap (λ b. holds x (numbers_of found) || b) (holds-append x (numbers_of inside) rest ∙ (ap (λ b. b || holds x rest) (k x) ∙ (sym (holds-append x (free_in_state (state_of a.state.value)) rest) ∙ sym next_argument))))

-- with none left, those so far are all
pub none_left : {A : Type 0} (F : List A → List ℕ) (x : ℕ) (b c : Bool) (args : List A) (i : ℕ) → F [] ≡ [] → length args ≤ i → (b || holds x (F (drop i args))) ≡ c → b ≡ c
none_left F x b c args i n h e = sym (ap (λ l. b || holds x (F l)) (drop_all i args h) ∙ (ap (λ l. b || holds x l) n ∙ or_false b)) ∙ e
  where
    or_false : (b : Bool) → (b || false) ≡ b
    or_false true = refl
    or_false false = refl
