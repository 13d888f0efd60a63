-- One more token of the names so far.
use Rattle.std.proofs.Common.{◌≡◌, ◌∙◌, ℕ, zero, suc, ◌+◌, ◌<◌, ◌≤◌, Bool, false, ◌||◌, nat_eq, List, [], ◌∷◌, ◌++◌, Some, refl, sym, ap, length, take, get_or, arith, add-one, below_more}
use Rattle.std.proofs.lemmas.Option.{slice_get-map, slice_get-get_or}
use Rattle.std.specs.Prelude.{slice_get}
use Rattle.std.specs.Cmp.{nat_eq_equiv}
use Rattle.std.specs.List.{list_any}
use Rattle.std.specs.Option.{option_map}
use Rattle.indexmap.specs.IndexSet.{insert_key}
use Rattle.delta_parse.specs.declared.plain.Plain.{Plain}
use Rattle.delta_parse.specs.declared.bindings.NameFault.{NameFault}
use Rattle.delta_parse.specs.declared.bindings.NameFault.TheVariants.{Twice, Many}
use Rattle.delta_parse.specs.Terminals.{Tok, plain_of, plains}
use Rattle.delta_parse.specs.Bindings.{Bound, after_token, bound, none_bound, bound_before, has, is_repeated, is_excess, is_twice, is_many, passes, AreNamed, IsFaultOf, IsFaultAt}

-- a set finds what a search among its names finds
same_has : (names : List ℕ) (n : ℕ) → list_any (nat_eq n) names ≡ has names n
same_has [] n = refl
same_has (m ∷ names) n = ap (λ b. b || list_any (nat_eq n) names) (nat_eq_equiv.symm n m) ∙ ap (λ b. nat_eq m n || b) (same_has names n)

-- a name that isn't in a set goes last
pub added_name : (names : List ℕ) (n : ℕ) → has names n ≡ false → insert_key nat_eq names n ≡ names ++ (n ∷ [])
added_name names n h = (let e : list_any (nat_eq n) names ≡ false = same_has names n ∙ h in rw e refl)

bound_suc : (s : Bound) (ts : List Plain) (i : ℕ) (d : Plain) → i < length ts
    → bound s (take (suc i) (plains ts)) ≡ after_token (bound s (take i (plains ts))) (plain_of (get_or ts i d))
bound_suc s [] i d h = absurd (omega arith)
bound_suc s (t ∷ ts) zero d h = refl
bound_suc s (t ∷ ts) (suc i) d h = bound_suc (after_token s (plain_of t)) ts i d (omega arith)

-- the names behind a token more
pub bound_next : (ts : List Plain) (i : ℕ) (t : Plain) (s : Bound) → i < length ts → t ≡ get_or ts i t → bound none_bound (take i (plains ts)) ≡ s
    → bound none_bound (take (i + 1) (plains ts)) ≡ after_token s (plain_of t)
bound_next ts i t s h e b =
    let next : bound none_bound (take (i + 1) (plains ts)) ≡ after_token (bound none_bound (take i (plains ts))) (plain_of (get_or ts i t)) = rw add-one (bound_suc none_bound ts i t h) in
    next ∙ ap (λ u. after_token (bound none_bound (take i (plains ts))) (plain_of u)) (sym e) ∙ ap (λ z. after_token z (plain_of t)) b

-- what is asked of a token
asked_here : (test : Bound → Tok → Bool) (ts : List Plain) (i : ℕ) (t : Plain) (s : Bound) → i < length ts → t ≡ get_or ts i t → bound none_bound (take i (plains ts)) ≡ s
    → passes (test (bound_before (plains ts) i)) (slice_get (plains ts) i) ≡ test s (plain_of t)
asked_here test ts i t s h e b =
    let here : slice_get (plains ts) i ≡ Some (plain_of (get_or ts i t)) = slice_get-map plain_of ts i ∙ ap (option_map plain_of) (slice_get-get_or ts i t h) in
    ap (passes (test (bound_before (plains ts) i))) here ∙ ap (λ u. test (bound_before (plains ts) i) (plain_of u)) (sym e) ∙ ap (λ z. test z (plain_of t)) b

twice_here : (ts : List Plain) (i : ℕ) (t : Plain) (s : Bound) → i < length ts → t ≡ get_or ts i t → bound none_bound (take i (plains ts)) ≡ s → is_twice (plains ts) i ≡ is_repeated s (plain_of t)
twice_here ts i t s h e b = asked_here is_repeated ts i t s h e b

many_here : (ts : List Plain) (i : ℕ) (t : Plain) (s : Bound) → i < length ts → t ≡ get_or ts i t → bound none_bound (take i (plains ts)) ≡ s → is_many (plains ts) i ≡ is_excess s (plain_of t)
many_here ts i t s h e b = asked_here is_excess ts i t s h e b

fault_along : (f : NameFault) (a b x y : Bool) → a ≡ x → b ≡ y → IsFaultOf f x y → IsFaultOf f a b
fault_along Twice a b x y e g h = e ∙ h
fault_along Many a b x y e g h = (e ∙ h.0, g ∙ h.1)

-- a token's fault is the first, behind names that are none
pub fault_here : (ts : List Plain) (i : ℕ) (t : Plain) (s : Bound) (f : NameFault) → i < length ts → i < length (plains ts) → t ≡ get_or ts i t → bound none_bound (take i (plains ts)) ≡ s
    → AreNamed (plains ts) i → IsFaultOf f (is_repeated s (plain_of t)) (is_excess s (plain_of t)) → IsFaultAt (plains ts) i f
fault_here ts i t s f h l e b a x = record { within = l; before = a; is = fault_along f _ _ _ _ (twice_here ts i t s h e b) (many_here ts i t s h e b) x }

-- a token is no fault
pub named_next : (ts : List Plain) (i : ℕ) (t : Plain) (s : Bound) → i < length ts → t ≡ get_or ts i t → bound none_bound (take i (plains ts)) ≡ s
    → AreNamed (plains ts) i → is_repeated s (plain_of t) ≡ false → is_excess s (plain_of t) ≡ false → AreNamed (plains ts) (i + 1)
named_next ts i t s h e b a x y = record {
  once = below_more _ i a.once (twice_here ts i t s h e b ∙ x);
  few = below_more _ i a.few (many_here ts i t s h e b ∙ y);
}

pub named_shorter : (ts : List Tok) (m n : ℕ) → m ≤ n → AreNamed ts n → AreNamed ts m
named_shorter ts m n h a = record { once = λ k w. a.once k (omega arith); few = λ k w. a.few k (omega arith) }
