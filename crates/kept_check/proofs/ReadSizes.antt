-- What is read has no more states, and no more nodes of code and of types, than bytes.
use Rattle.std.proofs.Common.{◌≡◌, ◌+◌, ◌<◌, ◌≤◌, ◌^◌, ℕ, List, [], ◌∷◌, ◌++◌, length, drop, get_or, length-append, Bool, true, false, nat_lt, if◌then◌else◌, refl, subst, arith}
use Rattle.std.specs.Prelude.{Some, None, option_map}
use Rattle.std.proofs.lemmas.Bool.Decides.{nat_tests}
use Rattle.std.specs.List.{All}
use Rattle.std.proofs.lemmas.List.Elements.{All-append, All-nil, All-cons}
use Rattle.stream_type.specs.StreamType.{StreamType, eps, one, int, cat, par, sum, star, size_of}
use Rattle.core_term.specs.CoreTerm.{CoreTerm, CoreTerms, var_term, eps_term, unit_term, nil_term, past_term, par_term, cat_term, cons_term, inl_term, inr_term, let_term, let_par_term, let_cat_term, case_sum_term, case_star_term, wait_term, call_term, no_terms, term_before, node_count, node_counts, term_count}
use Rattle.delta_state.specs.StateTree.{LaterTree, StateTree, ArgumentTrees, sink, var_state, par_state, cat_state, let_state, let_par_state, let_cat_state, sum_state, star_state, wait_state, frame_state, no_arguments, argument_before, argument_names, laters_of, laters_in}
use Rattle.kept_state.specs.KeptTree.{KeptTree}
use Rattle.kept_state.specs.KeptBytes.{short_bytes, long_bytes, list_bytes, bool_bytes, type_bytes, expr_bytes, places_behind, node_bytes, inside, term_bytes, terms_bytes, known_bytes, held_name_bytes, later_bytes, nodes_in_state, nodes_in_arguments, state_bytes, arguments_bytes, kept_bytes, most_bytes}
use Rattle.kept_state.specs.KeptForm.{form_fault, bad_form, version_fault, or_else, fault_from, kept_parts}
use Rattle.kept_check.specs.Sizes.{codes_fit, states_in_arguments, states_number, IsSmall}

-- there are so many bytes at least
record IsLong (n : ℕ) (bytes : List ℕ) : Type 0 where
  at : n ≤ length bytes

-- so there are beside others
before : {n : ℕ} {xs : List ℕ} (ys : List ℕ) → IsLong n xs → IsLong n (xs ++ ys)
before {xs = xs} ys h = record { at = omega (arith, h.at, length-append xs ys) }

behind : {n : ℕ} {ys : List ℕ} (xs : List ℕ) → IsLong n ys → IsLong n (xs ++ ys)
behind {ys = ys} xs h = record { at = omega (arith, h.at, length-append xs ys) }

both : {m n : ℕ} {xs ys : List ℕ} → IsLong m xs → IsLong n ys → IsLong (m + n) (xs ++ ys)
both {xs = xs} {ys = ys} h k = record { at = omega (arith, h.at, k.at, length-append xs ys) }

-- one byte more
one_more : {n : ℕ} {xs : List ℕ} (b : ℕ) → IsLong n xs → IsLong (1 + n) (b ∷ xs)
one_more b h = record { at = omega (arith, h.at) }

-- a byte
one_byte : (b : ℕ) (xs : List ℕ) → IsLong 1 (b ∷ xs)
one_byte b xs = record { at = omega arith }

-- none are needed for none
nothing : (xs : List ℕ) → IsLong 0 xs
nothing xs = record { at = omega arith }

-- fewer, too
fewer : {m n : ℕ} {xs : List ℕ} → IsLong n xs → m ≤ n → IsLong m xs
fewer h l = record { at = omega (arith, l, h.at) }

-- a type
type_long : (t : StreamType) → IsLong (size_of t) (type_bytes t)
type_long eps = one_byte 0 []
type_long one = one_byte 1 []
type_long int = one_byte 2 []
type_long (cat a b) = one_more 3 (both (type_long a) (type_long b))
type_long (par a b) = one_more 4 (both (type_long a) (type_long b))
type_long (sum a b) = one_more 5 (both (type_long a) (type_long b))
type_long (star a) = one_more 6 (type_long a)

-- a node
node_long : {n : ℕ} (places : List ℕ) {bytes : List ℕ} → IsLong n bytes → IsLong n (node_bytes places bytes)
node_long places h = behind (short_bytes (get_or places 0 0)) h

mutual
  -- a term
  term_long : (e : CoreTerm) (places : List ℕ) → IsLong (node_count e) (term_bytes e places)
  term_long (var_term x) places = one_byte 0 (short_bytes x)
  term_long eps_term places = one_byte 1 []
  term_long unit_term places = one_byte 2 []
  term_long nil_term places = one_byte 8 []
  term_long (past_term m) places = one_byte 3 (expr_bytes m)
  term_long (par_term a b) places = one_more 4 (both (node_long places (term_long a (inside places))) (node_long (places_behind a places) (term_long b (inside (places_behind a places)))))
  term_long (cat_term a b) places = one_more 5 (both (node_long places (term_long a (inside places))) (node_long (places_behind a places) (term_long b (inside (places_behind a places)))))
  term_long (cons_term a b) places = one_more 9 (both (node_long places (term_long a (inside places))) (node_long (places_behind a places) (term_long b (inside (places_behind a places)))))
  term_long (inl_term a) places = one_more 6 (node_long places (term_long a (inside places)))
  term_long (inr_term a) places = one_more 7 (node_long places (term_long a (inside places)))
  term_long (let_term x s a b) places =
      one_more 10 (behind (short_bytes x) (behind (type_bytes s) (both (node_long places (term_long a (inside places))) (node_long (places_behind a places) (term_long b (inside (places_behind a places)))))))
  term_long (let_par_term x y z a) places = one_more 11 (behind (short_bytes x) (behind (short_bytes y) (behind (short_bytes z) (node_long places (term_long a (inside places))))))
  term_long (let_cat_term x y z a) places = one_more 12 (behind (short_bytes x) (behind (short_bytes y) (behind (short_bytes z) (node_long places (term_long a (inside places))))))
  term_long (case_sum_term z t x a y b) places =
      one_more 13 (behind (short_bytes z) (behind (type_bytes t) (behind (short_bytes x) (both (node_long places (term_long a (inside places))) (behind (short_bytes y) (node_long (places_behind a places) (term_long b (inside (places_behind a places)))))))))
  term_long (case_star_term z t a y ys b) places =
      one_more 14 (behind (short_bytes z) (behind (type_bytes t) (both (node_long places (term_long a (inside places))) (behind (short_bytes y) (behind (short_bytes ys) (node_long (places_behind a places) (term_long b (inside (places_behind a places)))))))))
  term_long (wait_term x t a) places = one_more 15 (behind (short_bytes x) (behind (type_bytes t) (node_long places (term_long a (inside places)))))
  term_long (call_term f ms es) places =
      one_more 16 (behind (short_bytes f) (behind (list_bytes expr_bytes ms) (behind (short_bytes (term_count es)) (terms_long es places))))

  -- the terms of a call
  terms_long : (es : CoreTerms) (places : List ℕ) → IsLong (node_counts es) (terms_bytes es places)
  terms_long no_terms places = nothing []
  terms_long (term_before e es) places = both (node_long places (term_long e (inside places))) (terms_long es (places_behind e places))

-- code that isn't reached
later_long : (l : LaterTree) (places : List ℕ) → IsLong (node_count l.term) (later_bytes l places)
later_long l places = before (list_bytes known_bytes l.past ++ long_bytes l.depth) (node_long places (term_long l.term (inside places)))

mutual
  -- a state: the nodes of its code, and the states in it
  state_long : (s : StateTree) (places : List ℕ) → IsLong (nodes_in_state s + states_number s) (state_bytes s places)
  state_long (sink t) places = fewer (one_byte 0 (type_bytes t)) (omega arith)
  state_long (var_state x) places = fewer (one_byte 1 (short_bytes x)) (omega arith)
  state_long (par_state a b) places =
      fewer (one_more 2 (both (state_long a places) (state_long b (drop (nodes_in_state a) places)))) (omega arith)
  state_long (cat_state a l) places =
      fewer (one_more 3 (both (state_long a places) (later_long l (drop (nodes_in_state a) places)))) (omega arith)
  state_long (let_state x s a b) places =
      fewer (one_more 4 (behind (short_bytes x) (behind (type_bytes s) (both (state_long a places) (state_long b (drop (nodes_in_state a) places)))))) (omega arith)
  state_long (let_par_state x y z a) places =
      fewer (one_more 5 (behind (short_bytes x) (behind (short_bytes y) (behind (short_bytes z) (state_long a places))))) (omega arith)
  state_long (let_cat_state x y z a) places =
      fewer (one_more 6 (behind (short_bytes x) (behind (short_bytes y) (behind (short_bytes z) (state_long a places))))) (omega arith)
  state_long (sum_state z t held x l y m) places =
      fewer (one_more 7 (behind (short_bytes z) (behind (type_bytes t) (behind (list_bytes held_name_bytes held) (behind (short_bytes x) (both (later_long l places) (behind (short_bytes y) (later_long m (places_behind l.term places))))))))) (omega arith)
  state_long (star_state z t held l y ys m) places =
      fewer (one_more 8 (behind (short_bytes z) (behind (type_bytes t) (behind (list_bytes held_name_bytes held) (both (later_long l places) (behind (short_bytes y) (behind (short_bytes ys) (later_long m (places_behind l.term places))))))))) (omega arith)
  state_long (wait_state x t held l) places =
      fewer (one_more 9 (behind (short_bytes x) (behind (type_bytes t) (behind (list_bytes held_name_bytes held) (later_long l places))))) (omega arith)
  state_long (frame_state args s) places =
      fewer (one_more 10 (both (behind (short_bytes (length (argument_names args))) (arguments_long args places)) (state_long s (drop (nodes_in_arguments args) places)))) (omega arith)

  -- the arguments of a frame
  arguments_long : (args : ArgumentTrees) (places : List ℕ) → IsLong (nodes_in_arguments args + states_in_arguments args) (arguments_bytes args places)
  arguments_long no_arguments places = fewer (nothing []) (omega arith)
  arguments_long (argument_before x t s args) places =
      fewer (both (behind (short_bytes x) (behind (type_bytes t) (state_long s places))) (arguments_long args (drop (nodes_in_state s) places))) (omega arith)

-- so all that has a kept state's bytes is small, where there aren't too many
small : (k : KeptTree) (places : List ℕ) → length (kept_bytes k places) ≤ most_bytes → IsSmall k
small k places few =
    let head : List ℕ = 0x44 ∷ (0x53 ∷ (0x54 ∷ (0x01 ∷ long_bytes k.events))) in
    let long : IsLong (size_of k.out + (nodes_in_state k.state + states_number k.state)) (kept_bytes k places) =
    behind head (behind (list_bytes type_bytes k.ins) (behind (list_bytes bool_bytes k.cuts) (both (type_long k.out) (state_long k.state places)))) in
    record { has_type = omega (arith, long.at, few); has_states = omega (arith, long.at, few); has_nodes = omega (arith, long.at, few) }

not_more : (m n : ℕ) → nat_lt m n ≡ false → n ≤ m
not_more m n e = grind (arith, nat_tests)

-- where nothing is wrong with the form, there are few bytes
few_bytes : (bytes : List ℕ) → form_fault bytes ≡ None → length bytes ≤ most_bytes
few_bytes bytes h = go (nat_lt most_bytes (length bytes)) refl h
  where
    go : (b : Bool) → nat_lt most_bytes (length bytes) ≡ b
        → (if b then Some (bad_form most_bytes) else or_else (version_fault bytes) (option_map bad_form (fault_from kept_parts 0 bytes))) ≡ None → length bytes ≤ most_bytes
    go true e i = absurd (cc i)
    go false e i = not_more most_bytes (length bytes) e

-- so what was read from them is small
pub read_small : (k : KeptTree) (places bytes : List ℕ) → bytes ≡ kept_bytes k places → form_fault bytes ≡ None → IsSmall k
read_small k places bytes e h =
    let few : length bytes ≤ most_bytes = few_bytes bytes h in
    let Few : List ℕ → Type 0 = λ bs. length bs ≤ most_bytes in
    small k places (subst Few e few)

abbrev Below : ℕ → LaterTree → Type 0
Below n l = node_count l.term < n

mutual
  -- no code of a state has more nodes than all of it
  codes_within : (n : ℕ) (s : StateTree) → nodes_in_state s < n → All (Below n) (laters_of s)
  codes_within n (sink t) h = All-nil (Below n)
  codes_within n (var_state x) h = All-nil (Below n)
  codes_within n (par_state a b) h = All-append (Below n) (laters_of a) (laters_of b) (codes_within n a (omega (arith, h))) (codes_within n b (omega (arith, h)))
  codes_within n (cat_state a l) h = All-append (Below n) (laters_of a) (l ∷ []) (codes_within n a (omega (arith, h))) (All-cons (Below n) l [] (omega (arith, h)) (All-nil (Below n)))
  codes_within n (let_state x s a b) h = All-append (Below n) (laters_of a) (laters_of b) (codes_within n a (omega (arith, h))) (codes_within n b (omega (arith, h)))
  codes_within n (let_par_state x y z a) h = codes_within n a h
  codes_within n (let_cat_state x y z a) h = codes_within n a h
  codes_within n (sum_state z t held x l y m) h = All-cons (Below n) l (m ∷ []) (omega (arith, h)) (All-cons (Below n) m [] (omega (arith, h)) (All-nil (Below n)))
  codes_within n (star_state z t held l y ys m) h = All-cons (Below n) l (m ∷ []) (omega (arith, h)) (All-cons (Below n) m [] (omega (arith, h)) (All-nil (Below n)))
  codes_within n (wait_state x t held l) h = All-cons (Below n) l [] (omega (arith, h)) (All-nil (Below n))
  codes_within n (frame_state args s) h = All-append (Below n) (laters_in args) (laters_of s) (codes_in n args (omega (arith, h))) (codes_within n s (omega (arith, h)))

  codes_in : (n : ℕ) (args : ArgumentTrees) → nodes_in_arguments args < n → All (Below n) (laters_in args)
  codes_in n no_arguments h = All-nil (Below n)
  codes_in n (argument_before x t s args) h = All-append (Below n) (laters_of s) (laters_in args) (codes_within n s (omega (arith, h))) (codes_in n args (omega (arith, h)))

pub codes_small : (s : StateTree) → nodes_in_state s < 2 ^ 32 → codes_fit s
codes_small s h = codes_within (2 ^ 32) s h
