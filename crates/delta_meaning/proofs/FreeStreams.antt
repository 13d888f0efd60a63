-- The free names of a typed term are stream names, so what follows a wait doesn't read its name as one.
use Rattle.std.proofs.Common.{◌≡◌, ◌≢◌, ◌⊎◌, inl, inr, ℕ, Bool, true, false, true≢false, ◌||◌, List, [], ◌∷◌, ◌++◌, is_some, None, eqb, if◌then◌else◌, refl, sym, ap, ◌∙◌}
use Rattle.std.proofs.lemmas.Bool.{eqb-true, eq-eqb, or_right, false_from_ne_true}
use Rattle.bunch.specs.Names.{put, holds}
use Rattle.core_term.specs.CoreTerm.{CoreTerm, CoreTerms, var_term, eps_term, unit_term, nil_term, past_term, par_term, cat_term, cons_term, inl_term, inr_term, let_term, let_par_term, let_cat_term, case_sum_term, case_star_term, wait_term, call_term, no_terms, term_before}
use Rattle.core_term.specs.FreeNames.{without, free_names, free_in_terms}
use Rattle.core_term.specs.Typing.{waited}
use Rattle.core_term.proofs.Sides.{holds-split, put-same, put-other}
use Rattle.delta_meaning.specs.Laws.{WaitedIsUnread}
use Rattle.delta_meaning.proofs.StreamNames.{ReadsStreams, ReadStreams, typed_reads}

-- a name of a list less another name is another one, and is in the list
record IsOther (y x : ℕ) (xs : List ℕ) : Type 0 where
  other : x ≢ y
  there : holds y xs ≡ true

holds-without : (y x : ℕ) (xs : List ℕ) → holds y (without x xs) ≡ true → IsOther y x xs
holds-without y x [] h = absurd (true≢false (sym h))
holds-without y x (z ∷ zs) h = go (holds-without y x zs) (eqb z x) refl h
  where
    later : IsOther y x zs → IsOther y x (z ∷ zs)
    later o = record { other = o.other; there = or_right (eqb y z) (holds y zs) o.there }

    first : (holds y (without x zs) ≡ true → IsOther y x zs) → eqb z x ≡ false → (c : Bool) → eqb y z ≡ c → (c || holds y (without x zs)) ≡ true → IsOther y x (z ∷ zs)
    first next e true f h = record {
      other = λ q. true≢false (sym (eq-eqb z x (sym (q ∙ eqb-true y z f))) ∙ e);
      there = ap (λ b. b || holds y zs) f;
    }
    first next e false f h = later (next h)

    go : (holds y (without x zs) ≡ true → IsOther y x zs) → (c : Bool) → eqb z x ≡ c → holds y (if c then without x zs else z ∷ without x zs) ≡ true → IsOther y x (z ∷ zs)
    go next true e h = later (next h)
    go next false e h = first next e (eqb y z) refl h

-- each name of a list is a stream name
pub record AllStreams (xs : List ℕ) (streams : ℕ → Bool) : Type 0 where
  pub is_stream : (x : ℕ) → holds x xs ≡ true → streams x ≡ true

no_names : {streams : ℕ → Bool} → AllStreams [] streams
no_names = record { is_stream = λ x h. absurd (true≢false (sym h)) }

first_name : {z : ℕ} {xs : List ℕ} {streams : ℕ → Bool} → streams z ≡ true → AllStreams xs streams → AllStreams (z ∷ xs) streams
first_name {z = z} {xs = xs} {streams = streams} s a = record { is_stream = λ x. go x (eqb x z) refl }
  where
    go : (x : ℕ) (c : Bool) → eqb x z ≡ c → (c || holds x xs) ≡ true → streams x ≡ true
    go x true e h = ap streams (eqb-true x z e) ∙ s
    go x false e h = a.is_stream x h

both_lists : {xs ys : List ℕ} {streams : ℕ → Bool} → AllStreams xs streams → AllStreams ys streams → AllStreams (xs ++ ys) streams
both_lists {xs = xs} {ys = ys} {streams = streams} a b = record { is_stream = λ x h. go x (holds-split x xs ys h) }
  where
    go : (x : ℕ) → (holds x xs ≡ true) ⊎ (holds x ys ≡ true) → streams x ≡ true
    go x (inl h) = a.is_stream x h
    go x (inr h) = b.is_stream x h

-- outside a binder its name isn't read
unbound_names : (z : ℕ) {xs : List ℕ} {streams : ℕ → Bool} → AllStreams xs (put z true streams) → AllStreams (without z xs) streams
unbound_names z {xs = xs} {streams = streams} a =
    record { is_stream = λ x h. let o = holds-without x z xs h in sym (put-other z x true streams o.other) ∙ a.is_stream x o.there }

-- outside a wait its name is a stream name again
waited_names : (z : ℕ) {xs : List ℕ} {streams : ℕ → Bool} → AllStreams xs (put z false streams) → AllStreams xs streams
waited_names z {streams = streams} a = record { is_stream = λ x h. go x (eqb x z) (a.is_stream x h) }
  where
    go : (x : ℕ) (c : Bool) → (if c then false else streams x) ≡ true → streams x ≡ true
    go x true h = absurd (true≢false (sym h))
    go x false h = h

mutual
  pub free_are_streams : (e : CoreTerm) {streams : ℕ → Bool} → ReadsStreams e streams → AllStreams (free_names e) streams
  free_are_streams (var_term x) s = first_name s no_names
  free_are_streams eps_term s = no_names
  free_are_streams unit_term s = no_names
  free_are_streams nil_term s = no_names
  free_are_streams (past_term m) s = no_names
  free_are_streams (par_term a b) s = both_lists (free_are_streams a s.0) (free_are_streams b s.1)
  free_are_streams (cat_term a b) s = both_lists (free_are_streams a s.0) (free_are_streams b s.1)
  free_are_streams (cons_term a b) s = both_lists (free_are_streams a s.0) (free_are_streams b s.1)
  free_are_streams (inl_term a) s = free_are_streams a s
  free_are_streams (inr_term a) s = free_are_streams a s
  free_are_streams (let_term x t a b) s = both_lists (free_are_streams a s.0) (unbound_names x (free_are_streams b s.1))
  free_are_streams (let_par_term x y z a) s = first_name s.0 (unbound_names x (unbound_names y (free_are_streams a s.1)))
  free_are_streams (let_cat_term x y z a) s = first_name s.0 (unbound_names x (unbound_names y (free_are_streams a s.1)))
  free_are_streams (case_sum_term z t x a y b) s = first_name s.0 (both_lists (unbound_names x (free_are_streams a s.1)) (unbound_names y (free_are_streams b s.2)))
  free_are_streams (case_star_term z t a y ys b) s =
      first_name s.0 (both_lists (free_are_streams a s.1) (unbound_names y (unbound_names ys (free_are_streams b s.2))))
  free_are_streams (wait_term x t a) s = first_name s.0 (waited_names x (free_are_streams a s.1))
  free_are_streams (call_term f ms es) s = free_are_all_streams es s

  free_are_all_streams : (es : CoreTerms) {streams : ℕ → Bool} → ReadStreams es streams → AllStreams (free_in_terms es) streams
  free_are_all_streams no_terms s = no_names
  free_are_all_streams (term_before e es) s = both_lists (free_are_streams e s.0) (free_are_all_streams es s.1)

pub waited_is_unread : WaitedIsUnread
waited_is_unread funs counts c x t a r h =
    let streams : ℕ → Bool = λ y. is_some (put x None c.types y) in
    let reads = typed_reads funs counts a (waited x c) r {streams = streams} (record { is_stream = λ y q. q }) h.3 in
    false_from_ne_true (holds x (free_names a)) (λ there. true≢false (sym ((free_are_streams a reads).is_stream x there) ∙ ap is_some (put-same x None c.types)))
