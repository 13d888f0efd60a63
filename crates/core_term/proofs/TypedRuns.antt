-- From the rules of typing to derivations over the types of all names, and what holds of typed runs then.
use Rattle.std.proofs.Common.{◌≡◌, ◌∙◌, ℕ, zero, suc, Bool, true, false, true≢false, List, [], ◌∷◌, ◌++◌, ⊎_elim, eqb, if◌then◌else◌, ap, refl, subst, sym}
use Rattle.std.specs.Prelude.{Option, Some, None, is_some, unwrap_or, slice_index_or, ◌||◌, ⊤}
use Rattle.std.proofs.lemmas.Bool.{eqb-true}
use Rattle.std.specs.List.{All}
use Rattle.std.proofs.lemmas.List.Elements.{All-nil, All-cons, All-head, All-tail}
use Rattle.stream_type.specs.StreamType.{StreamType, eps, par, cat, sum, star}
use Rattle.stream_prefix.specs.StreamPrefix.{StreamPrefix, eps_emp, IsPrefix, IsPart}
use Rattle.stream_prefix.proofs.Derivations.{Derives, derives, is_prefix, eps_has_emp}
use Rattle.stream_prefix.proofs.Parts.{part_refl}
use Rattle.bunch.specs.Names.{holds}
use Rattle.bunch.specs.BunchTree.{leaf_names, as_type}
use Rattle.bunch.specs.Facts.{Facts, place_like}
use Rattle.hist_value.specs.Laws.{HasTypes}
use Rattle.core_term.specs.CoreTerm.{CoreTerm, CoreTerms, CoreBody, CoreProgram, var_term, eps_term, unit_term, nil_term, past_term, par_term, cat_term, cons_term, inl_term, inr_term, let_term, let_par_term, let_cat_term, case_sum_term, case_star_term, wait_term, call_term, no_terms, term_before, no_body, fun_at}
use Rattle.core_term.specs.FreeNames.{without, free_names, free_in_terms, IsCore}
use Rattle.core_term.specs.Environment.{Environment, NameTypes}
use Rattle.core_term.specs.Agreement.{types_in}
use Rattle.core_term.specs.Split.{split}
use Rattle.core_term.specs.Inert.{is_inert_fun}
use Rattle.core_term.specs.Meaning.{Past, call_at, run_at, main_run, no_past, horizon}
use Rattle.core_term.specs.Typing.{Context, types_of, with_name, with_fact, waited, HasType, HaveTypes, past_params, context_of, IsTypedBody, IsTypedCore}
use Rattle.core_term.specs.MeaningLaws.{FitsContext, IsPartOver, IsTypedTerm, RunIsTyped, MeanIsTyped, RunGrows, MeanGrows}
use Rattle.core_term.proofs.Sides.{holds-split, put-same}
use Rattle.core_term.proofs.Without.{holds-kept, differs-kept}
use Rattle.core_term.proofs.FreeRuns.{Alike, same_run}
use Rattle.core_term.proofs.TypedTerms.{Typed, Extends, derive}
use Rattle.core_term.proofs.GrowingRuns.{Grows, Streams, Continues}
use Rattle.core_term.proofs.Monotone.{TypedBodies, run_at_grows}
use Rattle.core_term.proofs.Splits.{split_is_typed, split_keeps_parts}

-- these names are stream variables
pub record AreStreams (c : Context) (xs : List ℕ) : Type 0 where
  pub at : (x : ℕ) → holds x xs ≡ true → is_some (c.types x) ≡ true

-- two lists of stream names in a row are one
pub streams_both : (c : Context) (xs ys : List ℕ) → AreStreams c xs → AreStreams c ys → AreStreams c (xs ++ ys)
streams_both c xs ys h k = record { at = λ x m. ⊎_elim (λ l. h.at x l) (λ r. k.at x r) (holds-split x xs ys m) }

-- and so is a list with a stream name in front
pub streams_more : (c : Context) (z : ℕ) (s : StreamType) (xs : List ℕ) → c.types z ≡ Some s → AreStreams c xs → AreStreams c (z ∷ xs)
streams_more c z s xs e h = record { at = λ x m. go x (eqb x z) refl m }
  where
    go : (x : ℕ) (b : Bool) → eqb x z ≡ b → (b || holds x xs) ≡ true → is_some (c.types x) ≡ true
    go x true k m = ap (λ w. is_some (c.types w)) (eqb-true x z k) ∙ ap is_some e
    go x false k m = h.at x m

-- what is free under a new name is so outside, but for the name
pub streams_without : (c : Context) (x : ℕ) (s : StreamType) (o : Facts) (xs : List ℕ) → AreStreams (with_name x s o c) xs → AreStreams c (without x xs)
streams_without c x s o xs h = record { at = λ y m. go y (eqb y x) (differs-kept y x xs m) (h.at y (holds-kept y x xs m)) }
  where
    go : (y : ℕ) (b : Bool) → b ≡ false → is_some (if b then Some s else c.types y) ≡ true → is_some (c.types y) ≡ true
    go y true k m = absurd (true≢false k)
    go y false k m = m

streams_fact : (c : Context) (x y : ℕ) (xs : List ℕ) → AreStreams (with_fact x y c) xs → AreStreams c xs
streams_fact c x y xs h = record { at = h.at }

-- what is free under a wait is a stream variable outside
streams_waited : (c : Context) (x : ℕ) (xs : List ℕ) → AreStreams (waited x c) xs → AreStreams c xs
streams_waited c x xs h = record { at = λ y m. go y (eqb y x) (h.at y m) }
  where
    go : (y : ℕ) (b : Bool) → is_some (if b then None else c.types y) ≡ true → is_some (c.types y) ≡ true
    go y true m = absurd (true≢false (sym m))
    go y false m = m

module _ (funs : List CoreBody) (counts : ℕ → Bool) where
  mutual
    -- the free stream names of a typed term are stream variables
    pub free_are_streams : (e : CoreTerm) (c : Context) (r : StreamType) → HasType funs counts c e r → AreStreams c (free_names e)
    free_are_streams (var_term x) c r h = streams_more c x r [] h (record { at = λ y m. absurd (true≢false (sym m)) })
    free_are_streams eps_term c r h = record { at = λ y m. absurd (true≢false (sym m)) }
    free_are_streams unit_term c r h = record { at = λ y m. absurd (true≢false (sym m)) }
    free_are_streams nil_term c r h = record { at = λ y m. absurd (true≢false (sym m)) }
    free_are_streams (past_term m) c r h = record { at = λ y m. absurd (true≢false (sym m)) }
    free_are_streams (par_term a b) c (par s t) h = streams_both c (free_names a) (free_names b) (free_are_streams a c s h.0) (free_are_streams b c t h.1)
    free_are_streams (par_term a b) c _ h = absurd h
    free_are_streams (cat_term a b) c (cat s t) h = streams_both c (free_names a) (free_names b) (free_are_streams a c s h.0) (free_are_streams b c t h.1)
    free_are_streams (cat_term a b) c _ h = absurd h
    free_are_streams (cons_term a b) c (star s) h = streams_both c (free_names a) (free_names b) (free_are_streams a c s h.0) (free_are_streams b c (star s) h.1)
    free_are_streams (cons_term a b) c _ h = absurd h
    free_are_streams (inl_term a) c (sum s t) h = free_are_streams a c s h
    free_are_streams (inl_term a) c _ h = absurd h
    free_are_streams (inr_term a) c (sum s t) h = free_are_streams a c t h
    free_are_streams (inr_term a) c _ h = absurd h
    free_are_streams (let_term x s a b) c r h = streams_both c (free_names a) (without x (free_names b)) (free_are_streams a c s h.0) (streams_without c x s _ (free_names b) (free_are_streams b _ r h.1))
    free_are_streams (let_par_term x y z a) c r h =
        streams_more c z _ (without x (without y (free_names a))) h.0
        (streams_without c x _ (place_like x z c.order) (without y (free_names a)) (streams_without _ y _ _ (free_names a) (free_are_streams a _ r h.1)))
    free_are_streams (let_cat_term x y z a) c r h =
        streams_more c z _ (without x (without y (free_names a))) h.0
        (streams_without c x _ (place_like x z c.order) (without y (free_names a)) (streams_without _ y _ _ (free_names a) (streams_fact _ x y (free_names a) (free_are_streams a _ r h.1))))
    free_are_streams (case_sum_term z t x a y b) c r h =
        streams_more c z _ (without x (free_names a) ++ without y (free_names b)) h.1
        (streams_both c (without x (free_names a)) (without y (free_names b)) (streams_without c x _ _ (free_names a) (free_are_streams a _ r h.2)) (streams_without c y _ _ (free_names b) (free_are_streams b _ r h.3)))
    free_are_streams (case_star_term z t a y ys b) c r h =
        streams_more c z _ (free_names a ++ without y (without ys (free_names b))) h.1
        (streams_both c (free_names a) (without y (without ys (free_names b))) (free_are_streams a c r h.2)
        (streams_without c y _ (place_like y z c.order) (without ys (free_names b)) (streams_without _ ys _ _ (free_names b) (streams_fact _ y ys (free_names b) (free_are_streams b _ r h.3)))))
    free_are_streams (wait_term x t a) c r h = streams_more c x _ (free_names a) h.1 (streams_waited c x (free_names a) (free_are_streams a _ r h.3))
    free_are_streams (call_term f ms es) c r h = free_are_streams_all es c _ h.3

    pub free_are_streams_all : (es : CoreTerms) (c : Context) (ts : List StreamType) → HaveTypes funs counts c es ts → AreStreams c (free_in_terms es)
    free_are_streams_all no_terms c [] h = record { at = λ y m. absurd (true≢false (sym m)) }
    free_are_streams_all (term_before e es) c (t ∷ ts) h = streams_both c (free_names e) (free_in_terms es) (free_are_streams e c t h.0) (free_are_streams_all es c ts h.1)
    free_are_streams_all no_terms c (t ∷ ts) h = absurd h
    free_are_streams_all (term_before e es) c [] h = absurd h

-- under a wait its subject is no free stream name
pub free_names-waited : (funs : List CoreBody) (counts : ℕ → Bool) (e : CoreTerm) (c : Context) (x : ℕ) (r : StreamType) → HasType funs counts (waited x c) e r → holds x (free_names e) ≡ false
free_names-waited funs counts e c x r h = go (holds x (free_names e)) refl
  where
    go : (b : Bool) → holds x (free_names e) ≡ b → b ≡ false
    go true m = absurd (true≢false (sym ((free_are_streams funs counts e (waited x c) r h).at x m) ∙ ap is_some (put-same x None c.types)))
    go false m = refl

-- the types of all names, as far as the context has them, extend it
pub extends_own : (c : Context) → Extends c (types_of c) c.past
extends_own c = record { stream = λ x s e. ap (λ o. unwrap_or o eps) e; historical = λ x h e. e }

-- an environment without what stands at names that are no stream variables
abbrev pub cut : Context → Environment → Environment
cut c env x = if is_some (c.types x) then env x else eps_emp

module _ (c : Context) (types : NameTypes) (env : Environment) (p : Past) (fits : FitsContext c types env p) where
  pub cut_streams : Streams (types_of c) (cut c env)
  cut_streams = record { at = λ x. go x (c.types x) (fits.has_prefixes x) }
    where
      go : (x : ℕ) (o : Option StreamType) → ((s : StreamType) → o ≡ Some s → IsPrefix s (env x)) → Derives (unwrap_or o eps) (if is_some o then env x else eps_emp)
      go x (Some s) f = derives s (env x) (f s refl)
      go x None f = eps_has_emp

  pub cut_continues : (other : Environment) → IsPartOver c env other → Continues (types_of c) (cut c env) (cut c other)
  cut_continues other g = record { at = λ x. go x (c.types x) (g x) }
    where
      go : (x : ℕ) (o : Option StreamType) → ((s : StreamType) → o ≡ Some s → IsPart s (env x) (other x)) → IsPart (unwrap_or o eps) (if is_some o then env x else eps_emp) (if is_some o then other x else eps_emp)
      go x (Some s) f = f s refl
      go x None f = part_refl eps_has_emp

  pub cut_alike : (other : Environment) (xs : List ℕ) → AreStreams c xs → Alike xs types (types_of c) other (cut c other)
  cut_alike other xs h = record { at = λ x m. go x (c.types x) (fits.has_types x) (h.at x m) }
    where
      go : (x : ℕ) (o : Option StreamType) → ((s : StreamType) → o ≡ Some s → types x ≡ s) → is_some o ≡ true → (types x ≡ unwrap_or o eps) × (other x ≡ (if is_some o then other x else eps_emp))
      go x (Some s) f m = (f s refl, refl)
      go x None f m = absurd (true≢false (sym m))

  -- a typed term's run is that on what the context has
  pub run_of_cut : (funs : List CoreBody) (counts : ℕ → Bool) (k : ℕ) (e : CoreTerm) (r : StreamType) → HasType funs counts c e r → (other : Environment)
      → run_at (fun_at funs) k e types r other p ≡ run_at (fun_at funs) k e (types_of c) r (cut c other) p
  run_of_cut funs counts k e r h other = same_run (fun_at funs) (call_at (fun_at funs) k) e types (types_of c) r other (cut c other) p p (cut_alike other (free_names e) (free_are_streams funs counts e c r h)) (record { at = λ z m. refl })

-- what is true of each element and of d is true of the one at an index, or else of d
pub at_index : {A : Type 0} (P : A → Type 0) (d : A) (xs : List A) → All P xs → P d → (i : ℕ) → P (slice_index_or xs i d)
at_index P d [] h k i = k
at_index P d (x ∷ xs) h k zero = All-head P x xs h
at_index P d (x ∷ xs) h k (suc i) = at_index P d xs (All-tail P x xs h) k i

-- what is true at each place of a list is true of all of it
pub all_at : {A : Type 0} (P : A → Type 0) (d : A) (xs : List A) → ((i : ℕ) → P (slice_index_or xs i d)) → All P xs
all_at P d [] f = All-nil P
all_at P d (x ∷ xs) f = All-cons P x xs (f zero) (all_at P d xs (λ i. f (suc i)))

-- the context of a body, over all names
pub extends_body : (b : CoreBody) → Extends (context_of b) (types_in b.params) (past_params b.past)
extends_body b = record { stream = λ x s e. go x (holds x (leaf_names b.params)) s e; historical = λ x h e. e }
  where
    go : (x : ℕ) (c : Bool) (s : StreamType) → (if c then Some (types_in b.params x) else None) ≡ Some s → types_in b.params x ≡ s
    go x true s e = cc e
    go x false s e = absurd (cc e)

-- nothing is kept of the names of destructurings
abbrev pub Any : ℕ → ℕ → Type 0
Any x z = ⊤

pub typed_bodies : (funs : List CoreBody) → All (IsTypedBody funs) funs → TypedBodies (fun_at funs) (is_inert_fun funs) Any
typed_bodies funs h = record { body = λ f. derive funs (is_inert_fun funs) Any (λ x z. tt) (fun_at funs f).body (context_of (fun_at funs f)) _ _ _ (extends_body (fun_at funs f)) (at_index (IsTypedBody funs) no_body funs h refl f) }

module _ (funs : List CoreBody) (k : ℕ) (c : Context) (e : CoreTerm) (r : StreamType) (typed : IsTypedTerm funs c e r) where
  pub derivation : Typed (fun_at funs) (is_inert_fun funs) Any (types_of c) c.order c.past e r
  derivation = derive funs (is_inert_fun funs) Any (λ x z. tt) e c (types_of c) c.past r (extends_own c) typed.term_typed

  pub term_grows : (types : NameTypes) (env other : Environment) (p : Past) → FitsContext c types env p → IsPartOver c env other → Grows r (run_at (fun_at funs) k e types r env p) (run_at (fun_at funs) k e types r other p)
  term_grows types env other p f g =
      subst (λ a. Grows r a (run_at (fun_at funs) k e types r other p)) (sym (run_of_cut c types env p f funs (is_inert_fun funs) k e r typed.term_typed env))
      (subst (Grows r (run_at (fun_at funs) k e (types_of c) r (cut c env) p)) (sym (run_of_cut c types env p f funs (is_inert_fun funs) k e r typed.term_typed other))
      (run_at_grows (fun_at funs) (is_inert_fun funs) Any (typed_bodies funs typed.funs_typed) k derivation (cut c env) (cut c other) p (cut_streams c types env p f) (cut_continues c types env p f other g) f.has_values))

pub run_is_typed : RunIsTyped
run_is_typed funs k c e r typed types env p f = is_prefix (term_grows funs k c e r typed types env env p f (λ x s h. part_refl (derives s (env x) (f.has_prefixes x s h)))).first

pub run_grows : RunGrows
run_grows funs k c e r typed types env other p f g = let x = term_grows funs k c e r typed types env other p f g in (x.part, x.calls)

-- what is true of the types of a body's parameters is true of those in its context
at_params : (R : ℕ → StreamType → Type 0) (b : CoreBody) → ((x : ℕ) → R x (types_in b.params x)) → (x : ℕ) (s : StreamType) → (context_of b).types x ≡ Some s → R x s
at_params R b h x s e = go (holds x (leaf_names b.params)) e
  where
    go : (c : Bool) → (if c then Some (types_in b.params x) else None) ≡ Some s → R x s
    go true e = let same : types_in b.params x ≡ s = cc e in subst (R x) same (h x)
    go false e = absurd (cc e)

-- a prefix of the main program's input fits its context
pub main_fits : (b : CoreBody) → b.past ≡ [] → (p : StreamPrefix) → IsPrefix (as_type b.params) p → FitsContext (context_of b) (types_in b.params) (split b.params p) no_past
main_fits b e p h = record {
  has_types = (extends_body b).stream;
  has_prefixes = at_params (λ x s. IsPrefix s (split b.params p x)) b (split_is_typed b.params p h);
  has_values = subst (λ es. HasTypes (past_params es) no_past) (sym e) (λ x t k. absurd (cc k));
}

module _ (c : CoreProgram) (core : IsCore c) (typed : IsTypedCore c) where
  pub main_typed : IsTypedTerm c.funs (context_of c.main) c.main.body c.main.result
  main_typed = record { funs_typed = typed.funs_typed; term_typed = typed.main_typed }

  pub main_grows : (k : ℕ) (p q : StreamPrefix) → IsPrefix (as_type c.main.params) p → IsPart (as_type c.main.params) p q → Grows c.main.result (main_run (fun_at c.funs) k c.main p) (main_run (fun_at c.funs) k c.main q)
  main_grows k p q h g =
      term_grows c.funs k (context_of c.main) c.main.body c.main.result main_typed (types_in c.main.params) (split c.main.params p) (split c.main.params q) no_past (main_fits c.main core.main_past p h)
      (at_params (λ x s. IsPart s (split c.main.params p x) (split c.main.params q x)) c.main (split_keeps_parts c.main.params p q h g))

pub mean_is_typed : MeanIsTyped
mean_is_typed c core typed p h = is_prefix (main_grows c core typed horizon p p h (part_refl (derives (as_type c.main.params) p h))).first

pub mean_grows : MeanGrows
mean_grows c core typed p q h g = let x = main_grows c core typed horizon p q h g in (x.part, x.calls)
