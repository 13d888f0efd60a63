-- Each name that a typed term reads as a stream name is one: none is read under its wait.
use Rattle.std.proofs.Common.{◌≡◌, ℕ, Bool, true, false, true≢false, List, [], ◌∷◌, Option, Some, None, is_some, eqb, if◌then◌else◌, refl, sym, ap}
use Rattle.stream_type.specs.StreamType.{StreamType, cat, par, sum, star}
use Rattle.bunch.specs.Names.{put}
use Rattle.core_term.specs.CoreTerm.{CoreTerm, CoreTerms, CoreBody, var_term, eps_term, unit_term, nil_term, past_term, par_term, cat_term, cons_term, inl_term, inr_term, let_term, let_par_term, let_cat_term, case_sum_term, case_star_term, wait_term, call_term, no_terms, term_before, leaf_types, fun_at}
use Rattle.core_term.specs.Typing.{Context, HasType, HaveTypes, with_let, with_parts, with_fact, with_name_like, waited, type_at}
use Rattle.core_term.specs.Parts.{par_left, par_right, cat_first, cat_second, sum_left, sum_right, star_item, star_items}

abbrev mutual
  -- each name that a term reads as a stream name is one; a wait makes its name historical
  pub ReadsStreams : CoreTerm → (ℕ → Bool) → Type 0
  ReadsStreams (var_term x) streams = streams x ≡ true
  ReadsStreams eps_term streams = Unit {0}
  ReadsStreams unit_term streams = Unit {0}
  ReadsStreams nil_term streams = Unit {0}
  ReadsStreams (past_term m) streams = Unit {0}
  ReadsStreams (par_term a b) streams = ReadsStreams a streams × ReadsStreams b streams
  ReadsStreams (cat_term a b) streams = ReadsStreams a streams × ReadsStreams b streams
  ReadsStreams (cons_term a b) streams = ReadsStreams a streams × ReadsStreams b streams
  ReadsStreams (inl_term a) streams = ReadsStreams a streams
  ReadsStreams (inr_term a) streams = ReadsStreams a streams
  ReadsStreams (let_term x s a b) streams = ReadsStreams a streams × ReadsStreams b (put x true streams)
  ReadsStreams (let_par_term x y z a) streams = (streams z ≡ true) × ReadsStreams a (put y true (put x true streams))
  ReadsStreams (let_cat_term x y z a) streams = (streams z ≡ true) × ReadsStreams a (put y true (put x true streams))
  ReadsStreams (case_sum_term z t x a y b) streams = (streams z ≡ true) × ReadsStreams a (put x true streams) × ReadsStreams b (put y true streams)
  ReadsStreams (case_star_term z t a y ys b) streams = (streams z ≡ true) × ReadsStreams a streams × ReadsStreams b (put ys true (put y true streams))
  ReadsStreams (wait_term x t a) streams = (streams x ≡ true) × ReadsStreams a (put x false streams)
  ReadsStreams (call_term f ms es) streams = ReadStreams es streams

  pub ReadStreams : CoreTerms → (ℕ → Bool) → Type 0
  ReadStreams no_terms streams = Unit {0}
  ReadStreams (term_before e es) streams = ReadsStreams e streams × ReadStreams es streams

-- the stream names of a context are such
pub record AreStreams (types : ℕ → Option StreamType) (streams : ℕ → Bool) : Type 0 where
  pub is_stream : (x : ℕ) → is_some (types x) ≡ true → streams x ≡ true

typed_is_stream : {types : ℕ → Option StreamType} {streams : ℕ → Bool} → AreStreams types streams → (x : ℕ) (t : StreamType) → types x ≡ Some t → streams x ≡ true
typed_is_stream a x t e = a.is_stream x (ap is_some e)

more_streams : {types : ℕ → Option StreamType} {streams : ℕ → Bool} → AreStreams types streams → (x : ℕ) (s : StreamType) → AreStreams (put x (Some s) types) (put x true streams)
more_streams {types = types} {streams = streams} a x s = record { is_stream = λ y. go y (eqb y x) }
  where
    go : (y : ℕ) (c : Bool) → is_some (if c then Some s else types y) ≡ true → (if c then true else streams y) ≡ true
    go y true h = refl
    go y false h = a.is_stream y h

fewer_streams : {types : ℕ → Option StreamType} {streams : ℕ → Bool} → AreStreams types streams → (x : ℕ) → AreStreams (put x None types) (put x false streams)
fewer_streams {types = types} {streams = streams} a x = record { is_stream = λ y. go y (eqb y x) }
  where
    go : (y : ℕ) (c : Bool) → is_some (if c then None else types y) ≡ true → (if c then false else streams y) ≡ true
    go y true h = absurd (true≢false (sym h))
    go y false h = a.is_stream y h

module _ (funs : List CoreBody) (counts : ℕ → Bool) where
  mutual
    pub typed_reads : (e : CoreTerm) (c : Context) (r : StreamType) {streams : ℕ → Bool} → AreStreams c.types streams → HasType funs counts c e r → ReadsStreams e streams
    typed_reads (var_term x) c r a h = typed_is_stream a x r h
    typed_reads eps_term c r a h = tt
    typed_reads unit_term c r a h = tt
    typed_reads nil_term c r a h = tt
    typed_reads (past_term m) c r a h = tt
    typed_reads (par_term e f) c (par s t) a h = (typed_reads e c s a h.0, typed_reads f c t a h.1)
    typed_reads (par_term e f) c _ a h = absurd h
    typed_reads (cat_term e f) c (cat s t) a h = (typed_reads e c s a h.0, typed_reads f c t a h.1)
    typed_reads (cat_term e f) c _ a h = absurd h
    typed_reads (cons_term e f) c (star s) a h = (typed_reads e c s a h.0, typed_reads f c (star s) a h.1)
    typed_reads (cons_term e f) c _ a h = absurd h
    typed_reads (inl_term e) c (sum s t) a h = typed_reads e c s a h
    typed_reads (inl_term e) c _ a h = absurd h
    typed_reads (inr_term e) c (sum s t) a h = typed_reads e c t a h
    typed_reads (inr_term e) c _ a h = absurd h
    typed_reads (let_term x s e f) c r a h =
        (typed_reads e c s a h.0, typed_reads f (with_let funs counts x s e c) r (more_streams a x s) h.1)
    typed_reads (let_par_term x y z e) c r a h =
        let s = par_left (type_at c z) in
        let t = par_right (type_at c z) in
        (typed_is_stream a z _ h.0, typed_reads e (with_parts x s y t z c) r (more_streams (more_streams a x s) y t) h.1)
    typed_reads (let_cat_term x y z e) c r a h =
        let s = cat_first (type_at c z) in
        let t = cat_second (type_at c z) in
        (typed_is_stream a z _ h.0, typed_reads e (with_fact x y (with_parts x s y t z c)) r (more_streams (more_streams a x s) y t) h.1)
    typed_reads (case_sum_term z t x e y f) c r a h =
        let s = sum_left (type_at c z) in
        let u = sum_right (type_at c z) in
        (typed_is_stream a z _ h.1, typed_reads e (with_name_like x s z c) r (more_streams a x s) h.2, typed_reads f (with_name_like y u z c) r (more_streams a y u) h.3)
    typed_reads (case_star_term z t e y ys f) c r a h =
        let s = star_item (type_at c z) in
        let u = star_items (type_at c z) in
        (typed_is_stream a z _ h.1, typed_reads e c r a h.2, typed_reads f (with_fact y ys (with_parts y s ys u z c)) r (more_streams (more_streams a y s) ys u) h.3)
    typed_reads (wait_term x t e) c r a h = (typed_is_stream a x _ h.1, typed_reads e (waited x c) r (fewer_streams a x) h.3)
    typed_reads (call_term f ms es) c r a h = typed_read es c (leaf_types (fun_at funs f).params) a h.3

    typed_read : (es : CoreTerms) (c : Context) (ts : List StreamType) {streams : ℕ → Bool} → AreStreams c.types streams → HaveTypes funs counts c es ts → ReadStreams es streams
    typed_read no_terms c ts a h = tt
    typed_read (term_before e es) c (t ∷ ts) a h = (typed_reads e c t a h.0, typed_read es c ts a h.1)
    typed_read (term_before e es) c [] a h = absurd h
