-- Lists that a loop reads, an item at a time.
use Rattle.std.proofs.Common.{◌≡◌, ◌∙◌, ℕ, ◌+◌, ◌-◌, ◌<◌, ◌≤◌, Bool, true, false, List, [], ◌∷◌, ◌++◌, ◌||◌, refl, sym, ap, length, take, drop, arith, append_assoc, append-nil, length-drop, take_all, subst}
use Rattle.std.proofs.lemmas.List.{drop-map, drop-drop}
use Rattle.grammar.specs.Reading.{Outcome, got, stuck, out, ◌>>=◌, starts}
use Rattle.grammar.proofs.Exact.{rest_is}
use Rattle.delta_tree.specs.SyntaxTree.{WrittenType, WrittenHist, Expression, Declaration}
use Rattle.delta_parse.specs.declared.terminal.Terminal.{Terminal}
use Rattle.delta_parse.specs.declared.terminal.Terminal.TheVariants.{Comma, TypeWord, FunWord}
use Rattle.delta_parse.specs.declared.plain.Plain.{Plain}
use Rattle.delta_parse.specs.Terminals.{Tok, is_kind, plain_of, plains}
use Rattle.delta_parse.specs.Parts.{Part, declarations, a_declaration, an_entry, more_entries, a_history, more_histories, an_expression, more_expressions, delta, Meant, stands_for}
use Rattle.delta_parse.specs.Tables.{delta_grammar, reading}
use Rattle.delta_parse.specs.declared.cursor.Halt.{Halt}
use Rattle.delta_parse.specs.declared.cursor.Halt.TheVariants as halts
use Rattle.delta_parse.specs.Readers.{Halts, behind}
use Rattle.delta_parse.proofs.Samples.{delta_checked}
use Rattle.delta_parse.proofs.Steps.{plains_length, declarations_is, entries_is, histories_is, expressions_is}

-- an item, and more behind it
abbrev pub item_then : {A : Type 0} → Outcome Tok A → (List Tok → Outcome Tok (List A)) → Outcome Tok (List A)
item_then o more = o >>= λ x. more x.1 >>= λ y. got (x.0 ∷ y.0) y.1

-- one more item
pub behind-got : {A : Type 0} (xs : List A) (v : A) (rest : List Tok) (o : Outcome Tok A) (more : List Tok → Outcome Tok (List A)) (m : Outcome Tok (List A))
    → m ≡ item_then o more → o ≡ got v rest → behind xs m ≡ behind (xs ++ (v ∷ [])) (more rest)
behind-got xs v rest o more m e h = ap (behind xs) (e ∙ ap (λ w. item_then w more) h) ∙ last (more rest) refl
  where
    last : (q : Outcome Tok (List _)) → more rest ≡ q → behind xs (item_then (got v rest) more) ≡ behind (xs ++ (v ∷ [])) (more rest)
    last (got y r) n = rw (n, append_assoc xs (v ∷ []) y) refl
    last (stuck i) n = rw n refl
    last out n = rw n refl

pub behind-stuck : {A : Type 0} (xs : List A) (n : ℕ) (o : Outcome Tok A) (more : List Tok → Outcome Tok (List A)) (m : Outcome Tok (List A))
    → m ≡ item_then o more → o ≡ stuck n → behind xs m ≡ stuck n
behind-stuck xs n o more m e h = ap (behind xs) (e ∙ ap (λ w. item_then w more) h)

pub behind-end : {A : Type 0} (xs : List A) (ts : List Tok) (m : Outcome Tok (List A)) → m ≡ got [] ts → behind xs m ≡ got xs ts
behind-end xs ts m e = ap (behind xs) e ∙ ap (λ ys. got ys ts) (append-nil xs)

pub behind-none : {A : Type 0} (m : Outcome Tok (List A)) → behind [] m ≡ m
behind-none (got y r) = refl
behind-none (stuck n) = refl
behind-none out = refl

histories_cons : (t : Tok) (mid : List Tok) → is_kind Comma t.kind ≡ true → reading more_histories (t ∷ mid) ≡ item_then (reading a_history mid) (reading more_histories)
histories_cons t mid k = go (reading a_history mid) refl
  where
    next : (v : WrittenHist) (r : List Tok) → reading a_history mid ≡ got v r → (q : Outcome Tok (List WrittenHist)) → reading more_histories r ≡ q
        → reading more_histories (t ∷ mid) ≡ item_then (reading a_history mid) (reading more_histories)
    next v r e (got y s) n = rw (histories_is (t ∷ mid), k, e, n) refl
    next v r e (stuck i) n = rw (histories_is (t ∷ mid), k, e, n) refl
    next v r e out n = rw (histories_is (t ∷ mid), k, e, n) refl

    go : (o : Outcome Tok WrittenHist) → reading a_history mid ≡ o → reading more_histories (t ∷ mid) ≡ item_then (reading a_history mid) (reading more_histories)
    go (got v r) e = next v r e (reading more_histories r) refl
    go (stuck i) e = rw (histories_is (t ∷ mid), k, e) refl
    go out e = rw (histories_is (t ∷ mid), k, e) refl

expressions_cons : (t : Tok) (mid : List Tok) → is_kind Comma t.kind ≡ true → reading more_expressions (t ∷ mid) ≡ item_then (reading an_expression mid) (reading more_expressions)
expressions_cons t mid k = go (reading an_expression mid) refl
  where
    next : (v : Expression) (r : List Tok) → reading an_expression mid ≡ got v r → (q : Outcome Tok (List Expression)) → reading more_expressions r ≡ q
        → reading more_expressions (t ∷ mid) ≡ item_then (reading an_expression mid) (reading more_expressions)
    next v r e (got y s) n = rw (expressions_is (t ∷ mid), k, e, n) refl
    next v r e (stuck i) n = rw (expressions_is (t ∷ mid), k, e, n) refl
    next v r e out n = rw (expressions_is (t ∷ mid), k, e, n) refl

    go : (o : Outcome Tok Expression) → reading an_expression mid ≡ o → reading more_expressions (t ∷ mid) ≡ item_then (reading an_expression mid) (reading more_expressions)
    go (got v r) e = next v r e (reading more_expressions r) refl
    go (stuck i) e = rw (expressions_is (t ∷ mid), k, e) refl
    go out e = rw (expressions_is (t ∷ mid), k, e) refl

entries_cons : (t : Tok) (mid : List Tok) → is_kind Comma t.kind ≡ true → reading more_entries (t ∷ mid) ≡ item_then (reading an_entry mid) (reading more_entries)
entries_cons t mid k = go (reading an_entry mid) refl
  where
    next : (v : (ℕ × WrittenType)) (r : List Tok) → reading an_entry mid ≡ got v r → (q : Outcome Tok (List (ℕ × WrittenType))) → reading more_entries r ≡ q
        → reading more_entries (t ∷ mid) ≡ item_then (reading an_entry mid) (reading more_entries)
    next v r e (got y s) n = rw (entries_is (t ∷ mid), k, e, n) refl
    next v r e (stuck i) n = rw (entries_is (t ∷ mid), k, e, n) refl
    next v r e out n = rw (entries_is (t ∷ mid), k, e, n) refl

    go : (o : Outcome Tok (ℕ × WrittenType)) → reading an_entry mid ≡ o → reading more_entries (t ∷ mid) ≡ item_then (reading an_entry mid) (reading more_entries)
    go (got v r) e = next v r e (reading more_entries r) refl
    go (stuck i) e = rw (entries_is (t ∷ mid), k, e) refl
    go out e = rw (entries_is (t ∷ mid), k, e) refl

declarations_cons : (ts : List Tok) → starts (λ j. is_kind TypeWord j || is_kind FunWord j) ts ≡ true → reading declarations ts ≡ item_then (reading a_declaration ts) (reading declarations)
declarations_cons ts k = go (reading a_declaration ts) refl
  where
    next : (v : Declaration) (r : List Tok) → reading a_declaration ts ≡ got v r → (q : Outcome Tok (List Declaration)) → reading declarations r ≡ q
        → reading declarations ts ≡ item_then (reading a_declaration ts) (reading declarations)
    next v r e (got y s) n = rw (declarations_is ts, k, e, n) refl
    next v r e (stuck i) n = rw (declarations_is ts, k, e, n) refl
    next v r e out n = rw (declarations_is ts, k, e, n) refl

    go : (o : Outcome Tok Declaration) → reading a_declaration ts ≡ o → reading declarations ts ≡ item_then (reading a_declaration ts) (reading declarations)
    go (got v r) e = next v r e (reading declarations r) refl
    go (stuck i) e = rw (declarations_is ts, k, e) refl
    go out e = rw (declarations_is ts, k, e) refl

-- a list that begins so has a first token
first_token : (is : Terminal → Bool) (ds : List Plain) → starts is (plains ds) ≡ true → (t : Plain) × (is t.kind ≡ true) × (plains ds ≡ plain_of t ∷ plains (drop 1 ds))
first_token is [] h = cc
first_token is (t ∷ ds) h = (t, h, refl)

drop_next : (n : ℕ) (ts : List Plain) → drop 1 (drop n ts) ≡ drop (n + 1) ts
drop_next n ts = drop-drop 1 n ts

-- what a loop sees at place n
pub histories_at : (ts : List Plain) (n : ℕ) → starts (is_kind Comma) (plains (drop n ts)) ≡ true
    → reading more_histories (plains (drop n ts)) ≡ item_then (reading a_history (plains (drop (n + 1) ts))) (reading more_histories)
histories_at ts n h =
    let t = first_token (is_kind Comma) (drop n ts) h in
    let e : plains (drop n ts) ≡ plain_of t.0 ∷ plains (drop (n + 1) ts) = t.2 ∙ ap (λ us. plain_of t.0 ∷ plains us) (drop_next n ts) in
    ap (reading more_histories) e ∙ histories_cons (plain_of t.0) (plains (drop (n + 1) ts)) t.1

pub expressions_at : (ts : List Plain) (n : ℕ) → starts (is_kind Comma) (plains (drop n ts)) ≡ true
    → reading more_expressions (plains (drop n ts)) ≡ item_then (reading an_expression (plains (drop (n + 1) ts))) (reading more_expressions)
expressions_at ts n h =
    let t = first_token (is_kind Comma) (drop n ts) h in
    let e : plains (drop n ts) ≡ plain_of t.0 ∷ plains (drop (n + 1) ts) = t.2 ∙ ap (λ us. plain_of t.0 ∷ plains us) (drop_next n ts) in
    ap (reading more_expressions) e ∙ expressions_cons (plain_of t.0) (plains (drop (n + 1) ts)) t.1

pub entries_at : (ts : List Plain) (n : ℕ) → starts (is_kind Comma) (plains (drop n ts)) ≡ true
    → reading more_entries (plains (drop n ts)) ≡ item_then (reading an_entry (plains (drop (n + 1) ts))) (reading more_entries)
entries_at ts n h =
    let t = first_token (is_kind Comma) (drop n ts) h in
    let e : plains (drop n ts) ≡ plain_of t.0 ∷ plains (drop (n + 1) ts) = t.2 ∙ ap (λ us. plain_of t.0 ∷ plains us) (drop_next n ts) in
    ap (reading more_entries) e ∙ entries_cons (plain_of t.0) (plains (drop (n + 1) ts)) t.1

pub declarations_at : (ts : List Plain) (n : ℕ) → starts (λ j. is_kind TypeWord j || is_kind FunWord j) (plains (drop n ts)) ≡ true
    → reading declarations (plains (drop n ts)) ≡ item_then (reading a_declaration (plains (drop n ts))) (reading declarations)
declarations_at ts n h = declarations_cons (plains (drop n ts)) h

-- where no more item begins
pub histories_end : (ts : List Tok) → starts (is_kind Comma) ts ≡ false → reading more_histories ts ≡ got [] ts
histories_end ts h = rw (histories_is ts, h) refl

pub expressions_end : (ts : List Tok) → starts (is_kind Comma) ts ≡ false → reading more_expressions ts ≡ got [] ts
expressions_end ts h = rw (expressions_is ts, h) refl

pub entries_end : (ts : List Tok) → starts (is_kind Comma) ts ≡ false → reading more_entries ts ≡ got [] ts
entries_end ts h = rw (entries_is ts, h) refl

pub declarations_end : (ts : List Tok) → starts (λ j. is_kind TypeWord j || is_kind FunWord j) ts ≡ false → reading declarations ts ≡ got [] ts
declarations_end ts h = rw (declarations_is ts, h) refl

-- the slice from a place
pub slice_from : (ts : List Plain) (n : ℕ) → take (length ts - n) (drop n ts) ≡ drop n ts
slice_from ts n = take_all _ _ (omega (arith, length-drop n ts))

-- what is left behind a part that was read at place n is what stands behind the place that its length says
pub left_at : (p : Part) (ts : List Plain) (n : ℕ) (v : Meant (stands_for p)) (rest : List Plain) → n ≤ length ts → length rest ≤ length ts - n
    → reading p (plains (drop n ts)) ≡ got v (plains rest) → plains rest ≡ plains (drop (length ts - length rest) ts)
unfolding reading
left_at p ts n v rest h w e =
    let us : List Tok = plains (drop n ts) in
    let r : plains rest ≡ drop (length us - length (plains rest)) us = rest_is delta delta_grammar delta_checked p us v (plains rest) e in
    let a : length us ≡ length ts - n = plains_length (drop n ts) ∙ length-drop n ts in
    let b : length (plains rest) ≡ length rest = plains_length rest in
    let k : n + (length us - length (plains rest)) ≡ length ts - length rest = omega arith in
    r ∙ drop-map plain_of (length us - length (plains rest)) (drop n ts) ∙ ap plains (drop-drop (length us - length (plains rest)) n ts ∙ ap (λ j. drop j ts) k)

-- what a loop's test says of the tokens from its place on
pub test_at : (is : Terminal → Bool) (ts : List Plain) (n : ℕ) (r b : Bool) → r ≡ starts is (plains (take (length ts - n) (drop n ts))) → r ≡ b → starts is (plains (drop n ts)) ≡ b
test_at is ts n r b e h = ap (λ us. starts is (plains us)) (sym (slice_from ts n)) ∙ sym e ∙ h

-- where a token stands, its place is below the end
pub inside : (is : Terminal → Bool) (ts : List Plain) (n : ℕ) → starts is (plains (drop n ts)) ≡ true → n + 1 ≤ length ts
inside is ts n h = go (drop n ts) h (length-drop n ts)
  where
    go : (ds : List Plain) → starts is (plains ds) ≡ true → length ds ≡ length ts - n → n + 1 ≤ length ts
    go [] h e = cc
    go (d ∷ ds) h e = omega arith

-- what was read from the slice from a place was read from that place
pub read_at : (p : Part) (ts : List Plain) (n : ℕ) (o : Outcome Tok (Meant (stands_for p))) → reading p (plains (take (length ts - n) (drop n ts))) ≡ o → reading p (plains (drop n ts)) ≡ o
read_at p ts n o e = ap (λ us. reading p (plains us)) (sym (slice_from ts n)) ∙ e

pub halts_at : (p : Part) (ts : List Plain) (n : ℕ) (h : Halt) → Halts h (reading p (plains (take (length ts - n) (drop n ts)))) → Halts h (reading p (plains (drop n ts)))
halts_at p ts n h e = (let P : List Plain → Type 0 = λ us. Halts h (reading p (plains us)) in subst P (slice_from ts n) e)

pub shorter_at : (ts : List Plain) (n k : ℕ) → k < length (take (length ts - n) (drop n ts)) → k < length ts - n
shorter_at ts n k h = (let e : length (take (length ts - n) (drop n ts)) ≡ length ts - n = ap length (slice_from ts n) ∙ length-drop n ts in omega arith)

-- an item more keeps what a loop has read
pub kept : {A : Type 0} (xs : List A) (v : A) (o : Outcome Tok A) (more : List Tok → Outcome Tok (List A)) (here rest next : List Tok) (start : Outcome Tok (List A))
    → behind xs (more here) ≡ start → more here ≡ item_then o more → o ≡ got v rest → rest ≡ next → behind (xs ++ (v ∷ [])) (more next) ≡ start
kept xs v o more here rest next start s e h r = ap (λ us. behind (xs ++ (v ∷ [])) (more us)) (sym r) ∙ sym (behind-got xs v rest o more (more here) e h) ∙ s

-- an item that can't be read ends the loop
pub ends : {A : Type 0} (halt : Halt) (xs : List A) (o : Outcome Tok A) (more : List Tok → Outcome Tok (List A)) (here : List Tok) (start : Outcome Tok (List A))
    → behind xs (more here) ≡ start → more here ≡ item_then o more → Halts halt o → Halts halt start
ends halts.Memory xs o more here start s e h = tt
ends (halts.At n) xs o more here start s e h = sym s ∙ behind-stuck xs n o more (more here) e h

-- the loop is over where no item begins
pub over : {A : Type 0} (xs : List A) (more : List Tok → Outcome Tok (List A)) (ts : List Plain) (n : ℕ) (start : Outcome Tok (List A))
    → behind xs (more (plains (drop n ts))) ≡ start → more (plains (drop n ts)) ≡ got [] (plains (drop n ts)) → start ≡ got xs (plains (take (length ts - n) (drop n ts)))
over xs more ts n start s e = sym s ∙ behind-end xs (plains (drop n ts)) (more (plains (drop n ts))) e ∙ ap (λ us. got xs (plains us)) (sym (slice_from ts n))
