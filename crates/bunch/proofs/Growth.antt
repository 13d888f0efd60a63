-- A table with one more name, or with one more fact.
use mathlib.Core.Path.{fun_ext}
use Rattle.std.proofs.Common.{◌≡◌, ℕ, suc, Bool, true, false, true≢false, ◌&&◌, ◌||◌, List, [], ◌∷◌, ◌++◌, map, length, cond, eqb, refl, ap, ap₂, sym, ◌∙◌, subst, arith, get_or, set, All, length-append, length-set, ◌+◌, ◌≢◌}
use Rattle.std.proofs.lemmas.Bool.{eq-eqb, eqb-true, ne_eqb}
use Rattle.std.proofs.lemmas.List.{length-map}
use Rattle.std.proofs.lemmas.List.Elements.{All-nil, All-cons, All-head, All-tail, All-push, All-set, All-map, All-from_get_or}
use Rattle.bunch.specs.Names.{holds, place_in, value_at}
use Rattle.bunch.specs.Facts.{Facts, among, before_like, after_like, before_let, after_let, place_like, place_let, put_before}
use Rattle.bunch.specs.Table.{facts_in, IsSquare, rows_by, with_column, grown_rows, put_rows}
use Rattle.bunch.proofs.NameLists.{holds-append}
use Rattle.bunch.proofs.Tables.{value_at-none, value_at-nil, value_at-map, value_at-end, value_at-place, value_at-set}

-- a column changes no number of rows
pub length-with_column : (rows : List (List Bool)) (bs : List Bool) → length bs ≡ length rows → length (with_column rows bs) ≡ length rows
length-with_column [] bs h = refl
length-with_column (r ∷ rs) [] h = absurd (omega arith)
length-with_column (r ∷ rs) (b ∷ bs) h = ap suc (length-with_column rs bs (omega arith))

-- each row has one fact more
All-with_column : (k : ℕ) (rows : List (List Bool)) (bs : List Bool) → All (λ r. length r ≡ k) rows → All (λ r. length r ≡ k + 1) (with_column rows bs)
All-with_column k [] bs h = All-nil (λ r. length r ≡ k + 1)
All-with_column k (r ∷ rs) [] h = All-nil (λ r. length r ≡ k + 1)
All-with_column k (r ∷ rs) (b ∷ bs) h =
    All-cons (λ r. length r ≡ k + 1) (r ++ b ∷ []) (with_column rs bs)
    (length-append r (b ∷ []) ∙ ap (λ n. n + 1) (All-head (λ r. length r ≡ k) r rs h))
    (All-with_column k rs bs (All-tail (λ r. length r ≡ k) r rs h))

-- the row of a name has its fact before the new one at its end
value_at-column : (ns : List ℕ) (rows : List (List Bool)) (bs : List Bool) (a : ℕ) → length rows ≡ length ns → length bs ≡ length ns → holds a ns ≡ true → value_at [] ns (with_column rows bs) a ≡ value_at [] ns rows a ++ value_at false ns bs a ∷ []
value_at-column [] rows bs a h k there = absurd (true≢false (sym there))
value_at-column (n ∷ ns) [] bs a h k there = absurd (omega arith)
value_at-column (n ∷ ns) (r ∷ rs) [] a h k there = absurd (omega arith)
value_at-column (n ∷ ns) (r ∷ rs) (b ∷ bs) a h k there = go (eqb a n) there (value_at-column ns rs bs a (omega arith) (omega arith))
  where
    go : (c : Bool) → (c || holds a ns) ≡ true → (holds a ns ≡ true → value_at [] ns (with_column rs bs) a ≡ value_at [] ns rs a ++ value_at false ns bs a ∷ [])
        → cond c (r ++ b ∷ []) (value_at [] ns (with_column rs bs) a) ≡ cond c r (value_at [] ns rs a) ++ cond c b (value_at false ns bs a) ∷ []
    go true th ih = refl
    go false th ih = ih th

-- the row of a name that is there is one of the rows
value_at-All : (k : ℕ) (ns : List ℕ) (rows : List (List Bool)) (a : ℕ) → length rows ≡ length ns → All (λ r. length r ≡ k) rows → holds a ns ≡ true → length (value_at [] ns rows a) ≡ k
value_at-All k [] rows a h f there = absurd (true≢false (sym there))
value_at-All k (n ∷ ns) [] a h f there = absurd (omega arith)
value_at-All k (n ∷ ns) (r ∷ rs) a h f there = go (eqb a n) there (value_at-All k ns rs a (omega arith) (All-tail (λ r. length r ≡ k) r rs f))
  where
    go : (c : Bool) → (c || holds a ns) ≡ true → (holds a ns ≡ true → length (value_at [] ns rs a) ≡ k) → length (cond c r (value_at [] ns rs a)) ≡ k
    go true th ih = All-head (λ r. length r ≡ k) r rs f
    go false th ih = ih th

-- the facts of a table have the first name among its names
pub facts_in-first : (ns : List ℕ) (rows : List (List Bool)) (a b : ℕ) → holds a ns ≡ false → facts_in ns rows a b ≡ false
facts_in-first ns rows a b h = ap (λ r. value_at false ns r b) (value_at-none [] ns rows a h) ∙ value_at-nil false ns b

-- and the second
pub facts_in-second : (ns : List ℕ) (rows : List (List Bool)) (a b : ℕ) → holds b ns ≡ false → facts_in ns rows a b ≡ false
facts_in-second ns rows a b h = value_at-none false ns (value_at [] ns rows a) b h

-- so both names of a fact are there
pub facts_in-names : (ns : List ℕ) (rows : List (List Bool)) (a b : ℕ) → facts_in ns rows a b ≡ true → (holds a ns ≡ true) × (holds b ns ≡ true)
facts_in-names ns rows a b h = (there (holds a ns) (facts_in-first ns rows a b), there (holds b ns) (facts_in-second ns rows a b))
  where
    there : (c : Bool) → (c ≡ false → facts_in ns rows a b ≡ false) → c ≡ true
    there true f = refl
    there false f = absurd (true≢false (sym h ∙ f refl))

-- facts with one more name: whether each other name stands before it, and whether it stands before each
abbrev pub grown_facts : ℕ → (ℕ → Bool) → (ℕ → Bool) → Facts → Facts
grown_facts x befores afters before a b = cond (eqb a x) (cond (eqb b x) false (afters b)) (cond (eqb b x) (befores a) (before a b))

cond_same : (c : Bool) → cond c false false ≡ false
cond_same true = refl
cond_same false = refl

-- the facts of a table with one more name
pub facts_in-grown : (ns : List ℕ) (rows : List (List Bool)) (bs cs : List Bool) (x a b : ℕ) → IsSquare ns rows → length bs ≡ length ns → length cs ≡ length ns → holds x ns ≡ false
    → facts_in (ns ++ x ∷ []) (grown_rows rows bs cs) a b ≡ grown_facts x (value_at false ns bs) (value_at false ns cs) (facts_in ns rows) a b
facts_in-grown ns rows bs cs x a b sq hb hc new =
    ap (λ r. value_at false (ns ++ x ∷ []) r b) (value_at-end [] ns (with_column rows bs) x (cs ++ false ∷ []) a (length-with_column rows bs (hb ∙ sym sq.has_each_row) ∙ sq.has_each_row) new)
    ∙ go (eqb a x)
  where
    old : (c : Bool) → holds a ns ≡ c → value_at false (ns ++ x ∷ []) (value_at [] ns (with_column rows bs) a) b ≡ cond (eqb b x) (value_at false ns bs a) (facts_in ns rows a b)
    old true there =
        ap (λ r. value_at false (ns ++ x ∷ []) r b) (value_at-column ns rows bs a sq.has_each_row hb there)
        ∙ value_at-end false ns (value_at [] ns rows a) x (value_at false ns bs a) b (value_at-All (length ns) ns rows a sq.has_each_row sq.has_each_fact there) new
    old false gone =
        ap (λ r. value_at false (ns ++ x ∷ []) r b) (value_at-none [] ns (with_column rows bs) a gone)
        ∙ (value_at-nil false (ns ++ x ∷ []) b
        ∙ sym (ap₂ (λ u v. cond (eqb b x) u v) (value_at-none false ns bs a gone) (facts_in-first ns rows a b gone) ∙ cond_same (eqb b x)))

    go : (c : Bool) → value_at false (ns ++ x ∷ []) (cond c (cs ++ false ∷ []) (value_at [] ns (with_column rows bs) a)) b ≡ cond c (cond (eqb b x) false (value_at false ns cs b)) (cond (eqb b x) (value_at false ns bs a) (facts_in ns rows a b))
    go true = value_at-end false ns cs x false b hc new
    go false = old (holds a ns) refl

-- it is square again
pub IsSquare-grown : (ns : List ℕ) (rows : List (List Bool)) (bs cs : List Bool) (x : ℕ) → IsSquare ns rows → length bs ≡ length ns → length cs ≡ length ns → IsSquare (ns ++ x ∷ []) (grown_rows rows bs cs)
IsSquare-grown ns rows bs cs x sq hb hc = record {
  has_each_row =
      length-append (with_column rows bs) ((cs ++ false ∷ []) ∷ [])
      ∙ (ap (λ n. n + 1) (length-with_column rows bs (hb ∙ sym sq.has_each_row) ∙ sq.has_each_row)
      ∙ sym (length-append ns (x ∷ [])));
  has_each_fact =
      subst (λ n. All (λ r. length r ≡ n) (grown_rows rows bs cs)) (sym (length-append ns (x ∷ [])))
      (All-push (λ r. length r ≡ length ns + 1) (with_column rows bs) (cs ++ false ∷ []) (All-with_column (length ns) rows bs sq.has_each_fact) (length-append cs (false ∷ []) ∙ ap (λ n. n + 1) hc));
}

-- values that are made of their names, and false of all others
made_by : (f : ℕ → Bool) (ns : List ℕ) (a : ℕ) → (holds a ns ≡ false → f a ≡ false) → value_at false ns (map f ns) a ≡ f a
made_by f ns a out = value_at-map false f ns a ∙ go (holds a ns) refl
  where
    go : (c : Bool) → holds a ns ≡ c → cond c (f a) false ≡ f a
    go true there = refl
    go false gone = sym (out gone)

unless : (c b : Bool) → b ≡ false → cond c false b ≡ false
unless true b h = refl
unless false b h = h

-- a name that is placed like z
pub facts_in-like : (ns : List ℕ) (rows : List (List Bool)) (x z : ℕ) → IsSquare ns rows → holds x ns ≡ false
    → (bs cs : List Bool) → bs ≡ map (before_like z (facts_in ns rows)) ns → cs ≡ map (after_like z (facts_in ns rows)) ns → length bs ≡ length ns → length cs ≡ length ns
    → facts_in (ns ++ x ∷ []) (grown_rows rows bs cs) ≡ place_like x z (facts_in ns rows)
facts_in-like ns rows x z sq new bs cs eb ec hb hc = fun_ext (λ a. fun_ext (λ b. facts_in-grown ns rows bs cs x a b sq hb hc new ∙ at a b))
  where
    at : (a b : ℕ) → grown_facts x (value_at false ns bs) (value_at false ns cs) (facts_in ns rows) a b ≡ place_like x z (facts_in ns rows) a b
    at a b =
        ap₂ (λ u v. cond (eqb a x) (cond (eqb b x) false v) (cond (eqb b x) u (facts_in ns rows a b)))
        (ap (λ l. value_at false ns l a) eb ∙ made_by (before_like z (facts_in ns rows)) ns a (λ out. unless (eqb a z) (facts_in ns rows a z) (facts_in-first ns rows a z out)))
        (ap (λ l. value_at false ns l b) ec ∙ made_by (after_like z (facts_in ns rows)) ns b (λ out. unless (eqb b z) (facts_in ns rows z b) (facts_in-second ns rows z b out)))

-- a name that is placed by the free names of what it is bound to
pub facts_in-let : (ns : List ℕ) (rows : List (List Bool)) (x : ℕ) (free : List ℕ) (inert : Bool) → IsSquare ns rows → holds x ns ≡ false
    → (bs cs : List Bool) → bs ≡ map (before_let free inert (facts_in ns rows)) ns → cs ≡ map (after_let free (facts_in ns rows)) ns → length bs ≡ length ns → length cs ≡ length ns
    → facts_in (ns ++ x ∷ []) (grown_rows rows bs cs) ≡ among (ns ++ x ∷ []) (place_let x free inert (facts_in ns rows))
facts_in-let ns rows x free inert sq new bs cs eb ec hb hc = fun_ext (λ a. fun_ext (λ b. facts_in-grown ns rows bs cs x a b sq hb hc new ∙ at a b))
  where
    go : (p q s t g h o : Bool) → (p ≡ false → o ≡ false) → (q ≡ false → o ≡ false)
        → cond s (cond t false (cond q h false)) (cond t (cond p g false) o) ≡ (((p || (s || false)) && (q || (t || false))) && cond s (cond t false h) (cond t g o))
    go true true true true g h o l r = refl
    go true false true true g h o l r = refl
    go false true true true g h o l r = refl
    go false false true true g h o l r = refl
    go true true true false g h o l r = refl
    go true false true false g h o l r = refl
    go false true true false g h o l r = refl
    go false false true false g h o l r = refl
    go true true false true g h o l r = refl
    go true false false true g h o l r = refl
    go false true false true g h o l r = refl
    go false false false true g h o l r = refl
    go true true false false g h o l r = refl
    go true false false false g h o l r = r refl
    go false q false false g h o l r = l refl

    at : (a b : ℕ) → grown_facts x (value_at false ns bs) (value_at false ns cs) (facts_in ns rows) a b ≡ among (ns ++ x ∷ []) (place_let x free inert (facts_in ns rows)) a b
    at a b =
        ap₂ (λ u v. cond (eqb a x) (cond (eqb b x) false v) (cond (eqb b x) u (facts_in ns rows a b)))
        (ap (λ l. value_at false ns l a) eb ∙ value_at-map false (before_let free inert (facts_in ns rows)) ns a)
        (ap (λ l. value_at false ns l b) ec ∙ value_at-map false (after_let free (facts_in ns rows)) ns b)
        ∙ (go (holds a ns) (holds b ns) (eqb a x) (eqb b x) (before_let free inert (facts_in ns rows) a) (after_let free (facts_in ns rows) b) (facts_in ns rows a b) (facts_in-first ns rows a b) (facts_in-second ns rows a b)
        ∙ ap₂ (λ u v. (u && v) && place_let x free inert (facts_in ns rows) a b) (sym (holds-append a ns (x ∷ []))) (sym (holds-append b ns (x ∷ []))))

-- the rows of a list of names, by any facts that have none of other names
pub facts_in-by : (ns : List ℕ) (before : Facts) → ((a b : ℕ) → holds a ns ≡ false → before a b ≡ false) → ((a b : ℕ) → holds b ns ≡ false → before a b ≡ false) → facts_in ns (rows_by before ns) ≡ before
facts_in-by ns before first second = fun_ext (λ a. fun_ext (λ b. ap (λ r. value_at false ns r b) (value_at-map [] (λ x. map (before x) ns) ns a) ∙ go (holds a ns) refl b))
  where
    go : {a : ℕ} (c : Bool) → holds a ns ≡ c → (b : ℕ) → value_at false ns (cond c (map (before a) ns) []) b ≡ before a b
    go {a = a} true there b = made_by (before a) ns b (second a b)
    go {a = a} false gone b = value_at-nil false ns b ∙ sym (first a b gone)

-- a table with one more fact
pub facts_in-put : (ns : List ℕ) (rows : List (List Bool)) (x y : ℕ) → IsSquare ns rows → holds x ns ≡ true → holds y ns ≡ true → facts_in ns (put_rows rows (place_in x ns) (place_in y ns)) ≡ put_before x y (facts_in ns rows)
facts_in-put ns rows x y sq hx hy = fun_ext (λ a. fun_ext (λ b. ap (λ r. value_at false ns r b) (value_at-set [] ns rows x (set (get_or rows (place_in x ns) []) (place_in y ns) true) a sq.has_each_row hx) ∙ go a b (eqb a x) refl))
  where
    row : value_at [] ns rows x ≡ get_or rows (place_in x ns) []
    row = value_at-place [] ns rows x sq.has_each_row

    long : length (get_or rows (place_in x ns) []) ≡ length ns
    long = ap length (sym row) ∙ value_at-All (length ns) ns rows x sq.has_each_row sq.has_each_fact hx

    or_cond : (c b : Bool) → cond c true b ≡ (c || b)
    or_cond true b = refl
    or_cond false b = refl

    go : (a b : ℕ) (c : Bool) → eqb a x ≡ c → value_at false ns (cond c (set (get_or rows (place_in x ns) []) (place_in y ns) true) (value_at [] ns rows a)) b ≡ ((c && eqb b y) || facts_in ns rows a b)
    go a b true e =
        value_at-set false ns (get_or rows (place_in x ns) []) y true b long hy
        ∙ (or_cond (eqb b y) (value_at false ns (get_or rows (place_in x ns) []) b)
        ∙ ap (λ r. eqb b y || value_at false ns r b) (sym row ∙ ap (value_at [] ns rows) (sym (eqb-true a x e))))
    go a b false e = refl

-- it is square still
pub IsSquare-put : (ns : List ℕ) (rows : List (List Bool)) (x j : ℕ) → IsSquare ns rows → holds x ns ≡ true → IsSquare ns (put_rows rows (place_in x ns) j)
IsSquare-put ns rows x j sq hx = record {
  has_each_row = length-set rows (place_in x ns) (set (get_or rows (place_in x ns) []) j true) ∙ sq.has_each_row;
  has_each_fact =
      All-set (λ r. length r ≡ length ns) rows (place_in x ns) (set (get_or rows (place_in x ns) []) j true)
      (length-set (get_or rows (place_in x ns) []) j true ∙ (ap length (sym (value_at-place [] ns rows x sq.has_each_row)) ∙ value_at-All (length ns) ns rows x sq.has_each_row sq.has_each_fact hx)) sq.has_each_fact;
}

-- the rows by facts are square
pub IsSquare-by : (ns : List ℕ) (before : Facts) → IsSquare ns (rows_by before ns)
IsSquare-by ns before = record {
  has_each_row = length-map ns (λ x. map (before x) ns);
  has_each_fact =
      All-map (λ r. length r ≡ length ns) (λ x. map (before x) ns) ns
      (All-from_get_or (λ x. length (map (before x) ns) ≡ length ns) ns 0 (λ i h. length-map ns (before (get_or ns i 0))));
}

-- a name that is placed like z has on each other name z's facts, where z isn't before itself
pub place_like-same : (before : Facts) (x z a : ℕ) → before z z ≡ false → a ≢ x → (place_like x z before x a ≡ before z a) × (place_like x z before a x ≡ before a z)
place_like-same before x z a irr ne = (first, second)
  where
    here : eqb x x ≡ true
    here = eq-eqb x x refl

    other : eqb a x ≡ false
    other = ne_eqb a x ne

    like : (c : Bool) → eqb a z ≡ c → (cond c false (before z a) ≡ before z a) × (cond c false (before a z) ≡ before a z)
    like true e = let same = eqb-true a z e in (sym (ap (λ n. before z n) same ∙ irr), sym (ap (λ n. before n z) same ∙ irr))
    like false e = (refl, refl)

    first : place_like x z before x a ≡ before z a
    first = ap₂ (λ s t. cond s (cond t false (after_like z before a)) (cond t (before_like z before x) (before x a))) here other ∙ (like (eqb a z) refl).0

    second : place_like x z before a x ≡ before a z
    second = ap₂ (λ s t. cond s (cond t false (after_like z before x)) (cond t (before_like z before a) (before a x))) other here ∙ (like (eqb a z) refl).1
