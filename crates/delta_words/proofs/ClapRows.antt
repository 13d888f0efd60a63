-- The rows of clap's matches.
use Rattle.std.proofs.Common.{◌≡◌, ℕ, List, [], ◌∷◌, ◌++◌, Bool, true, false, ◌||◌, ◌==◌, cond, refl, sym, ap, ap₂, ◌∙◌, Option, Some, None, is_some, find, fold}
use Rattle.std.specs.Str.{bytes_eq}
use Rattle.std.specs.Option.{option_map_or}
use Rattle.std.proofs.lemmas.Bool.{eqb-true, and_parts}
use Rattle.clap.specs.Facts.{explicit_source}
use Rattle.clap.specs.Takes.{is_given}
use Rattle.clap.specs.Walk.{Row, Rule, Text, has_row, with_values, stronger, without, with_default, default_rows, reading_by}
use Rattle.clap.specs.declared.parser.matches.ValueSource.{ValueSource}
use Rattle.clap.specs.declared.parser.matches.ValueSource.TheVariants.{DefaultValue, CommandLine}
use Rattle.clap.specs.declared.builder.value_parser.Reading.{Reading}

-- texts that are equal byte by byte
pub same_bytes : (a b : List ℕ) → bytes_eq a b ≡ true → a ≡ b
same_bytes [] [] e = refl
same_bytes [] (y ∷ b) e = cc
same_bytes (x ∷ a) [] e = cc
same_bytes (x ∷ a) (y ∷ b) e =
    let h = and_parts (x == y) (bytes_eq a b) e in
    ap₂ (λ (k : ℕ) (r : List ℕ). k ∷ r) (eqb-true x y h.0) (same_bytes a b h.1)

-- the first row of an id
abbrev pub found : Text → List Row → Option Row
found id rows = find (λ r. bytes_eq r.id id) rows

-- the row of values that came from one source
abbrev pub row_of : Text → Reading → ValueSource → List Text → Row
row_of id how source values = record { id = id; values = values; count = None; source = Some source; reading = how }

-- there is a row exactly where one is found
pub has_row-found : (id : Text) (rows : List Row) → has_row id rows ≡ is_some (found id rows)
has_row-found id [] = refl
has_row-found id (r ∷ rows) = go (has_row-found id rows) (bytes_eq r.id id)
  where
    go : has_row id rows ≡ is_some (found id rows) → (b : Bool) → (b || has_row id rows) ≡ is_some (cond b (Some r) (found id rows))
    go h true = refl
    go h false = h

-- the first of two
abbrev pub or_found : Option Row → Option Row → Option Row
or_found (Some r) next = Some r
or_found None next = next

pub found-append : (id : Text) (rows : List Row) (r : Row) → found id (rows ++ r ∷ []) ≡ or_found (found id rows) (cond (bytes_eq r.id id) (Some r) None)
found-append id [] r = refl
found-append id (x ∷ rows) r = go (found-append id rows r) (bytes_eq x.id id)
  where
    go : found id (rows ++ r ∷ []) ≡ or_found (found id rows) (cond (bytes_eq r.id id) (Some r) None)
        → (b : Bool) → cond b (Some x) (found id (rows ++ r ∷ [])) ≡ or_found (cond b (Some x) (found id rows)) (cond (bytes_eq r.id id) (Some r) None)
    go h true = refl
    go h false = h

-- values of an id that has no row make a new one at the end
pub with_values-new : (id : Text) (how : Reading) (source : ValueSource) (values : List Text) (rows : List Row) → found id rows ≡ None
    → with_values id how source values rows ≡ rows ++ row_of id how source values ∷ []
with_values-new id how source values [] h = refl
with_values-new id how source values (r ∷ rows) h = go (λ k. with_values-new id how source values rows k) (bytes_eq r.id id) refl h
  where
    go : (found id rows ≡ None → with_values id how source values rows ≡ rows ++ row_of id how source values ∷ []) → (b : Bool) → bytes_eq r.id id ≡ b → cond b (Some r) (found id rows) ≡ None
        → with_values id how source values (r ∷ rows) ≡ (r ∷ rows) ++ row_of id how source values ∷ []
    go more true e k = cc
    go more false e k = rw e (ap (λ (rest : List Row). r ∷ rest) (more k))

-- values of an id are none of another
pub with_values-other : (id other : Text) (how : Reading) (source : ValueSource) (values : List Text) (rows : List Row) → bytes_eq id other ≡ false
    → found other (with_values id how source values rows) ≡ found other rows
with_values-other id other how source values [] apart = rw apart refl
with_values-other id other how source values (r ∷ rows) apart = go (with_values-other id other how source values rows apart) (bytes_eq r.id id) refl
  where
    go : found other (with_values id how source values rows) ≡ found other rows → (b : Bool) → bytes_eq r.id id ≡ b → found other (with_values id how source values (r ∷ rows)) ≡ found other (r ∷ rows)
    go more true e = let i : bytes_eq r.id other ≡ false = ap (λ (x : Text). bytes_eq x other) (same_bytes r.id id e) ∙ apart in (rw (e, i) refl)
    go more false e = rw e (ap (λ (o : Option Row). cond (bytes_eq r.id other) (Some r) o) more)

-- values of an id that has a row stand behind those that it has
pub with_values-more : (id : Text) (how : Reading) (values more : List Text) (rows : List Row) → found id rows ≡ Some (row_of id how CommandLine values)
    → found id (with_values id how CommandLine more rows) ≡ Some (row_of id how CommandLine (values ++ more))
with_values-more id how values more [] h = cc
with_values-more id how values more (r ∷ rows) h = go (λ k. with_values-more id how values more rows k) (bytes_eq r.id id) refl h
  where
    longer : Row → Row
    longer x = record x { values = x.values ++ more; source = Some (stronger x.source CommandLine) }

    go : (found id rows ≡ Some (row_of id how CommandLine values) → found id (with_values id how CommandLine more rows) ≡ Some (row_of id how CommandLine (values ++ more)))
        → (b : Bool) → bytes_eq r.id id ≡ b → cond b (Some r) (found id rows) ≡ Some (row_of id how CommandLine values)
        → found id (with_values id how CommandLine more (r ∷ rows)) ≡ Some (row_of id how CommandLine (values ++ more))
    go rest true e k =
        let same : r ≡ row_of id how CommandLine values = cc in
        let there : found id (with_values id how CommandLine more (r ∷ rows)) ≡ Some (longer r) = (rw (e, e) refl) in
        there ∙ ap (λ (x : Row). Some (longer x)) same
    go rest false e k = rw (e, e) (rest k)

-- without an id that has no row, the rows stay
pub without-new : (id : Text) (rows : List Row) → found id rows ≡ None → without id rows ≡ rows
without-new id [] h = refl
without-new id (r ∷ rows) h = go (λ k. without-new id rows k) (bytes_eq r.id id) refl h
  where
    go : (found id rows ≡ None → without id rows ≡ rows) → (b : Bool) → bytes_eq r.id id ≡ b → cond b (Some r) (found id rows) ≡ None → without id (r ∷ rows) ≡ r ∷ rows
    go more true e k = cc
    go more false e k = rw e (ap (λ (rest : List Row). r ∷ rest) (more k))

-- a first use makes a new row at the end
pub used-new : (id : Text) (how : Reading) (values : List Text) (rows : List Row) → found id rows ≡ None
    → with_values id how CommandLine values (without id rows) ≡ rows ++ row_of id how CommandLine values ∷ []
used-new id how values rows h = ap (with_values id how CommandLine values) (without-new id rows h) ∙ with_values-new id how CommandLine values rows h

-- a default changes no row that is there
default-found : (id : Text) (rows : List Row) (a : Rule) (r : Row) → found id rows ≡ Some r → found id (with_default rows a) ≡ Some r
default-found id rows a r h = go (has_row a.id rows) refl a.defaults
  where
    go : (b : Bool) → has_row a.id rows ≡ b → (values : List Text) → found id (cond b rows (default_rows a.id (reading_by a) values rows)) ≡ Some r
    go true e values = h
    go false e [] = h
    go false e (v ∷ vs) =
        let new : found a.id rows ≡ None = none (found a.id rows) (sym (has_row-found a.id rows) ∙ e) in
        (ap (found id) (with_values-new a.id (reading_by a) DefaultValue (v ∷ vs) rows new)
        ∙ found-append id rows (row_of a.id (reading_by a) DefaultValue (v ∷ vs)))
        ∙ ap (λ o. or_found o (cond (bytes_eq a.id id) (Some (row_of a.id (reading_by a) DefaultValue (v ∷ vs))) None)) h
      where
        none : (o : Option Row) → is_some o ≡ false → o ≡ None
        none None k = refl
        none (Some x) k = cc

pub defaults-found : (id : Text) (rows : List Row) (rules : List Rule) (r : Row) → found id rows ≡ Some r → found id (fold with_default rows rules) ≡ Some r
defaults-found id rows [] r h = h
defaults-found id rows (a ∷ rules) r h = defaults-found id (with_default rows a) rules r (default-found id rows a r h)

-- what the words gave is given
pub given : (id : Text) (how : Reading) (values : List Text) (rows : List Row) → found id rows ≡ Some (row_of id how CommandLine values) → is_given id rows ≡ true
given id how values rows h = ap (λ o. option_map_or (λ (r : Row). explicit_source r.source) o false) h
