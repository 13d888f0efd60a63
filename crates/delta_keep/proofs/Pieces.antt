-- What readers of pieces answer, by what the readers of the pieces do.
use Rattle.std.proofs.Common.{◌≡◌, ◌∙◌, ℕ, suc, List, [], ◌∷◌, ◌++◌, length, ap, sym, refl, subst, append_assoc}
use mir.Val.{to_z, of_z}
use Rattle.std.specs.Int.{w64}
use Rattle.std.proofs.lemmas.Int.{to_z-of_z}
use Rattle.std.specs.Prelude.{ℤ, ⊤, Some, Result, Ok, Err}
use Rattle.kept_state.specs.KeptBytes.{short_bytes, int_bytes}
use Rattle.kept_state.specs.KeptForm.{Kind, Part, any, form, settle, after_byte, term_kind, node_parts}
use Rattle.kept_state.specs.KeptSizes.{FitsInt}
use Rattle.delta_keep.specs.declared.halt.Halt.{Halt}
use Rattle.delta_keep.specs.declared.halt.Halt.TheVariants.{Memory, At}
use Rattle.delta_keep.specs.Walking.{walk, walk_on, passed}
use Rattle.delta_keep.specs.Reads.{Read, Stops, Reads, HasNoForm, Boxes}
use Rattle.delta_keep.proofs.Walks.{◌>>=◌, walk_2}

-- it goes on behind a piece that was passed
pub behind : (ps qs : List Part) (bytes rest : List ℕ) → walk (settle ps) bytes ≡ passed rest → walk (settle (ps ++ qs)) bytes ≡ walk (settle qs) rest
behind ps qs bytes rest h = walk_2 ps qs bytes ∙ ap (λ u. u >>= λ r. walk (settle qs) r) h

-- how three, and then others, stand behind one another
pub grouped : (x y z b : List ℕ) → (x ++ (y ++ z)) ++ b ≡ x ++ (y ++ (z ++ b))
grouped x y z b = append_assoc x (y ++ z) b ∙ ap (λ bs. x ++ bs) (append_assoc y z b)

-- parts of what was read
pub first_of : {F G : Type 0} → F × G → F
first_of (a, b) = a

pub second_of : {F G : Type 0} → F × G → G
second_of (a, b) = b

pub regrouped : {F G H : Type 0} → (F × G) × H → F × G × H
regrouped ((a, b), c) = (a, b, c)

pub names_fit : {F G H J : Type 0} → (F × G × H) × J → F × G × H × J
names_fit ((a, b, c), d) = (a, b, c, d)

pub flat_3 : {F G H : Type 0} → F × (G × H) → F × G × H
flat_3 (a, (b, c)) = (a, b, c)

pub flat_5 : {F G H J K : Type 0} → F × (G × (H × (J × K))) → F × G × H × J × K
flat_5 (a, (b, (c, (d, e)))) = (a, b, c, d, e)

pub flat_2_3 : {F G H J K : Type 0} → (F × G) × (H × (J × K)) → F × G × H × J × K
flat_2_3 ((a, b), (c, (d, e))) = (a, b, c, d, e)

pub flat_2_4 : {F G H J K L : Type 0} → (F × G) × (H × (J × (K × L))) → F × G × H × J × K × L
flat_2_4 ((a, b), (c, (d, (e, f)))) = (a, b, c, d, e, f)

pub flat_later : {F G H J : Type 0} → F × ((G × H) × J) → F × G × H × J
flat_later (a, ((b, c), d)) = (a, b, c, d)

-- two pieces in turn,
pub then : {F G : Type 0} {ps qs : List Part} {bytes w mid v rest : List ℕ} → Read ps bytes w mid F → Read qs mid v rest G → Read (ps ++ qs) bytes (w ++ v) rest (F × G)
then {F} {G} {ps} {qs} {bytes} {w} {mid} {v} {rest} h k = record {
  spelled = h.spelled ∙ (ap (λ bs. w ++ bs) k.spelled ∙ sym (append_assoc w v rest));
  walked = behind ps qs bytes mid h.walked ∙ k.walked;
  sizes = (h.sizes, k.sizes);
}

-- written in another way, and with other sizes
pub as_written : {F G : Type 0} {ps : List Part} {bytes w v rest : List ℕ} → w ≡ v → (F → G) → Read ps bytes w rest F → Read ps bytes v rest G
as_written {F} {G} {ps} {bytes} {w} {v} {rest} q f h = record { spelled = h.spelled ∙ ap (λ bs. bs ++ rest) q; walked = h.walked; sizes = f h.sizes }

-- it stops at the first of two,
pub stops_first : (ps qs : List Part) (bytes : List ℕ) (e : Halt) → Stops ps bytes e → Stops (ps ++ qs) bytes e
stops_first ps qs bytes Memory h = tt
stops_first ps qs bytes (At left) h = walk_2 ps qs bytes ∙ ap (λ u. u >>= λ r. walk (settle qs) r) h

-- or at the second
pub stops_second : {F : Type 0} {ps : List Part} (qs : List Part) {bytes w mid : List ℕ} (e : Halt) → Read ps bytes w mid F → Stops qs mid e → Stops (ps ++ qs) bytes e
stops_second qs Memory h k = tt
stops_second {F} {ps} qs {bytes} {w} {mid} (At left) h k = behind ps qs bytes mid h.walked ∙ k

-- a piece, and what the reader of those behind it answers
pub then_reads : {V F : Type 0} {ps : List Part} (qs : List Part) {bytes w mid : List ℕ} (v rest : V → List ℕ) (G : V → Type 0) (r : Result V Halt) → Read ps bytes w mid F → Reads qs mid v rest G r
    → Reads (ps ++ qs) bytes (λ x. w ++ v x) rest G r
then_reads qs v rest G (Ok x) h k = as_written refl second_of (then h k)
then_reads qs v rest G (Err e) h k = stops_second qs e h k

-- a number with a sign, as it is handed on
pub handed_on : {bytes rest : List ℕ} (n : ℤ) → Read (any 8 ∷ []) bytes (int_bytes n) rest (FitsInt n) → Read (any 8 ∷ []) bytes (int_bytes (to_z w64 (of_z w64 n))) rest (FitsInt (to_z w64 (of_z w64 n)))
handed_on {bytes} {rest} n h = subst (λ m. Read (any 8 ∷ []) bytes (int_bytes m) rest (FitsInt m)) (sym (to_z-of_z w64 n h.sizes)) h

-- a form, and its fields
form_walk : (k : Kind) (n : ℕ) (fs : List Part) (mid : List ℕ) → after_byte (form k ∷ []) n ≡ Some fs → walk (form k ∷ []) (n ∷ mid) ≡ walk (settle fs) mid
form_walk k n fs mid h = ap (λ o. walk_on o (suc (length mid)) (λ next. walk (settle next) mid)) h

pub in_form : {F : Type 0} (k : Kind) (n : ℕ) {fs : List Part} {mid w rest : List ℕ} → after_byte (form k ∷ []) n ≡ Some fs → Read fs mid w rest F → Read (form k ∷ []) (n ∷ mid) (n ∷ w) rest F
in_form k n {fs} {mid} {w} {rest} a h = record {
  spelled = ap (λ bs. n ∷ bs) h.spelled;
  walked = form_walk k n fs mid a ∙ h.walked;
  sizes = h.sizes;
}

-- a form without fields
pub plain : {F : Type 0} (k : Kind) (n : ℕ) (mid : List ℕ) → after_byte (form k ∷ []) n ≡ Some [] → F → Read (form k ∷ []) (n ∷ mid) (n ∷ []) mid F
plain k n mid a f = record { spelled = refl; walked = form_walk k n [] mid a; sizes = f }

-- it stops in a field
pub stops_in_form : (k : Kind) (n : ℕ) (fs : List Part) (mid : List ℕ) (e : Halt) → after_byte (form k ∷ []) n ≡ Some fs → Stops fs mid e → Stops (form k ∷ []) (n ∷ mid) e
stops_in_form k n fs mid Memory a h = tt
stops_in_form k n fs mid (At left) a h = form_walk k n fs mid a ∙ h

-- there is no form
pub stops_before : (k : Kind) (bytes : List ℕ) (e : Halt) → HasNoForm bytes e → Stops (form k ∷ []) bytes e
stops_before k bytes Memory h = tt
stops_before k bytes (At left) (none, missing) = rw (none, missing) refl

-- the first byte, by the number that it is
pub begins : {m : ℕ} (n : ℕ) {bytes rest : List ℕ} → bytes ≡ m ∷ rest → m ≡ n → bytes ≡ n ∷ rest
begins {m} n {bytes} {rest} h q = h ∙ ap (λ i. i ∷ rest) q

-- what is put into a box
pub boxed_read : {V W : Type 0} {parts : List Part} {bytes behind : List ℕ} {w : W} (value : V → W) (rest : V → List ℕ) (written : W → List ℕ) (Fits : W → Type 0) (r : Result V Halt) → Boxes value rest w behind r
    → Read parts bytes (written w) behind (Fits w) → Reads parts bytes (λ x. written (value x)) rest (λ x. Fits (value x)) r
boxed_read value rest written Fits (Ok v) (q, s) h = rw (q, s) h
boxed_read value rest written Fits (Err Memory) b h = tt
boxed_read value rest written Fits (Err (At left)) b h = absurd b

-- a node that stands here, whose term stands next
place_read : (at : ℕ) (bytes : List ℕ) → Read (any 4 ∷ []) (short_bytes at ++ bytes) (short_bytes at) bytes ⊤
place_read at bytes = record { spelled = refl; walked = refl; sizes = tt }

pub in_node : {F : Type 0} (at : ℕ) {bytes w rest : List ℕ} → Read (form term_kind ∷ []) bytes w rest F → Read node_parts (short_bytes at ++ bytes) (short_bytes at ++ w) rest F
in_node at {bytes} h = as_written refl second_of (then (place_read at bytes) h)

pub stops_in_node : (at : ℕ) (bytes : List ℕ) (e : Halt) → Stops (form term_kind ∷ []) bytes e → Stops node_parts (short_bytes at ++ bytes) e
stops_in_node at bytes e h = stops_second (form term_kind ∷ []) e (place_read at bytes) h

-- what a reader answered, by which of both it was
pub was_read : {V : Type 0} {parts : List Part} {bytes : List ℕ} {r : Result V Halt} {v : V} → r ≡ Ok v → (written rest : V → List ℕ) (Fits : V → Type 0) → Reads parts bytes written rest Fits r → Read parts bytes (written v) (rest v) (Fits v)
was_read {V} {parts} {bytes} q written rest Fits h = subst (λ (a : Result V Halt). Reads parts bytes written rest Fits a) q h

pub has_stopped : {V : Type 0} (parts : List Part) (bytes : List ℕ) {r : Result V Halt} {e : Halt} → r ≡ Err e → (written rest : V → List ℕ) (Fits : V → Type 0) → Reads parts bytes written rest Fits r → Stops parts bytes e
has_stopped {V} parts bytes q written rest Fits h = subst (λ (a : Result V Halt). Reads parts bytes written rest Fits a) q h
