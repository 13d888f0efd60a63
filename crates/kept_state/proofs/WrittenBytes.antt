-- The bytes of a kept state have no fault of form.
use Rattle.std.proofs.Common.{◌≡◌, ◌∙◌, ◌≤◌, ℕ, Bool, true, false, List, [], ◌∷◌, ◌++◌, length, ap, refl, sym, arith, if◌then◌else◌}
use Rattle.std.specs.Prelude.{Some, None, nat_lt, option_map}
use Rattle.std.proofs.lemmas.Bool.{ltb-true}
use Rattle.std.proofs.lemmas.List.{append-nil}
use Rattle.kept_state.specs.KeptTree.{KeptTree}
use Rattle.kept_state.specs.KeptBytes.{long_bytes, list_bytes, bool_bytes, type_bytes, state_bytes, kept_bytes, most_bytes}
use Rattle.kept_state.specs.KeptForm.{type_kind, state_kind, type_item, bool_item, Part, any, form, list_part, fault_from, kept_parts, bad_form, or_else, version_fault}
use Rattle.kept_state.specs.Laws.{WrittenHasForm}
use Rattle.kept_state.proofs.FilledParts.{Fills, fills_both, fills_any}
use Rattle.kept_state.proofs.WrittenParts.{type_fills, types_fill, bools_fill, state_fills}

-- what follows the letters and the version,
abbrev body_bytes : KeptTree → List ℕ → List ℕ
body_bytes k places = long_bytes k.events ++ (list_bytes type_bytes k.ins ++ (list_bytes bool_bytes k.cuts ++ (type_bytes k.out ++ state_bytes k.state places)))

-- and what is awaited there
abbrev body_parts : List Part
body_parts = any 8 ∷ list_part type_item ∷ list_part bool_item ∷ form type_kind ∷ form state_kind ∷ []

-- the first fills the second
body_fills : (k : KeptTree) (places : List ℕ) → Fills body_parts (body_bytes k places)
body_fills k places =
    fills_both (any 8 ∷ []) (list_part type_item ∷ list_part bool_item ∷ form type_kind ∷ form state_kind ∷ []) (long_bytes k.events) _ (fills_any (long_bytes k.events))
    (fills_both (list_part type_item ∷ []) (list_part bool_item ∷ form type_kind ∷ form state_kind ∷ []) _ _ (types_fill k.ins)
    (fills_both (list_part bool_item ∷ []) (form type_kind ∷ form state_kind ∷ []) _ _ (bools_fill k.cuts) (fills_both (form type_kind ∷ []) (form state_kind ∷ []) _ _ (type_fills k.out) (state_fills k.state places))))

-- so no byte is in a wrong place
no_fault : (k : KeptTree) (places : List ℕ) → length (kept_bytes k places) ≤ most_bytes → fault_from kept_parts 0 (kept_bytes k places) ≡ None
no_fault k places l = ap (fault_from body_parts 4) (sym (append-nil (body_bytes k places))) ∙ (body_fills k places).at (omega (arith, l)) [] 4 []

-- a number within the limit isn't past it
pub not_many : (n : ℕ) → n ≤ most_bytes → nat_lt most_bytes n ≡ false
not_many n h = go (nat_lt most_bytes n) refl
  where
    go : (b : Bool) → nat_lt most_bytes n ≡ b → b ≡ false
    go true e = let k = ltb-true most_bytes n e in absurd (omega (arith, h, k))
    go false e = refl

-- nor are there too many bytes, and the version is the one that is known
pub written_has_form : WrittenHasForm
written_has_form k places l =
    ap (λ b. if b then Some (bad_form most_bytes) else or_else (version_fault (kept_bytes k places)) (option_map bad_form (fault_from kept_parts 0 (kept_bytes k places)))) (not_many (length (kept_bytes k places)) l)
    ∙ ap (λ o. option_map bad_form o) (no_fault k places l)
