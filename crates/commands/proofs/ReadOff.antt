-- What is read off a core and the places of its nodes is what is read off the program's own trees.
use Rattle.std.proofs.Common.{◌≡◌, ℕ, suc, Bool, List, [], ◌∷◌, ◌++◌, drop, map, Option, None, ◌∙◌, ap, ap₂, sym, refl, append_assoc, append-nil, cond}
use Rattle.std.specs.List.{concat}
use Rattle.std.proofs.Math.Seq.{drop-append_seam}
use Rattle.core_term.specs.declared.term.Term.{Term, Row_of-Node, end_of-Node, more_of-Node}
use Rattle.core_term.specs.declared.term.Term.TheVariants.{Var, Eps, Unit as IsUnit, Past, Par', Cat', Inl', Inr', Nil, Cons', Let', LetPar', LetCat', CaseSum', CaseStar', Wait', Call'}
use Rattle.core_term.specs.declared.program.Body.{Body}
use Rattle.core_term.specs.declared.program.Core.{Core}
use Rattle.core_term.specs.CoreTerm.{CoreBody, term_in, terms_of, places_in, places_among, body_places, core_body_of, core_of, core_places}
use Rattle.core_term.specs.FreeNames.{free_names}
use Rattle.core_term.specs.Inert.{is_inert_fun}
use Rattle.core_term.specs.Parts.{par_left, par_right, cat_first, cat_second, sum_left, sum_right, star_item, star_items}
use Rattle.core_term.specs.TypeFaults.{first_some}
use Rattle.core_term.specs.Typing.{Context, type_at, context_of, with_name_like, with_fact, with_parts, with_let}
use Rattle.stream_type.specs.StreamType.{type_of}
use Rattle.delta_check.proofs.NodePlaces.{length-places_in}
use Rattle.state_bounds.specs.ProgramBound.{is_marked, reached_marks}
use Rattle.delta_bound.specs.Refusals.{fun_places}
use Rattle.delta_bound.specs.Unsized.{case_unsized, wait_unsized, placed, unsized_at, unsized_row, unsized_in, unsized_from, program_unsized}
use Rattle.commands.specs.Unsized.{places_behind, first_unsized, first_unsized_among, first_unsized_in, first_unsized_from, main_places, core_unsized, bodies_at}

-- behind a term's places stand those of the next one
behind : (a : Term) (i : ℕ) (next more : List ℕ) → places_behind (term_in a) (((i ∷ places_in a) ++ next) ++ more) ≡ next ++ more
behind a i next more =
    ap₂ (λ (n : ℕ) (ps : List ℕ). drop n ps) (sym (length-places_in a)) (append_assoc (i ∷ places_in a) next more) ∙ drop-append_seam (i ∷ places_in a) (next ++ more)

module _ (funs : List CoreBody) (counts : ℕ → Bool) where
  abbrev ReadsOff : Term → Type 0
  ReadsOff t = (at : ℕ) (more : List ℕ) (c : Context) → first_unsized funs counts ((at ∷ places_in t) ++ more) (term_in t) c ≡ unsized_at funs counts at t c

  -- the first of two parts, and the next
  first_part : (a : Term) (i : ℕ) (next more : List ℕ) (c : Context) → ReadsOff a
      → first_unsized funs counts (((i ∷ places_in a) ++ next) ++ more) (term_in a) c ≡ unsized_at funs counts i a c
  first_part a i next more c reads =
      ap (λ (ps : List ℕ). first_unsized funs counts ps (term_in a) c) (append_assoc (i ∷ places_in a) next more) ∙ reads i (next ++ more) c

  next_part : (a b : Term) (i j : ℕ) (more : List ℕ) (c : Context) → ReadsOff b
      → first_unsized funs counts (places_behind (term_in a) (((i ∷ places_in a) ++ (j ∷ places_in b)) ++ more)) (term_in b) c ≡ unsized_at funs counts j b c
  next_part a b i j more c reads =
      ap (λ (ps : List ℕ). first_unsized funs counts ps (term_in b) c) (behind a i (j ∷ places_in b) more) ∙ reads j more c

  mutual
    reads_off : (t : Term) → ReadsOff t
    reads_off (Var x) at more c = refl
    reads_off Eps at more c = refl
    reads_off IsUnit at more c = refl
    reads_off (Past m) at more c = refl
    reads_off (Par' p i a q j b) at more c =
        ap₂ first_some (first_part a i (j ∷ places_in b) more c (reads_off a)) (next_part a b i j more c (reads_off b))
    reads_off (Cat' p i a q j b) at more c =
        ap₂ first_some (first_part a i (j ∷ places_in b) more c (reads_off a)) (next_part a b i j more c (reads_off b))
    reads_off (Inl' p i a) at more c = reads_off a i more c
    reads_off (Inr' p i a) at more c = reads_off a i more c
    reads_off Nil at more c = refl
    reads_off (Cons' p i a q j b) at more c =
        ap₂ first_some (first_part a i (j ∷ places_in b) more c (reads_off a)) (next_part a b i j more c (reads_off b))
    reads_off (Let' x s p i a q j b) at more c =
        ap₂ first_some (first_part a i (j ∷ places_in b) more c (reads_off a)) (next_part a b i j more (with_let funs counts x.0 (type_of s) (term_in a) c) (reads_off b))
    reads_off (LetPar' x y z p i a) at more c = reads_off a i more (with_parts x.0 (par_left (type_at c z.0)) y.0 (par_right (type_at c z.0)) z.0 c)
    reads_off (LetCat' x y z p i a) at more c =
        reads_off a i more (with_fact x.0 y.0 (with_parts x.0 (cat_first (type_at c z.0)) y.0 (cat_second (type_at c z.0)) z.0 c))
    reads_off (CaseSum' z t x p i a y q j b) at more c =
        ap₂ first_some
        (ap (first_some (placed at (case_unsized c z.0 (free_names (term_in (CaseSum' z t x p i a y q j b))))))
        (first_part a i (j ∷ places_in b) more (with_name_like x.0 (sum_left (type_at c z.0)) z.0 c) (reads_off a)))
        (next_part a b i j more (with_name_like y.0 (sum_right (type_at c z.0)) z.0 c) (reads_off b))
    reads_off (CaseStar' z t p i a y ys q j b) at more c =
        ap₂ first_some
        (ap (first_some (placed at (case_unsized c z.0 (free_names (term_in (CaseStar' z t p i a y ys q j b)))))) (first_part a i (j ∷ places_in b) more c (reads_off a)))
        (next_part a b i j more (with_fact y.0 ys.0 (with_parts y.0 (star_item (type_at c z.0)) ys.0 (star_items (type_at c z.0)) z.0 c)) (reads_off b))
    reads_off (Wait' x t p i a) at more c =
        ap (first_some (placed at (wait_unsized c x.0 (free_names (term_in (Wait' x t p i a)))))) (reads_off a i more c)
    reads_off (Call' f ms shape es) at more c = reads_off_row es more c

    reads_off_row : {n : _} (es : Row_of-Node n) (more : List ℕ) (c : Context) → first_unsized_among funs counts (places_among es ++ more) (terms_of es) c ≡ unsized_row funs counts es c
    reads_off_row end_of-Node more c = refl
    reads_off_row (more_of-Node i a es) more c =
        ap₂ first_some (first_part a i (places_among es) more c (reads_off a))
        (ap (λ (ps : List ℕ). first_unsized_among funs counts ps (terms_of es) c) (behind a i (places_among es) more) ∙ reads_off_row es more c)

  in_body : (b : Body) (more : List ℕ) → first_unsized_in funs counts (body_places b ++ more) (core_body_of b) ≡ unsized_in funs counts b
  in_body b more = reads_off b.body.term b.body.at more (context_of (core_body_of b))

  from_bodies : (marks : List Bool) (i : ℕ) (bs : List Body) (more : List ℕ)
      → first_unsized_from funs counts marks i (concat (map body_places bs) ++ more) (map core_body_of bs) ≡ unsized_from funs counts marks i bs
  from_bodies marks i [] more = refl
  from_bodies marks i (b ∷ bs) more =
      let rest = concat (map body_places bs) in
      ap₂ first_some
      (ap (λ (o : Option (ℕ × ℕ)). cond (is_marked marks i) o None)
      (ap (λ (ps : List ℕ). first_unsized_in funs counts ps (core_body_of b)) (append_assoc (body_places b) rest more) ∙ in_body b (rest ++ more)))
      (ap (λ (ps : List ℕ). first_unsized_from funs counts marks (suc i) ps (map core_body_of bs)) (behind b.body.term b.body.at rest more)
      ∙ from_bodies marks (suc i) bs more)

-- behind the places of functions stand those of the main program
for_main : (bs : List Body) (more : List ℕ) → main_places (concat (map body_places bs) ++ more) (map core_body_of bs) ≡ more
for_main [] more = refl
for_main (b ∷ bs) more =
    ap (λ (ps : List ℕ). main_places ps (map core_body_of bs)) (behind b.body.term b.body.at (concat (map body_places bs)) more) ∙ for_main bs more

-- the first name without a size that is counted
pub core_reads_off : (c : Core) → core_unsized (core_places c) (core_of c) ≡ program_unsized c
core_reads_off c =
    let funs = (core_of c).funs in
    let counts = is_inert_fun funs in
    ap₂ first_some (from_bodies funs counts (reached_marks (core_of c)) 0 c.funs.items (body_places c.main))
    (ap (λ (ps : List ℕ). first_unsized_in funs counts ps (core_body_of c.main)) (for_main c.funs.items (body_places c.main) ∙ sym (append-nil (body_places c.main)))
    ∙ in_body funs counts c.main [])

-- the places of bodies
bodies_read_off : (bs : List Body) (more : List ℕ) → bodies_at (concat (map body_places bs) ++ more) (map core_body_of bs) ≡ map (λ b. b.body.at) bs
bodies_read_off [] more = refl
bodies_read_off (b ∷ bs) more =
    ap (λ (ps : List ℕ). b.body.at ∷ ps)
    (ap (λ (ps : List ℕ). bodies_at ps (map core_body_of bs)) (behind b.body.term b.body.at (concat (map body_places bs)) more) ∙ bodies_read_off bs more)

pub places_read_off : (c : Core) → bodies_at (core_places c) (core_of c).funs ≡ fun_places c
places_read_off c = bodies_read_off c.funs.items (body_places c.main)
