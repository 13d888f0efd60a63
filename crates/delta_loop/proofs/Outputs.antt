-- Words, one event on: what is accepted of them, and what is due for them.
use Rattle.std.proofs.Common.{◌≡◌, ℕ, List, [], ◌∷◌, ◌++◌, Option, Some, None, ◌∙◌, ap, sym, refl, append_assoc, append-nil}
use Rattle.event_word.specs.StreamEvent.{StreamEvent}
use Rattle.event_word.specs.declared.fault.EventFault.{EventFault}
use Rattle.event_frame.specs.Reading.{whole}
use Rattle.delta_loop.specs.Meaning.{Meaning}
use Rattle.delta_loop.specs.Output.{up_to_fault, accepted, accepted_after, answers_after, opening, output, due}
use Rattle.delta_loop.specs.Return.{Begins}

-- the answers to two words, one after the other
pub answers-append : (P : Meaning) (before word more : List StreamEvent)
    → answers_after P before (word ++ more) ≡ answers_after P before word ++ answers_after P (before ++ word) more
answers-append P before [] more = ap (λ (w : List StreamEvent). answers_after P w more) (sym (append-nil before))
answers-append P before (x ∷ word) more =
    ap (λ (bs : List ℕ). P.answer before x ++ bs) (answers-append P (before ++ x ∷ []) word more)
    ∙ sym (append_assoc (P.answer before x) (answers_after P (before ++ x ∷ []) word) (answers_after P ((before ++ x ∷ []) ++ word) more))
    ∙ ap (λ (w : List StreamEvent). (P.answer before x ++ answers_after P (before ++ x ∷ []) word) ++ answers_after P w more) (append_assoc before (x ∷ []) word)

-- the output of a longer word goes on from that of its front
pub output-append : (P : Meaning) (word more : List StreamEvent) → output P (word ++ more) ≡ output P word ++ answers_after P word more
output-append P word more =
    ap (λ (bs : List ℕ). (opening P.version ++ P.first) ++ bs) (answers-append P [] word more)
    ∙ sym (append_assoc (opening P.version ++ P.first) (answers_after P [] word) (answers_after P word more))

-- by the answer to the one event more
pub output_more : (P : Meaning) (word : List StreamEvent) (x : StreamEvent) → output P (word ++ x ∷ []) ≡ output P word ++ P.answer word x
output_more P word x = output-append P word (x ∷ []) ∙ ap (λ (bs : List ℕ). output P word ++ bs) (append-nil (P.answer word x))

-- what is accepted of a word that goes on from an accepted one
pub accepted-append : (P : Meaning) (before word more : List StreamEvent) → accepted_after P before word ≡ word
    → accepted_after P before (word ++ more) ≡ word ++ accepted_after P (before ++ word) more
accepted-append P before [] more all = ap (λ (w : List StreamEvent). accepted_after P w more) (sym (append-nil before))
accepted-append P before (x ∷ word) more all = by_fault (P.fault before x) all (accepted-append P (before ++ x ∷ []) word more)
  where
    by_fault : (o : Option EventFault) → up_to_fault o x (accepted_after P (before ++ x ∷ []) word) ≡ x ∷ word
        → (accepted_after P (before ++ x ∷ []) word ≡ word → accepted_after P (before ++ x ∷ []) (word ++ more) ≡ word ++ accepted_after P ((before ++ x ∷ []) ++ word) more)
        → up_to_fault o x (accepted_after P (before ++ x ∷ []) (word ++ more)) ≡ x ∷ (word ++ accepted_after P (before ++ x ∷ word) more)
    by_fault None same rest_is =
        let rest : accepted_after P (before ++ x ∷ []) word ≡ word = cc in
        ap (λ (w : List StreamEvent). x ∷ w) (rest_is rest ∙ ap (λ (w : List StreamEvent). word ++ accepted_after P w more) (append_assoc before (x ∷ []) word))
    by_fault (Some fault) same rest_is = cc

-- an event without a fault is accepted
pub accepted_more : (P : Meaning) (word : List StreamEvent) (x : StreamEvent) → accepted P word ≡ word → P.fault word x ≡ None
    → accepted P (word ++ x ∷ []) ≡ word ++ x ∷ []
accepted_more P word x all may = accepted-append P [] word (x ∷ []) all ∙ ap (λ (o : Option EventFault). word ++ up_to_fault o x []) may

-- what is accepted stops before an event that has a fault
pub accepted_stop : (P : Meaning) (word more : List StreamEvent) (x : StreamEvent) (fault : EventFault) → accepted P word ≡ word → P.fault word x ≡ Some fault
    → accepted P (word ++ x ∷ more) ≡ word
accepted_stop P word more x fault all never =
    accepted-append P [] word (x ∷ more) all
    ∙ ap (λ (o : Option EventFault). word ++ up_to_fault o x (accepted_after P (word ++ x ∷ []) more)) never ∙ append-nil word

-- an accepted word that the events go on from is a front of what is accepted
pub accepted_begins : (P : Meaning) (word more all : List StreamEvent) → accepted P word ≡ word → all ≡ word ++ more → Begins word (accepted P all)
accepted_begins P word more all accepts is = (accepted_after P word more, ap (accepted P) is ∙ accepted-append P [] word more accepts)

-- the front of an accepted word is accepted
pub accepted_front : (P : Meaning) (before word more : List StreamEvent) → accepted_after P before (word ++ more) ≡ word ++ more → accepted_after P before word ≡ word
accepted_front P before [] more all = refl
accepted_front P before (x ∷ word) more all = by_fault (P.fault before x) all (accepted_front P (before ++ x ∷ []) word more)
  where
    by_fault : (o : Option EventFault) → up_to_fault o x (accepted_after P (before ++ x ∷ []) (word ++ more)) ≡ x ∷ (word ++ more)
        → (accepted_after P (before ++ x ∷ []) (word ++ more) ≡ word ++ more → accepted_after P (before ++ x ∷ []) word ≡ word)
        → up_to_fault o x (accepted_after P (before ++ x ∷ []) word) ≡ x ∷ word
    by_fault None same rest_is =
        let rest : accepted_after P (before ++ x ∷ []) (word ++ more) ≡ word ++ more = cc in ap (λ (w : List StreamEvent). x ∷ w) (rest_is rest)
    by_fault (Some fault) same rest_is = cc

-- what is written for a front of the accepted events is a part of what is due
pub output_begins : (P : Meaning) (input : List ℕ) (word : List StreamEvent) → Begins word (accepted P (whole input)) → Begins (output P word) (due P input)
output_begins P input word begins = (answers_after P word begins.0, ap (output P) begins.1 ∙ output-append P word begins.0)
