-- A session that was opened is kept.
use Rattle.std.proofs.Common.{Result, Ok, Err, IfOk, List, inl}
use Rattle.event_word.specs.StreamEvent.{StreamEvent}
use Rattle.delta_session.specs.Course.{Course}
use Rattle.delta_session.specs.declared.session.Session.{Session}
use Rattle.delta_session.specs.Standing.{Stands, IsKept}

pub if_ok : {A E : Type 0} (r : Result A E) {P Q : A → Type 0} → IfOk r P → ((a : A) → P a → Q a) → IfOk r Q
if_ok (Ok a) h f = f a h
if_ok (Err e) h f = tt

-- a session that stands for a course is kept
pub kept : {A : Type 0} (stands : A → Course → List StreamEvent → Type 0) (session : Session A) (course : Course) (word : List StreamEvent) → Stands stands session course word → IsKept stands session
kept stands session course word standing = inl (record { course = course; word = word; standing = standing })
